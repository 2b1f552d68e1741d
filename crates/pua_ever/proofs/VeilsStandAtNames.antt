-- Each veil that is not on a directory stands at a name, in each world that a replay of requests in bytes leaves.
use Rattle.pua_ever.proofs.Common.{◌≡◌, ℕ, [], ◌∷◌, List, Bool, true, false, cond, refl, sym, ap, subst, ◌∙◌}
use Rattle.pua_ever.proofs.Common.{Option, Some, None, Result, Ok, Err}
use Rattle.pua_ever.proofs.Common.{and_parts, and_from, Tree, Followed}
use Rattle.pua_ever.proofs.Common.{Found, Whole, Slot, CallTable, execpromises_by, ProcessState, veils, same_place, start}
use Rattle.pua_ever.proofs.Common.{Place, Asked, World, kept_at}
use Rattle.pua_ever.proofs.Common.{apply, world_after}
use Rattle.std.specs.List.{list_all}
use Rattle.pua_tree.specs.Listing.{listing}
use Rattle.pua_path.specs.declared.errno.Errno.{Errno}
use Rattle.pua_path.specs.declared.text.Ending.TheVariants.{Dot}
use Rattle.pua_calls.specs.declared.rules.ExecPromises.{ExecPromises}
use Rattle.pua_calls.specs.declared.rules.Rules.{Rules}
use Rattle.pua_policy.specs.States.{after_exec, state_by_exec, with_veil}
use Rattle.pua_policy.specs.Verdict.{place_of}
use Rattle.pua_script.specs.Bytes.{is_in_bytes, are_in_bytes, IsByteTree}
use Rattle.pua_script.specs.Scripts.{script_by}
use Rattle.pua_script.specs.Replay.{come_of}
use Rattle.pua_script.specs.Replay.{new_world}
use Rattle.pua_script.specs.Decide.{decide}
use Rattle.pua_script.proofs.Naming.{has_name, FoundNamed, text_named}
use Rattle.pua_script.proofs.KeepTrees.{requests_keep_trees}
use Rattle.pua_script.proofs.ForCallers.{listings_list_byte_trees, scripts_ask_in_bytes}
use Rattle.pua_script.proofs.ForCallers.{by_request}
use Rattle.pua_objects.specs.Laws.{is_place, HasPlaces}
use Rattle.pua_ever.proofs.Leaving.{Keeping, decided_so, all_so, first_so}

abbrev at_place : (Place × ℕ) → Bool
at_place veil = is_place veil.0

placed_veil : (place : Place) (perms : ℕ) (vs : List (Place × ℕ)) → is_place place ≡ true → list_all at_place vs ≡ true →
    list_all at_place (with_veil place perms vs) ≡ true
placed_veil place perms [] is all = and_from (is_place place) true is refl
placed_veil place perms (veil ∷ more) is all =
    let two = and_parts (is_place veil.0) (list_all at_place more) all in
    by (same_place place veil.0) two (placed_veil place perms more is two.1)
  where
    by : (b : Bool) → (is_place veil.0 ≡ true) × (list_all at_place more ≡ true) → list_all at_place (with_veil place perms more) ≡ true →
        list_all at_place (cond b ((veil.0, perms) ∷ more) (veil ∷ with_veil place perms more)) ≡ true
    by true two rest = and_from (is_place veil.0) (list_all at_place more) two.0 two.1
    by false two rest = and_from (is_place veil.0) (list_all at_place (with_veil place perms more)) two.0 rest

place_named : (x : Found) → has_name x ≡ true → is_place (place_of x) ≡ true
place_named (Whole dir w) is = refl
place_named (Slot dir name y) is = is

-- what a text of bytes names has a place
place_found : (r : Result Found Errno) (t : Tree) (is_tree : IsByteTree t) → FoundNamed t is_tree r → (x : Found) → r ≡ Ok x →
    is_place (place_of x) ≡ true
place_found (Ok y) t is_tree named x e = let same : y ≡ x = cc in subst (λ z. is_place (place_of z) ≡ true) same (place_named y named)
place_found (Err errno) t is_tree named x e = cc

after_program : (h : ProcessState) → HasPlaces h → (left : ExecPromises) → HasPlaces (after_exec left h)
after_program h placed left = by h.execpromises
  where
    by : (o : Option ℕ) → HasPlaces (state_by_exec left o h)
    by None = refl
    by (Some promises) = placed

-- of each process of a world
abbrev pub AllPlaced : World → Type 0
AllPlaced w = (process : ℕ) (h : ProcessState) → kept_at w process ≡ Some h → HasPlaces h

module _ (table : CallTable) where
  step : (w : World) (ask : Asked) → IsByteTree w.tree → is_in_bytes ask.action ≡ true → AllPlaced w → AllPlaced (apply table w ask).1
  step w ask is_tree small places = by_request table w ask (λ done. AllPlaced done.1) places (λ h here.
      all_so w ask.process h HasPlaces places (come_of w h (decide table w.tree h ask.action))
      (decided_so table w h HasPlaces ask.action (keeping h (places ask.process h here))))
    where
      keeping : (h : ProcessState) → HasPlaces h → Keeping table w.tree h ask.action HasPlaces
      keeping h placed = record {
        now = placed;
        more = λ event same. ap (list_all at_place) same ∙ placed;
        program = λ may. after_program h placed (execpromises_by table.whose);
        veiled = λ path letters c is d. placed_veil (place_of d.object) d.perms (veils h)
            (place_found _ w.tree is_tree (text_named w.tree is_tree (start h) Dot path Followed (ap is_in_bytes (sym is) ∙ small)) d.object
            d.found) placed;
      }

  pub replays_keep_names : (asks : List Asked) (w : World) → IsByteTree w.tree → are_in_bytes asks ≡ true → AllPlaced w →
      AllPlaced (world_after table w asks)
  replays_keep_names [] w is_tree small places = places
  replays_keep_names (ask ∷ asks) w is_tree small places =
      let two = and_parts (is_in_bytes ask.action) (are_in_bytes asks) small in
      replays_keep_names asks (apply table w ask).1 (requests_keep_trees table w ask is_tree two.0) two.1 (step w ask is_tree two.0 places)

-- at the beginning there are no veils
new_placed : (t : Tree) → AllPlaced (new_world t)
new_placed t = first_so t HasPlaces refl

-- so of what a command reads
pub placed_after_read : (table : CallTable) (rules : Rules) (tree_bytes script_bytes : List ℕ) (t : Tree) (first : List Asked) →
    listing tree_bytes ≡ Ok t → script_by rules script_bytes ≡ Ok first → AllPlaced (world_after table (new_world t) first)
placed_after_read table rules tree_bytes script_bytes t first listed scripted =
    replays_keep_names table first (new_world t) (listings_list_byte_trees tree_bytes t listed) (scripts_ask_in_bytes rules script_bytes first scripted)
    (new_placed t)
