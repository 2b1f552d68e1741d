-- Each veil stands on a number that was given, in each world that a replay leaves.
use Rattle.pua_ever.proofs.Common.{◌≡◌, ◌<◌, ◌≤◌, ℕ, [], ◌∷◌, ◌++◌, Bool, true, false, cond, refl, sym, ap, subst, ◌∙◌, arith}
use Rattle.pua_ever.proofs.Common.{Option, Some, None}
use Rattle.pua_ever.proofs.Common.{and_parts, Tree, WellFormed, is_dir, None≢Some, state_after, Followed}
use Rattle.pua_ever.proofs.Common.{Found, Whole, Slot, resolutions_fit, CallTable, execpromises_by, ProcessState, perms_kept, same_place, start}
use Rattle.pua_ever.proofs.Common.{same_place_is, Asked, World, kept_at}
use Rattle.pua_ever.proofs.Common.{apply, world_after, named_within_text}
use Rattle.pua_ever.proofs.Common.{EditsNeedC, VeilsStand}
use Rattle.std.proofs.lemmas.List.Folds.{list_all-append}
use Rattle.pua_path.specs.Fits.{FoundFits}
use Rattle.pua_path.specs.declared.text.Ending.TheVariants.{Dot}
use Rattle.pua_calls.specs.declared.rules.ExecPromises.{ExecPromises}
use Rattle.pua_policy.specs.States.{Unveiled, after_exec, state_by_exec, veil_at}
use Rattle.pua_policy.specs.Verdict.{place_of}
use Rattle.pua_policy.proofs.Veils.{veil_at-with_veil}
use Rattle.pua_script.specs.Worlds.{state_left}
use Rattle.pua_script.specs.Bytes.{is_in_bytes, are_in_bytes, IsByteTree}
use Rattle.pua_script.specs.Replay.{come_of}
use Rattle.pua_script.specs.Replay.{do_decided, left_by, new_world}
use Rattle.pua_script.specs.Decide.{decide}
use Rattle.pua_script.proofs.ForCallers.{replays_keep_trees, replays_keep_byte_trees, listings_list_byte_trees, scripts_ask_in_bytes}
use Rattle.pua_script.proofs.ForCallers.{by_request}
use Rattle.pua_ever.specs.Laws.{dir_of_place, PlacesStand, ReplaysKeepPlaces, EverAfterRead, EverAsRead}
use Rattle.pua_ever.proofs.Leaving.{Keeping, decided_so, all_so, first_so}
use Rattle.pua_ever.proofs.Growing.{numbers_grow}
use Rattle.pua_ever.proofs.Covers.{living_dir, below_next}
use Rattle.pua_ever.proofs.Complete.{beside_one, ever_complete}
use Rattle.pua_path.specs.Resolution.{rooted}

module _ (t : Tree) (h : ProcessState) (well : WellFormed t) (stand : VeilsStand t h) where
  after_program : (left : ExecPromises) → VeilsStand t (after_exec left h)
  after_program left = by h.execpromises
    where
      by : (o : Option ℕ) → VeilsStand t (state_by_exec left o h)
      by None at perms is = let never : None ≡ Some perms = is in cc
      by (Some promises) at perms is = stand at perms is

  -- a veil stands where something was found
  place_given : (x : Found) → FoundFits t x → dir_of_place (place_of x) < t.next
  place_given (Whole dir w) fits = below_next t h well dir (living_dir t h well dir fits)
  place_given (Slot dir name None) fits = below_next t h well dir (living_dir t h well dir (and_parts (is_dir t dir) _ fits).0)
  place_given (Slot dir name (Some y)) fits = below_next t h well dir (living_dir t h well dir (and_parts (is_dir t dir) _ fits).0)

  veiled : (x : Found) (perms : ℕ) → FoundFits t x → VeilsStand t (state_after (Unveiled (place_of x) perms) h)
  veiled x perms fits at given is = by (same_place at (place_of x)) refl (sym (veil_at-with_veil (place_of x) perms h.veils at) ∙ is)
    where
      by : (b : Bool) → same_place at (place_of x) ≡ b → cond b (Some perms) (perms_kept h at) ≡ Some given → dir_of_place at < t.next
      by true same is = subst (λ p. dir_of_place p < t.next) (sym (same_place_is at (place_of x) same)) (place_given x fits)
      by false other is = stand at given is

module _ (table : CallTable) (needs : EditsNeedC table) where
  -- one request
  step : (w : World) (ask : Asked) → WellFormed w.tree → PlacesStand w → PlacesStand (apply table w ask).1
  step w ask well places = by_request table w ask (λ done. w.tree.next ≤ done.1.tree.next → PlacesStand done.1) (λ _. places) decided
      (numbers_grow table needs w ask well)
    where
      keeping : (h : ProcessState) → VeilsStand w.tree h → Keeping table w.tree h ask.action (VeilsStand w.tree)
      keeping h stand = record {
        now = stand;
        more = λ event same at perms is. stand at perms (ap (λ vs. veil_at vs at) (sym same) ∙ is);
        program = λ may. after_program w.tree h well stand (execpromises_by table.whose);
        veiled = λ path letters c is d. veiled w.tree h well stand d.object d.perms
            ((resolutions_fit (rooted w.tree 0) well well.root).whole (start h) Dot path Followed d.object
            (named_within_text w.tree (start h) Dot path Followed d.object d.found)).fits;
      }

      later : (u : Tree) → w.tree.next ≤ u.next → (g : ProcessState) → VeilsStand w.tree g → VeilsStand u g
      later u more g stand at perms is = let below : dir_of_place at < w.tree.next = stand at perms is in omega (arith, more, below)

      decided : (h : ProcessState) → kept_at w ask.process ≡ Some h → let done = do_decided w ask.process h (decide table w.tree h ask.action) in
          w.tree.next ≤ done.1.tree.next → PlacesStand done.1
      decided h here more =
          let e = come_of w h (decide table w.tree h ask.action) in
          let u = (left_by w ask.process h e).tree in
          all_so w ask.process h (VeilsStand u) (λ n f is. later u more f (places n f is)) e
          (later u more (state_left h e) (decided_so table w h (VeilsStand w.tree) ask.action (keeping h (places ask.process h here))))

pub replays_keep_places : ReplaysKeepPlaces
replays_keep_places table needs w [] trees places = places
replays_keep_places table needs w (ask ∷ asks) trees places =
    replays_keep_places table needs (apply table w ask).1 asks trees.1 (step table needs w ask trees.0 places)

-- at the beginning there are no veils
pub new_places : (t : Tree) → PlacesStand (new_world t)
new_places t = first_so t (VeilsStand t) (λ at perms e. absurd (None≢Some perms e))

pub ever_as_read : EverAsRead
ever_as_read table sound needs rules tree_bytes script_bytes t first asks listed scripted process now here confined none alone member belongs =
    let bytes = and_parts (are_in_bytes first) (are_in_bytes asks) (sym (list_all-append (λ ask. is_in_bytes ask.action) first asks) ∙
    scripts_ask_in_bytes rules script_bytes (first ++ asks) scripted) in
    let w = world_after table (new_world t) first in
    let tree : IsByteTree t = listings_list_byte_trees tree_bytes t listed in
    let left = replays_keep_byte_trees table (new_world t) first tree bytes.0 in
    let places = replays_keep_places table needs (new_world t) first (replays_keep_trees table (new_world t) first tree bytes.0)
    (new_places t) in
    ever_complete table sound needs w asks process now here confined (places process now here)
    (replays_keep_trees table w asks left bytes.1) none alone member belongs

pub ever_after_read : EverAfterRead
ever_after_read table sound needs rules tree_bytes script_bytes t first asks listed scripted bytes process now here confined none edit member
    belongs =
    let w = world_after table (new_world t) first in
    let said = scripts_ask_in_bytes rules script_bytes first scripted in
    let tree : IsByteTree t = listings_list_byte_trees tree_bytes t listed in
    let left = replays_keep_byte_trees table (new_world t) first tree said in
    let places = replays_keep_places table needs (new_world t) first (replays_keep_trees table (new_world t) first tree said)
    (new_places t) in
    beside_one table sound needs w asks process now here confined (places process now here)
    (replays_keep_trees table w asks left bytes) none edit member belongs
