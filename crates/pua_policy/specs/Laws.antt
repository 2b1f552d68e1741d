-- What is true of histories and of covers.
use Rattle.std.specs.Prelude.{◌≡◌, ℕ, List, ◌∷◌, ◌++◌, map, Option, Some, None, is_none, true, if◌then◌else◌, IsTrue, IsFalse, bit_and, ◌<◌}
use Rattle.std.specs.Prelude.{◌^◌, Bool, false}
use Rattle.std.specs.List.{list_all}
use Rattle.pua_tree.specs.Tree.{Tree, WellFormed, look, is_dir, above}
use Rattle.pua_path.specs.declared.found.Way.{Way}
use Rattle.pua_path.specs.declared.found.Found.{Found}
use Rattle.pua_path.specs.declared.found.Found.TheVariants.{Whole}
use Rattle.pua_path.specs.declared.found.Found.TheVariants as found
use Rattle.pua_policy.specs.declared.place.Place.{Place}
use Rattle.pua_policy.specs.declared.place.Place.TheVariants.{Dir, Slot}
use Rattle.pua_policy.specs.declared.answer.Cover.TheVariants.{All, Nothing, Only}
use Rattle.pua_policy.specs.declared.answer.Verdict.TheVariants.{Allowed}
use Rattle.pua_calls.specs.Promises.{holds, error}
use Rattle.pua_policy.specs.States.{ProcessState, Event, Pledged, Unveiled, state_after, after_exec, held_set, veil_at, has_veil, unveil_fault}
use Rattle.pua_policy.specs.History.{History, perms_kept, veils, state_of}
use Rattle.pua_policy.specs.History as past
use Rattle.pua_policy.specs.Verdict.{place_of, directories_over, cover, cover_fault, verdict}
use Rattle.pua_policy.specs.Descent.{cover_in, own_or}
use Rattle.pua_calls.specs.Calls.{CallTable}
use Rattle.pua_calls.specs.Tables.{NoCallNeedsError}
use Rattle.pua_calls.specs.declared.call.Call.{Call}
use Rattle.pua_calls.specs.declared.rules.ExecPromises.{ExecPromises}

-- the veils are exactly the places kept with their permissions
abbrev pub VeilsAreKept : Type 0
VeilsAreKept = (h : History) (place : Place) → veil_at (veils h) place ≡ perms_kept h place

abbrev pub is_unveil : Event → Bool
is_unveil (Unveiled place perms) = true
is_unveil _ = false

-- of all events only an unveil changes a cover; an exec, which is no event, may drop all veils
abbrev pub CoverNeedsUnveil : Type 0
CoverNeedsUnveil = (event : Event) → IsFalse (is_unveil event) → (t : Tree) (p : ProcessState) (found : Found) →
    cover t (state_after event p) found ≡ cover t p found

-- no event brings back a promise but `error`
abbrev pub HeldNeverGrows : Type 0
HeldNeverGrows = (event : Event) (p : ProcessState) (set : ℕ) → set < 2 ^ 36 → bit_and set error ≡ 0 →
    IsTrue (holds (held_set (state_after event p)) set) → IsTrue (holds (held_set p) set)

-- where a cover is looked for: at the object's own place, and then at each directory over it
abbrev pub places_over : Tree → Found → List Place
places_over t object = place_of object ∷ map Dir (directories_over t object)

-- only the nearest veil counts: the cover is what the first place with a veil keeps, whatever is kept farther away
abbrev pub NearestCounts : Type 0
NearestCounts = (t : Tree) (p : ProcessState) (object : Found) (near far : List Place) (place : Place) (perms : ℕ) →
    places_over t object ≡ near ++ place ∷ far → IsTrue (list_all (λ other. is_none (veil_at p.veils other)) near) →
    veil_at p.veils place ≡ Some perms → cover t p object ≡ Only perms

-- covers go down from directory to directory, so none needs a climb
pub record CoversGoDown (t : Tree) (p : ProcessState) : Type 0 where
  pub root : cover_in t p 0 ≡ own_or (veil_at p.veils (Dir 0)) (if has_veil p.veils then Nothing else All)
  pub below : (dir : ℕ) (name : List ℕ) (x : ℕ) → look t dir name ≡ Some x → is_dir t x ≡ true →
      cover_in t p x ≡ own_or (veil_at p.veils (Dir x)) (cover_in t p dir)
  pub over : (dir : ℕ) → is_dir t dir ≡ true → cover_in t p dir ≡ own_or (veil_at p.veils (Dir dir)) (cover_in t p (above t dir))
  pub directory : (dir : ℕ) (way : Way) → is_dir t dir ≡ true → cover t p (Whole dir way) ≡ cover_in t p dir
  pub at_name : (dir : ℕ) (name : List ℕ) (node : Option ℕ) →
      cover t p (found.Slot dir name node) ≡ own_or (veil_at p.veils (Slot dir name)) (cover_in t p dir)

abbrev pub CoversDescend : Type 0
CoversDescend = (t : Tree) (p : ProcessState) → WellFormed t → CoversGoDown t p

-- an accepted unveil at a place that is kept leaves no object more than it had
abbrev pub KeptPlacesNarrow : Type 0
KeptPlacesNarrow = (p : ProcessState) (place : Place) (old perms : ℕ) → veil_at p.veils place ≡ Some old → unveil_fault p place perms ≡ None →
    (t : Tree) (object : Found) (wanted : ℕ) → cover_fault (cover t (state_after (Unveiled place perms) p) object) wanted ≡ None →
    cover_fault (cover t p object) wanted ≡ None

-- no pledge makes a call allowed, whether or not it names `error`, where no row of the table names it
abbrev pub PledgesNarrow : Type 0
PledgesNarrow = (table : CallTable) → NoCallNeedsError table →
    (promises execpromises : Option ℕ) (p : ProcessState) (t : Tree) (call : Call) (object : Found) →
    verdict t table (state_after (Pledged promises execpromises) p) call object ≡ Allowed → verdict t table p call object ≡ Allowed

-- what is left of a history goes on as the history does, and the rules on histories are those on what is left of them
pub record StatesAreLeft : Type 0 where
  pub event : (event : Event) (h : History) → state_of (event ∷ h) ≡ state_after event (state_of h)
  pub exec : (left : ExecPromises) (h : History) → state_of (past.after_exec left h) ≡ after_exec left (state_of h)
  pub unveils : (h : History) (place : Place) (perms : ℕ) → past.unveil_fault h place perms ≡ unveil_fault (state_of h) place perms
  pub kept : (h : History) (place : Place) → perms_kept h place ≡ veil_at (state_of h).veils place
