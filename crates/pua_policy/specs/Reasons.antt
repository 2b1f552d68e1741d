-- Why a process may do something or not: by which promises, and by which veil.
use Rattle.std.specs.Prelude.{ℕ, Bool, true, false, if◌then◌else◌, List, [], ◌∷◌, map, Option, Some, None, find}
use Rattle.pua_tree.specs.Tree.{Tree}
use Rattle.pua_path.specs.declared.found.Found.{Found}
use Rattle.pua_calls.specs.Promises.{holds, lacking, error}
use Rattle.pua_policy.specs.States.{ProcessState, held_set, has_error, has_veil, veil_at}
use Rattle.pua_policy.specs.Laws.{places_over}
use Rattle.pua_policy.specs.declared.place.Place.{Place}
use Rattle.pua_policy.specs.declared.place.Place.TheVariants.{Dir}
use Rattle.pua_policy.specs.declared.answer.Cover.{Cover}
use Rattle.pua_policy.specs.declared.answer.Cover.TheVariants.{All, Nothing, Only}
use Rattle.pua_policy.specs.declared.answer.May.{May}
use Rattle.pua_policy.specs.declared.answer.May.TheVariants as may
use Rattle.pua_policy.specs.declared.reason.Covering.{Covering}
use Rattle.pua_policy.specs.declared.reason.Covering.TheVariants.{InView, NoneOver, By}
use Rattle.pua_policy.specs.declared.reason.Promising as seen
use Rattle.pua_policy.specs.declared.reason.Promising.TheVariants as see

-- by which set of promises a call is let through; or that the process has ended; or whether `error` is held, and what of each set is not
pub data Promising : Type 0 where
  Holds : ℕ → Promising
  HasEnded : Promising
  Lacks : Bool → List ℕ → Promising

abbrev pub holds_or : Option ℕ → Promising → Promising
holds_or (Some set) lacks = Holds set
holds_or None lacks = lacks

-- the first set that is held
abbrev pub promising : ProcessState → List ℕ → Promising
promising p sets = if p.ended then HasEnded else holds_or (find (holds (held_set p)) sets)
    (Lacks (has_error p) (map (lacking (held_set p)) sets))

-- as a process tells it, which names what it holds beside the sets
abbrev pub promising_seen : seen.Promising → Promising
promising_seen (see.Holds set) = Holds set
promising_seen see.HasEnded = HasEnded
promising_seen (see.Lacks error held sets) = Lacks error (map (lacking held) sets.now)

-- whether promises allow it
abbrev pub may_of : Promising → May
may_of (Holds set) = may.Yes
may_of HasEnded = may.Death
may_of (Lacks true sets) = may.Enosys
may_of (Lacks false sets) = may.Death

-- the veil that is kept at a place, and without one what is farther
abbrev pub kept_or : Place → Option ℕ → Covering → Covering
kept_or place (Some perms) farther = By place perms
kept_or place None farther = farther

-- the first place with a veil
abbrev pub first_kept : (Place → Option ℕ) → List Place → Covering
first_kept kept_at [] = NoneOver
first_kept kept_at (place ∷ places) = kept_or place (kept_at place) (first_kept kept_at places)

-- what covers an object: no veil is kept, none of those that are kept stands over it, or the nearest one, by its place and permissions
abbrev pub covering_with : Bool → (Place → Option ℕ) → Tree → Found → Covering
covering_with veiled kept_at t object = if veiled then first_kept kept_at (places_over t object) else InView

abbrev pub covering : Tree → ProcessState → Found → Covering
covering t p object = covering_with (has_veil p.veils) (veil_at p.veils) t object

-- the first of some directories that has permissions, with them
abbrev pub or_farther : ℕ → Option ℕ → Option (ℕ × ℕ) → Option (ℕ × ℕ)
or_farther dir (Some perms) farther = Some (dir, perms)
or_farther dir None farther = farther

abbrev pub first_veiled : (ℕ → Option ℕ) → List ℕ → Option (ℕ × ℕ)
first_veiled kept_at [] = None
first_veiled kept_at (dir ∷ dirs) = or_farther dir (kept_at dir) (first_veiled kept_at dirs)

abbrev pub covering_at : Option (ℕ × ℕ) → Covering
covering_at (Some veil) = By (Dir veil.0) veil.1
covering_at None = NoneOver

-- what it leaves of the object
abbrev pub cover_of : Covering → Cover
cover_of InView = All
cover_of NoneOver = Nothing
cover_of (By place perms) = Only perms
