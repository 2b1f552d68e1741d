-- Which veil covers what a line is about.
use Rattle.std.specs.Prelude.{◌≡◌, ℕ, List, map, Option, Some, None, if◌then◌else◌, slice_get}
use Rattle.pua_tree.specs.Tree.{Tree, climb}
use Rattle.pua_policy.specs.States.{ProcessState, has_veil, perms_kept, veil_at}
use Rattle.pua_policy.specs.Reasons.{covering, cover_of, first_kept, kept_or}
use Rattle.pua_policy.specs.declared.place.Place.{Place}
use Rattle.pua_policy.specs.declared.place.Place.TheVariants.{Dir}
use Rattle.pua_policy.specs.declared.reason.Covering.{Covering}
use Rattle.pua_policy.specs.declared.reason.Covering.TheVariants.{InView, NoneOver, By}
use Rattle.pua_objects.specs.Objects.{Subject, At, Others}
use Rattle.pua_objects.specs.declared.over.Over.{Over}

-- what covers a subject; further names are covered as their directory
abbrev pub covering_over : Tree → ProcessState → Subject → Covering
covering_over t h (At found) = covering t h found
covering_over t h (Others dir) = if has_veil h.veils then first_kept (perms_kept h) (map Dir (climb t dir)) else InView

-- what the veil with an index covers by; without one nothing is over it, or everything in view where there is no veil at all
abbrev pub veil_there : Option (Place × ℕ) → Covering
veil_there (Some veil) = By veil.0 veil.1
veil_there None = NoneOver

abbrev pub unveiled : List (Place × ℕ) → Covering
unveiled vs = if has_veil vs then NoneOver else InView

abbrev pub covering_by : List (Place × ℕ) → Option ℕ → Covering
covering_by vs (Some index) = veil_there (slice_get vs index)
covering_by vs None = unveiled vs

-- the veil is the one that covers so, and leaves so much
pub record IsOver (vs : List (Place × ℕ)) (over : Over) (covers : Covering) : Type 0 where
  pub veil : covering_by vs over.veil ≡ covers
  pub cover : over.cover ≡ cover_of covers

-- what covers a place, by what covers the names around it
abbrev pub IsHandedDown : ProcessState → Place → Over → Over → Type 0
IsHandedDown process place over result = (covers : Covering) → IsOver process.veils over (if has_veil process.veils then covers else InView) →
    IsOver process.veils result (if has_veil process.veils then kept_or place (veil_at process.veils place) covers else InView)
