-- What is true of what is told of promises, of veils and of objects.
use Rattle.std.specs.Prelude.{◌≡◌, ◌≢◌, ◌↔◌, ℕ, true, false, List, [], ◌∷◌, ◌++◌, Some, None, is_none, IfSome, bit_or}
use Rattle.std.specs.List.{list_all}
use Rattle.pua_tree.specs.Tree.{Tree, is_empty, is_mount}
use Rattle.pua_path.specs.declared.found.Way.{Way}
use Rattle.pua_path.specs.declared.found.Way.TheVariants as way
use Rattle.pua_path.specs.declared.found.Found.{Found}
use Rattle.pua_calls.specs.Promises.{holds, lacking}
use Rattle.pua_policy.specs.States.{ProcessState, Unveiled, state_after, held_set, veil_at, has_veil, may_any}
use Rattle.pua_policy.specs.Laws.{places_over}
use Rattle.pua_policy.specs.Misfits.{Object, IsDir, Is, IsFile, IsSock, IsProg, IsLink, IsMissing, misfit}
use Rattle.pua_tree.specs.declared.node.Kind.TheVariants.{Dir}
use Rattle.pua_policy.specs.Verdict.{cover, cover_fault}
use Rattle.pua_policy.specs.Reasons.{Promising, Holds, HasEnded, Lacks, promising, may_of, covering, cover_of}
use Rattle.pua_calls.specs.declared.rules.Rules.{Rules}
use Rattle.pua_calls.specs.declared.call.Call.{Call}
use Rattle.pua_policy.specs.declared.place.Place.{Place}
use Rattle.pua_policy.specs.declared.reason.Covering.{Covering}
use Rattle.pua_policy.specs.declared.reason.Covering.TheVariants.{InView, NoneOver, By}
use Rattle.pua_calls.specs.declared.fits.Misfit.{Misfit}
use Rattle.pua_calls.specs.declared.fits.Misfit.TheVariants.{Missing, Exists, IsDirectory, IsNoFile, IsNoDirectory, IsNoLink}
use Rattle.pua_calls.specs.declared.fits.Misfit.TheVariants.{IsNoProgram, IsNotEmpty, ByDot, ByDotDot, ByNothing, IsSocket, IsNoSocket, InUse}
use Rattle.pua_calls.specs.declared.fits.Misfit.TheVariants.{IsMountPoint, IsElsewhere}

-- what is told of promises is so: the set is one of those asked for, and held; or of each set some is not held, and with just that it were
pub record LacksSome (p : ProcessState) (set some : ℕ) : Type 0 where
  pub not_held : holds (held_set p) set ≡ false
  pub were_held : holds (bit_or (held_set p) some) set ≡ true
  pub of_it : some ≡ lacking (held_set p) set

abbrev pub LackSome : ProcessState → List ℕ → List ℕ → Type 0
LackSome p [] [] = Unit {0}
LackSome p (set ∷ sets) (some ∷ more) = LacksSome p set some × LackSome p sets more
LackSome p _ _ = ⊥

abbrev pub PromisingHolds : ProcessState → List ℕ → Promising → Type 0
PromisingHolds p sets (Holds set) = (holds (held_set p) set ≡ true) × (p.ended ≡ false)
PromisingHolds p sets HasEnded = p.ended ≡ true
PromisingHolds p sets (Lacks error lacks) = LackSome p sets lacks

abbrev pub PromisingsHold : Type 0
PromisingsHold = (p : ProcessState) (sets : List ℕ) → PromisingHolds p sets (promising p sets)

-- and it tells whether promises allow it
abbrev pub PromisingsAnswer : Type 0
PromisingsAnswer = (p : ProcessState) (sets : List ℕ) → may_of (promising p sets) ≡ may_any p sets

-- no place has a veil
abbrev pub NoneKept : ProcessState → List Place → Type 0
NoneKept p places = list_all (λ place. is_none (veil_at p.veils place)) places ≡ true

-- the veil at this place is the nearest, and were its letters these, they would decide
pub record DecidesBy (t : Tree) (p : ProcessState) (object : Found) (place : Place) (given : ℕ) : Type 0 where
  pub near : List Place
  pub far : List Place
  pub split : places_over t object ≡ near ++ place ∷ far
  pub none_nearer : NoneKept p near
  pub kept_here : veil_at p.veils place ≡ Some given
  pub were : (letters wanted : ℕ) →
      (cover_fault (cover t (state_after (Unveiled place letters) p) object) wanted ≡ None) ↔ (holds letters wanted ≡ true)

-- what is told of a cover is so
abbrev pub CoveringHolds : Tree → ProcessState → Found → Covering → Type 0
CoveringHolds t p object InView = has_veil p.veils ≡ false
CoveringHolds t p object NoneOver = NoneKept p (places_over t object)
CoveringHolds t p object (By place given) = DecidesBy t p object place given

abbrev pub CoveringsHold : Type 0
CoveringsHold = (t : Tree) (p : ProcessState) (object : Found) → (cover_of (covering t p object) ≡ cover t p object) ×
    CoveringHolds t p object (covering t p object)

-- with what is told to lack nothing lacks, and it does with no less
pub record IsLacking (set wanted : ℕ) : Type 0 where
  pub suffices : holds (bit_or set (lacking set wanted)) wanted ≡ true
  pub least : (more : ℕ) → holds (bit_or set more) wanted ≡ true → holds more (lacking set wanted) ≡ true

abbrev pub LackingsHold : Type 0
LackingsHold = (set wanted : ℕ) → IsLacking set wanted

-- what is told of an object is so
abbrev pub IsDirectoryNow : Object → Type 0
IsDirectoryNow (IsDir dir way) = Unit {0}
IsDirectoryNow (Is Dir) = Unit {0}
IsDirectoryNow _ = ⊥

abbrev pub IsNoMissing : Object → Type 0
IsNoMissing IsMissing = ⊥
IsNoMissing _ = Unit {0}

abbrev pub MisfitHolds : Tree → Object → Misfit → Type 0
MisfitHolds t object Missing = object ≡ IsMissing
MisfitHolds t object Exists = IsNoMissing object
MisfitHolds t object IsDirectory = IsDirectoryNow object
MisfitHolds t object IsNoFile = IsDirectoryNow object
MisfitHolds t object IsNoDirectory = IsNoMissing object × (IsDirectoryNow object → ⊥)
MisfitHolds t object IsNoLink = IsNoMissing object × (object ≢ IsLink)
MisfitHolds t object IsNoProgram = IsNoMissing object × (object ≢ IsProg)
MisfitHolds t object IsNotEmpty = (dir : ℕ) × (by : Way) × (object ≡ IsDir dir by) × (is_empty t dir ≡ false)
MisfitHolds t object ByDot = (dir : ℕ) × (object ≡ IsDir dir way.Dot)
MisfitHolds t object ByDotDot = (dir : ℕ) × (object ≡ IsDir dir way.DotDot)
MisfitHolds t object ByNothing = (dir : ℕ) × (object ≡ IsDir dir way.Top)
MisfitHolds t object IsSocket = object ≡ IsSock
MisfitHolds t object IsNoSocket = IsNoMissing object × (object ≢ IsFile) × (object ≢ IsSock)
MisfitHolds t object InUse = IsNoMissing object
MisfitHolds t object IsMountPoint = (dir : ℕ) × (by : Way) × (object ≡ IsDir dir by) × (is_mount t dir ≡ true)
MisfitHolds t object IsElsewhere = ⊥

abbrev pub MisfitsHold : Type 0
MisfitsHold = (whose : Rules) (t : Tree) (call : Call) (object : Object) → IfSome (misfit whose t call object) (MisfitHolds t object)
