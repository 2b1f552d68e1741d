-- What the veils leave of an object, and whether a call is allowed.
use Rattle.std.specs.Prelude.{ℕ, Bool, true, false, if◌then◌else◌, List, [], ◌∷◌, map, Option, Some, None, option_map, Result, Ok, Err}
use Rattle.pua_tree.specs.Tree.{Tree, kind_at, above, climb}
use Rattle.pua_path.specs.Resolution.{resolution_of_text}
pub use Rattle.pua_path.specs.Fits.{found_fits, FoundFits, FoundsFit, is_link_kind, is_link}
pub use Rattle.pua_policy.specs.Misfits.{Object, IsDir, Is, IsFile, IsSock, IsProg, IsLink, IsMissing, object_word}
use Rattle.pua_policy.specs.Misfits.{rmdir_misfit, misfit, misfit_errno}
use Rattle.pua_calls.specs.Promises.{holds}
use Rattle.pua_calls.specs.Calls.{CallTable, rule_of, last_of, ending_of}
use Rattle.pua_policy.specs.States.{ProcessState, may_any, has_veil, veil_at}
use Rattle.pua_tree.specs.declared.node.Kind.{Kind}
use Rattle.pua_path.specs.declared.errno.Errno.{Errno}
use Rattle.pua_path.specs.declared.errno.Errno.TheVariants.{ENOENT, EACCES, ENOSYS}
use Rattle.pua_path.specs.declared.found.Way.{Way}
use Rattle.pua_path.specs.declared.found.Found.{Found}
use Rattle.pua_path.specs.declared.found.Found.TheVariants as found
use Rattle.pua_calls.specs.declared.rules.Rules.{Rules}
use Rattle.pua_calls.specs.declared.call.Call.{Call}
use Rattle.pua_policy.specs.declared.place.Place.{Place}
use Rattle.pua_policy.specs.declared.place.Place.TheVariants.{Dir, Slot}
use Rattle.pua_policy.specs.declared.answer.Cover.{Cover}
use Rattle.pua_policy.specs.declared.answer.Cover.TheVariants.{All, Nothing, Only}
use Rattle.pua_policy.specs.declared.answer.May.{May}
use Rattle.pua_policy.specs.declared.answer.May.TheVariants as may
use Rattle.pua_policy.specs.declared.answer.Refusal.{Refusal}
use Rattle.pua_policy.specs.declared.answer.Refusal.TheVariants as refusal
use Rattle.pua_policy.specs.declared.answer.Verdict.{Verdict}
use Rattle.pua_policy.specs.declared.answer.Verdict.TheVariants.{Allowed, Failed, Death}

-- directories by their node, anything else by its name
abbrev pub place_of : Found → Place
place_of (found.Whole dir _) = Dir dir
place_of (found.Slot dir name _) = Slot dir name

-- the directories that may cover an object, the nearest first
abbrev pub directories_over : Tree → Found → List ℕ
directories_over t (found.Whole dir _) = climb t (above t dir)
directories_over t (found.Slot dir name _) = climb t dir

-- the permissions of the first that has some
abbrev pub nearest : List (Option ℕ) → Cover
nearest [] = Nothing
nearest (None ∷ more) = nearest more
nearest (Some perms ∷ more) = Only perms

-- everything, where no veil is kept; else the permissions at the object's own place, or those of the nearest directory over it
abbrev pub cover_with : Bool → (Place → Option ℕ) → Tree → Found → Cover
cover_with veiled kept_at t object =
    if veiled then nearest (kept_at (place_of object) ∷ map (λ dir. kept_at (Dir dir)) (directories_over t object)) else All

abbrev pub cover : Tree → ProcessState → Found → Cover
cover t p object = cover_with (has_veil p.veils) (veil_at p.veils) t object

abbrev pub object_of_kind : Option Kind → Object
object_of_kind (Some kind) = Is kind
object_of_kind None = IsMissing

abbrev pub object_of : Tree → Found → Object
object_of t (found.Whole dir way) = IsDir dir way
object_of t (found.Slot dir name None) = IsMissing
object_of t (found.Slot dir name (Some x)) = object_of_kind (kind_at t x)

-- a directory is removed by its name alone, and only if it is empty
abbrev pub rmdir_fault : Rules → Tree → ℕ → Way → Option Errno
rmdir_fault whose t dir way = option_map misfit_errno (rmdir_misfit whose t dir way)

-- the last check of a call, by what was found
abbrev pub object_fault : Rules → Tree → Call → Object → Option Errno
object_fault whose t call object = option_map misfit_errno (misfit whose t call object)

abbrev pub allowed_unless : Option Errno → Verdict
allowed_unless None = Allowed
allowed_unless (Some errno) = Failed errno

-- whether the cover has permissions: the fault where it lacks one, or there is none
abbrev pub cover_fault : Cover → ℕ → Option Errno
cover_fault All perms = None
cover_fault Nothing perms = Some ENOENT
cover_fault (Only given) perms = if holds given perms then None else Some EACCES

-- the first of two faults
abbrev pub or_fault : {E : Type 0} → Option E → Option E → Option E
or_fault None next = next
or_fault (Some fault) next = Some fault

-- what becomes of a call without its promises; None where it has them
abbrev pub refusal_of : May → Option Refusal
refusal_of may.Yes = None
refusal_of may.Enosys = Some (refusal.Failed ENOSYS)
refusal_of may.Death = Some refusal.Killed

-- a refusal as a verdict
abbrev pub refusal_verdict : Refusal → Verdict
refusal_verdict (refusal.Failed errno) = Failed errno
refusal_verdict refusal.Killed = Death

-- promises before everything else: without them the call fails or the process ends
abbrev pub if_promised : May → Verdict → Verdict
if_promised may.Yes verdict = verdict
if_promised may.Enosys verdict = Failed ENOSYS
if_promised may.Death verdict = Death

-- the fault of a call on what was found: its cover, its permissions, its kind
abbrev pub found_fault : Tree → CallTable → ProcessState → Call → Found → Option Errno
found_fault t table p call object =
    or_fault (cover_fault (cover t p object) (rule_of table call).perms) (object_fault table.whose t call (object_of t object))

abbrev pub verdict : Tree → CallTable → ProcessState → Call → Found → Verdict
verdict t table p call object =
    if_promised (may_any p (rule_of table call).alternatives) (allowed_unless (found_fault t table p call object))

-- the verdict on such an object wherever it stands, by what the veils leave of it
abbrev pub covered_verdict : Tree → CallTable → ProcessState → Call → Cover → Object → Verdict
covered_verdict t table p call left object =
    if_promised (may_any p (rule_of table call).alternatives)
    (allowed_unless (or_fault (cover_fault left (rule_of table call).perms) (object_fault table.whose t call object)))

-- the verdict where the path may have failed
abbrev pub verdict_of : Tree → CallTable → ProcessState → Call → Result Found Errno → Verdict
verdict_of t table p call (Ok object) = verdict t table p call object
verdict_of t table p call (Err errno) = if_promised (may_any p (rule_of table call).alternatives) (Failed errno)

-- what the text of a call names to a process
abbrev pub object_named : Tree → ProcessState → Call → List ℕ → Result Found Errno
object_named t p call text = resolution_of_text t p.start (ending_of call) text (last_of call)

-- the verdict on a call with its path's text
abbrev pub verdict_on : Tree → CallTable → ProcessState → Call → List ℕ → Verdict
verdict_on t table p call text = verdict_of t table p call (object_named t p call text)

abbrev pub is_allowed : Verdict → Bool
is_allowed Allowed = true
is_allowed _ = false
