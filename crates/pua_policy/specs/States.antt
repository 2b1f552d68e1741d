-- What a process keeps, what its accepted calls and an exec leave of that, and what it may do by it.
use Rattle.std.specs.Prelude.{◌≡◌, ℕ, ◌-◌, Bool, true, false, ◌&&◌, ◌||◌, if◌then◌else◌, List, [], ◌∷◌, length, nat_le, ◌==◌, Option}
use Rattle.std.specs.Prelude.{Some, None, bit_and, bit_or, is_some, unwrap_or}
use Rattle.std.specs.BTreeMap.{insert_entry, is_at}
use Rattle.std.specs.List.{list_any}
use Rattle.std.specs.Map.{lookup, remove_entry}
use Rattle.std.specs.Ordering.{nat_cmp}
use Rattle.pua_tree.specs.Names.{same_bytes}
use Rattle.pua_tree.specs.Tree.{is_dir_kind}
pub use Rattle.pua_policy.specs.Limits.{most_places}
use Rattle.pua_calls.specs.Promises.{holds, all_promises, error}
use Rattle.pua_path.specs.Resolution.{from_top}
use Rattle.pua_path.specs.declared.errno.Errno.{Errno}
use Rattle.pua_path.specs.declared.errno.Errno.TheVariants.{EPERM}
use Rattle.pua_path.specs.declared.found.Start.{Start}
use Rattle.pua_calls.specs.declared.rules.ExecPromises.{ExecPromises}
use Rattle.pua_calls.specs.declared.rules.ExecPromises.TheVariants.{Unset, Stay}
use Rattle.pua_calls.specs.declared.rules.Rules.{Rules}
use Rattle.pua_calls.specs.declared.rules.Rules.TheVariants.{Standard, Openbsd}
use Rattle.pua_policy.specs.declared.open_file.OpenFile.{OpenFile}
use Rattle.pua_policy.specs.declared.place.Place.{Place}
use Rattle.pua_policy.specs.declared.place.Place.TheVariants.{Dir, Slot}
use Rattle.pua_policy.specs.declared.answer.UnveilFault.{UnveilFault}
use Rattle.pua_policy.specs.declared.answer.UnveilFault.TheVariants.{NotPermitted, TooManyPlaces}
use Rattle.pua_policy.specs.declared.answer.May.{May}
use Rattle.pua_policy.specs.declared.answer.May.TheVariants.{Yes, Enosys, Death}

-- a directory that becomes the working directory of a process, or its root
pub data Move : Type 0 where
  ToDir : ℕ → Move
  ToRoot : ℕ → Move

-- an accepted call that changes what a process may do; an argument that was NULL is None. `Filed` says for which open file a
-- descriptor stands from now on: for none where it is closed
pub data Event : Type 0 where
  Pledged : Option ℕ → Option ℕ → Event
  Unveiled : Place → ℕ → Event
  Locked : Event
  Moved : Move → Event
  Ended : Event
  Filed : ℕ → Option OpenFile → Event

-- what a process keeps: its promises are None until a pledge gives some, since that pledge alone may name any; its veils stand
-- in the order in which their places came, and its open files in that of the numbers of their descriptors
pub record ProcessState : Type 0 where
  pub promises : Option ℕ
  pub execpromises : Option ℕ
  pub veils : List (Place × ℕ)
  pub locked : Bool
  pub start : Start
  pub ended : Bool
  pub files : List (ℕ × OpenFile)

-- a process that was just made works in node 0, and has it as its root
abbrev pub new_process : ProcessState
new_process = record { promises = None; execpromises = None; veils = []; locked = false; start = from_top 0; ended = false; files = [] }

-- where paths start after chdir(2) to a directory, and after chroot(2): the working directory stays
abbrev pub start_after : Move → Start → Start
start_after (ToDir dir) start = record start { dir = dir }
start_after (ToRoot root) start = record start { root = root }

-- the members of all the sets, if there is a set
abbrev pub meet : ℕ → Option ℕ → ℕ
meet set None = set
meet set (Some others) = bit_and set others

-- a request names nothing beyond what was given before; before the first it may name anything
abbrev pub is_within : Option ℕ → Option ℕ → Bool
is_within None given = true
is_within (Some request) None = true
is_within (Some request) (Some given) = holds given request

-- what is given after a request: what both name, and before the first what it names
abbrev pub narrowed_set : Option ℕ → Option ℕ → Option ℕ
narrowed_set given None = given
narrowed_set given (Some request) = Some (meet request given)

-- two places are one
abbrev pub same_place : Place → Place → Bool
same_place (Dir a) (Dir b) = a == b
same_place (Slot a n) (Slot b m) = a == b && same_bytes n m
same_place (Dir a) (Slot b m) = false
same_place (Slot a n) (Dir b) = false

-- a veil put on a place: in the place of the one that is kept there, or after the others
abbrev pub with_veil : Place → ℕ → List (Place × ℕ) → List (Place × ℕ)
with_veil place perms [] = (place, perms) ∷ []
with_veil place perms (veil ∷ more) = if same_place place veil.0 then (veil.0, perms) ∷ more else veil ∷ with_veil place perms more

-- the permissions that a list of veils has at a place
abbrev pub veil_at : List (Place × ℕ) → Place → Option ℕ
veil_at [] place = None
veil_at (veil ∷ more) place = if same_place place veil.0 then Some veil.1 else veil_at more place

-- there is a veil
abbrev pub has_veil : List (Place × ℕ) → Bool
has_veil [] = false
has_veil (veil ∷ more) = true

-- no place stands twice among veils
abbrev pub EachOnce : List (Place × ℕ) → Type 0
EachOnce [] = Unit {0}
EachOnce (veil ∷ more) = (veil_at more veil.0 ≡ None) × EachOnce more

-- the open file for which a descriptor stands
abbrev pub file_at : List (ℕ × OpenFile) → ℕ → Option OpenFile
file_at files number = lookup (is_at (nat_cmp number)) files

-- a descriptor that stands for an open file: in the place of what it stood for, or at its place in the order
abbrev pub with_file : ℕ → OpenFile → List (ℕ × OpenFile) → List (ℕ × OpenFile)
with_file number file files = insert_entry nat_cmp files number file

-- a descriptor that is closed
abbrev pub without_file : ℕ → List (ℕ × OpenFile) → List (ℕ × OpenFile)
without_file number files = remove_entry (is_at (nat_cmp number)) files

abbrev pub set_file : ℕ → Option OpenFile → List (ℕ × OpenFile) → List (ℕ × OpenFile)
set_file number (Some file) files = with_file number file files
set_file number None files = without_file number files

abbrev pub is_directory : OpenFile → Bool
is_directory file = is_dir_kind (Some file.kind)

-- the promises that a process holds: those that its pledges left it, and before the first that gave some all but `error`
abbrev pub held_set : ProcessState → ℕ
held_set p = unwrap_or p.promises (all_promises - error)

abbrev pub has_error : ProcessState → Bool
has_error p = holds (held_set p) error

abbrev pub pledged_set : ProcessState → Option ℕ
pledged_set p = p.promises

abbrev pub held_for_exec : ProcessState → Option ℕ
held_for_exec p = p.execpromises

abbrev pub veils : ProcessState → List (Place × ℕ)
veils p = p.veils

-- the permissions kept at a place
abbrev pub perms_kept : ProcessState → Place → Option ℕ
perms_kept p place = veil_at p.veils place

abbrev pub is_locked : ProcessState → Bool
is_locked p = p.locked

abbrev pub is_ended : ProcessState → Bool
is_ended p = p.ended

-- where its paths start
abbrev pub start : ProcessState → Start
start p = p.start

abbrev pub working_dir : ProcessState → ℕ
working_dir p = p.start.dir

abbrev pub root_dir : ProcessState → ℕ
root_dir p = p.start.root

-- a pledge gave it promises
abbrev pub is_pledged : ProcessState → Bool
is_pledged p = is_some p.promises

-- the same veils, in whichever order their places came
pub record SameVeils (a b : ProcessState) : Type 0 where
  pub any : has_veil a.veils ≡ has_veil b.veils
  pub kept : (place : Place) → veil_at a.veils place ≡ veil_at b.veils place

-- what a process keeps after an event
abbrev pub state_after : Event → ProcessState → ProcessState
state_after (Pledged promises execpromises) p = record p {
  promises = narrowed_set p.promises promises;
  execpromises = narrowed_set p.execpromises execpromises;
}
state_after (Unveiled place perms) p = record p { veils = with_veil place perms p.veils }
state_after Locked p = record p { locked = true }
state_after (Moved move) p = record p { start = start_after move p.start }
state_after Ended p = record p { ended = true }
state_after (Filed number file) p = record p { files = set_file number file p.files }

-- the execpromises that an exec leaves, where some were given
abbrev pub left_for_exec : ExecPromises → ℕ → Option ℕ
left_for_exec Unset set = None
left_for_exec Stay set = Some set

-- the program that a successful exec starts: with execpromises they are its promises, and are unset or stay; without them the
-- root, the working directory and the open files alone stay
abbrev pub state_by_exec : ExecPromises → Option ℕ → ProcessState → ProcessState
state_by_exec left (Some set) p = record p { promises = Some set; execpromises = left_for_exec left set }
state_by_exec left None p =
    record { promises = None; execpromises = None; veils = []; locked = false; start = p.start; ended = false; files = p.files }

abbrev pub after_exec : ExecPromises → ProcessState → ProcessState
after_exec left p = state_by_exec left p.execpromises p

-- a process with the same veils and the same lock that holds what is held, and what is given
abbrev pub with_both : ProcessState → ℕ → ProcessState
with_both p given = record p { promises = Some (bit_or (held_set p) given); execpromises = None }

-- whether `error`, if it is held, lets execpromises ask for more: by the standard rules, and not by OpenBSD's
abbrev pub error_frees_exec : Rules → Bool → Bool
error_frees_exec Standard error = error
error_frees_exec Openbsd error = false

-- a pledge is refused if it asks for more in either argument, unless `error` is held and lets it
abbrev pub pledge_fault : Rules → ProcessState → Option ℕ → Option ℕ → Option Errno
pledge_fault whose p promises execpromises =
    if (has_error p || is_within promises p.promises) && (error_frees_exec whose (has_error p) || is_within execpromises p.execpromises)
    then None else Some EPERM

-- why permissions may not be kept at a place, by what is kept there and by the number of places: they may only be
-- reduced, and there is a limit of places
abbrev pub place_fault : Option ℕ → ℕ → ℕ → Option UnveilFault
place_fault (Some old) places perms = if holds old perms then None else Some NotPermitted
place_fault None places perms = if nat_le most_places places then Some TooManyPlaces else None

abbrev pub unveil_fault : ProcessState → Place → ℕ → Option UnveilFault
unveil_fault p place perms = if p.locked then Some NotPermitted else place_fault (veil_at p.veils place) (length p.veils) perms

-- whether promises allow a call that needs one of these sets
abbrev pub may_any : ProcessState → List ℕ → May
may_any p alternatives =
    if p.ended then Death
    else (if list_any (holds (held_set p)) alternatives then Yes
    else (if has_error p then Enosys else Death))
