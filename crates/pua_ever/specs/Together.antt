-- What several processes with the same veils can ever touch together: what one could that holds what any of them holds, and
-- hands down what any of them hands down. It is more than each could: what the one can move, the other can read.
use Rattle.std.specs.Prelude.{◌≡◌, ◌≢◌, ◌⊎◌, ℕ, Bool, true, false, not, ◌&&◌, ◌||◌, if◌then◌else◌, List, [], ◌∷◌, map, bit_or, Option, Some, None, Ok, IsTrue}
use Rattle.std.specs.List.{AllByRecursion, Contains}
use Rattle.pua_tree.specs.Tree.{Tree}
use Rattle.pua_tree.specs.Listing.{listing}
use Rattle.pua_calls.specs.Promises.{holds, unveil}
use Rattle.pua_calls.specs.Calls.{CallTable}
use Rattle.pua_calls.specs.TmpTable.{tmp_table}
use Rattle.pua_calls.specs.declared.rules.Rules.{Rules}
use Rattle.pua_calls.specs.declared.call.Call.TheVariants as call
use Rattle.pua_policy.specs.States.{ProcessState, SameVeils, file_at, held_set, held_for_exec, is_locked, is_ended, with_file}
use Rattle.pua_policy.specs.declared.open_file.OpenFile.{OpenFile}
use Rattle.pua_script.specs.Bytes.{are_in_bytes}
use Rattle.pua_script.specs.Scripts.{script_by}
use Rattle.pua_script.specs.Requests.{Asked}
use Rattle.pua_script.specs.Replay.{World, new_world, kept_at, world_after}
use Rattle.pua_script.specs.Laws.{IsConfined}
use Rattle.pua_script.specs.Family.{family, is_member, none_done, is_exec, HasKept}
use Rattle.pua_script.specs.Tightening.{NoCallNeedsError}
use Rattle.pua_script.specs.Confinement.{TreesAlong}
use Rattle.pua_ever.specs.Ever.{is_turned_held}
use Rattle.pua_ever.specs.Laws.{EditsNeedC, VeilsStand, MembersEdit, Foresees, ForeseesIn, ForeseesStarts}
use Rattle.pua_ever.specs.Through.{is_promised_by, bound_of, ever_lasting, execs_of}
use Rattle.pua_ever.specs.declared.lasting_list.ExecBound.TheVariants.{Open}

-- some processes as one: whether all of them are locked, what any of them holds, and what any of them hands down
pub record Joint : Type 0 where
  pub locked : Bool
  pub held : ℕ
  pub given : Option ℕ

-- what a process hands down to a program: nothing where it can start none, and None where it can, and has no execpromises
abbrev pub handed_down : CallTable → ProcessState → Option ℕ
handed_down table h = if is_promised_by table (held_set h) call.Exec then held_for_exec h else Some 0

-- what two of them hand down, if it is bounded for both
abbrev pub either_given : Option ℕ → Option ℕ → Option ℕ
either_given (Some a) (Some b) = Some (bit_or a b)
either_given _ _ = None

abbrev pub joint_of : CallTable → ProcessState → Joint
joint_of table h = record { locked = is_locked h; held = held_set h; given = handed_down table h }

-- one more
abbrev pub with_one : CallTable → Joint → ProcessState → Joint
with_one table joint h = record {
  locked = joint.locked && is_locked h;
  held = bit_or joint.held (held_set h);
  given = either_given joint.given (handed_down table h);
}

abbrev pub joint_after : CallTable → Joint → List ProcessState → Joint
joint_after table joint [] = joint
joint_after table joint (h ∷ more) = joint_after table (with_one table joint h) more

-- what is handed down, if neither who holds this nor a program that is started can put a veil
abbrev pub confined_part : Bool → ℕ → Option ℕ → Option ℕ
confined_part locked held None = None
confined_part locked held (Some given) =
    if locked || (not (holds held unveil) && not (holds given unveil)) then Some given else None

-- an open file with the letters of another too, if there is another
abbrev pub with_letters : Option OpenFile → OpenFile → OpenFile
with_letters None file = file
with_letters (Some other) file = record file { letters = bit_or other.letters file.letters }

-- one open file more, under the number of its node, with the letters of what is open of that node already
abbrev pub gathering : List (ℕ × OpenFile) → OpenFile → List (ℕ × OpenFile)
gathering files file = with_file file.node (with_letters (file_at files file.node) file) files

-- those of a process more
abbrev pub gather : List (ℕ × OpenFile) → List (ℕ × OpenFile) → List (ℕ × OpenFile)
gather files [] = files
gather files (held ∷ more) = gather (gathering files held.1) more

abbrev pub gather_all : List (ℕ × OpenFile) → List ProcessState → List (ℕ × OpenFile)
gather_all files [] = files
gather_all files (h ∷ more) = gather_all (gather files h.files) more

-- what any of them has open: one file of each node, with the letters of all
abbrev pub files_together : ProcessState → List ProcessState → List (ℕ × OpenFile)
files_together first more = gather_all (gather [] first.files) more

-- the one that holds and hands down all of it, with the veils of the first; it can put none, as none of them can. Its root is that of the
-- tree: of a list of several the whole is shown
abbrev pub process_by : ProcessState → List (ℕ × OpenFile) → Joint → ProcessState
process_by first files joint =
    let held = bit_or (held_set first) joint.held in
    record first {
      promises = Some held;
      execpromises = confined_part joint.locked held joint.given;
      locked = true;
      files = files;
      start = record first.start { root = 0 };
    }

abbrev pub joined : CallTable → ProcessState → List ProcessState → ProcessState
joined table first more = process_by first (files_together first more) (joint_after table (joint_of table first) more)

-- The laws.

-- a living process that can put no veil, and has the veils of the first of them, in whichever order they came
pub record IsOneOf (first h : ProcessState) : Type 0 where
  pub unveils : SameVeils h first
  pub confined : IsConfined h
  pub lives : is_ended h ≡ false

-- some numbers have these processes, one each, of such processes
pub record ActTogether (w : World) (members : List ℕ) (first : ProcessState) (more : List ProcessState) : Type 0 where
  pub processes : map (kept_at w) members ≡ map Some (first ∷ more)
  pub alike : AllByRecursion (IsOneOf first) (first ∷ more)

-- what any of them has open so that it can be made a program, the one has open so
abbrev pub JoinedTurns : Type 0
JoinedTurns =
    (table : CallTable) (first : ProcessState) (more : List ProcessState) (h : ProcessState) → Contains (first ∷ more) h →
    (node : ℕ) → IsTrue (is_turned_held h node) → IsTrue (is_turned_held (joined table first more) node)

-- whatever they ask for, and whatever they fork, as long as no exec of theirs is answered ok and others leave the tree as it
-- is: each call that is then allowed to a member has its line in the list of the one that stands for all
abbrev pub EverTogether : Type 0
EverTogether =
    (table : CallTable) → NoCallNeedsError table → EditsNeedC table →
    (w : World) (asks : List Asked) (members : List ℕ) (first : ProcessState) (more : List ProcessState) → ActTogether w members first more →
    let one = joined table first more in
    VeilsStand w.tree one → TreesAlong table w asks → IsTrue (none_done is_exec table w asks members) → MembersEdit table w asks members →
    (member : ℕ) → IsTrue (is_member (family table w asks members) member) →
    let after = world_after table w asks in
    HasKept after member (Foresees w.tree (tmp_table table) one after.tree)

-- so where a kernel makes programs of what they make, write or set the mode of, it starts none whose line has no exec
abbrev pub TogetherStarts : Type 0
TogetherStarts =
    (table : CallTable) → NoCallNeedsError table → EditsNeedC table →
    (w : World) (asks : List Asked) (members : List ℕ) (first : ProcessState) (more : List ProcessState) → ActTogether w members first more →
    let one = joined table first more in
    VeilsStand w.tree one → TreesAlong table w asks → IsTrue (none_done is_exec table w asks members) → MembersEdit table w asks members →
    (member : ℕ) → IsTrue (is_member (family table w asks members) member) →
    let after = world_after table w asks in
    HasKept after member (ForeseesStarts w.tree (tmp_table table) one after.tree)

-- and through execs where all that they start is bounded
abbrev pub TogetherLasts : Type 0
TogetherLasts =
    (table : CallTable) → NoCallNeedsError table → EditsNeedC table →
    (w : World) (asks : List Asked) (members : List ℕ) (first : ProcessState) (more : List ProcessState) → ActTogether w members first more →
    let one = joined table first more in
    (given : ℕ) → bound_of table one ≡ Some given →
    VeilsStand w.tree one → TreesAlong table w asks → MembersEdit table w asks members →
    (member : ℕ) → IsTrue (is_member (family table w asks members) member) →
    let after = world_after table w asks in
    HasKept after member (ForeseesIn (ever_lasting w.tree (tmp_table table) one) w.tree (tmp_table table) one after.tree)

-- a listing and a script as a command reads them by any rules, and behind them any list of requests in bytes, as long as the list
-- doesn't say `exec open`, or no exec of theirs is answered ok
abbrev pub TogetherAfterRead : Type 0
TogetherAfterRead =
    (table : CallTable) → NoCallNeedsError table → EditsNeedC table →
    (rules : Rules) (tree_bytes script_bytes : List ℕ) (t : Tree) (before asks : List Asked) →
    listing tree_bytes ≡ Ok t → script_by rules script_bytes ≡ Ok before → IsTrue (are_in_bytes asks) →
    let w = world_after table (new_world t) before in
    (members : List ℕ) (first : ProcessState) (more : List ProcessState) → ActTogether w members first more →
    let one = joined table first more in
    (execs_of w.tree (tmp_table table) one ≢ Open) ⊎ IsTrue (none_done is_exec table w asks members) → MembersEdit table w asks members →
    (member : ℕ) → IsTrue (is_member (family table w asks members) member) →
    let after = world_after table w asks in
    HasKept after member (ForeseesIn (ever_lasting w.tree (tmp_table table) one) w.tree (tmp_table table) one after.tree)
