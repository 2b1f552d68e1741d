-- All that a process and all that it forks can ever touch by their own doing, through execs too, where what they
-- start keeps the veils: a program is started with the execpromises, and with the veils and the lock. So each of the
-- family holds promises that the process held, or that it handed down, and the list is that of a process that held
-- both: what the one can move, the other can read.
use Rattle.std.specs.Prelude.{◌≡◌, ◌⊎◌, ℕ, Bool, true, false, not, ◌&&◌, ◌||◌, if◌then◌else◌, List, [], ◌∷◌, map, filter, Option, Some, None}
use Rattle.std.specs.Prelude.{Result, Ok, IsTrue, IsFalse}
use Rattle.std.specs.List.{list_any, Contains}
use Rattle.pua_tree.specs.Tree.{Tree, WellFormed}
use Rattle.pua_tree.specs.Listing.{listing}
use Rattle.pua_path.specs.declared.errno.Errno.{Errno}
use Rattle.pua_path.specs.declared.found.Found.{Found}
use Rattle.pua_calls.specs.Promises.{holds, unveil}
use Rattle.pua_calls.specs.Tables.{NamesNoError}
use Rattle.pua_calls.specs.Calls.{CallTable, rule_of, execpromises_by}
use Rattle.pua_calls.specs.TmpTable.{tmp_table}
use Rattle.pua_calls.specs.declared.rules.Rules.{Rules}
use Rattle.pua_calls.specs.declared.call.Call.{Call}
use Rattle.pua_calls.specs.declared.call.Call.TheVariants as call
use Rattle.pua_calls.specs.declared.rules.ExecPromises.{ExecPromises}
use Rattle.pua_calls.specs.declared.rules.ExecPromises.TheVariants.{Unset, Stay}
use Rattle.pua_policy.specs.States.{ProcessState, SameVeils, held_set, held_for_exec, is_locked, is_ended, with_both}
use Rattle.pua_policy.specs.Verdict.{verdict_of}
use Rattle.pua_policy.specs.declared.answer.Verdict.TheVariants.{Allowed}
use Rattle.pua_script.specs.Bytes.{are_in_bytes}
use Rattle.pua_script.specs.Scripts.{script_by}
use Rattle.pua_script.specs.Requests.{Asked}
use Rattle.pua_script.specs.Replay.{World, new_world, kept_at, world_after}
use Rattle.pua_script.specs.Family.{family, is_member, HasKept}
use Rattle.pua_script.specs.Tightening.{NoCallNeedsError}
use Rattle.pua_script.specs.Confinement.{TakingNeedsC, TreesAlong, UncoveredStay}
use Rattle.pua_objects.specs.Objects.{Line, objects}
use Rattle.pua_ever.specs.Ever.{is_made_by, Thing, Stands, Comes, EverLine, is_exec_call, ever, has_ever_calls}
use Rattle.pua_ever.specs.declared.lasting_list.ExecBound.{ExecBound}
use Rattle.pua_ever.specs.declared.lasting_list.ExecBound.TheVariants.{Never, Bounded, Open}
use Rattle.pua_ever.specs.Laws.{EditsNeedC, VeilsStand, MembersEdit, ForeseesIn, ForeseesStartsIn, IsWithinLines}

-- one of the two sets lets a call through
abbrev pub is_promised_by : CallTable → ℕ → Call → Bool
is_promised_by table set call = list_any (holds set) (rule_of table call).alternatives

abbrev pub is_promised_by_one : CallTable → ProcessState → ℕ → Call → Bool
is_promised_by_one table h given call = is_promised_by table (held_set h) call || is_promised_by table given call

-- a line with those of its calls that pass; what is made has none, unless the call that makes it passes
abbrev pub can_come : (Call → Bool) → Thing → Bool
can_come passes (Stands subject) = true
can_come passes (Comes new) = is_made_by passes new

abbrev pub let_through : (Call → Bool) → EverLine → EverLine
let_through passes line = record line { calls = filter (λ call. can_come passes line.thing && passes call) line.calls }

abbrev pub only_through : (Call → Bool) → List EverLine → List EverLine
only_through passes lines = filter has_ever_calls (map (let_through passes) lines)

-- the list through execs, by the execpromises
abbrev pub ever_through : Tree → CallTable → ProcessState → ℕ → List EverLine
ever_through t table h given = only_through (is_promised_by_one table h given) (ever t table (with_both h given))

-- a program that is started keeps its execpromises, or it can start none
abbrev pub stays : ExecPromises → Bool
stays Stay = true
stays Unset = false

abbrev pub is_bounded : CallTable → ℕ → Bool
is_bounded table given = stays (execpromises_by table.whose) || not (is_promised_by table given call.Exec)

-- neither it nor a program that it starts can put a veil
abbrev pub is_confined_through : ProcessState → ℕ → Bool
is_confined_through h given = is_locked h || (not (holds (held_set h) unveil) && not (holds given unveil))

-- the execpromises by which all that it starts is bounded
abbrev pub bound_of : CallTable → ProcessState → Option ℕ
bound_of table h = by (held_for_exec h)
  where
    by : Option ℕ → Option ℕ
    by None = None
    by (Some given) = if is_bounded table given && is_confined_through h given then Some given else None

-- some line has exec
abbrev pub has_exec : List EverLine → Bool
has_exec lines = list_any (λ line. list_any is_exec_call line.calls) lines

-- the list that holds longest: where no exec can succeed, or what is started isn't bounded, that of the process itself;
-- else the one through execs
abbrev pub ever_lasting : Tree → CallTable → ProcessState → List EverLine
ever_lasting t table h = by (bound_of table h)
  where
    by : Option ℕ → List EverLine
    by None = ever t table h
    by (Some given) = if has_exec (ever t table h) then ever_through t table h given else ever t table h

-- what it says of execs: nothing where no line of the process itself has one; else whether what is started is bounded
abbrev pub execs_of : Tree → CallTable → ProcessState → ExecBound
execs_of t table h = if has_exec (ever t table h) then by (bound_of table h) else Never
  where
    by : Option ℕ → ExecBound
    by None = Open
    by (Some given) = Bounded

-- The laws.

-- promises that are within others, but for `error`
abbrev pub AreWithin : ℕ → ℕ → Type 0
AreWithin promises others = (set : ℕ) → NamesNoError set → IsTrue (holds promises set) → IsTrue (holds others set)

-- the execpromises are set, and within others
pub record HandsDown (h : ProcessState) (given : ℕ) : Type 0 where
  pub left : ℕ
  pub set : held_for_exec h ≡ Some left
  pub within : AreWithin left given

-- what a member holds at any time: what the process held, or what it handed down
abbrev pub HoldsOne : CallTable → ProcessState → ℕ → ProcessState → Type 0
HoldsOne table now given h =
    (AreWithin (held_set h) (held_set now) × HandsDown h given)
    ⊎ (AreWithin (held_set h) given × (HandsDown h given ⊎ IsFalse (is_promised_by table given call.Exec)))

-- what is so of each member at any time
pub record IsAlong (table : CallTable) (now : ProcessState) (given : ℕ) (h : ProcessState) : Type 0 where
  pub unveils : SameVeils h now
  pub lock : IsTrue (is_locked h) ⊎ (IsFalse (holds (held_set now) unveil) × IsFalse (holds given unveil))
  pub ended : is_ended h ≡ false → is_ended now ≡ false
  pub promises : HoldsOne table now given h

-- the veils, the lock and the promises of a family through execs, whoever else asks for whatever
abbrev pub FamiliesGoAlong : Type 0
FamiliesGoAlong =
    (table : CallTable) → NoCallNeedsError table → (w : World) (asks : List Asked) (process : ℕ) (now : ProcessState) (given : ℕ) →
    kept_at w process ≡ Some now → bound_of table now ≡ Some given →
    (member : ℕ) → IsTrue (is_member (family table w asks (process ∷ [])) member) →
    HasKept (world_after table w asks) member (IsAlong table now given)

-- the same of one that may also hold what the process held and hand down anything, if it can start nothing
pub record GoesAlong (table : CallTable) (now : ProcessState) (given : ℕ) (h : ProcessState) : Type 0 where
  pub unveils : SameVeils h now
  pub lock : IsTrue (is_locked h) ⊎ (IsFalse (holds (held_set now) unveil) × IsFalse (holds given unveil))
  pub ended : is_ended h ≡ false → is_ended now ≡ false
  pub promises : HoldsOne table now given h ⊎ (AreWithin (held_set h) (held_set now) × IsFalse (is_promised_by table (held_set h) call.Exec))

-- several processes that act together, each of which goes along already: such are a process and those that it forked and
-- started before now, if none has put a veil since
abbrev pub GoAlong : CallTable → World → ProcessState → ℕ → List ℕ → Type 0
GoAlong table w now given members =
    (member : ℕ) → IsTrue (is_member members member) → HasKept w member (GoesAlong table now given)

-- over any tree what is allowed to a member then is allowed to who holds both sets, and one of the two lets it through
abbrev pub FamiliesNarrowThrough : Type 0
FamiliesNarrowThrough =
    (table : CallTable) → NoCallNeedsError table → (w : World) (asks : List Asked) (process : ℕ) (now : ProcessState) (given : ℕ) →
    kept_at w process ≡ Some now → bound_of table now ≡ Some given →
    (member : ℕ) → IsTrue (is_member (family table w asks (process ∷ [])) member) →
    HasKept (world_after table w asks) member (λ h. (t : Tree) (call : Call) (named : Result Found Errno) →
    verdict_of t table h call named ≡ Allowed →
    (verdict_of t table (with_both now given) call named ≡ Allowed) × IsTrue (is_promised_by_one table now given call))

-- and what the process can't touch with `c` stays, whatever they ask for and whatever they start
abbrev pub FamiliesConfineThrough : Type 0
FamiliesConfineThrough =
    (table : CallTable) → NoCallNeedsError table → TakingNeedsC table →
    (w : World) (asks : List Asked) (process : ℕ) (now : ProcessState) (given : ℕ) →
    kept_at w process ≡ Some now → bound_of table now ≡ Some given → TreesAlong table w asks →
    MembersEdit table w asks (process ∷ []) → UncoveredStay now w.tree (world_after table w asks).tree

-- whatever they ask for, execs too, and others that leaves the tree as it is: each call that is then allowed to a member
-- has its line. Each list of requests begins with its own shorter ones, so this is of every moment on the way
abbrev pub EverThroughExecs : Type 0
EverThroughExecs =
    (table : CallTable) → NoCallNeedsError table → EditsNeedC table →
    (w : World) (asks : List Asked) (members : List ℕ) (now : ProcessState) (given : ℕ) → IsTrue (is_bounded table given) →
    GoAlong table w now given members → VeilsStand w.tree now → TreesAlong table w asks → MembersEdit table w asks members →
    (member : ℕ) → IsTrue (is_member (family table w asks members) member) →
    let after = world_after table w asks in
    HasKept after member (ForeseesIn (ever_through w.tree (tmp_table table) now given) w.tree (tmp_table table) now after.tree)

-- and where a kernel makes programs of what they make, write or set the mode of, it starts none whose line has no exec; what
-- is open stays so through an exec, so each file counts as held by who holds both sets
abbrev pub StartsThroughExecs : Type 0
StartsThroughExecs =
    (table : CallTable) → NoCallNeedsError table → EditsNeedC table →
    (w : World) (asks : List Asked) (members : List ℕ) (now : ProcessState) (given : ℕ) → IsTrue (is_bounded table given) →
    GoAlong table w now given members → VeilsStand w.tree now → TreesAlong table w asks → MembersEdit table w asks members →
    (member : ℕ) → IsTrue (is_member (family table w asks members) member) →
    let after = world_after table w asks in
    HasKept after member
    (ForeseesStartsIn (ever_through w.tree (tmp_table table) now given) w.tree (tmp_table table) now (with_both now given) after.tree)

-- the same of one process whose execs are bounded, and of the list that holds longest
abbrev pub EverLasts : Type 0
EverLasts =
    (table : CallTable) → NoCallNeedsError table → EditsNeedC table →
    (w : World) (asks : List Asked) (process : ℕ) (now : ProcessState) (given : ℕ) →
    kept_at w process ≡ Some now → bound_of table now ≡ Some given → VeilsStand w.tree now → TreesAlong table w asks →
    MembersEdit table w asks (process ∷ []) →
    (member : ℕ) → IsTrue (is_member (family table w asks (process ∷ [])) member) →
    let after = world_after table w asks in
    HasKept after member (ForeseesIn (ever_lasting w.tree (tmp_table table) now) w.tree (tmp_table table) now after.tree)

-- a listing and a script as a command reads them by any rules, and behind them any list of requests in bytes, however long,
-- in which others than the family leave the tree as it is
abbrev pub EverLastsAfterRead : Type 0
EverLastsAfterRead =
    (table : CallTable) → NoCallNeedsError table → EditsNeedC table →
    (rules : Rules) (tree_bytes script_bytes : List ℕ) (t : Tree) (first asks : List Asked) →
    listing tree_bytes ≡ Ok t → script_by rules script_bytes ≡ Ok first → IsTrue (are_in_bytes asks) →
    let w = world_after table (new_world t) first in
    (process : ℕ) (now : ProcessState) (given : ℕ) → kept_at w process ≡ Some now → bound_of table now ≡ Some given →
    MembersEdit table w asks (process ∷ []) →
    (member : ℕ) → IsTrue (is_member (family table w asks (process ∷ [])) member) →
    let after = world_after table w asks in
    HasKept after member (ForeseesIn (ever_lasting w.tree (tmp_table table) now) w.tree (tmp_table table) now after.tree)

-- the list of the objects of now lies within the list that holds longest
abbrev pub NowWithinLasting : Type 0
NowWithinLasting =
    (t : Tree) (table : CallTable) → NoCallNeedsError table → (h : ProcessState) → WellFormed t →
    (line : Line) → Contains (objects t table h) line → IsWithinLines (ever_lasting t (tmp_table table) h) line
