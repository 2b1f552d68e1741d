-- What a request passed, one check after another.
use Rattle.std.specs.Prelude.{ℕ, Bool, if◌then◌else◌, bit_or, List, [], ◌∷◌, ◌++◌, map, Option, Some, None, Result, Ok, Err}
use Rattle.pua_tree.specs.Tree.{Tree, Spot}
use Rattle.pua_path.specs.declared.text.Ending.{Ending}
use Rattle.pua_path.specs.declared.text.Ending.TheVariants as ending
use Rattle.pua_path.specs.declared.found.Last.TheVariants.{Followed}
use Rattle.pua_path.specs.declared.found.Found.{Found}
use Rattle.pua_path.specs.Traces.{PathTrace, trace_of_text}
use Rattle.pua_path.specs.declared.traced.PathFault.{PathFault}
use Rattle.pua_calls.specs.Promises.{id, no_promises, proc, promises_of, recvfd, unveil}
use Rattle.pua_path.specs.declared.errno.Errno.{Errno}
use Rattle.pua_calls.specs.Calls.{CallTable, NameRule, PairRule, rule_of, last_of, ending_of}
use Rattle.pua_policy.specs.States.{ProcessState, start, is_locked}
use Rattle.pua_calls.specs.declared.call.Call.{Call}
use Rattle.pua_calls.specs.declared.call.Call.TheVariants as call
use Rattle.pua_script.specs.Requests.{Asked}
use Rattle.pua_script.specs.Replay.{World, kept_at}
use Rattle.pua_script.specs.declared.request.Action.{Action}
use Rattle.pua_script.specs.declared.request.Action.TheVariants.{OnPath, Symlink, Rename, Link, Pledge, Unveil, Lock, Fork, Exit, Uses, Comment}
use Rattle.pua_script.specs.declared.request.Action.TheVariants.{Hold, Close, Fchdir, Chroot, Take}
use Rattle.pua_policy.specs.declared.reason.Covering.{Covering}
use Rattle.pua_policy.specs.Reasons.{Promising, Holds, promising, covering}
use Rattle.pua_script.specs.Decide.{Side, Sole, Old, New}
use Rattle.pua_script.specs.Openings.{Opening, opening_of}
use Rattle.pua_why.specs.Reasons.{Fault, uncovered_fault}

pub data Fact : Type 0 where
  -- by this promise
  Opened : ℕ → Fact
  Needs : ℕ → Fact
  Follows : Side → Spot → Fact
  Names : Side → Found → Fact
  Under : Side → Covering → Fact

-- the promises of two names are told as one set
abbrev pub needing : ℕ → List Fact → List Fact
needing set (Needs other ∷ more) = Needs (bit_or set other) ∷ more
needing set more = Needs set ∷ more

-- what comes after the promises, where they are held
abbrev pub facts_promised : Promising → List Fact → List Fact
facts_promised (Holds set) more = needing set more
facts_promised _ more = []

-- the links that a path followed, and what it names; and what comes after, if it names something
abbrev pub facts_found : Side → Result Found PathFault → (Found → List Fact) → List Fact
facts_found side (Ok object) more = Names side object ∷ more object
facts_found side (Err fault) more = []

abbrev pub facts_named : Side → PathTrace → (Found → List Fact) → List Fact
facts_named side trace more = map (Follows side) trace.links ++ facts_found side trace.outcome more

-- what covers an object, where nothing is wrong with it; and what comes after
abbrev pub facts_covered : Side → Covering → Option Fault → List Fact → List Fact
facts_covered side over None more = Under side over ∷ more
facts_covered side over (Some fault) more = []

abbrev pub facts_under : Side → Tree → ProcessState → Found → ℕ → List Fact → List Fact
facts_under side t h object perms more =
    facts_covered side (covering t h object) (uncovered_fault side object perms (covering t h object)) more

-- the links that a call's path follows, and what it names
abbrev pub call_trace : Tree → ProcessState → Call → List ℕ → PathTrace
call_trace t h call path = trace_of_text t (start h) (ending_of call) path (last_of call)

abbrev pub call_facts : CallTable → Tree → ProcessState → Call → List ℕ → List Fact
call_facts table t h call path =
    facts_promised (promising h (rule_of table call).alternatives)
    (facts_named Sole (call_trace t h call path) λ object. facts_under Sole t h object (rule_of table call).perms [])

-- a chroot passes its promise, and then what a chdir passes by its path
abbrev pub chroot_facts : CallTable → Tree → ProcessState → List ℕ → List Fact
chroot_facts table t h path =
    facts_promised (promising h (id ∷ []))
    (facts_named Sole (call_trace t h call.Chdir path) λ object. facts_under Sole t h object (rule_of table call.Chdir).perms [])

-- the promise that a keyword names
abbrev pub set_named : Result ℕ Errno → ℕ
set_named (Ok set) = set
set_named (Err errno) = no_promises

abbrev pub promise_of_row : Opening → ℕ
promise_of_row o = set_named (promises_of o.promise)

-- what is asked of the veils, where they are asked
abbrev pub facts_asked : Bool → List Fact → List Fact
facts_asked asks_veils told = if asks_veils then told else []

-- a call that a promise opens rests on no promises, and past the veils on no veil
abbrev pub opened_facts : CallTable → Tree → ProcessState → Call → List ℕ → Opening → List Fact
opened_facts table t h call path o =
    Opened (promise_of_row o) ∷ facts_named Sole (call_trace t h call path) λ object.
    facts_asked o.asks_veils (facts_under Sole t h object (rule_of table call).perms [])

abbrev pub facts_by : CallTable → Tree → ProcessState → Call → List ℕ → Option Opening → List Fact
facts_by table t h call path None = call_facts table t h call path
facts_by table t h call path (Some o) = opened_facts table t h call path o

-- of a path of two
abbrev pub name_trace : NameRule → Tree → ProcessState → Ending → List ℕ → PathTrace
name_trace name t h ending path = trace_of_text t (start h) ending path name.last

-- what both paths name, and what covers both
abbrev pub names_facts : PairRule → Tree → ProcessState → Ending → List ℕ → List ℕ → List Fact
names_facts pair t h ending old_path new_path =
    facts_named Old (name_trace pair.old t h ending old_path) λ old.
    facts_named New (name_trace pair.new t h ending new_path) λ new.
    facts_under Old t h old pair.old.needs.perms (facts_under New t h new pair.new.needs.perms [])

abbrev pub pair_facts : PairRule → Tree → ProcessState → Ending → List ℕ → List ℕ → List Fact
pair_facts pair t h ending old_path new_path =
    facts_promised (promising h pair.old.needs.alternatives)
    (facts_promised (promising h pair.new.needs.alternatives) (names_facts pair t h ending old_path new_path))

abbrev pub unveil_facts : Tree → ProcessState → List ℕ → List Fact
unveil_facts t h path =
    facts_promised (promising h (unveil ∷ []))
    (if is_locked h then [] else facts_named Sole (trace_of_text t (start h) ending.Dot path Followed) λ object. [])

abbrev pub facts : CallTable → Tree → ProcessState → Action → List Fact
facts table t h (OnPath call path) = facts_by table t h call path (opening_of table h call path)
facts table t h (Symlink target path) = call_facts table t h call.Symlink path
facts table t h (Rename old new) = pair_facts table.rename t h ending.Dropped old new
facts table t h (Link old new) = pair_facts table.link t h ending.Dot old new
facts table t h (Pledge promises execpromises) = []
facts table t h (Unveil path perms) = unveil_facts t h path
facts table t h Lock = facts_promised (promising h (unveil ∷ [])) []
facts table t h (Fork new) = facts_promised (promising h (proc ∷ [])) []
facts table t h Exit = []
facts table t h (Uses sets) = facts_promised (promising h sets) []
facts table t h (Hold number call path) = facts_by table t h call path (opening_of table h call path)
facts table t h (Close number) = []
facts table t h (Fchdir number) = []
facts table t h (Chroot path) = chroot_facts table t h path
facts table t h (Take number from theirs) = facts_promised (promising h (recvfd ∷ [])) []
facts table t h Comment = []

abbrev pub facts_of : CallTable → World → Asked → List Fact
facts_of table w ask = by (kept_at w ask.process)
  where
    by : Option ProcessState → List Fact
    by None = []
    by (Some h) = facts table w.tree h ask.action
