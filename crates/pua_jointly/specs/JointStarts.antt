-- A joint list has exec wherever one of the crew can come to start what any of them can come to make a program.
use Rattle.std.specs.Prelude.{ℕ, List, Some, IsTrue}
use Rattle.std.specs.List.{Contains}
use Rattle.pua_tree.specs.Tree.{Tree, WellFormed}
use Rattle.pua_path.specs.declared.found.Found.TheVariants.{Slot}
use Rattle.pua_calls.specs.Calls.{CallTable}
use Rattle.pua_calls.specs.declared.call.Call.{Call}
use Rattle.pua_calls.specs.declared.call.Call.TheVariants as call
use Rattle.pua_policy.specs.States.{ProcessState}
use Rattle.pua_ever.specs.Ever.{Thing}
use Rattle.pua_jointly.specs.Jointly.{IsJointlyAllowed, IsJointlyListed, IsJointlyStarted, is_turned_open, sends_to_set, turning_by}
use Rattle.pua_ever.specs.Laws.{IsLineOf}

-- where a call by which a file can come to be a program was allowed to one of them on it on the way, also one that opens it to send it to
-- another one that sets its mode, and exec would be allowed to one of them on it later, were it a program, the list of that one has exec
abbrev pub JointStartsListed : Type 0
JointStartsListed =
    (t : Tree) → WellFormed t → (table : CallTable) (crew : List ProcessState) (mid later : Tree) (b : ProcessState) → Contains crew b →
    (turning : Call) → Contains (turning_by (sends_to_set table crew b)) turning → (first : Thing) (dir node : ℕ) (name : List ℕ) →
    IsLineOf t mid b first (Slot dir name (Some node)) → IsJointlyAllowed t table crew b first turning →
    (a : ProcessState) (thing : Thing) (into : ℕ) (word : List ℕ) → IsLineOf t later a thing (Slot into word (Some node)) →
    IsJointlyStarted t table crew a thing → IsJointlyListed t table crew a thing call.Exec

-- and so it has where one of them held the file open, so that it could be written or its mode be set, by another one too to whom it could
-- be sent
abbrev pub JointHeldListed : Type 0
JointHeldListed =
    (t : Tree) → WellFormed t → (table : CallTable) (crew : List ProcessState) (later : Tree) (b : ProcessState) → Contains crew b →
    (node : ℕ) → IsTrue (is_turned_open (sends_to_set table crew b) b node) →
    (a : ProcessState) (thing : Thing) (into : ℕ) (word : List ℕ) → IsLineOf t later a thing (Slot into word (Some node)) →
    IsJointlyStarted t table crew a thing → IsJointlyListed t table crew a thing call.Exec
