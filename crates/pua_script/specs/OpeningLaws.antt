-- What is true of openings: a process that can put no veil any more has by them no more either, whatever is asked afterwards; and the
-- table by which lists for ever go allows no less than the one of which it is.
use Rattle.std.specs.Prelude.{◌≡◌, ℕ, Bool, List, Result, Some, IsTrue}
use Rattle.std.specs.List.{list_any}
use Rattle.pua_tree.specs.Tree.{Tree}
use Rattle.pua_path.specs.declared.errno.Errno.{Errno}
use Rattle.pua_path.specs.declared.found.Found.{Found}
use Rattle.pua_calls.specs.Calls.{CallTable}
use Rattle.pua_calls.specs.TmpTable.{tmp_table}
use Rattle.pua_calls.specs.declared.call.Call.{Call}
use Rattle.pua_policy.specs.States.{ProcessState, held_set}
use Rattle.pua_policy.specs.Verdict.{verdict_of, verdict_on, is_allowed}
use Rattle.pua_script.specs.Openings.{Opening, opening_of, openings, is_opening}
use Rattle.pua_script.specs.Tightening.{Tightens}
use Rattle.pua_script.specs.Replay.{World, apply, kept_at}
use Rattle.pua_script.specs.declared.request.Action.TheVariants.{OnPath}
use Rattle.pua_script.specs.declared.answer.Answer.TheVariants.{Okay}

-- a promise that a process still has, pledged or not, opens the text for the call
abbrev pub may_open : ProcessState → Call → List ℕ → Bool
may_open h call text = list_any (is_opening (held_set h) call text) openings

-- what is opened now is among these
abbrev pub OpeningsAreHeld : Type 0
OpeningsAreHeld = (table : CallTable) (h : ProcessState) (call : Call) (text : List ℕ) (o : Opening) →
    opening_of table h call text ≡ Some o → IsTrue (may_open h call text)

-- and a later state of a confined process has no further ones
abbrev pub OpeningsNarrow : Type 0
OpeningsNarrow = (before after : ProcessState) → Tightens before after → (call : Call) (text : List ℕ) →
    IsTrue (may_open after call text) → IsTrue (may_open before call text)

-- what is allowed by a table is allowed by that table
abbrev pub TmpTableAllows : Type 0
TmpTableAllows = (table : CallTable) (t : Tree) (h : ProcessState) (call : Call) (named : Result Found Errno) →
    IsTrue (is_allowed (verdict_of t table h call named)) → IsTrue (is_allowed (verdict_of t (tmp_table table) h call named))

-- a call on a path that is answered ok is allowed by the verdict, or a promise opens its text: so it has a line of its object, or
-- an opening line
pub data Accounted (table : CallTable) (t : Tree) (h : ProcessState) (call : Call) (text : List ℕ) : Type 0 where
  by_verdict : IsTrue (is_allowed (verdict_on t table h call text)) → Accounted table t h call text
  by_opening : (o : Opening) → opening_of table h call text ≡ Some o → Accounted table t h call text

abbrev pub OkaysAreAccounted : Type 0
OkaysAreAccounted = (table : CallTable) (w : World) (process : ℕ) (call : Call) (text : List ℕ) (h : ProcessState) →
    kept_at w process ≡ Some h →
    (apply table w (record { process = process; action = OnPath call text })).0 ≡ Okay → Accounted table w.tree h call text
