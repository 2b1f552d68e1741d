-- What is served and audited over a tree, as the contracts of worlds and audits have it: only the tree's content matters.
use Rattle.std.specs.Prelude.{◌≡◌, List, Some, Ok}
use Rattle.pua_tree.specs.Tree.{Tree}
use Rattle.pua_calls.specs.Calls.{CallTable}
use Rattle.pua_policy.specs.States.{ProcessState}
use Rattle.pua_script.specs.Requests.{Asked}
use Rattle.pua_script.specs.Replay.{new_world}
use Rattle.pua_script.specs.Worlds.{WorldState, process_at, run_to, with_table}
use Rattle.pua_script.specs.declared.answer.Answer.{Answer}
use Rattle.pua_audit.specs.AuditState.{AuditState}
use Rattle.pua_audit.specs.Begin.{Beginning, beginning, still_to_come}
use Rattle.pua_tool.specs.Texts.{Wanted}
use Rattle.pua_texts.specs.Lines.{pair_lines}

-- a script was served over a tree, by a world that was new and answers by this table
abbrev pub IsRunOver : CallTable → Tree → List Asked → List Answer → WorldState → Type 0
IsRunOver rules t asks answers after = (answers, after) ≡ run_to (with_table rules (new_world t)) asks

-- and then an audit of a process began, over the tree that was left
pub record IsAuditedOver (rules : CallTable) (t : Tree) (asks : List Asked) (wanted : Wanted) (audit : AuditState) : Type 0 where
  pub answers : List Answer
  pub after : WorldState
  pub run : IsRunOver rules t asks answers after
  pub process : ProcessState
  pub there : process_at after wanted.process ≡ Some process
  pub start : Beginning
  pub begun : beginning after.tree rules process wanted.base wanted.candidates wanted.limit wanted.after ≡ Ok start
  pub left : audit.left ≡ still_to_come start
  pub base : audit.base ≡ wanted.base

-- over both trees the answers are the same, and so are the trees that are left
abbrev pub AnswersAlike : Tree → Tree → Type 0
AnswersAlike t u = (rules : CallTable) (asks : List Asked) (answers said : List Answer) (after left : WorldState) →
    IsRunOver rules t asks answers after → IsRunOver rules u asks said left → (answers ≡ said) × (after.tree ≡ left.tree)

-- and so are the lines of an audit
abbrev pub LinesAlike : Tree → Tree → Type 0
LinesAlike t u = (rules : CallTable) (asks : List Asked) (wanted : Wanted) (audit other : AuditState) →
    IsAuditedOver rules t asks wanted audit → IsAuditedOver rules u asks wanted other →
    pair_lines audit.base audit.left ≡ pair_lines other.base other.left
