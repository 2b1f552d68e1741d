-- What is served and audited over two trees of the same content is the same.
use Rattle.pua_tool.proofs.Common.{◌≡◌, List, sym, ap, ◌∙◌, subst, Tree, CallTable, Asked}
use Rattle.pua_tree.proofs.ForCallers.{same_Some, same_Ok}
use Rattle.pua_script.specs.Worlds.{WorldState, process_at}
use Rattle.pua_script.specs.declared.answer.Answer.{Answer}
use Rattle.pua_audit.specs.Begin.{beginning, still_to_come}
use Rattle.pua_tool.specs.Alike.{IsRunOver, AnswersAlike, LinesAlike}
use Rattle.pua_texts.specs.Lines.{pair_lines}

abbrev Ran : Type 0
Ran = List Answer × WorldState

-- one run after the other
ran_alike : (t : Tree) (rules : CallTable) (asks : List Asked) (answers said : List Answer) (after left : WorldState) →
    IsRunOver rules t asks answers after → IsRunOver rules t asks said left → ◌≡◌ {A = Ran} (answers, after) (said, left)
ran_alike t rules asks answers said after left run other = run ∙ sym other

answers_over : (t : Tree) → AnswersAlike t t
answers_over t rules asks answers said after left run other =
    let same = ran_alike t rules asks answers said after left run other in
    (ap (λ (ran : Ran). ran.0) same, ap (λ (ran : Ran). ran.1.tree) same)

lines_over : (t : Tree) → LinesAlike t t
lines_over t rules asks wanted audit other a b =
    let left : a.after ≡ b.after = ap (λ (ran : Ran). ran.1) (ran_alike t rules asks a.answers b.answers a.after b.after a.run b.run) in
    let process : a.process ≡ b.process =
    same_Some a.process b.process (sym a.there ∙ ap (λ (s : WorldState). process_at s wanted.process) left ∙ b.there) in
    let start : a.start ≡ b.start = same_Ok a.start b.start (sym a.begun ∙
    (λ i. beginning (left i).tree rules (process i) wanted.base wanted.candidates wanted.limit wanted.after) ∙ b.begun) in
    λ i. pair_lines ((a.base ∙ sym b.base) i) ((a.left ∙ ap still_to_come start ∙ sym b.left) i)

-- what is so over a tree and itself is so over two trees of the same content
pub answers_alike : (t u : Tree) → t ≡ u → AnswersAlike t u
answers_alike t u same = subst (λ u. AnswersAlike t u) same (answers_over t)

pub lines_alike : (t u : Tree) → t ≡ u → LinesAlike t u
lines_alike t u same = subst (λ u. LinesAlike t u) same (lines_over t)
