use Rattle.pua_ever.proofs.Common.{sym, ap, ◌∙◌, inl, inr, ◌&&◌, ◌||◌, has, or_right, and_from}
use Rattle.pua_ever.specs.Ever.{is_exec_call}
use Rattle.pua_ever.proofs.ExecCalls.{exec_or_other, none_starts}
use Rattle.pua_ever.proofs.Prospected.{last}
use Rattle.pua_ever.proofs.programs.on_new_file.Goals as goal

pub returns-then-contains : goal.returns-then-contains
returns-then-contains c = λ call. elim (exec_or_other call) [
  | inl is ↦ ap (has c.with.result) is ∙ c.with.ensures.here ∙
      sym (or_right (has c.args.as_file call) _
      (and_from (is_exec_call call) _ (ap is_exec_call is) (ap (has c.args.as_program) is ∙ sym c.contains.ensures ∙ c.if-contains.true)))
  | inr other ↦ c.with.ensures.others call other.0 ∙ last (has c.args.as_file call) ∙
      (λ i. has c.args.as_file call || (sym other.1 i && has c.args.as_program call))
]

pub returns : goal.returns
returns c = λ call.
    last (has c.args.as_file call) ∙
    ap (λ b. has c.args.as_file call || b) (sym (none_starts call c.args.as_program (sym c.contains.ensures ∙ c.if-contains.false)))
