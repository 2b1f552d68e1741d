use Rattle.pua_script.proofs.Common.{sym, ap, ◌∙◌}
use Rattle.pua_calls.specs.Effects.{edits}
use Rattle.pua_script.proofs.act.unasked.Goals as goal

pub returns-then-edits-clause-exact : goal.returns-then-edits-clause-exact
returns-then-edits-clause-exact g c = λ whole. c.edit.ensures.exact whole (ap edits (sym c.effect.ensures) ∙ sym c.edits.ensures ∙ c.if-edits.true)

pub returns-else-edits-clause-exact : goal.returns-else-edits-clause-exact
returns-else-edits-clause-exact g c = λ whole. c.look.ensures.exact whole (ap edits (sym c.effect.ensures) ∙ sym c.edits.ensures ∙ c.if-edits.false)
