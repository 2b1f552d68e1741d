use Rattle.pua_since.proofs.Common.{sym, ap, ◌∙◌, rules, has_changed}
use Rattle.pua_since.proofs.Unchanged.{unchanged_stay}
use Rattle.pua_since.proofs.change.has_changed.Goals as goal

pub returns-in-Okay-clause-stays : goal.returns-in-Okay-clause-stays
returns-in-Okay-clause-stays c =
    λ none. unchanged_stay c.args.action.now c.args.answer
    (ap (has_changed c.args.action.now) c.in-Okay.is ∙ sym c.action_changes.ensures ∙ none)

pub returns-in-Failed-clause-stays : goal.returns-in-Failed-clause-stays
returns-in-Failed-clause-stays c = λ none. unchanged_stay c.args.action.now c.args.answer (search rules)
