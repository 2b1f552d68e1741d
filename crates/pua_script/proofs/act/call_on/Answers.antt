use Rattle.pua_script.proofs.Common.{sym, ap, ◌∙◌, option_map}
use Rattle.pua_script.specs.Openings.{opening_seen}
use Rattle.pua_script.proofs.act.call_on.Goals as goal

pub returns-in-Some-clause-exact : goal.returns-in-Some-clause-exact
returns-in-Some-clause-exact g c =
    c.opened.ensures.exact (sym c.opening_of.ensures ∙ ap (option_map (λ row. opening_seen row.now)) c.in-Some.is)

pub returns-in-None-clause-exact : goal.returns-in-None-clause-exact
returns-in-None-clause-exact g c =
    c.asked.ensures.exact (sym c.opening_of.ensures ∙ ap (option_map (λ row. opening_seen row.now)) c.in-None.is)
