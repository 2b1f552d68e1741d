use Rattle.pua_tool.proofs.Common.{◌∙◌, ap, subst}
use Rattle.pua_ever.specs.Comings.{AreComings}
use Rattle.pua_texts.specs.WhyLines.{world_left}
use Rattle.pua_tool.specs.EverWhyTexts.{given_by}
use Rattle.pua_tool.proofs.ever_columns.Reasons.new.Goals as goal

pub returns : goal.returns
returns g c = λ p number same ruled dated.
    let h = c.args.process.now in
    let holder = c.args.holder.now in
    let comings = c.in_ok-comings.comings in
    let are = subst (λ table. AreComings (world_left p).tree table holder comings) ruled
    (subst (λ t. AreComings t c.args.table.now holder comings) same c.in_ok-comings.ensures) in
    record {
      held = c.held.ensures.state;
      given = c.given_by.ensures ∙ ap (λ table. given_by table h c.args.execs) ruled;
      comings = are;
      veils = c.in_ok-kept_veils.ensures p number holder same ruled are dated;
    }
