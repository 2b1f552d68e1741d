use Rattle.pua_jointly.proofs.Common.{ap, list_any, refl, ◌∙◌}
use Rattle.pua_tree.specs.declared.node.Kind.TheVariants.{Known}
use Rattle.pua_policy.specs.Verdict.{Is}
use Rattle.pua_jointly.specs.JointCovers.{allows_under, numbered}
use Rattle.pua_jointly.proofs.facts.Facts.calls_on_typed.Goals as goal

pub returns : goal.returns
returns c = λ known call.
    let made = Is (Known c.args.file_type) in
    c.calls_under.ensures known made refl call
    ∙ ap (λ word. list_any (allows_under c.args.table.now c.args.of.now.process.now word made call) (numbered 18)) c.on_made.ensures
