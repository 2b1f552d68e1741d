use Rattle.std.proofs.Common.{rules, refl, Err}
use Rattle.pua_tool.specs.declared.fault.ToolFault.TheVariants.{NowHow}
use Rattle.pua_tool.proofs.lists.alone_to.Goals as goal

pub returns-in-Now-How : goal.returns-in-Now-How
returns-in-Now-How g c = record {
  text = (
    Err NowHow,
    search rules,
    (λ other. refl, refl),
  );
}
