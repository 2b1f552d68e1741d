use Rattle.std.proofs.Common.{rules, refl, Err}
use Rattle.pua_tool.specs.declared.fault.ToolFault.TheVariants.{HowBeside, NowBeside, WhyBeside}
use Rattle.pua_tool.proofs.lists.plain_helped_to.Goals as goal

pub returns-in-Now-default : goal.returns-in-Now-default
returns-in-Now-default g c = record {
  text = (
    Err NowBeside,
    search rules,
    (λ other. refl, refl),
  );
}

pub returns-in-Ever-Why : goal.returns-in-Ever-Why
returns-in-Ever-Why g c = record {
  text = (
    Err WhyBeside,
    search rules,
    (λ other. refl, refl),
  );
}

pub returns-in-Ever-How : goal.returns-in-Ever-How
returns-in-Ever-How g c = record {
  text = (
    Err HowBeside,
    search rules,
    (λ other. refl, refl),
  );
}
