use Rattle.pua_tool.proofs.Common.{ap, sym}
use Rattle.pua_tool.specs.EverTexts.{ever_fault}
use Rattle.pua_tool.proofs.ever_fault.reason_of.Goals as goal

pub returns-in-CanUnveil : goal.returns-in-CanUnveil
returns-in-CanUnveil c = sym (ap (ever_fault c.args.number) c.in-CanUnveil.is)

pub returns-in-LacksC : goal.returns-in-LacksC
returns-in-LacksC c = sym (ap (ever_fault c.args.number) c.in-LacksC.is)

pub returns-in-RenameLacksC : goal.returns-in-RenameLacksC
returns-in-RenameLacksC c = sym (ap (ever_fault c.args.number) c.in-RenameLacksC.is)

pub returns-in-LinkLacksC : goal.returns-in-LinkLacksC
returns-in-LinkLacksC c = sym (ap (ever_fault c.args.number) c.in-LinkLacksC.is)
