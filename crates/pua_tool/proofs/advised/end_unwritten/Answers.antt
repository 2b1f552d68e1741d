use Rattle.pua_tool.proofs.Advising.{standard_ended, openbsd_ended}
use Rattle.pua_tool.proofs.advised.end_unwritten.Goals as goal

pub returns-in-Standard : goal.returns-in-Standard
returns-in-Standard g c =
    standard_ended c.tell.result _ _ _ _ c.args.command.now c.args.script.now c.args.fault c.in-Standard.is c.tell.ensures.status c.tell.ensures.told

pub returns-in-Openbsd : goal.returns-in-Openbsd
returns-in-Openbsd g c =
    openbsd_ended c.end_advised.result _ _ _ _ c.args.command.now c.args.script.now c.args.fault c.in-Openbsd.is c.end_advised.ensures
