use Rattle.pua_tool.proofs.Common.{map}
use Rattle.std.proofs.Common.{inl, inr}
use Rattle.pua_io.proofs.ForCallers.{asks_for_nothing}
use Rattle.pua_tool.proofs.FaultsWritten.{plainly_told}
use Rattle.pua_tool.proofs.Stops.{told_by_stop, shown_by_stop, cut_by_stop}
use Rattle.pua_tool.proofs.cli.command.Goals as goal

pub returns-in-Err-clause-done : goal.returns-in-Err-clause-done
returns-in-Err-clause-done g c same =
    inr (shown_by_stop (map (λ word. word.now) c.args.words.now) c.in-Err.stop _ _ c.in-Err.ensures.stop (c.stopped.ensures.shown same))

pub returns-in-Err-clause-device : goal.returns-in-Err-clause-device
returns-in-Err-clause-device g c same =
    inr (cut_by_stop (map (λ word. word.now) c.args.words.now) c.in-Err.stop _ _ _ _ c.in-Err.ensures.stop (c.stopped.ensures.cut same))

pub returns-in-Err-clause-usage : goal.returns-in-Err-clause-usage
returns-in-Err-clause-usage g c same =
    told_by_stop (map (λ word. word.now) c.args.words.now) c.in-Err.stop _ _ _ _ c.in-Err.ensures.stop (c.stopped.ensures.usage same)

pub returns-in-Ok-clause-told : goal.returns-in-Ok-clause-told
returns-in-Ok-clause-told g c other =
    let told = c.perform.ensures.told other in (
      told.0,
      told.1,
      inl (c.in-Ok.command, record { sound = c.in-Ok.ensures.process; meant = c.in-Ok.ensures.meant }, told.3),
    )

pub returns-in-Err-clause-told : goal.returns-in-Err-clause-told
returns-in-Err-clause-told g c other =
    plainly_told (map (λ word. word.now) c.args.words.now) (g.I.Inputs.holds c.args.inputs.now) _ _ _ _ _ (c.stopped.ensures.told other)

pub returns-in-Ok-clause-asks : goal.returns-in-Ok-clause-asks
returns-in-Ok-clause-asks g c =
    inl (
      c.in-Ok.command,
      record { sound = c.in-Ok.ensures.process; meant = c.in-Ok.ensures.meant },
      c.perform.ensures.asks,
    )

pub returns-in-Err-clause-asks : goal.returns-in-Err-clause-asks
returns-in-Err-clause-asks g c = inr (asks_for_nothing (g.I.Inputs.asked c.args.inputs.now))
