use Rattle.pua_tool.proofs.Common.{◌∙◌, map, subst, sym, with_end}
use Rattle.pua_words.specs.Usages.{line_for, usage_line_text}
use Rattle.pua_tool.specs.Told.{IsLineTold}
use Rattle.pua_tool.specs.Advised.{HasTold}
use Rattle.pua_tool.proofs.Ends.{answered_by_status, ended_by_status, told_by_status}
use Rattle.pua_tool.proofs.Stops.{not_done}
use Rattle.pua_tool.proofs.FaultsWritten.{plainly_told}
use Rattle.pua_tool.proofs.cli.program.Goals as goal

pub returns-clause-done : goal.returns-clause-done
returns-clause-done g c same =
    answered_by_status (map (λ word. word.now) c.args.words.now) (g.I.Inputs.holds c.args.inputs.now) c.command-status.result c.at_end.result _ _ _
    c.at_end.ensures.stopped c.flush-flushed.ensures.bytes c.command-status.ensures.done same

pub returns-clause-usage : goal.returns-clause-usage
returns-clause-usage g c same =
    let line = with_end (usage_line_text (line_for (map (λ word. word.now) c.args.words.now))) in
    let other = not_done c.flush-flushed.result c.command-status.result c.at_end.result c.at_end.ensures.kept c.at_end.ensures.device same
    in
    subst (λ e. IsLineTold line (g.E.Sink.written c.args.err.now) (g.E.Sink.written e) (g.E.Sink.failed c.args.err.now) (g.E.Sink.failed e))
    (sym (c.at_end.ensures.untold other))
    (c.command-status.ensures.usage (sym (c.at_end.ensures.stopped other) ∙ same))

pub returns-clause-device : goal.returns-clause-device
returns-clause-device g c same =
    ended_by_status (map (λ word. word.now) c.args.words.now) (g.I.Inputs.holds c.args.inputs.now) c.flush-flushed.result c.command-status.result c.at_end.result _ _ _ _ _ _
    c.at_end.ensures.kept c.at_end.ensures.stopped c.flush-flushed.ensures.unfailed c.flush-flushed.ensures.rises
    c.flush-flushed.ensures.bytes
    c.command-status.ensures.done c.command-status.ensures.unfailed c.command-status.ensures.device same

pub returns-clause-told : goal.returns-clause-told
returns-clause-told g c other =
    let words = map (λ word. word.now) c.args.words.now in
    let held = g.I.Inputs.holds c.args.inputs.now in
    told_by_status (λ status a b. HasTold words held status (g.E.Sink.written a) (g.E.Sink.written b) (g.E.Sink.failed a) (g.E.Sink.failed b))
    c.command-status.result c.at_end.result _ _ _
    c.at_end.ensures.stopped c.at_end.ensures.untold c.command-status.ensures.quiet
    c.command-status.ensures.told
    (λ changed. plainly_told words held c.at_end.result _ _ _ _ (c.at_end.ensures.reported changed)) other
