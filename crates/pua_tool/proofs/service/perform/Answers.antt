use Rattle.pua_tool.proofs.FaultsWritten.{stopping}
use Rattle.pua_tool.proofs.service.perform.Goals as goal

pub returns-in-Err-clause-done : goal.returns-in-Err-clause-done
returns-in-Err-clause-done g c same =
    let held = g.I.Inputs.holds c.args.inputs.now in
    let e = c.end.ensures held _ _ _ _ c.in-Err.ensures.stopped in
    absurd ((stopping held c.args.command.now _ _ _ _ e.0 c.end.result e.1 e.2).undone same)

pub returns-in-Err-clause-unfailed : goal.returns-in-Err-clause-unfailed
returns-in-Err-clause-unfailed g c same =
    let held = g.I.Inputs.holds c.args.inputs.now in
    let e = c.end.ensures held _ _ _ _ c.in-Err.ensures.stopped in
    absurd ((stopping held c.args.command.now _ _ _ _ e.0 c.end.result e.1 e.2).undone same)

pub returns-in-Err-clause-quiet : goal.returns-in-Err-clause-quiet
returns-in-Err-clause-quiet g c same =
    let held = g.I.Inputs.holds c.args.inputs.now in
    let e = c.end.ensures held _ _ _ _ c.in-Err.ensures.stopped in
    absurd ((stopping held c.args.command.now _ _ _ _ e.0 c.end.result e.1 e.2).undone same)

pub returns-in-Err-clause-refused : goal.returns-in-Err-clause-refused
returns-in-Err-clause-refused g c same =
    let held = g.I.Inputs.holds c.args.inputs.now in
    let e = c.end.ensures held _ _ _ _ c.in-Err.ensures.stopped in
    (stopping held c.args.command.now _ _ _ _ e.0 c.end.result e.1 e.2).refused same

pub returns-in-Err-clause-device : goal.returns-in-Err-clause-device
returns-in-Err-clause-device g c same =
    let held = g.I.Inputs.holds c.args.inputs.now in
    let e = c.end.ensures held _ _ _ _ c.in-Err.ensures.stopped in
    (stopping held c.args.command.now _ _ _ _ e.0 c.end.result e.1 e.2).device same

pub returns-in-Err-clause-unwritten : goal.returns-in-Err-clause-unwritten
returns-in-Err-clause-unwritten g c some other =
    let held = g.I.Inputs.holds c.args.inputs.now in
    let e = c.end.ensures held _ _ _ _ c.in-Err.ensures.stopped in
    (stopping held c.args.command.now _ _ _ _ e.0 c.end.result e.1 e.2).unwritten other

pub returns-in-Err-clause-told : goal.returns-in-Err-clause-told
returns-in-Err-clause-told g c other =
    let held = g.I.Inputs.holds c.args.inputs.now in
    let e = c.end.ensures held _ _ _ _ c.in-Err.ensures.stopped in
    e

pub returns-in-Err-clause-statuses : goal.returns-in-Err-clause-statuses
returns-in-Err-clause-statuses g c =
    let held = g.I.Inputs.holds c.args.inputs.now in
    let e = c.end.ensures held _ _ _ _ c.in-Err.ensures.stopped in
    (stopping held c.args.command.now _ _ _ _ e.0 c.end.result e.1 e.2).within

pub returns-in-Err-clause-words : goal.returns-in-Err-clause-words
returns-in-Err-clause-words g c =
    let held = g.I.Inputs.holds c.args.inputs.now in
    let e = c.end.ensures held _ _ _ _ c.in-Err.ensures.stopped in
    (stopping held c.args.command.now _ _ _ _ e.0 c.end.result e.1 e.2).words

pub returns-in-Err-clause-inputs : goal.returns-in-Err-clause-inputs
returns-in-Err-clause-inputs g c same =
    let held = g.I.Inputs.holds c.args.inputs.now in
    let e = c.end.ensures held _ _ _ _ c.in-Err.ensures.stopped in
    absurd ((stopping held c.args.command.now _ _ _ _ e.0 c.end.result e.1 e.2).undone same)
