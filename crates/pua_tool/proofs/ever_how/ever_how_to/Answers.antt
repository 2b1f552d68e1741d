use Rattle.pua_tool.proofs.Common.{choice_of, err_from_is_err_and, as_replayed}
use Rattle.pua_tool.specs.Texts.{given_bytes}
use Rattle.pua_tool.proofs.EverHowTexts.{after_done, fault_told}
use Rattle.pua_tool.proofs.ever_how.ever_how_to.Goals as goal

pub returns-in_err-replay : goal.returns-in_err-replay
returns-in_err-replay g c =
    let p = err_from_is_err_and c.from_residual.result c.from_residual.ensures.1 in
    rw (p.1, p.2) (record {
      text = fault_told (choice_of c.args.table) c.args.tree_bytes.now c.args.script_bytes.now c.args.process (given_bytes c.args.path) g.S.Sink.written
          g.S.Sink.failed c.in_err-replay.field-0.0 c.args.sink.now c.in_err-replay.ensures.refused;
    })

pub returns : goal.returns
returns g c =
    let served = c.in_ok-replay.ensures.done in
    let listed = c.list_to-written.ensures in
    record {
      text = (
        listed.0,
        after_done (choice_of c.args.table) c.args.tree_bytes.now c.args.script_bytes.now c.args.process (given_bytes c.args.path) (as_replayed c.in_ok-replay.replay) listed.0 served listed.1,
        listed.2,
      );
    }
