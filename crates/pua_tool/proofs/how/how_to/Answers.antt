use Rattle.pua_tool.proofs.Common.{choice_of, err_from_is_err_and}
use Rattle.pua_tool.specs.HowTexts.{way_wanted}
use Rattle.pua_tool.proofs.HowTexts.{fault_told}
use Rattle.pua_tool.proofs.how.how_to.Goals as goal

pub returns-in_err-text : goal.returns-in_err-text
returns-in_err-text g c =
    let p = err_from_is_err_and c.from_residual.result c.from_residual.ensures.1 in
    rw (p.1, p.2) (record {
      text = fault_told g.S.Sink.written g.S.Sink.failed (choice_of c.args.table) c.args.tree_bytes.now c.args.script_bytes.now
          (way_wanted c.args.words.now) c.in_err-text.field-0.0 c.args.sink.now c.in_err-text.ensures.refused;
    })
