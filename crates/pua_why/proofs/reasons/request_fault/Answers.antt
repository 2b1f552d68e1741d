use Rattle.pua_why.proofs.Common.{sym, ap, ◌∙◌, option_map, refused_by, faults, fault_seen}
use Rattle.std.proofs.lemmas.Result.{IfOk-weaker}
use Rattle.pua_script.specs.Decide.{asker_for, decide_by}
use Rattle.pua_why.specs.Reasons.{faults_of}
use Rattle.pua_why.proofs.reasons.request_fault.Goals as goal

pub returns-in-Ok-None : goal.returns-in-Ok-None
returns-in-Ok-None g c = IfOk-weaker c.further_fault.result _ _ (λ fault told. told
    (ap (option_map fault_seen) (sym c.in-Ok-None.field-0-is) ∙ c.in-Ok-None.ensures
    ∙ (λ i. refused_by (decide_by faults (c.table.ensures i) (c.tree.ensures i)
    (asker_for (c.table.ensures i) c.args.process.now c.args.action.now (faults_of c.args.process.now)) c.args.action.now)))) c.further_fault.ensures
