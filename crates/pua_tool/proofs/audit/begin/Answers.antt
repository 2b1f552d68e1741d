use Rattle.pua_tool.proofs.Common.{◌≢◌, ◌∙◌, Err, ap, sym, as_audit}
use Rattle.pua_audit.specs.declared.fault.AuditFault.TheVariants as audit_fault
use Rattle.pua_tool.proofs.audit.begin.Goals as goal

pub returns-in-Err-clause-refused : goal.returns-in-Err-clause-refused
returns-in-Err-clause-refused g c = λ other.
    let known : c.in-Err.fault ≢ audit_fault.OutOfMemory = λ is. other (c.of_audit.ensures.memory is) in
    ap as_audit (c.in-Err.ensures.refused known c.args.process.now) ∙ ap (λ told. Err told) (sym (c.of_audit.ensures.audit known))
