use Rattle.pua_script.proofs.Common.{◌∙◌, ap, sym, arith, Err, map}
use Rattle.pua_script.specs.Added.{LineOf}
use Rattle.pua_script.specs.Scripts.{action_in}
use Rattle.pua_script.specs.declared.fault.ScriptFault.TheVariants.{BadCall}
use Rattle.pua_script.proofs.Reading.{many_arguments, no_files}
use Rattle.pua_script.proofs.line.read_action.Goals as goal

pub returns-in_default : goal.returns-in_default
returns-in_default c = λ other. many_arguments c.args.rules c.args.origin.line c.args.fields.now (omega arith) ∙
    ap (λ (origin : LineOf). Err (BadCall origin.line)) (sym c.origin.view_is)

pub returns-in-Standard : goal.returns-in-Standard
returns-in-Standard c = λ other.
    ap (λ rules. action_in rules c.args.origin.line (map (λ field. field.now) c.args.fields.now)) c.in-Standard.is
    ∙ no_files c.args.origin.line c.args.fields.now (omega arith)
    ∙ ap (λ (origin : LineOf). Err (BadCall origin.line)) (sym c.origin.view_is)
