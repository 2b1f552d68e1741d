use Rattle.pua_tool.proofs.Common.{Err, ap, sym, ◌∙◌, unless_reason}
use Rattle.pua_ever.specs.Refusals.{refusal_in}
use Rattle.pua_tool.proofs.ever_fault.fault_of.Goals as goal

pub returns-in-Refused : goal.returns-in-Refused
returns-in-Refused c = λ text other.
    ap (λ why. unless_reason c.args.number (refusal_in why) text) c.in-Refused.is ∙ ap (λ told. Err told) (sym c.reason_of.ensures)
