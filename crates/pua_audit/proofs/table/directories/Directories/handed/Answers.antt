use Rattle.pua_audit.proofs.Covers.{both_lead, handed_over}
use Rattle.pua_audit.proofs.table.directories.Directories.handed.Goals as goal

pub returns-in-DotDot : goal.returns-in-DotDot
returns-in-DotDot c =
    both_lead
    (λ left here over. λ t fits fit named covered living dots.
    handed_over t c.args.process.now fits c.args.found.now fit c.args.from left living (here t covered)
    (over t fits covered living) (dots c.in-DotDot.is))
    c.handed_up.result c.handed_up.ensures.here c.handed_up.ensures.above
