use Rattle.pua_why.proofs.Common.{ap, sym, ◌∙◌, uncovered_fault, side_seen}
use Rattle.pua_why.proofs.checks.uncovered.Goals as goal

pub returns-in-By : goal.returns-in-By
returns-in-By c = c.lacking.ensures c.args.found.now ∙
    ap (λ over. uncovered_fault (side_seen c.args.side) c.args.found.now c.args.perms over) (sym c.in-By.is)
