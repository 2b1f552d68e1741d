use Rattle.pua_why.proofs.Common.{length, sym, ◌∙◌}
use Rattle.pua_why.proofs.Needing.{kept_beyond}
use Rattle.pua_why.proofs.checks.place_fault.Goals as goal

pub returns-in-Some : goal.returns-in-Some
returns-in-Some c =
    c.beyond_kept.ensures (length c.args.process.now.veils)
    ∙ kept_beyond c.args.process.now c.args.place c.args.perms c.in-Some.given (sym c.if-locked.false ∙ c.locked.ensures.state)
    c.in-Some.ensures.state
