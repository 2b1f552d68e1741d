use Rattle.std.proofs.Common.{sym, ◌∙◌}
use Rattle.pua_policy.specs.Verdict.{object_named}
use Rattle.pua_how.specs.Steps.{names_asked}
use Rattle.pua_how.proofs.Granting.{reached_at}
use Rattle.pua_how.proofs.serve.reaches.Goals as goal

pub returns : goal.returns
returns g c =
    let h = c.in-Some.process.now in
    c.judge.ensures
    ∙ (λ i. names_asked (c.table.ensures i) (c.tree.ensures i) h c.args.call c.args.target.now
    (object_named (c.tree.ensures i) h c.args.call (c.bytes.ensures i)))
    ∙ reached_at c.args.world.now c.args.number c.args.call c.args.target.now c.args.path.now h (sym c.in-Some.ensures)
