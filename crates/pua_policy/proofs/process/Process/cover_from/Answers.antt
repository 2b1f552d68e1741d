use Rattle.pua_policy.proofs.Common.{sym, ap, ◌∙◌, climb, Dir, veil_at, covering_at, cover_of}
use Rattle.pua_policy.proofs.Veiled.{veiled_covers}
use Rattle.pua_policy.proofs.process.Process.cover_from.Goals as goal

pub returns-in-Some-clause-exact : goal.returns-in-Some-clause-exact
returns-in-Some-clause-exact g c = λ living.
    ap (λ veil. cover_of (covering_at veil)) (sym c.in-Some.is ∙ c.nearest.ensures.exact living)
    ∙ veiled_covers (λ dir. veil_at c.args.self.now.veils (Dir dir)) (climb (g.P.Probe.tree c.args.probe.now) c.args.from)

pub returns-in-None-clause-exact : goal.returns-in-None-clause-exact
returns-in-None-clause-exact g c = λ living.
    ap (λ veil. cover_of (covering_at veil)) (sym c.in-None.is ∙ c.nearest.ensures.exact living)
    ∙ veiled_covers (λ dir. veil_at c.args.self.now.veils (Dir dir)) (climb (g.P.Probe.tree c.args.probe.now) c.args.from)
