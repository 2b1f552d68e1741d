use Rattle.pua_policy.proofs.Common.{◌∙◌, sym}
use Rattle.pua_path.specs.Walks.{found_seen}
use Rattle.pua_policy.proofs.Covers.{cover-unveiled}
use Rattle.pua_policy.proofs.process.Process.cover_lent.Goals as goal

pub returns-then-not-is_veiled-clause-exact : goal.returns-then-not-is_veiled-clause-exact
returns-then-not-is_veiled-clause-exact g c =
    sym (cover-unveiled c.args.self.now (g.P.Probe.tree c.args.probe.now) (found_seen c.args.found.now) (sym c.is_veiled.ensures ∙
    c.if-not-is_veiled.true))

pub returns-clause-exact : goal.returns-clause-exact
returns-clause-exact g c = c.veiled_cover.ensures.exact (sym c.is_veiled.ensures ∙ c.if-not-is_veiled.false)
