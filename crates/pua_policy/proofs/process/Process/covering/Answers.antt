use Rattle.pua_policy.proofs.Common.{◌∙◌, sym, ap}
use Rattle.pua_policy.specs.Reasons.{covering}
use Rattle.pua_policy.proofs.Covers.{slot_lives}
use Rattle.pua_policy.proofs.Coverings.{covering-unveiled, covering-whole, covering-slot}
use Rattle.pua_policy.proofs.process.Process.covering.Goals as goal

pub returns-then-not-is_veiled-clause-exact : goal.returns-then-not-is_veiled-clause-exact
returns-then-not-is_veiled-clause-exact g c = λ fits.
    sym (covering-unveiled c.args.self.now (g.P.Probe.tree c.args.probe.now) c.args.found.now (sym c.is_veiled.ensures ∙
    c.if-not-is_veiled.true))

pub returns-in-Whole-clause-exact : goal.returns-in-Whole-clause-exact
returns-in-Whole-clause-exact g c = λ fits.
    let t = g.P.Probe.tree c.args.probe.now in
    let living = rw c.in-Whole.is at fits in
    c.covering_from.ensures.exact living
    ∙ sym (covering-whole c.args.self.now t (sym c.is_veiled.ensures ∙ c.if-not-is_veiled.false) c.known.ensures c.in-Whole.dir
    c.in-Whole.way living)
    ∙ ap (covering t c.args.self.now) (sym c.in-Whole.is)

pub returns-in-Some-clause-exact : goal.returns-in-Some-clause-exact
returns-in-Some-clause-exact g c = λ fits.
    let t = g.P.Probe.tree c.args.probe.now in
    sym (covering-slot c.args.self.now t (sym c.is_veiled.ensures ∙ c.if-not-is_veiled.false) c.in-Slot.dir c.in-Slot.name c.in-Slot.node
    _ (sym c.kept.ensures.state ∙ c.in-Some.is))
    ∙ ap (covering t c.args.self.now) (sym c.in-Slot.is)

pub returns-in-None-clause-exact : goal.returns-in-None-clause-exact
returns-in-None-clause-exact g c = λ fits.
    let t = g.P.Probe.tree c.args.probe.now in
    let living = slot_lives t c.in-Slot.dir c.in-Slot.name c.in-Slot.node (rw c.in-Slot.is at fits) in
    c.covering_from-in-None.ensures.exact living
    ∙ sym (covering-slot c.args.self.now t (sym c.is_veiled.ensures ∙ c.if-not-is_veiled.false) c.in-Slot.dir c.in-Slot.name
    c.in-Slot.node _ (sym c.kept.ensures.state ∙ c.in-None.is))
    ∙ ap (covering t c.args.self.now) (sym c.in-Slot.is)
