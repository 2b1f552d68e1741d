use Rattle.pua_policy.proofs.Common.{◌∙◌, sym, ap, cover}
use Rattle.pua_path.specs.Walks.{found_seen, way_seen}
use Rattle.pua_policy.proofs.Covers.{cover-whole, cover-slot, slot_lives}
use Rattle.pua_policy.proofs.process.Process.veiled_cover.Goals as goal

pub returns-in-Whole-clause-exact : goal.returns-in-Whole-clause-exact
returns-in-Whole-clause-exact g c = λ veiled.
    let t = g.P.Probe.tree c.args.probe.now in
    let living = rw c.in-Whole.is at c.requires in
    c.cover_from.ensures.exact living
    ∙ sym (cover-whole c.args.self.now t veiled c.known.ensures c.in-Whole.dir (way_seen c.in-Whole.way) living)
    ∙ ap (λ found. cover t c.args.self.now (found_seen found)) (sym c.in-Whole.is)

pub returns-in-Some-clause-exact : goal.returns-in-Some-clause-exact
returns-in-Some-clause-exact g c = λ veiled.
    let t = g.P.Probe.tree c.args.probe.now in
    sym (cover-slot c.args.self.now t veiled c.in-Slot.dir c.in-Slot.name.bytes.now c.in-Slot.node _
    (sym c.kept_at_name.ensures ∙ c.in-Some.is))
    ∙ ap (λ found. cover t c.args.self.now (found_seen found)) (sym c.in-Slot.is)

pub returns-in-None-clause-exact : goal.returns-in-None-clause-exact
returns-in-None-clause-exact g c = λ veiled.
    let t = g.P.Probe.tree c.args.probe.now in
    let living = slot_lives t c.in-Slot.dir c.in-Slot.name.bytes.now c.in-Slot.node (rw c.in-Slot.is at c.requires) in
    c.cover_from-in-None.ensures.exact living
    ∙ sym (cover-slot c.args.self.now t veiled c.in-Slot.dir c.in-Slot.name.bytes.now c.in-Slot.node _
    (sym c.kept_at_name.ensures ∙ c.in-None.is))
    ∙ ap (λ found. cover t c.args.self.now (found_seen found)) (sym c.in-Slot.is)
