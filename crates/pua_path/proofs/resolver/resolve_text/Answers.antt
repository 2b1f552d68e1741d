use Rattle.pua_path.proofs.Common.{rooted, sym, ap, ◌∙◌, rules, way_of}
use Rattle.pua_path.specs.Onward.{found_alone}
use Rattle.pua_path.proofs.Steps.{text_onward}
use Rattle.pua_path.proofs.resolver.resolve_text.Goals as goal

pub loop-way-preserved : goal.loop-way-preserved
loop-way-preserved g c =
    let t = rooted (g.P.Probe.tree c.args.probe.now) c.args.start.root in
    let met = rw c.loop-way.invariant.tree at c.in-Directory.ensures.exact in
    let step =
    text_onward t c.args.mode c.args.left.count c.loop-way.dir (way_of c.loop-way.way) c.loop-way.rest.bytes.now c.next_piece.result.0.bytes.now
    c.next_piece.result.1.bytes.now c.is_empty-in-loop-way.result _ c.next_piece.ensures c.is_empty-in-loop-way.ensures met in
    record {
      tree = search rules;
      so_far = sym step ∙ c.loop-way.invariant.so_far;
    }

pub returns-in-Link-clause-exact : goal.returns-in-Link-clause-exact
returns-in-Link-clause-exact g c =
    let t = rooted (g.P.Probe.tree c.args.probe.now) c.args.start.root in
    let met = rw c.loop-way.invariant.tree at c.in-Link.ensures.exact in
    let step =
    text_onward t c.args.mode c.args.left.count c.loop-way.dir (way_of c.loop-way.way) c.loop-way.rest.bytes.now c.next_piece.result.0.bytes.now
    c.next_piece.result.1.bytes.now c.is_empty-in-loop-way.result _ c.next_piece.ensures c.is_empty-in-loop-way.ensures met in
    (rw (c.lead_by_piece.ensures.tree, c.loop-way.invariant.tree) at c.follow_on.ensures.exact)
    ∙ ap found_alone (sym step ∙ c.loop-way.invariant.so_far)

pub returns-in-Found-clause-exact : goal.returns-in-Found-clause-exact
returns-in-Found-clause-exact g c =
    let t = rooted (g.P.Probe.tree c.args.probe.now) c.args.start.root in
    let met = rw c.loop-way.invariant.tree at c.in-Found.ensures.exact in
    let step =
    text_onward t c.args.mode c.args.left.count c.loop-way.dir (way_of c.loop-way.way) c.loop-way.rest.bytes.now c.next_piece.result.0.bytes.now
    c.next_piece.result.1.bytes.now c.is_empty-in-loop-way.result _ c.next_piece.ensures c.is_empty-in-loop-way.ensures met in
    ap found_alone (sym step ∙ c.loop-way.invariant.so_far)

pub returns-in-Nowhere-clause-exact : goal.returns-in-Nowhere-clause-exact
returns-in-Nowhere-clause-exact g c =
    let t = rooted (g.P.Probe.tree c.args.probe.now) c.args.start.root in
    let met = rw c.loop-way.invariant.tree at c.in-Nowhere.ensures.exact in
    let step =
    text_onward t c.args.mode c.args.left.count c.loop-way.dir (way_of c.loop-way.way) c.loop-way.rest.bytes.now c.next_piece.result.0.bytes.now
    c.next_piece.result.1.bytes.now c.is_empty-in-loop-way.result _ c.next_piece.ensures c.is_empty-in-loop-way.ensures met in
    ap found_alone (sym step ∙ c.loop-way.invariant.so_far)
