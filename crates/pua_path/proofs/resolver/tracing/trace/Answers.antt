use Rattle.pua_path.proofs.Common.{◌≡◌, rules, arith, ap, sym, ◌∙◌, List, [], ◌∷◌, length, Spot, way_of, PathTrace, as_path_trace}
use Rattle.pua_path.proofs.Common.{after_links, Whole}
use Rattle.std.specs.Prelude.{Ok}
use Rattle.pua_path.specs.Walks.{walk_trace}
use Rattle.pua_path.specs.Traces.{object_or_errno}
use Rattle.pua_path.proofs.Answering.{from_answers}
use Rattle.pua_path.proofs.Fitting.{founds_fit, founds_named}
use Rattle.pua_path.proofs.TraceStart.{trace_begins, trace_starts_nowhere}
use Rattle.pua_path.proofs.TraceSteps.{link_followed}
use Rattle.pua_path.proofs.resolver.tracing.trace.Goals as goal

pub returns-in_default-clause-exact : goal.returns-in_default-clause-exact
returns-in_default-clause-exact g c =
    let text = c.args.text.now in
    let nowhere = rw c.bytes.ensures.bytes at c.in_default.ensures.start in
    trace_starts_nowhere (g.P.Probe.tree c.args.probe.now) c.args.from text.ending text.bytes c.args.mode c.clear.new.self c.clear.ensures
    nowhere

pub loop-piece-init : goal.loop-piece-init
loop-piece-init g c =
    let t = g.P.Probe.tree c.args.probe.now in
    let text = c.args.text.now in
    let walk = c.new-walk.result in
    let spots = c.links.inside.spots in
    let none = c.links.view_is ∙ c.clear.ensures in
    let start = rw c.bytes.ensures.bytes at c.in-Some.ensures.start in
    record {
      tree = c.start_of.ensures.tree;
      so_far = sym (trace_begins t c.args.from text.ending text.bytes c.args.mode c.in-Some.start walk.rest.left walk.root walk.here
          (way_of walk.way) walk.rest.parts
          (after_links spots.items (walk_trace t c.args.mode walk))
          (record {
            all_links = ap (λ w. w.rest.left) c.new-walk.ensures ∙ c.of_text.ensures.left;
            by_root = ap (λ w. w.root) c.new-walk.ensures;
            at_start = ap (λ w. w.here) c.new-walk.ensures;
            no_way = ap (λ w. way_of w.way) c.new-walk.ensures;
            all_parts = ap (λ w. w.rest.parts) c.new-walk.ensures ∙ c.of_text.ensures.parts;
          })
          start (ap (λ (links : List Spot). after_links links (walk_trace t c.args.mode walk)) none));
      room = rw (c.new-walk.ensures) (omega (arith, c.of_text.ensures.left, spots.ok.0 ∙ ap length none, c.links.invariant));
      all_room = c.links.invariant;
    }

pub returns-in-Ok-Some-clause-exact : goal.returns-in-Ok-Some-clause-exact
returns-in-Ok-Some-clause-exact g c = search rules

pub returns-in-Ok-Some-clause-fits : goal.returns-in-Ok-Some-clause-fits
returns-in-Ok-Some-clause-fits g c =
    let t = g.P.Probe.tree c.args.probe.now in
    let text = c.args.text.now in
    founds_fit t c.known.ensures c.args.from text.ending text.bytes c.args.mode (Ok c.found.result)
    (ap (λ (trace : PathTrace). object_or_errno trace.outcome) (returns-in-Ok-Some-clause-exact g c) ∙
    from_answers t c.args.from text.ending text.bytes c.args.mode)

pub returns-in-Ok-Some-clause-named : goal.returns-in-Ok-Some-clause-named
returns-in-Ok-Some-clause-named g c =
    let t = g.P.Probe.tree c.args.probe.now in
    let text = c.args.text.now in
    founds_named t c.known.ensures c.args.from text.ending text.bytes c.args.mode (Ok c.found.result)
    (ap (λ (trace : PathTrace). object_or_errno trace.outcome) (returns-in-Ok-Some-clause-exact g c) ∙
    from_answers t c.args.from text.ending text.bytes c.args.mode)

pub returns-clause-exact : goal.returns-clause-exact
returns-clause-exact g c = search rules

pub returns-clause-fits : goal.returns-clause-fits
returns-clause-fits g c =
    let t = g.P.Probe.tree c.args.probe.now in
    let text = c.args.text.now in
    founds_fit t c.known.ensures c.args.from text.ending text.bytes c.args.mode (Ok (Whole c.loop-piece.walk.here c.way.result))
    (ap (λ (trace : PathTrace). object_or_errno trace.outcome) (returns-clause-exact g c) ∙
    from_answers t c.args.from text.ending text.bytes c.args.mode)

pub loop-piece-preserved-then-left : goal.loop-piece-preserved-then-left
loop-piece-preserved-then-left g c = record {
  tree = search rules;
  so_far =
      let t = g.P.Probe.tree c.args.probe.now in
      let spot : Spot = (c.loop-piece.walk.here, c.name.result) in
      let further = walk_trace t c.args.mode c.enter_piece.new.self in
      let step : walk_trace t c.args.mode c.loop-piece.walk ≡ after_links (spot ∷ []) further = search rules in
      ap as_path_trace (link_followed c.loop-piece.links-inside.spots.items c.push_reserved.new.self.items spot
      (walk_trace t c.args.mode c.loop-piece.walk) further c.push_reserved.ensures.items step)
      ∙ c.loop-piece.invariant.so_far;
  room = omega arith;
  all_room = search rules;
}
