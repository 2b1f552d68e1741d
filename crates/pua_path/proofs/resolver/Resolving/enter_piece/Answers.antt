use Rattle.pua_path.proofs.Common.{[], ◌∷◌, refl, sym, ap, ◌∙◌, nat_lt, if◌then◌else◌, way_of, rooted, resolve_parts, trace_parts, after_links}
use Rattle.pua_path.proofs.Steps.{resolve_onward, followed_on}
use Rattle.pua_path.proofs.TraceSteps.{trace_onward, unlinked, followed_traced_on}
use Rattle.pua_path.proofs.resolver.Resolving.enter_piece.Goals as goal

pub returns-in-Directory-clause-exact : goal.returns-in-Directory-clause-exact
returns-in-Directory-clause-exact g c =
    let walk = c.args.self.now in
    resolve_onward _ _ walk.rest.left walk.here (way_of walk.way) _ walk.rest.parts c.is_done.result _ c.is_done.ensures
    c.in-Directory.ensures.exact

pub returns-in-Directory-clause-traced : goal.returns-in-Directory-clause-traced
returns-in-Directory-clause-traced g c =
    let walk = c.args.self.now in
    trace_onward _ _ walk.rest.left walk.here (way_of walk.way) c.args.piece.bytes.now walk.rest.parts c.is_done.result _ c.is_done.ensures
    c.in-Directory.ensures.exact
    ∙ unlinked walk.rest.left (walk.here, c.args.piece.bytes.now) _

pub returns-in_ok-follow-in-Link-clause-exact : goal.returns-in_ok-follow-in-Link-clause-exact
returns-in_ok-follow-in-Link-clause-exact g c =
    let walk = c.args.self.now in
    let t = g.P.Probe.tree c.args.probe.now in
    let next = c.follow.new.self in
    let can = c.in_ok-follow-in-Link.ensures.ok in
    resolve_onward _ _ walk.rest.left walk.here (way_of walk.way) _ walk.rest.parts c.is_done.result _ c.is_done.ensures
    c.in-Link.ensures.exact
    ∙ followed_on _ _ walk.rest.left walk.here _ walk.rest.parts _ _ _ _ can c.follow.ensures.left
    (c.follow.ensures.here can) (rw (c.follow.ensures.way can) refl) (c.follow.ensures.parts can)
    ∙ ap (λ root. resolve_parts next.rest.left (rooted t root) c.args.mode next.here (way_of next.way) next.rest.parts)
    (sym c.follow.ensures.root)

pub returns-in_ok-follow-in-Link-clause-traced : goal.returns-in_ok-follow-in-Link-clause-traced
returns-in_ok-follow-in-Link-clause-traced g c =
    let walk = c.args.self.now in
    let t = g.P.Probe.tree c.args.probe.now in
    let next = c.follow.new.self in
    let can = c.in_ok-follow-in-Link.ensures.ok in
    trace_onward _ _ walk.rest.left walk.here (way_of walk.way) c.args.piece.bytes.now walk.rest.parts c.is_done.result _ c.is_done.ensures
    c.in-Link.ensures.exact
    ∙ followed_traced_on _ _ walk.rest.left (walk.here, c.args.piece.bytes.now) _ walk.rest.parts _ _ _ _ can c.follow.ensures.left
    (c.follow.ensures.here can) (rw (c.follow.ensures.way can) refl) (c.follow.ensures.parts can)
    ∙ ap (λ root. after_links (if nat_lt next.rest.left walk.rest.left then (walk.here, c.args.piece.bytes.now) ∷ [] else [])
    (trace_parts next.rest.left (rooted t root) c.args.mode next.here (way_of next.way) next.rest.parts)) (sym c.follow.ensures.root)

pub returns-in-Found-clause-exact : goal.returns-in-Found-clause-exact
returns-in-Found-clause-exact g c =
    let walk = c.args.self.now in
    resolve_onward _ _ walk.rest.left walk.here (way_of walk.way) _ walk.rest.parts c.is_done.result _ c.is_done.ensures
    c.in-Found.ensures.exact

pub returns-in-Found-clause-traced : goal.returns-in-Found-clause-traced
returns-in-Found-clause-traced g c =
    let walk = c.args.self.now in
    trace_onward _ _ walk.rest.left walk.here (way_of walk.way) c.args.piece.bytes.now walk.rest.parts c.is_done.result _ c.is_done.ensures
    c.in-Found.ensures.exact

pub returns-in-Nowhere-clause-exact : goal.returns-in-Nowhere-clause-exact
returns-in-Nowhere-clause-exact g c =
    let walk = c.args.self.now in
    resolve_onward _ _ walk.rest.left walk.here (way_of walk.way) _ walk.rest.parts c.is_done.result _ c.is_done.ensures
    c.in-Nowhere.ensures.exact

pub returns-in-Nowhere-clause-traced : goal.returns-in-Nowhere-clause-traced
returns-in-Nowhere-clause-traced g c =
    let walk = c.args.self.now in
    trace_onward _ _ walk.rest.left walk.here (way_of walk.way) c.args.piece.bytes.now walk.rest.parts c.is_done.result _ c.is_done.ensures
    c.in-Nowhere.ensures.exact
