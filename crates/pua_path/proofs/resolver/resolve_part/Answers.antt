use Rattle.pua_path.proofs.Common.{rooted, [], ◌∷◌, Ok, refl, sym, ap, ◌∙◌, way_of, Whole, Top}
use Rattle.pua_path.proofs.Fitting.{parts_fit, parts_named}
use Rattle.pua_path.proofs.Steps.{resolve_end, resolve_onward}
use Rattle.pua_path.specs.Walks.{resolved_seen}
use Rattle.pua_path.proofs.resolver.resolve_part.Goals as goal

pub returns-in-Directory-clause-exact : goal.returns-in-Directory-clause-exact
returns-in-Directory-clause-exact g c =
    ap (λ way. Ok (Whole c.in-Directory.dir way, c.args.left.count)) c.way-way.ensures
    ∙ sym (resolve_end (rooted (g.P.Probe.tree c.args.probe.now) c.args.from.root) c.args.mode c.args.left.count c.in-Directory.dir (way_of c.in-Directory.way))
    ∙ sym (resolve_onward (rooted (g.P.Probe.tree c.args.probe.now) c.args.from.root) c.args.mode c.args.left.count c.args.from.dir Top c.args.part.now [] _ _ refl
    c.in-Directory.ensures.exact)

pub returns-in-Directory-clause-fits : goal.returns-in-Directory-clause-fits
returns-in-Directory-clause-fits g c root dir =
    parts_fit (rooted (g.P.Probe.tree c.args.probe.now) c.args.from.root) c.known.ensures root c.args.left.count c.args.from.dir c.args.mode (c.args.part.now ∷ [])
    (Ok (Whole c.in-Directory.dir c.way-way.result, c.args.left.count)) dir (returns-in-Directory-clause-exact g c)

pub returns-in-Ok-clause-exact : goal.returns-in-Ok-clause-exact
returns-in-Ok-clause-exact g c =
    ap (λ found. Ok (found, c.in-Ok.left)) c.found.ensures
    ∙ sym (ap resolved_seen c.in-Ok.is)
    ∙ (rw c.lead_by_part.ensures.tree at c.follow_counted.ensures.exact)
    ∙ sym (resolve_onward (rooted (g.P.Probe.tree c.args.probe.now) c.args.from.root) c.args.mode c.args.left.count c.args.from.dir Top c.args.part.now [] _ _ refl
    c.in-Link.ensures.exact)

pub returns-in-Ok-clause-fits : goal.returns-in-Ok-clause-fits
returns-in-Ok-clause-fits g c root dir =
    parts_fit (rooted (g.P.Probe.tree c.args.probe.now) c.args.from.root) c.known.ensures root c.args.left.count c.args.from.dir c.args.mode (c.args.part.now ∷ [])
    (Ok (c.found.result, c.in-Ok.left)) dir (returns-in-Ok-clause-exact g c)

pub returns-in-Ok-clause-named : goal.returns-in-Ok-clause-named
returns-in-Ok-clause-named g c root dir =
    parts_named (rooted (g.P.Probe.tree c.args.probe.now) c.args.from.root) c.known.ensures root c.args.left.count c.args.from.dir c.args.mode (c.args.part.now ∷ [])
    (Ok (c.found.result, c.in-Ok.left)) dir (returns-in-Ok-clause-exact g c)

pub returns-in-Err-clause-exact : goal.returns-in-Err-clause-exact
returns-in-Err-clause-exact g c =
    sym (ap resolved_seen c.in-Err.is)
    ∙ (rw c.lead_by_part.ensures.tree at c.follow_counted.ensures.exact)
    ∙ sym (resolve_onward (rooted (g.P.Probe.tree c.args.probe.now) c.args.from.root) c.args.mode c.args.left.count c.args.from.dir Top c.args.part.now [] _ _ refl
    c.in-Link.ensures.exact)

pub returns-in-Found-clause-exact : goal.returns-in-Found-clause-exact
returns-in-Found-clause-exact g c =
    ap (λ found. Ok (found, c.args.left.count)) c.found-in-Found.ensures
    ∙ sym (resolve_onward (rooted (g.P.Probe.tree c.args.probe.now) c.args.from.root) c.args.mode c.args.left.count c.args.from.dir Top c.args.part.now [] _ _ refl
    c.in-Found.ensures.exact)

pub returns-in-Found-clause-fits : goal.returns-in-Found-clause-fits
returns-in-Found-clause-fits g c root dir =
    parts_fit (rooted (g.P.Probe.tree c.args.probe.now) c.args.from.root) c.known.ensures root c.args.left.count c.args.from.dir c.args.mode (c.args.part.now ∷ [])
    (Ok (c.found-in-Found.result, c.args.left.count)) dir (returns-in-Found-clause-exact g c)

pub returns-in-Found-clause-named : goal.returns-in-Found-clause-named
returns-in-Found-clause-named g c root dir =
    parts_named (rooted (g.P.Probe.tree c.args.probe.now) c.args.from.root) c.known.ensures root c.args.left.count c.args.from.dir c.args.mode (c.args.part.now ∷ [])
    (Ok (c.found-in-Found.result, c.args.left.count)) dir (returns-in-Found-clause-exact g c)
