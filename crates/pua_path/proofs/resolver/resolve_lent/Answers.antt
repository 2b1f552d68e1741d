use Rattle.pua_path.proofs.Arrival.{resolution_starts}
use Rattle.pua_path.proofs.Fitting.{founds_fit, founds_named}
use Rattle.pua_path.specs.Walks.{founds_seen}
use Rattle.pua_path.proofs.resolver.resolve_lent.Goals as goal

pub returns-clause-exact : goal.returns-clause-exact
returns-clause-exact g c =
    let text = c.args.text.now in
    let start = rw c.bytes.ensures.bytes at c.in-Some.ensures.start in
    let found = rw (c.start_of.ensures.tree, c.unread.ensures) at c.resolve_text.ensures.exact in
    resolution_starts (g.P.Probe.tree c.args.probe.now) c.args.from text.ending text.bytes c.args.mode c.in-Some.start (founds_seen c.resolve_text.result)
    start found

pub returns-clause-fits : goal.returns-clause-fits
returns-clause-fits g c =
    let text = c.args.text.now in
    founds_fit (g.P.Probe.tree c.args.probe.now) c.known.ensures c.args.from text.ending text.bytes c.args.mode (founds_seen c.resolve_text.result)
    (returns-clause-exact g c)

pub returns-clause-named : goal.returns-clause-named
returns-clause-named g c =
    let text = c.args.text.now in
    founds_named (g.P.Probe.tree c.args.probe.now) c.known.ensures c.args.from text.ending text.bytes c.args.mode (founds_seen c.resolve_text.result)
    (returns-clause-exact g c)
