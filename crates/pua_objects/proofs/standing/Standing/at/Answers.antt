use Rattle.pua_objects.proofs.Common.{eqb-true, sym}
use Rattle.std.specs.Cmp.Lexicographic.{bytes_decides}
use Rattle.pua_objects.proofs.StandingRows.{stands_at}
use Rattle.pua_objects.proofs.standing.Standing.at.Goals as goal

pub returns-then-eq-2 : goal.returns-then-eq-2
returns-then-eq-2 c = λ t h well is.
    stands_at t h c.args.self.now well is c.deref.result.now c.deref-2.result.now c.deref.ensures.value c.deref-2.ensures.value c.args.place
    c.in_ok-row.row.now c.in_ok-kind.kind.now c.in_ok-row.ensures.lookup.3.0 c.in_ok-row.ensures.lookup.1 c.in_ok-kind.ensures.lookup.1
    c.args.dir c.args.name.now (eqb-true c.in_ok-row.row.now.dir c.args.dir (sym c.if-eq.ensures))
    ((bytes_decides c.in_ok-row.row.now.name.now c.args.name.now).0 (sym c.if-eq-2.ensures))
