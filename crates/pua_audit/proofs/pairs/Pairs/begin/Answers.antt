use Rattle.pua_audit.proofs.Common.{arith, rules}
use Rattle.pua_audit.proofs.Coming.{along_none}
use Rattle.pua_audit.proofs.pairs.Pairs.begin.Goals as goal

pub returns-clause-ready : goal.returns-clause-ready
returns-clause-ready g c =
    let w = c.in_ok-walk.field-0.walk in
    let got = c.in_ok-walk.ensures in
    let t = c.args.terms in
    record {
      sound = record { tree = t.tree; short = t.short };
      walk = got.ready;
      limit = got.limit;
      letters = got.letters;
      pairs = got.within;
      path = along_none c.args.terms.letters w.word.items c.in_ok-path.path c.in_ok-path.ensures.path;
      bytes = omega (arith, c.most_bytes.ensures, c.in_ok-path.ensures.bytes);
      starts = c.in_ok-path.ensures.letters;
    }

pub returns-clause-left : goal.returns-clause-left
returns-clause-left g c = search rules

pub returns-clause-live : goal.returns-clause-live
returns-clause-live g c = c.in_ok-walk.ensures.live
