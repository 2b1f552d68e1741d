use Rattle.std.proofs.Common.{arith, sym, refl}
use Rattle.std.proofs.lemmas.Bool.{ltb-true}
use Rattle.pua_tight.proofs.Starts.{one_served}
use Rattle.pua_tight.proofs.start.Start.go_on.Goals as goal

pub loop-self-preserved : goal.loop-self-preserved
loop-self-preserved c = record {
  start = λ table w is. one_served table w c.args.requests.now c.loop-self.self _ c.in-Some.request.now c.in-Ok.field-0 c.in-Some.ensures.lookup.1
      c.in-Ok.ensures.served refl (ltb-true _ _ (sym c.in-Some.ensures.lookup.0)) (c.loop-self.invariant.start table w is);
  before = λ last up from. omega (arith, up, c.loop-self-test.true);
}
