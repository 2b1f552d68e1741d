use Rattle.pua_path.proofs.Common.{refl}
use Rattle.pua_path.proofs.Living.{seen_target}
use Rattle.pua_path.proofs.resolver.standing_at.Goals as goal

pub invariant_of-result : goal.invariant_of-result
invariant_of-result g c =
    let read = rw c.find_named.ensures.tree at c.target.ensures.target in
    record {
      readable =
          rw c.unwrap_or-bytes.ensures (seen_target (g.P.Probe.tree c.args.probe.now) _ c.target.result _ c.known.ensures read refl).0;
    }

pub returns-in-Link-clause-stands : goal.returns-in-Link-clause-stands
returns-in-Link-clause-stands g c =
    let read = rw c.find_named.ensures.tree at c.target.ensures.target in
    rw c.unwrap_or-bytes.ensures (seen_target (g.P.Probe.tree c.args.probe.now) _ c.target.result _ c.known.ensures read refl).1
