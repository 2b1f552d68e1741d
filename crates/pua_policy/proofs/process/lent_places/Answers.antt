use Rattle.pua_policy.proofs.Common.{map}
use Rattle.std.proofs.lemmas.Iterator.Consumers.{map_from_collect, YieldsList-from_rest}
use Rattle.pua_policy.proofs.process.lent_places.Goals as goal

pub returns : goal.returns
returns c = map_from_collect _ c.collect.ensures.ran (YieldsList-from_rest (map (λ veil. veil.0) c.args.veils.now.entries)
    c.keys.ensures.rest)
