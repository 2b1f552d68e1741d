use Rattle.std.proofs.Common.{arith}
use Rattle.std.proofs.lemmas.Grind.{common_steps}
use Rattle.pua_calls.specs.declared.call.Call.TheVariants.{Stat}
use Rattle.pua_refused.proofs.calls.sets.common_calls_of_the_others.Goals as goal

pub unreachable-requires : goal.unreachable-requires
unreachable-requires c = grind (arith, common_steps, c.intersection.ensures Stat)
