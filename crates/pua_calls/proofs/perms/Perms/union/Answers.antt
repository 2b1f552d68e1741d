use Rattle.pua_calls.proofs.Common.{or_lt}
use Rattle.pua_calls.proofs.perms.Perms.union.Goals as goal

pub invariant_of-result : goal.invariant_of-result
invariant_of-result c = rw (c.union.ensures tt) (or_lt 4 _ _ c.self.invariant c.others.invariant)
