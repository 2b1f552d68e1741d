use Rattle.pua_tree.proofs.Common.{refl}
use Rattle.pua_tree.proofs.laws.limits_law.Goals as goal

pub returns : goal.returns
returns c = record { name = refl; target = refl; names = refl; wide_names = refl; number = refl; listed = refl; wide = refl; highest = refl }
