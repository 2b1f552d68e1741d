use Rattle.pua_ever.proofs.Common.{refl, empty_tree, IsMissing, rules}
use Rattle.pua_ever.proofs.prospects.on_others.Goals as goal

pub returns : goal.returns
returns c = λ t found covered call. (let allowed = c.allowed.ensures empty_tree IsMissing refl call in search (rules, allowed))
