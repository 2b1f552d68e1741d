use Rattle.pua_why.proofs.Chains.{chains_end, grants_are_told, pairs_are_told, coverings_in}
use Rattle.pua_why.proofs.laws.chain_law.Goals as goal

pub returns-clause-ends : goal.returns-clause-ends
returns-clause-ends c = chains_end

pub returns-clause-grants : goal.returns-clause-grants
returns-clause-grants c = grants_are_told

pub returns-clause-further : goal.returns-clause-further
returns-clause-further c = coverings_in

pub returns-clause-pairs : goal.returns-clause-pairs
returns-clause-pairs c = pairs_are_told
