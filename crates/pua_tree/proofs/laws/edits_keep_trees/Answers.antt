use Rattle.pua_tree.proofs.EditsKeep as keep
use Rattle.pua_tree.proofs.laws.edits_keep_trees.Goals as goal

pub returns : goal.returns
returns c = keep.edits_keep_trees
