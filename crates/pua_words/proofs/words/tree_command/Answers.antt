use Rattle.pua_words.proofs.words.tree_command.Goals as goal

pub returns : goal.returns
returns c = c.with_inputs.ensures _ (c.with.ensures _ _ c.command-tree.ensures c.at.ensures)
