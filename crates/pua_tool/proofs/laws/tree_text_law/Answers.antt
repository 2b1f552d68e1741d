use Rattle.pua_tool.proofs.ReadBack.{tree_as_written}
use Rattle.pua_tool.proofs.laws.tree_text_law.Goals as goal

pub returns : goal.returns
returns c = tree_as_written c.read_back_law.ensures c.bytes_law.ensures.last c.bytes_law.ensures.listings c.bytes_law.ensures.scripts
