use Rattle.pua_tool.proofs.Several.{together_as_written}
use Rattle.pua_tool.proofs.laws.together_text_law.Goals as goal

pub returns : goal.returns
returns c = together_as_written c.together_law.ensures.read
