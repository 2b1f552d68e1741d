use Rattle.pua_tool.proofs.Never.{never_as_written}
use Rattle.pua_tool.proofs.laws.never_text_law.Goals as goal

pub returns : goal.returns
returns c = never_as_written
