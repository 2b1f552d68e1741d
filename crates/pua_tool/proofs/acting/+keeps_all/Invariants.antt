use Rattle.std.proofs.Common.{length}
use Rattle.pua_tool.proofs.acting.+keeps_all.Given as goal

abbrev pub decreases-keeps_all : goal.decreases-keeps_all
decreases-keeps_all l = length l.veils.now
