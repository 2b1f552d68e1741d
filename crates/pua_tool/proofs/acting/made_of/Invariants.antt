use Rattle.pua_tool.proofs.Common.{◌≡◌, world_of}
use Rattle.std.proofs.Common.{drop}
use Rattle.pua_tool.specs.TogetherTexts.{all_made}
use Rattle.pua_tool.proofs.ActingNext.{made_behind}
use Rattle.pua_tool.proofs.acting.made_of.Given as goal

-- the processes so far are made, and the others are still to come
abbrev pub invariant-loop-number : goal.invariant-loop-number
invariant-loop-number g l =
    made_behind (world_of l.world) l.members.items (drop l.number-index l.numbers) ≡ all_made (world_of l.world) l.numbers
