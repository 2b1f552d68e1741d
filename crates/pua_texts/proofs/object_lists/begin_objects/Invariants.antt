use Rattle.pua_texts.proofs.Common.{◌≡◌, take, lists_of}
use Rattle.pua_script.specs.Worlds.{world_of}
use Rattle.pua_texts.specs.ListLines.{lists_text}
use Rattle.pua_texts.proofs.object_lists.begin_objects.Given as goal

-- the lists so far are those of the numbers so far
abbrev pub invariant-loop-number : goal.invariant-loop-number
invariant-loop-number g l =
    lists_text l.fn.world.tree l.lists.items ≡ lists_of l.fn.rules l.fn.world.table (world_of l.fn.world) (take l.number-index l.numbers)
