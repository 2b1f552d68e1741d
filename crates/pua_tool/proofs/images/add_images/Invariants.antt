use Rattle.std.specs.Slice.Iter.{iter_rest}
use Rattle.pua_tool.proofs.ImageLines.{Shown}
use Rattle.pua_tool.proofs.images.add_images.Given as goal

-- the lists so far are added, and the others are still to come
abbrev pub invariant-loop-done : goal.invariant-loop-done
invariant-loop-done l =
    Shown l.rules l.fn.world l.numbers l.fn.requests l.fn.answers l.fn.text.bytes.items l.world (iter_rest l.done-iterator.iter.a)
    (iter_rest l.done-iterator.iter.b) l.told.items l.done-iterator.count l.text.bytes.items
