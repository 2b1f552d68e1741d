use Rattle.std.proofs.Common.{◌≤◌, drop, length}
use Rattle.pua_script.specs.Replay.{answers_to}
use Rattle.pua_script.specs.Worlds.{world_of}
use Rattle.pua_tight.specs.Starts.{first_from}
use Rattle.pua_tight.proofs.FirstOtherAnswer.{IsServedTo}
use Rattle.pua_tight.proofs.wanted.served_otherwise.Given as goal

-- the requests so far were answered as is wanted
abbrev pub invariant-loop-index : goal.invariant-loop-index
invariant-loop-index l = l.from ≤ length l.requests →
    IsServedTo (first_from l.from (answers_to l.fn.world.table (world_of l.fn.world) (drop l.from l.requests)) (drop l.from l.wanted))
    l.requests l.wanted l.index l.world
