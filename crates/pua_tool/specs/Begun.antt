-- What the code keeps of a replay, as the definitions see it.
use Rattle.std.specs.Prelude.{List, map}
use Rattle.pua_tree.specs.Tree.{Tree}
use Rattle.pua_calls.specs.Calls.{CallTable}
use Rattle.pua_script.specs.Requests.{Asked}
use Rattle.pua_script.specs.Replay.{new_world, world_after}
use Rattle.pua_script.specs.Worlds.{world_of}
use Rattle.pua_why.specs.Openings.{told_to}
use Rattle.pua_why.specs.Seen.{line_seen}
use Rattle.pua_tool.specs.Texts.{Replayed}
use Rattle.pua_tool.specs.declared.script.Replay.{Replay}

-- its answers, its table, and the world that it left
abbrev pub as_replayed : Replay → Replayed
as_replayed replay =
    record { table = replay.world.table; answers = map line_seen replay.answers.items; world = world_of replay.world }

-- the replay of these requests over a tree, by a table
abbrev pub replay_by : CallTable → Tree → List Asked → Replayed
replay_by table t asks =
    record { table = table; answers = told_to table (new_world t) asks; world = world_after table (new_world t) asks }
