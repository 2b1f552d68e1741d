-- Scripts that are served for what is asked of the worlds between their lines, as the code keeps them.
use Rattle.std.specs.Prelude.{◌≡◌, ℕ, List, Ok}
use Rattle.pua_tree.specs.Listing.{listing}
use Rattle.pua_calls.specs.Calls.{CallTable}
use Rattle.pua_script.specs.Requests.{Asked}
use Rattle.pua_script.specs.Replay.{new_world, answers_to}
use Rattle.pua_script.specs.Worlds.{WorldState, state_after_all, with_table, world_of}
use Rattle.pua_tool.specs.Texts.{as_listing}
use Rattle.pua_texts.specs.WhyLines.{ServedScript}
use Rattle.pua_tool.specs.declared.two_worlds.TwoWorlds.{TwoWorlds}

-- a world over the tree of a listing, as no request was served yet
pub record IsNewOver (tree_bytes : List ℕ) (table : CallTable) (world : WorldState) : Type 0 where
  pub read : as_listing (listing tree_bytes) ≡ Ok world.tree
  pub new : world ≡ with_table table (new_world world.tree)

-- what is asked of a world, and the requests that are served in it
abbrev pub asked_over : WorldState → List Asked → ServedScript
asked_over before asks = record { table = before.table; world = world_of before; asks = asks }

abbrev pub as_served : TwoWorlds → ServedScript
as_served worlds = asked_over worlds.before worlds.script

-- a script with the worlds before and after it, and its answers
pub record IsTwoWorlds (worlds : TwoWorlds) : Type 0 where
  pub answers : worlds.answers.items ≡ answers_to worlds.before.table (world_of worlds.before) worlds.script
  pub after : worlds.after ≡ state_after_all worlds.before worlds.script
