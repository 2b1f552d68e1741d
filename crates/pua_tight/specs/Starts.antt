-- The worlds from which trials start.
use Rattle.std.specs.Prelude.{◌≡◌, ◌≤◌, ◌+◌, ℕ, List, Option, length, option_map, take}
use Rattle.pua_calls.specs.Calls.{CallTable}
use Rattle.pua_script.specs.Requests.{Asked}
use Rattle.pua_script.specs.Replay.{World, world_after}
use Rattle.pua_script.specs.Worlds.{with_table}
use Rattle.pua_script.specs.declared.answer.Answer.{Answer}
use Rattle.pua_tight.specs.Uses.{first_other}
pub use Rattle.pua_tight.specs.declared.start.Start.{Start}

-- the first that is another one, in lists of which so many are gone by
abbrev pub first_from : ℕ → List Answer → List Answer → Option ℕ
first_from gone xs ys = option_map (λ n. gone + n) (first_other xs ys)

-- the lines of a script before this one are served
pub record IsStart (table : CallTable) (w : World) (asks : List Asked) (start : Start) : Type 0 where
  pub within : start.line ≤ length asks
  pub world : start.world ≡ with_table table (world_after table w (take start.line asks))
