-- What a table of live states says.
use Rattle.std.specs.Prelude.{◌≡◌, ◌<◌, ◌≤◌, ℕ, suc, ◌+◌, ◌-◌, ◌*◌, max, ◌==◌, false, cond, nat_lt, List, length, get_or, Option, Some}
use Rattle.std.specs.Prelude.{None}
use Rattle.pua_steps.specs.Limits.{most_links, most_bound}
use Rattle.pua_steps.specs.Trail.{Live}
use Rattle.pua_steps.specs.Graph.{Graph, below, some_pair}
use Rattle.pua_steps.specs.Table.{IsState, graph_of}
use Rattle.pua_steps.specs.declared.state.State.{State}
use Rattle.pua_steps.specs.declared.steps.Entry.{Entry}
use Rattle.pua_steps.specs.declared.steps.Steps.{Steps}
use Rattle.pua_steps.specs.declared.live.Live as table

-- a state is live where fewer links were followed than the number of its directory and letters
unfoldable pub live_of : table.Live → Live
live_of v l s = nat_lt s.used (get_or v.bounds.items (l * v.dirs + s.dir) 0)

-- the state, if it is live
abbrev pub entrance : Live → ℕ → Option State → Option State
entrance live l None = None
entrance live l (Some s) = cond (live l s) (Some s) None

-- a number tells of a directory with so many letters left: below it are just the numbers of links with which a call is
-- allowed on a word after it
pub record IsBound (g : Graph) (l d b : ℕ) : Type 0 where
  pub most : b ≤ most_bound
  pub tells : (u : ℕ) → u ≤ most_links → nat_lt u b ≡ some_pair (below g l (Some (record { dir = d; used = u })))

-- each cell that is there tells of its directory
abbrev pub IsFilled : Graph → ℕ → List ℕ → Type 0
IsFilled g dirs bounds = (l d : ℕ) → d < dirs → l * dirs + d < length bounds → IsBound g l d (get_or bounds (l * dirs + d) 0)

-- one number for each directory and each number of letters up to the limit
pub record IsSized (t : Steps) (v : table.Live) (limit : ℕ) : Type 0 where
  pub dirs : v.dirs ≡ length t.rows.items
  pub cells : length v.bounds.items ≡ suc limit * v.dirs
  pub ends : (s : State) → IsState t s → live_of v 0 s ≡ false
  pub filled : IsFilled (graph_of t) v.dirs v.bounds.items

-- the bound that a letter alone gives, as it is reckoned; `Telling` says it by what is allowed
abbrev pub bound_of : List ℕ → ℕ → ℕ → Entry → ℕ
bound_of bounds dirs left e =
    cond (e.kept == 0) (max (cond (e.all == 0) 0 (most_bound - e.links)) (elim e.to [
      | None ↦ 0
      | Some d ↦ get_or bounds (left * dirs + d) 0 - e.links
    ])) most_bound
