-- What a bound and a list say of an entry.
use Rattle.std.specs.Prelude.{◌≡◌, ◌≢◌, ◌≤◌, ℕ, Bool, true, false, nat_lt, ◌++◌, ◌⊎◌}
use Rattle.pua_steps.specs.Calls.{calls_of}
use Rattle.pua_steps.specs.Graph.{Graph, alone, below, some_pair}
use Rattle.pua_steps.specs.Limits.{most_links}
use Rattle.pua_steps.specs.Live.{IsSized, bound_of}
use Rattle.pua_steps.specs.Lists.{is_useful}
use Rattle.pua_steps.specs.Table.{IsEntry, IsTable, graph_of, visit_of}
use Rattle.pua_steps.specs.declared.visit.Visit.{Visit}
use Rattle.pua_steps.specs.declared.steps.Entry.{Entry}
use Rattle.pua_steps.specs.declared.steps.Steps.{Steps}
use Rattle.pua_steps.specs.declared.live.Live as table

-- whether a call is allowed on a letter, or on a word that goes on from it by at most l letters
abbrev pub gives : Graph → ℕ → Visit → Bool
gives g l v = some_pair (alone (calls_of v.calls) ++ below g l v.behind)

-- an entry of a table whose live states are known for words up to the limit, where at most l letters may come after it
pub record IsAmong (t : Steps) (v : table.Live) (limit l : ℕ) (e : Entry) : Type 0 where
  pub table : IsTable t
  pub sized : IsSized t v limit
  pub entry : IsEntry t e
  pub left : l ≤ limit

-- the bound of an entry is above just those numbers of links followed before with which it gives something. An entry is
-- useful in a directory where calls are allowed on letters without entries, and else just if it gives something after
-- some number of links
pub record EntriesTell : Type 0 where
  pub bound : (t : Steps) (v : table.Live) (limit l u : ℕ) (e : Entry) → IsAmong t v limit l e → u ≤ most_links →
      nat_lt u (bound_of v.bounds.items v.dirs l e) ≡ gives (graph_of t) l (visit_of u e)
  pub useful : (t : Steps) (v : table.Live) (limit l missing : ℕ) (e : Entry) → IsAmong t v limit l e →
      is_useful missing v.bounds.items v.dirs l e ≡ true
      → (missing ≢ 0) ⊎ ((u : ℕ) × ((u ≤ most_links) × (gives (graph_of t) l (visit_of u e) ≡ true)))
  pub useless : (t : Steps) (v : table.Live) (limit l missing : ℕ) (e : Entry) → IsAmong t v limit l e →
      is_useful missing v.bounds.items v.dirs l e ≡ false
      → (missing ≡ 0) × ((u : ℕ) → u ≤ most_links → gives (graph_of t) l (visit_of u e) ≡ false)
