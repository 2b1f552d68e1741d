-- The live states: those to which words lead, and from which words with allowed calls go on.
use Rattle.std.specs.Prelude.{◌≡◌, ◌<◌, ◌≤◌, ◌^◌, ◌+◌, ◌-◌, ℕ, zero, suc, Bool, false, cond, ◌&&◌, ◌||◌, ◌==◌, nat_le, List}
use Rattle.std.specs.Prelude.{length, get_or, Option, Some, None, option_to_list, flat_map, filter_map}
use Rattle.std.specs.Int.{bit_at}
use Rattle.std.specs.List.{list_any}
use Rattle.pua_steps.specs.Limits.{most_links, most_bound}
use Rattle.pua_steps.specs.Graph.{Graph, below, some_pair}
use Rattle.pua_steps.specs.declared.state.State.{State}
use Rattle.pua_steps.specs.declared.visit.Visit.{Visit}
use Rattle.pua_steps.specs.Table.{entries_at}
use Rattle.pua_steps.specs.declared.steps.Entry.{Entry}
use Rattle.pua_steps.specs.declared.steps.Steps.{Steps}

abbrev pub states_behind : List Visit → List State
states_behind vs = filter_map (λ (v : Visit). v.behind) vs

-- the states to which the words of so many letters lead, one for each word
unfoldable pub states_after : (State → List Visit) → ℕ → Option State → List State
states_after g zero o = option_to_list o
states_after g (suc n) o = flat_map (λ s. states_behind (g s)) (states_after g n o)

abbrev pub is_same : State → State → Bool
is_same a b = (a.dir == b.dir) && (a.used == b.used)

abbrev pub is_among : State → List State → Bool
is_among s xs = list_any (is_same s) xs

-- words of n letters lead to it, and a word with an allowed call goes on from it, within the limit
abbrev pub is_live : Graph → ℕ → Option State → ℕ → State → Bool
is_live g limit o n s = is_among s (states_after (g 0) n o) && some_pair (below g (limit - n) (Some s))

-- the sum of the first n
abbrev pub total : (ℕ → ℕ) → ℕ → ℕ
total f zero = 0
total f (suc n) = total f n + f n

-- how many of n numbers pass
abbrev pub count : (ℕ → Bool) → ℕ → ℕ
count test n = total (λ i. cond (test i) 1 0) n

-- how many are live in so many directories, where fewer than m letters lead to them; each counts for each number of letters
abbrev pub live_count : Graph → ℕ → ℕ → Option State → ℕ → ℕ
live_count g dirs limit o m =
    total (λ n. total (λ d. count (λ u. is_live g limit o n (record { dir = d; used = u })) most_bound) dirs) m

-- sets of numbers of links as bits, one for each directory
abbrev pub has_state : List ℕ → ℕ → ℕ → Bool
has_state sets d u = bit_at (get_or sets d 0) u == 1

pub record AreSets (dirs : ℕ) (ss : List State) (sets : List ℕ) : Type 0 where
  pub many : length sets ≡ dirs
  pub small : (d : ℕ) → d < dirs → get_or sets d 0 < 2 ^ most_bound
  pub tells : (d u : ℕ) → d < dirs → u ≤ most_links → has_state sets d u ≡ is_among (record { dir = d; used = u }) ss

-- an entry leads from one of a set's numbers of links to a directory and a number of links
abbrev pub lands : Entry → ℕ → ℕ → ℕ → Bool
lands e set d u = elim e.to [ None ↦ false | Some to ↦ (to == d) && (nat_le e.links u && (bit_at set (u - e.links) == 1)) ]

abbrev pub lands_some : List Entry → ℕ → ℕ → ℕ → Bool
lands_some es set d u = list_any (λ e. lands e set d u) es

-- the same from the sets of the first directories
abbrev pub lands_from : Steps → List ℕ → ℕ → ℕ → ℕ → Bool
lands_from t sets zero d u = false
lands_from t sets (suc n) d u = lands_from t sets n d u || lands_some (entries_at t n) (get_or sets n 0) d u
