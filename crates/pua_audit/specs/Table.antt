-- What the rows of a table of steps say of the directories of a tree.
use Rattle.std.specs.Prelude.{◌≡◌, ◌<◌, ◌≤◌, ◌+◌, ◌==◌, ℕ, cond, nat_le, List, [], ◌∷◌, length, get_or, Option, Some, None, option_map}
use Rattle.pua_path.specs.Limits.{most_links}
use Rattle.pua_calls.specs.CallSets.{bit_of}
use Rattle.pua_calls.specs.declared.call.Call.{Call}
use Rattle.pua_audit.specs.Judge.{Judge, Below}
use Rattle.pua_audit.specs.Graphs.{IsKnown, HasJudgedVisits}
use Rattle.pua_steps.specs.Calls.{has_call}
use Rattle.pua_steps.specs.Table.{IsTable, entries_at, missing_at, graph_of}
use Rattle.pua_steps.specs.declared.state.State.{State}
use Rattle.pua_steps.specs.declared.steps.Entry.{Entry}
use Rattle.pua_steps.specs.declared.steps.Steps.{Steps}

-- a letter in a directory: the calls where its links may be followed, those where they may not, how many they are, and
-- the directory to which it leads
pub record IsLetter (w : Judge) (dir : ℕ) (letter : List ℕ) (all kept links : ℕ) (leads : Option ℕ) : Type 0 where
  pub own : (used : ℕ) (call : Call) → used ≤ most_links →
      w.own (Below (record { dir = dir; used = used }) letter) call ≡ has_call (cond (nat_le (used + links) most_links) all kept)
      (bit_of call)
  pub step : (used : ℕ) → used ≤ most_links →
      w.step (Below (record { dir = dir; used = used }) letter) ≡ cond (nat_le (used + links) most_links)
      (option_map (λ d. record { dir = d; used = used + links }) leads) None

-- the entry of a letter, if it has one
abbrev pub entry_with_letter : ℕ → List Entry → Option Entry
entry_with_letter i [] = None
entry_with_letter i (e ∷ es) = cond (e.letter == i) (Some e) (entry_with_letter i es)

-- a letter by its entry, or by the calls on letters without entries
abbrev pub IsLetterTold : Judge → List ℕ → ℕ → List ℕ → ℕ → Option Entry → Type 0
IsLetterTold w names dir letter missing None = IsLetter w dir letter missing missing 0 None
IsLetterTold w names dir letter missing (Some e) = IsLetter w dir letter e.all e.kept e.links (option_map (λ d. get_or names d 0) e.to)

-- the first letters of an alphabet, in a directory
abbrev pub IsRowOf : Judge → List (List ℕ) → List ℕ → ℕ → ℕ → ℕ → List Entry → Type 0
IsRowOf w letters names dir n missing entries = (i : ℕ) → i < n →
    IsLetterTold w names dir (get_or letters i []) missing (entry_with_letter i entries)

-- a row for each of some directories, by their numbers
pub record IsTableOf (w : Judge) (letters : List (List ℕ)) (names : List ℕ) (t : Steps) : Type 0 where
  pub many : t.letters ≡ length letters
  pub dirs : length t.rows.items ≡ length names
  pub table : IsTable t
  pub rows : (d : ℕ) → d < length names → IsRowOf w letters names (get_or names d 0) (length letters) (missing_at t d) (entries_at t d)

-- the graph of such a table has in each state what the judge gives it
abbrev pub TablesStand : Type 0
TablesStand = (w : Judge) (letters : List (List ℕ)) (names : List ℕ) (t : Steps) → IsTableOf w letters names t → (s : State) →
    IsKnown names s → HasJudgedVisits w letters names (graph_of t 0) (IsKnown names) s
