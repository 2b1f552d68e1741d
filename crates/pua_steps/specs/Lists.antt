-- The lists that a walk reads: the entries of a directory whose letters may give something.
use Rattle.std.specs.Prelude.{◌≡◌, ◌<◌, ◌≤◌, ℕ, ◌+◌, Bool, not, ◌||◌, ◌==◌, List, ◌++◌, filter, take, drop, length, get_or}
use Rattle.std.specs.List.{AllByRecursion}
use Rattle.pua_steps.specs.Graph.{Graph}
use Rattle.pua_steps.specs.Table.{IsState, IsEntry, Rising, visits_from, entries_at, missing_at}
use Rattle.pua_steps.specs.Live.{bound_of}
use Rattle.pua_steps.specs.declared.visit.Visit.{Visit}
use Rattle.pua_steps.specs.declared.frame.Frame.{Frame}
use Rattle.pua_steps.specs.declared.steps.Entry.{Entry}
use Rattle.pua_steps.specs.declared.steps.Steps.{Steps}
use Rattle.pua_steps.specs.declared.live.Live as table
use Rattle.pua_steps.specs.declared.lists.Span.{Span}
use Rattle.pua_steps.specs.declared.lists.Lists.{Lists}

-- an entry is left out where, whatever links were followed before, no call is allowed on its letter and no word goes on
-- from it. Where calls are allowed on letters without entries none is left out, since its letter would be taken for one
-- of these. This is said by the bounds, as the lists are made; `Telling` says it by what is allowed
abbrev pub is_useful : ℕ → List ℕ → ℕ → ℕ → Entry → Bool
is_useful missing bounds dirs left e = not (missing == 0) || not (bound_of bounds dirs left e == 0)

-- the list of a directory where at most l letters may come after its own
unfoldable pub list_of : Steps → table.Live → ℕ → ℕ → List Entry
list_of t v l d = filter (is_useful (missing_at t d) v.bounds.items v.dirs l) (entries_at t d)

-- the graph of the lists
unfoldable pub narrow_of : Steps → table.Live → Graph
narrow_of t v l s = visits_from t.letters (missing_at t s.dir) s.used 0 (list_of t v l s.dir)

-- the entries from one place on and before another
abbrev pub within : List Entry → ℕ → ℕ → List Entry
within es place end = drop place (take end es)

-- where the list of a layer and directory stands
abbrev pub span_of : Lists → ℕ → ℕ → Span
span_of ls l d = get_or ls.spans.items (get_or ls.layers.items l 0 + d) (record { place = 0; end = 0 })

pub record IsListAt (es : List Entry) (s : Span) (list : List Entry) : Type 0 where
  pub order : s.place ≤ s.end
  pub inside : s.end ≤ length es
  pub same : within es s.place s.end ≡ list

-- the lists where at most l letters may come after a letter
pub record IsLayer (t : Steps) (v : table.Live) (ls : Lists) (l : ℕ) : Type 0 where
  pub runs : get_or ls.layers.items l 0 + length t.rows.items ≤ length ls.spans.items
  pub stand : (d : ℕ) → d < length t.rows.items → IsListAt ls.entries.items (span_of ls l d) (list_of t v l d)

-- the lists of so many layers
pub record AreListsOf (t : Steps) (v : table.Live) (n : ℕ) (ls : Lists) : Type 0 where
  pub known : AllByRecursion (λ e. IsEntry t e) ls.entries.items
  pub many : length ls.layers.items ≡ n
  pub layers : (l : ℕ) → l < n → IsLayer t v ls l

-- a list that goes on from another
pub record IsLonger (A : Type 0) (xs ys : List A) : Type 0 where
  pub more : List A
  pub parts : ys ≡ xs ++ more

-- what an open state has left
unfoldable pub rest_of : Steps → Lists → Frame → List Visit
rest_of t ls f = visits_from t.letters (missing_at t f.state.dir) f.state.used f.next (within ls.entries.items f.place f.end)

-- the entries that are left come after the letters that were tried
pub record IsOpen (t : Steps) (ls : Lists) (f : Frame) : Type 0 where
  pub state : IsState t f.state
  pub inside : f.end ≤ length ls.entries.items
  pub rises : Rising f.next (within ls.entries.items f.place f.end)
