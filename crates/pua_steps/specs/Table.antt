-- The graph that a table of steps is.
use Rattle.std.specs.Prelude.{◌≡◌, ◌<◌, ◌≤◌, ◌^◌, ℕ, suc, ◌+◌, ◌-◌, Bool, false, not, ◌&&◌, cond, nat_lt, nat_le, ◌==◌, List, [], ◌∷◌, ◌++◌, map}
use Rattle.std.specs.Prelude.{length, get_or, Option, Some, None, option_map, IfSome, ⊤}
use Rattle.std.specs.List.{range_with_len, AllByRecursion}
use Rattle.pua_steps.specs.Limits.{most_links, call_count}
use Rattle.pua_steps.specs.Graph.{Graph}
use Rattle.pua_steps.specs.declared.state.State.{State}
use Rattle.pua_steps.specs.declared.visit.Visit.{Visit}
use Rattle.pua_steps.specs.declared.steps.Entry.{Entry}
use Rattle.pua_steps.specs.declared.steps.Row.{Row}
use Rattle.pua_steps.specs.declared.steps.Steps.{Steps}

abbrev pub entries_in : Row → List Entry
entries_in r = r.entries.items

abbrev pub missing_in : Row → ℕ
missing_in r = r.missing

-- the entries of a directory, and the calls on its other letters
abbrev pub entries_at : Steps → ℕ → List Entry
entries_at t d = get_or (map entries_in t.rows.items) d []

abbrev pub missing_at : Steps → ℕ → ℕ
missing_at t d = get_or (map missing_in t.rows.items) d 0

-- a letter with an entry, where so many links were followed before: at most `most_links` are followed in all
unfoldable pub visit_of : ℕ → Entry → Visit
visit_of used e = cond (nat_le (used + e.links) most_links)
    (record { letter = e.letter; calls = e.all; behind = option_map (λ to. record { dir = to; used = used + e.links }) e.to })
    (record { letter = e.letter; calls = e.kept; behind = None })

abbrev pub missing_visit : ℕ → ℕ → Visit
missing_visit missing letter = record { letter = letter; calls = missing; behind = None }

abbrev pub first_of : List Entry → Option Entry
first_of [] = None
first_of (e ∷ es) = Some e

-- the entry, if it has the letter
abbrev pub with_letter : ℕ → Option Entry → Option Entry
with_letter a None = None
with_letter a (Some e) = cond (e.letter == a) (Some e) None

-- whether there is an entry, and of a letter before this one
abbrev pub is_before : ℕ → Option Entry → Bool
is_before a None = false
is_before a (Some e) = nat_lt e.letter a

-- the letter of an entry, or the number of all letters
abbrev pub end_of : ℕ → Option Entry → ℕ
end_of letters None = letters
end_of letters (Some e) = e.letter

-- whether calls are allowed on letters without entries, and one of them is the next
abbrev pub has_gap : ℕ → ℕ → ℕ → Bool
has_gap missing next end = not (missing == 0) && nat_lt next end

-- so many letters without entries
unfoldable pub gap : ℕ → ℕ → ℕ → List Visit
gap missing next n = cond (missing == 0) [] (map (missing_visit missing) (range_with_len next n))

-- the letters from one on: those with entries, and between them the others if a call is allowed on them
unfoldable pub visits_from : ℕ → ℕ → ℕ → ℕ → List Entry → List Visit
visits_from letters missing used next [] = gap missing next (letters - next)
visits_from letters missing used next (e ∷ es) =
    gap missing next (e.letter - next) ++ visit_of used e ∷ visits_from letters missing used (suc e.letter) es

unfoldable pub graph_of : Steps → Graph
graph_of t l s = visits_from t.letters (missing_at t s.dir) s.used 0 (entries_at t s.dir)

-- a directory of the table, and no more links than may be followed
pub record IsState (t : Steps) (s : State) : Type 0 where
  pub dir : s.dir < length t.rows.items
  pub used : s.used ≤ most_links

pub record IsEntry (t : Steps) (e : Entry) : Type 0 where
  pub letter : e.letter < t.letters
  pub fits : e.letter + 1 < 2 ^ 64
  pub kept : e.kept < 2 ^ call_count
  pub all : e.all < 2 ^ call_count
  pub more : e.all ≡ 0 → e.kept ≡ 0
  pub links : e.links ≤ most_links
  pub to : IfSome e.to (λ d. d < length t.rows.items)

-- entries come in the order of their letters
abbrev pub Rising : ℕ → List Entry → Type 0
Rising next [] = ⊤
Rising next (e ∷ es) = (next ≤ e.letter) × Rising (suc e.letter) es

pub record IsRow (t : Steps) (es : List Entry) (m : ℕ) : Type 0 where
  pub entries : AllByRecursion (λ e. IsEntry t e) es
  pub rises : Rising 0 es
  pub missing : m < 2 ^ call_count

abbrev pub IsTable : Steps → Type 0
IsTable t = (d : ℕ) → d < length t.rows.items → IsRow t (entries_at t d) (missing_at t d)

pub record IsVisit (t : Steps) (v : Visit) : Type 0 where
  pub letter : v.letter < t.letters
  pub calls : v.calls < 2 ^ call_count
  pub behind : IfSome v.behind (λ s. IsState t s)
