-- Rows of a table of steps while it is made.
use Rattle.std.specs.Prelude.{◌≡◌, ◌<◌, ◌≤◌, ◌^◌, ℕ, nat_eq, List, length, get_or, IfSome, IsTrue}
use Rattle.std.specs.List.{AllByRecursion, IsDistinct}
use Rattle.pua_tree.specs.Tree.{Tree, is_dir}
use Rattle.pua_audit.specs.Judge.{Judge}
use Rattle.pua_audit.specs.Table.{IsRowOf}
use Rattle.pua_steps.specs.Limits.{most_links, call_count}
use Rattle.pua_steps.specs.Table.{Rising}
use Rattle.pua_steps.specs.declared.steps.Entry.{Entry}

-- numbers of nodes, none of them twice
pub record AreNumbers (numbers : List ℕ) : Type 0 where
  pub apart : IsDistinct nat_eq numbers
  pub fit : AllByRecursion (λ n. n < 2 ^ 32) numbers

-- the directories keep their places, and others may come after them
pub record IsGrown (old new : List ℕ) : Type 0 where
  pub more : length old ≤ length new
  pub same : (d : ℕ) → d < length old → get_or new d 0 ≡ get_or old d 0

abbrev pub AreLiving : Tree → List ℕ → Type 0
AreLiving t dirs = AllByRecursion (λ d. IsTrue (is_dir t d)) dirs

-- an entry by the number of letters and of directories
pub record IsEntryFor (letters dirs : ℕ) (e : Entry) : Type 0 where
  pub letter : e.letter < letters
  pub kept : e.kept < 2 ^ call_count
  pub all : e.all < 2 ^ call_count
  pub more : e.all ≡ 0 → e.kept ≡ 0
  pub links : e.links ≤ most_links
  pub to : IfSome e.to (λ d. d < dirs)

-- the row of a directory, with its first n letters
pub record IsJudgedRow (w : Judge) (letters : List (List ℕ)) (dirs : List ℕ) (dir n missing : ℕ) (entries : List Entry) : Type 0 where
  pub told : IsRowOf w letters dirs dir n missing entries
  pub listed : AllByRecursion (λ e. IsEntryFor n (length dirs) e) entries
  pub rises : Rising 0 entries
  pub others : missing < 2 ^ call_count
