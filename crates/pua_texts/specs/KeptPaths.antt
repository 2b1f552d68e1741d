-- What is kept of a path from line to line.
use Rattle.std.specs.Prelude.{◌≡◌, ◌<◌, ◌≤◌, ℕ, List, get_or, length, take}
use Rattle.pua_tree.specs.Spelling.{spelling}
use Rattle.pua_audit.specs.Reach.{Word, from_root}

-- the text of a path's first names, and how long it is before each of them
pub record KeptPathState : Type 0 where
  pub text : List ℕ
  pub starts : List ℕ

-- so many names of a path as they are printed, each behind a slash
abbrev pub printed_front : ℕ → Word → List ℕ
printed_front n word = spelling (from_root (take n word))

-- what is kept is of this path
pub record IsKept (word : Word) (path : KeptPathState) : Type 0 where
  pub few : length path.starts ≤ length word
  pub text : path.text ≡ printed_front (length path.starts) word
  pub starts : (i : ℕ) → i < length path.starts → get_or path.starts i 0 ≡ length (printed_front i word)
