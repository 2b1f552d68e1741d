-- The path of a word in a buffer, and where its letters begin.
use Rattle.std.specs.Prelude.{◌≡◌, ◌≤◌, ℕ, suc, ◌+◌, List, [], ◌∷◌, length, take, if◌then◌else◌}
use Rattle.std.specs.List.{list_all}
use Rattle.pua_tree.specs.Spelling.{is_plain}
use Rattle.pua_audit.specs.Reach.{Word, from_root}
use Rattle.pua_audit.specs.Ready.{word_of}
use Rattle.pua_audit.specs.declared.path.WordPath.{WordPath}

-- where the slash before each letter stands, from a place on
abbrev pub starts_of : ℕ → Word → List ℕ
starts_of n [] = []
starts_of n (a ∷ word) = n ∷ starts_of (suc (n + length a)) word

-- how many letters at the front have only bytes that stand for themselves
abbrev pub plain_front : Word → ℕ
plain_front [] = 0
plain_front (a ∷ word) = if list_all is_plain a then suc (plain_front word) else 0

pub record IsPathOf (word : Word) (p : WordPath) : Type 0 where
  pub bytes : p.bytes.items ≡ from_root word
  pub starts : p.starts.items ≡ starts_of 0 word
  pub plain : p.plain ≡ plain_front word

-- the path of the first letters of a word, by places of the alphabet
pub record IsPathAlong (letters : List (List ℕ)) (word : List ℕ) (p : WordPath) : Type 0 where
  pub few : length p.starts.items ≤ length word
  pub path : IsPathOf (word_of letters (take (length p.starts.items) word)) p
