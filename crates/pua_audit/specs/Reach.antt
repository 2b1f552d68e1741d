-- Words over an alphabet, their paths and their order, and the pairs of word and call that are allowed.
use Rattle.std.specs.Prelude.{ℕ, zero, suc, Bool, List, [], ◌∷◌, ◌++◌, map, Option, Some, None, filter, flat_map, codes}
use Rattle.std.specs.declared.cmp.Ordering.{Ordering}
use Rattle.std.specs.Ordering.{nat_cmp, ordering_then, is_lt}
use Rattle.std.specs.Cmp.Lexicographic.{slice_cmp}
use Rattle.pua_tree.specs.Tree.{Tree, name_cmp, distinct_names}
use Rattle.pua_tree.specs.Spelling.{spelling}
use Rattle.pua_calls.specs.Calls.{CallTable, calls, call_number}
use Rattle.pua_policy.specs.States.{ProcessState}
use Rattle.pua_policy.specs.Verdict.{verdict_on, is_allowed}
use Rattle.pua_calls.specs.declared.call.Call.{Call}
use Rattle.pua_audit.specs.declared.base.Base.{Base}
use Rattle.pua_audit.specs.declared.base.Base.TheVariants.{Root, Cwd}

-- a letter is a name or two dots
abbrev pub Word : Type 0
Word = List (List ℕ)

abbrev pub Pair : Type 0
Pair = Word × Call

-- what is audited: a process, over a tree, by paths from a base with at most so many letters of an alphabet
pub record Scope : Type 0 where
  pub tree : Tree
  pub table : CallTable
  pub process : ProcessState
  pub base : Base
  pub alphabet : List (List ℕ)
  pub limit : ℕ

-- the names in the tree's rows, two dots and the candidates: distinct, ordered by bytes
abbrev pub alphabet_of : Tree → List (List ℕ) → List (List ℕ)
alphabet_of t candidates = distinct_names (codes ".." ∷ candidates ++ map (λ row. row.0.1) t.rows)

-- all words up to a length, each before its extensions
abbrev pub words : List (List ℕ) → ℕ → List Word
words alphabet zero = [] ∷ []
words alphabet (suc l) = [] ∷ flat_map (λ letter. map (λ word. letter ∷ word) (words alphabet l)) alphabet

abbrev pub from_root : Word → List ℕ
from_root [] = []
from_root (letter ∷ word) = 47 ∷ letter ++ from_root word

-- the path of a word: from the root a slash before each letter, from the working directory one between letters
abbrev pub path_of : Base → Word → List ℕ
path_of Root [] = codes "/"
path_of Root (letter ∷ word) = from_root (letter ∷ word)
path_of Cwd [] = codes "."
path_of Cwd (letter ∷ word) = letter ++ from_root word

-- the path as it is printed
abbrev pub printed_path : Base → Word → List ℕ
printed_path base word = spelling (path_of base word)

-- by letters, a word before its extensions, and then by the call's number
abbrev pub pair_cmp : Pair → Pair → Ordering
pair_cmp p q = ordering_then (slice_cmp name_cmp p.0 q.0) (nat_cmp (call_number p.1) (call_number q.1))

-- all pairs of a word and a call
abbrev pub pairs : List (List ℕ) → ℕ → List Pair
pairs alphabet limit = flat_map (λ word. map (λ call. (word, call)) calls) (words alphabet limit)

abbrev pub is_reached : Scope → Pair → Bool
is_reached s pair = is_allowed (verdict_on s.tree s.table s.process pair.1 (path_of s.base pair.0))

-- the pairs that are allowed
abbrev pub reach : Scope → List Pair
reach s = filter (is_reached s) (pairs s.alphabet s.limit)

-- those that come after a pair, or all of them
abbrev pub rest_after : Scope → Option Pair → List Pair
rest_after s None = reach s
rest_after s (Some pair) = filter (λ other. is_lt (pair_cmp pair other)) (reach s)
