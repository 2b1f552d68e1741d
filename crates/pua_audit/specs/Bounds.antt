-- How many looks at a tree an audit makes at most.
use Rattle.std.specs.Prelude.{ℕ, suc, ◌+◌, ◌*◌, List, [], length, Result, Ok, Err}
use Rattle.pua_tree.specs.Tree.{Tree}
use Rattle.pua_path.specs.Bounds.{part_cost}
use Rattle.pua_audit.specs.Begin.{candidates_from}
use Rattle.pua_audit.specs.Reach.{alphabet_of}
use Rattle.pua_audit.specs.declared.fault.AuditFault.{AuditFault}

-- what is found is judged
abbrev pub object_cost : Tree → ℕ
object_cost t = length t.nodes + 1

-- a letter in a directory: it is found, or followed and kept, and both times what is found is judged
abbrev pub letter_cost : Tree → ℕ
letter_cost t = 2 + 2 * (part_cost t + object_cost t)

-- the row of a directory: the names that it lacks are judged once
abbrev pub row_cost : Tree → ℕ → ℕ
row_cost t letters = object_cost t + letters * letter_cost t

-- all rows of the tree, and a row of the table for each directory
abbrev pub table_cost : Tree → ℕ → ℕ
table_cost t letters = suc (length t.nodes * row_cost t letters)

-- a table, and the base itself: whether it is there, and what is allowed on it
abbrev pub pairs_cost : Tree → ℕ → ℕ
pairs_cost t letters = table_cost t letters + (length t.nodes + 2)

-- one word: at most sixteen times what a step and a verdict cost
abbrev pub word_cost : Tree → ℕ
word_cost t = 16 * (part_cost t + (length t.nodes + 4))

-- a word for each letter, and one more, of each of the words in front of a word
abbrev pub layers_cost : Tree → ℕ → ℕ → ℕ
layers_cost t limit letters = suc limit * (suc letters * word_cost t)

-- what lies between two lines: the rest of each frame that is open, and one new frame a level
abbrev pub line_cost : Tree → ℕ → ℕ → ℕ
line_cost t limit letters = 2 * layers_cost t limit letters

-- all layers of states, each with at most 33 numbers of links a node, and one line
abbrev pub begin_cost : Tree → ℕ → ℕ → ℕ
begin_cost t limit letters = 33 * (length t.nodes * layers_cost t limit letters) + line_cost t limit letters

-- the names that candidates spell, and none where one of them spells none
abbrev pub names_or_none : Result (List (List ℕ)) AuditFault → List (List ℕ)
names_or_none (Ok names) = names
names_or_none (Err fault) = []

-- how many letters an audit has
abbrev pub letter_count : Tree → List (List ℕ) → ℕ
letter_count t texts = length (alphabet_of t (names_or_none (candidates_from 1 texts)))
