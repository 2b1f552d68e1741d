-- The next number of a tree, and its room, apart from what it holds.
use Rattle.std.specs.Prelude.{ℕ}
use Rattle.pua_tree.specs.declared.numbering.Numbering.{Numbering}

-- with another next number
abbrev pub with_next : Numbering → ℕ → Numbering
with_next numbering next = record numbering { next = next }
