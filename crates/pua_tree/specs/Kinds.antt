-- The kinds of nodes, and what is said of each.
use Rattle.std.specs.Prelude.{ℕ, List, codes}
use Rattle.pua_tree.specs.declared.node.Kind.{Kind}
use Rattle.pua_tree.specs.declared.node.Kind.TheVariants.{Dir, File, Prog, Link, Known}
use Rattle.pua_tree.specs.declared.node.FileType.TheVariants.{Plain, Sock, Fifo, Dev}

-- what is said of a kind, in one place: its number, and its word in lists and reasons, which is a listing's too but for a file of which
-- no more is known where the listing knows types
pub record AboutKind : Type 0 where
  pub number : ℕ
  pub word : List ℕ

abbrev pub about_kind : Kind → AboutKind
about_kind Dir = record { number = 0; word = codes "dir" }
about_kind File = record { number = 1; word = codes "file" }
about_kind Prog = record { number = 2; word = codes "prog" }
about_kind Link = record { number = 3; word = codes "link" }
about_kind (Known Plain) = record { number = 4; word = codes "file" }
about_kind (Known Sock) = record { number = 5; word = codes "sock" }
about_kind (Known Fifo) = record { number = 6; word = codes "fifo" }
about_kind (Known Dev) = record { number = 7; word = codes "dev" }

-- how many there are
abbrev pub kind_count : ℕ
kind_count = 8
