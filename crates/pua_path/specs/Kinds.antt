-- Kinds of nodes that end a path where they stand.
use Rattle.std.specs.Prelude.{Bool, true, false}
use Rattle.pua_tree.specs.declared.node.Kind.{Kind}
use Rattle.pua_tree.specs.declared.node.Kind.TheVariants as kinds

abbrev pub is_file : Kind → Bool
is_file kinds.File = true
is_file kinds.Prog = true
is_file (kinds.Known type) = true
is_file _ = false
