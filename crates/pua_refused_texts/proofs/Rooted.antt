-- What a list shows of a small tree.
use Rattle.std.proofs.Common.{[], ◌∷◌, None, false}
use Rattle.std.specs.Prelude.{codes}
use Rattle.pua_tree.specs.Tree.{Tree, Node, empty_tree}
use Rattle.pua_tree.specs.declared.node.Kind.TheVariants.{Dir}
use Rattle.pua_policy.specs.States.{ProcessState, new_process}

abbrev directory : Node
directory = record { kind = Dir; target = None; mount = false }

-- a root with a directory below it
abbrev pub root_tree : Tree
root_tree = record empty_tree {
  rows = ((0, codes "a"), 1) ∷ ((1, codes "b"), 2) ∷ [];
  nodes = (0, directory) ∷ (1, directory) ∷ (2, directory) ∷ [];
  next = 3;
}

-- a process whose root is that directory
abbrev pub rooted : ProcessState
rooted = record new_process { start = record { root = 1; dir = 0 } }
