-- What a list says of the root of a process, unless that is node 0.
use Rattle.std.specs.Prelude.{ℕ, ◌==◌, if◌then◌else◌, List, [], ◌∷◌, ◌++◌, codes}
use Rattle.pua_tree.specs.Tree.{Tree, is_dir}
use Rattle.pua_policy.specs.States.{ProcessState, root_dir}
use Rattle.pua_objects.specs.Roots.{is_enclosed}
use Rattle.pua_objects.specs.declared.roots.Shown.{Shown}
use Rattle.pua_objects.specs.declared.roots.Shown.TheVariants.{All, Below}
use Rattle.pua_why.specs.Texts.{dir_text}
use Rattle.pua_texts.specs.Lines.{with_end}

-- where it stands in the tree; `-` where it was removed
abbrev pub root_path : Tree → ℕ → List ℕ
root_path t root = if is_dir t root then dir_text t root else codes "-"

-- whether all paths of the process stay in it
abbrev pub root_word : Tree → ProcessState → List ℕ
root_word t h = if is_enclosed t h then codes "closed" else codes "open"

-- the same by what a list shows of a process whose root is not node 0
abbrev pub word_of : Shown → List ℕ
word_of All = codes "open"
word_of (Below root) = codes "closed"

abbrev pub root_line : Tree → ProcessState → List ℕ
root_line t h = if root_dir h == 0 then [] else with_end (codes "root " ++ root_path t (root_dir h) ++ 32 ∷ root_word t h)
