-- What stands before the lines of a list, as the code has it.
use Rattle.std.specs.Prelude.{ℕ, List, ◌++◌}
use Rattle.pua_tree.specs.Tree.{Tree}
use Rattle.pua_policy.specs.States.{ProcessState}
use Rattle.pua_policy.specs.declared.place.Place.{Place}
use Rattle.pua_texts.specs.FileLines.{files_lines}
use Rattle.pua_texts.specs.RootLines.{root_line}
use Rattle.pua_texts.specs.States.{heading_line, own_lines, living_veils}
use Rattle.pua_texts.specs.declared.state.Heading.{Heading}

-- the heading of a list with the first lines of the state, the veils, and the lines of what is open
pub record HeadState : Type 0 where
  pub text : List ℕ
  pub veils : List (Place × ℕ)
  pub files : List ℕ

-- the heading and the state of a process
abbrev pub head_of : Tree → Heading → ProcessState → HeadState
head_of t heading h =
    record { text = heading_line heading ++ own_lines heading (root_line t h) h; veils = living_veils h; files = files_lines t h }
