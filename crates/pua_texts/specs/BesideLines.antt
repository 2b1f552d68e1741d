-- The list for ever of a process with the help of others.
use Rattle.std.specs.Prelude.{ℕ, List, [], ◌∷◌, ◌++◌, codes, decimal, if◌then◌else◌, map}
use Rattle.pua_tree.specs.Tree.{Tree}
use Rattle.pua_calls.specs.declared.rules.Rules.{Rules}
use Rattle.pua_policy.specs.States.{ProcessState, is_ended}
use Rattle.pua_objects.specs.Objects.{with_commas}
use Rattle.pua_ever.specs.Ever.{EverLine}
use Rattle.pua_ever.specs.declared.lasting_list.ExecBound.{ExecBound}
use Rattle.pua_texts.specs.EverLines.{ever_lines}
use Rattle.pua_texts.specs.Lines.{with_end}
use Rattle.pua_texts.specs.RootLines.{root_line}
use Rattle.pua_texts.specs.States.{exec_line, held_lines, kept_lines, openings_told, receives_told, unveiled_line}
use Rattle.pua_texts.specs.declared.state.Time.TheVariants.{Ever}

-- a process, the others with whose help it acts, each with its number, what it says of execs of its own, and what all of them say together
pub record Beside : Type 0 where
  pub number : ℕ
  pub process : ProcessState
  pub others : List (ℕ × ProcessState)
  pub own : ExecBound
  pub execs : ExecBound

-- the heading has the number of the process, and those of the others, if there are some
abbrev pub others_text : List (ℕ × ProcessState) → List ℕ
others_text [] = []
others_text (other ∷ more) = codes " beside " ++ with_commas (map (λ member. decimal member.0) (other ∷ more))

abbrev pub beside_heading : Beside → List ℕ
beside_heading b = with_end (codes "ever " ++ decimal b.number ++ others_text b.others)

-- what becomes of the list at an exec of one of them, that the process can still receive files, the line of its root, what promises open
-- to it by themselves, and that it has no veil
abbrev pub beside_bounds : Rules → List ℕ → Beside → List ℕ
beside_bounds rules root b =
    exec_line b.execs ++ receives_told rules (Ever b.own) b.process ++ root ++ openings_told rules (Ever b.own) b.process ++ unveiled_line b.process

-- the state of the process, as in the list of one alone but for what it says of execs
abbrev pub beside_living : Rules → List ℕ → Beside → List ℕ
beside_living rules root b = with_end (codes "process alive") ++ held_lines rules b.process ++ beside_bounds rules root b

abbrev pub beside_own : Rules → List ℕ → Beside → List ℕ
beside_own rules root b = if is_ended b.process then with_end (codes "process ended") else beside_living rules root b

-- the list for ever of a process with the help of others: its heading, its state, its veils, what it has open, and these lines
abbrev pub beside_list : Rules → Tree → Beside → List EverLine → List ℕ
beside_list rules t b lines =
    ((beside_heading b ++ beside_own rules (root_line t b.process) b) ++ kept_lines t b.process) ++ ever_lines t lines
