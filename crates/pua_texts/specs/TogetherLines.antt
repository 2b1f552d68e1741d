-- The list for ever of several processes together.
use Rattle.std.specs.Prelude.{ℕ, not, List, [], ◌∷◌, ◌++◌, Option, Some, None, codes, decimal, filter, flat_map, if◌then◌else◌, map}
use Rattle.pua_tree.specs.Tree.{Tree}
use Rattle.pua_calls.specs.Calls.{CallTable}
use Rattle.pua_calls.specs.declared.rules.Rules.{Rules}
use Rattle.pua_policy.specs.States.{ProcessState, is_ended, veils}
use Rattle.pua_objects.specs.Objects.{with_commas}
use Rattle.pua_ever.specs.ShownForEver.{shown_lasting, execs_shown}
use Rattle.pua_ever.specs.Together.{joined}
use Rattle.pua_texts.specs.EverLines.{ever_lines}
use Rattle.pua_texts.specs.FileLines.{files_lines}
use Rattle.pua_texts.specs.RootLines.{root_line}
use Rattle.pua_texts.specs.Lines.{with_end}
use Rattle.pua_texts.specs.States.{bound_lines, held_lines, veil_lines}
use Rattle.pua_texts.specs.declared.state.Time.TheVariants.{Ever}

-- the heading has the numbers of the processes, which are given with their processes
abbrev pub together_heading : List (ℕ × ProcessState) → List ℕ
together_heading members = with_end (codes "ever " ++ with_commas (map (λ member. decimal member.0) members))

-- the state of a process as of one alone, down to whether it may put veils, but with its number, its root, and what it has open; an ended
-- one has one line
abbrev pub member_lines : Rules → Tree → ℕ × ProcessState → List ℕ
member_lines rules t member =
    if is_ended member.1 then with_end (codes "process " ++ decimal member.0 ++ codes " ended")
    else with_end (codes "process " ++ decimal member.0 ++ codes " alive") ++ held_lines rules member.1 ++ root_line t member.1
    ++ files_lines t member.1

-- those that live
abbrev pub living : List (ℕ × ProcessState) → List (ℕ × ProcessState)
living members = filter (λ member. not (is_ended member.1)) members

-- the one that stands for these, if there are some
abbrev pub one_for : CallTable → List (ℕ × ProcessState) → Option ProcessState
one_for table [] = None
one_for table (first ∷ more) = Some (joined table first.1 (map (λ member. member.1) more))

-- the one that stands for those that live
abbrev pub one_of : CallTable → List (ℕ × ProcessState) → Option ProcessState
one_of table members = one_for table (living members)

-- what is told once of all: what becomes of the list at an exec, that files can still be received, what promises open by themselves,
-- and the veils; and then a line for each thing that they and what they fork can ever touch together
abbrev pub joint_list : Rules → CallTable → Tree → Option ProcessState → List ℕ
joint_list rules table t None = []
joint_list rules table t (Some one) =
    (bound_lines rules (Ever (execs_shown t table one)) [] one ++ veil_lines t (veils one)) ++ ever_lines t (shown_lasting t table one)

-- the list of what several processes can ever touch together: its heading, the state of each of them, and the list of the one
-- that stands for those that live; where none lives, the states are all
abbrev pub together_list : Rules → CallTable → Tree → List (ℕ × ProcessState) → List ℕ
together_list rules table t members =
    (together_heading members ++ flat_map (member_lines rules t) members) ++ joint_list rules table t (one_of table members)
