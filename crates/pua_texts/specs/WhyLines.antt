-- The list of a process with reasons, and those of several.
use Rattle.std.specs.Prelude.{ℕ, List, [], ◌++◌, flat_map}
use Rattle.std.specs.Option.{option_map_or}
use Rattle.pua_tree.specs.Tree.{Tree}
use Rattle.pua_calls.specs.Calls.{CallTable}
use Rattle.pua_calls.specs.declared.rules.Rules.{Rules}
use Rattle.pua_policy.specs.States.{ProcessState}
use Rattle.pua_policy.specs.Reasons.{covering}
use Rattle.pua_policy.specs.declared.reason.Covering.{Covering}
use Rattle.pua_script.specs.Requests.{Asked}
use Rattle.pua_script.specs.Replay.{World, kept_at, world_after}
use Rattle.pua_objects.specs.Objects.{Line, Subject, At, Others, line_text}
use Rattle.pua_objects.specs.Roots.{shown_objects}
use Rattle.pua_why.specs.Columns.{columns, covering_in}
use Rattle.pua_texts.specs.States.{head_lines}
use Rattle.pua_texts.specs.Lines.{with_end}
use Rattle.pua_texts.specs.ObjectLines.{heading_now}
use Rattle.pua_texts.specs.declared.state.Heading.{Heading}

-- the table of calls, the world before a script, and its requests
pub record ServedScript : Type 0 where
  pub table : CallTable
  pub world : World
  pub asks : List Asked

-- the world that the script leaves
abbrev pub world_left : ServedScript → World
world_left p = world_after p.table p.world p.asks

-- what covers what a line is about
abbrev pub covering_of : Tree → ProcessState → Subject → Covering
covering_of t h (At object) = covering t h object
covering_of t h (Others dir) = covering_in t h dir

abbrev pub why_line : ServedScript → ℕ → ProcessState → Line → List ℕ
why_line p process h line =
    with_end (line_text (world_left p).tree line ++ columns p.table p.world p.asks process h line.calls
    (covering_of (world_left p).tree h line.subject))

-- the list of a process with reasons: its heading, its state, and a line for each object that its list without reasons has
abbrev pub why_list : Heading → ServedScript → ProcessState → List ℕ
why_list head p h =
    head_lines (world_left p).tree head h ++ flat_map (why_line p head.number h) (shown_objects (world_left p).tree p.table h)

-- a number that was never made has no list
abbrev pub why_list_of : Rules → ServedScript → ℕ → List ℕ
why_list_of rules p process = option_map_or (why_list (heading_now rules process) p) (kept_at (world_left p) process) []

abbrev pub why_lists_of : Rules → ServedScript → List ℕ → List ℕ
why_lists_of rules p numbers = flat_map (why_list_of rules p) numbers
