-- The list of a process, and those of several.
use Rattle.std.specs.Prelude.{ℕ, List, [], ◌++◌, flat_map}
use Rattle.std.specs.Option.{option_map_or}
use Rattle.pua_tree.specs.Tree.{Tree}
use Rattle.pua_calls.specs.Calls.{CallTable}
use Rattle.pua_calls.specs.declared.rules.Rules.{Rules}
use Rattle.pua_policy.specs.States.{ProcessState}
use Rattle.pua_script.specs.Replay.{World, kept_at}
use Rattle.pua_objects.specs.Objects.{Line, line_text}
use Rattle.pua_objects.specs.Roots.{shown_objects}
use Rattle.pua_texts.specs.States.{head_lines}
use Rattle.pua_texts.specs.Lines.{with_end}
use Rattle.pua_texts.specs.declared.state.Heading.{Heading}
use Rattle.pua_texts.specs.declared.state.Time.TheVariants.{Now, Before}

abbrev pub object_lines : Tree → List Line → List ℕ
object_lines t lines = flat_map (λ line. with_end (line_text t line)) lines

-- the list of a process: its heading, its state, and a line for each object on which it is allowed a call; where its paths can't leave
-- its root, for those at or below that
abbrev pub process_list : Heading → CallTable → Tree → ProcessState → List ℕ
process_list head table t h = head_lines t head h ++ object_lines t (shown_objects t table h)

-- the heading of a list of now
abbrev pub heading_now : Rules → ℕ → Heading
heading_now rules process = record { time = Now; rules = rules; number = process }

-- the heading of a list of what was allowed before the line of a script with this number
abbrev pub heading_before : ℕ → Rules → ℕ → Heading
heading_before line rules process = record { time = Before line; rules = rules; number = process }

-- a number that was never made has no list
abbrev pub object_list_of : Rules → CallTable → World → ℕ → List ℕ
object_list_of rules table w process =
    option_map_or (process_list (heading_now rules process) table w.tree) (kept_at w process) []

-- the same of what was allowed before a line
abbrev pub image_list_of : ℕ → Rules → CallTable → World → ℕ → List ℕ
image_list_of line rules table w process =
    option_map_or (process_list (heading_before line rules process) table w.tree) (kept_at w process) []

abbrev pub lists_of : Rules → CallTable → World → List ℕ → List ℕ
lists_of rules table w numbers = flat_map (object_list_of rules table w) numbers
