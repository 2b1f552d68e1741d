-- The text of the lists of processes, and what refuses it.
use Rattle.std.specs.Prelude.{ℕ, List, [], ◌∷◌, ◌++◌, if◌then◌else◌, is_some, Option, Result, Ok, Err}
use Rattle.std.specs.List.{list_all}
use Rattle.std.specs.FinMap.{put}
use Rattle.std.specs.Map.{keys_of}
use Rattle.std.specs.Ordering.{nat_cmp}
use Rattle.pua_tree.specs.Steps.{◌>>=◌}
use Rattle.pua_calls.specs.Calls.{CallTable}
use Rattle.pua_calls.specs.declared.rules.Rules.{Rules}
use Rattle.pua_script.specs.Replay.{World, kept_at}
use Rattle.pua_why.specs.Openings.{ToldAnswer}
use Rattle.pua_words.specs.declared.command.Processes.{Processes}
use Rattle.pua_words.specs.declared.command.Processes.TheVariants.{One, Named, All}
use Rattle.pua_tool.specs.Texts.{Chosen, Replayed, replay_of}
use Rattle.pua_texts.specs.Lines.{answer_lines}
use Rattle.pua_tool.specs.declared.fault.ToolFault.{ToolFault}
use Rattle.pua_tool.specs.declared.fault.ToolFault.TheVariants.{NoProcess}
use Rattle.pua_texts.specs.ObjectLines.{lists_of}

-- entries in the order of their numbers
abbrev pub in_order : {X : Type 0} → List (ℕ × X) → List (ℕ × X)
in_order [] = []
in_order (made ∷ more) = put nat_cmp made.0 made.1 (in_order more)

-- the numbers of all processes that were ever made, in ascending order
abbrev pub numbers_of : World → List ℕ
numbers_of w = keys_of (in_order w.processes)

-- these numbers, if all were made
abbrev pub numbers_made : World → List ℕ → Result (List ℕ) ToolFault
numbers_made w numbers = if list_all (λ process. is_some (kept_at w process)) numbers then Ok numbers else Err NoProcess

-- the numbers that are asked for, if they were made; or those of all
abbrev pub numbers_asked : World → Processes → Result (List ℕ) ToolFault
numbers_asked w (One process) = numbers_made w (process ∷ [])
numbers_asked w (Named numbers) = numbers_made w numbers.items
numbers_asked w All = Ok (numbers_of w)

-- the answers, and then the lists
abbrev pub objects_after : Rules → CallTable → List (Option ToldAnswer) → World → List ℕ → List ℕ
objects_after rules table answers w numbers = answer_lines 1 answers ++ lists_of rules table w numbers

-- the answers, and then the lists of the processes that are asked for, or why there are none
abbrev pub lists_asked : Rules → Replayed → Processes → Result (List ℕ) ToolFault
lists_asked rules done which =
    numbers_asked done.world which >>= λ numbers. Ok (objects_after rules done.table done.answers done.world numbers)

-- the lists of processes at the end of a script over a listing, or the first fault: the table's, the listing's, the
-- script's, or a process never made
unfoldable pub objects_text : Chosen → List ℕ → List ℕ → Processes → Result (List ℕ) ToolFault
objects_text choice tree_bytes script_bytes which = replay_of choice tree_bytes script_bytes >>= λ done. lists_asked choice.rules done which
