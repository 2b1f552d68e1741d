-- The text of the lists of processes with what they were before each program that they started.
use Rattle.std.specs.Prelude.{ℕ, suc, Bool, ◌&&◌, List, [], ◌∷◌, ◌++◌, Result, Ok, if◌then◌else◌}
use Rattle.pua_tree.specs.Steps.{◌>>=◌}
use Rattle.pua_calls.specs.Calls.{CallTable}
use Rattle.pua_calls.specs.declared.rules.Rules.{Rules}
use Rattle.pua_script.specs.Family.{is_exec, is_member, is_okay}
use Rattle.pua_script.specs.Replay.{World, apply}
use Rattle.pua_script.specs.Requests.{Asked}
use Rattle.pua_script.specs.declared.answer.Answer.{Answer}
use Rattle.pua_why.specs.Openings.{told_to}
use Rattle.pua_words.specs.declared.command.Processes.{Processes}
use Rattle.pua_texts.specs.Lines.{answer_lines}
use Rattle.pua_texts.specs.ObjectLines.{image_list_of, lists_of}
use Rattle.pua_texts.specs.WhyLines.{ServedScript, world_left}
use Rattle.pua_tool.specs.ObjectTexts.{numbers_asked}
use Rattle.pua_tool.specs.Texts.{Chosen}
use Rattle.pua_tool.specs.WhyTexts.{served_script}
use Rattle.pua_tool.specs.declared.fault.ToolFault.{ToolFault}

-- one of these processes starts a program, and so is replaced
abbrev pub is_replaced : List ℕ → Asked → Answer → Bool
is_replaced numbers ask answer = is_exec ask.action && (is_okay answer && is_member numbers ask.process)

-- the list of a process as it was before a line, if it is replaced there
abbrev pub image_if : Bool → List ℕ → List ℕ
image_if replaced image = if replaced then image else []

-- for each of these requests by which one of the processes is replaced, the list of that process as it was before; the next request
-- is on line n
abbrev pub images_from : Rules → CallTable → World → List ℕ → ℕ → List Asked → List ℕ
images_from rules table w numbers n [] = []
images_from rules table w numbers n (ask ∷ asks) =
    let done : Answer × World = apply table w ask in
    image_if (is_replaced numbers ask done.0) (image_list_of n rules table w ask.process)
    ++ images_from rules table done.1 numbers (suc n) asks

-- the answers, the lists of what these processes were, in the order of lines, and then the lists of now
abbrev pub images_after : Rules → ServedScript → List ℕ → List ℕ
images_after rules p numbers =
    (answer_lines 1 (told_to p.table p.world p.asks) ++ images_from rules p.table p.world numbers 1 p.asks)
    ++ lists_of rules p.table (world_left p) numbers

-- the same of the processes that are asked for, or why there are no lists
abbrev pub images_asked : Rules → ServedScript → Processes → Result (List ℕ) ToolFault
images_asked rules p which = numbers_asked (world_left p) which >>= λ numbers. Ok (images_after rules p numbers)

-- the lists of processes at the end of a script over a listing with what they were before, or the first fault: the table's, the
-- listing's, the script's, or a process never made
unfoldable pub images_text : Chosen → List ℕ → List ℕ → Processes → Result (List ℕ) ToolFault
images_text choice tree_bytes script_bytes which =
    served_script choice tree_bytes script_bytes >>= λ p. images_asked choice.rules p which
