-- What the list for ever of several processes that a command writes says of the future.
use Rattle.std.specs.Prelude.{◌≡◌, ℕ, List, map, ◌++◌, Some, Ok}
use Rattle.std.specs.List.{AllByRecursion, Contains}
use Rattle.pua_tree.specs.Tree.{Tree}
use Rattle.pua_tree.specs.Listing.{listing}
use Rattle.pua_calls.specs.Calls.{CallTable}
use Rattle.pua_calls.specs.TmpTable.{tmp_table}
use Rattle.pua_calls.specs.declared.rules.Rules.{Rules}
use Rattle.pua_policy.specs.States.{ProcessState}
use Rattle.pua_script.specs.Requests.{Asked}
use Rattle.pua_script.specs.Scripts.{script_by}
use Rattle.pua_script.specs.Replay.{new_world, kept_at, world_after}
use Rattle.pua_ever.specs.Ever.{EverLine, ever_line_text}
use Rattle.pua_objects.specs.declared.roots.Shown.TheVariants.{All}
use Rattle.pua_ever.specs.ShownForEver.{shown_lasting, shown_longest}
use Rattle.pua_why.specs.Openings.{told_to}
use Rattle.pua_texts.specs.Lines.{answer_lines}
use Rattle.pua_texts.specs.TogetherLines.{living, one_of, together_list}
use Rattle.pua_words.specs.declared.command.Processes.{Processes}
use Rattle.pua_tool.specs.Forever.{IsForeseenBehind}
use Rattle.pua_tool.specs.Listed.{HasLine}
use Rattle.pua_tool.specs.Texts.{Chosen, table_by}
use Rattle.pua_tool.specs.TogetherTexts.{numbers_in, together_text}

-- the numbers of processes
abbrev pub numbers : List (ℕ × ProcessState) → List ℕ
numbers members = map (λ member. member.0) members

-- the text is the answers, and the states of the processes that are asked for and the list of those that live, which is complete
pub record IsTogetherWritten (rules : Rules) (table : CallTable) (t : Tree) (first : List Asked) (which : Processes) (text : List ℕ) : Type 0
  where
    -- those that are asked for, each with what it keeps where the script ends
    pub members : List (ℕ × ProcessState)
    pub asked : numbers members ≡ numbers_in (world_after table (new_world t) first) which
    pub here : AllByRecursion (λ member. kept_at (world_after table (new_world t) first) member.0 ≡ Some member.1) members
    pub is_text : text ≡ answer_lines 1 (told_to table (new_world t) first)
        ++ together_list rules (tmp_table table) (world_after table (new_world t) first).tree members
    -- whatever those that live and what they fork ask for, or start: each call that is then allowed to one of them has its line in the
    -- list of the one that stands for them, whatever the others are that it needs
    pub complete : (one : ProcessState) → one_of (tmp_table table) members ≡ Some one →
        IsForeseenBehind table (world_after table (new_world t) first) (numbers (living members)) one
    -- all of which is shown: nothing is asked of where their paths start
    pub whole : (one : ProcessState) → one_of (tmp_table table) members ≡ Some one →
        shown_longest (world_after table (new_world t) first).tree (tmp_table table) one ≡ All
    -- and each line of it stands in the text
    pub printed : (one : ProcessState) → one_of (tmp_table table) members ≡ Some one → (line : EverLine) →
        Contains (shown_lasting (world_after table (new_world t) first).tree (tmp_table table) one) line →
        HasLine text (ever_line_text (world_after table (new_world t) first).tree line)

abbrev pub TogetherAsWritten : Type 0
TogetherAsWritten = (choice : Chosen) (tree_bytes script_bytes : List ℕ) (table : CallTable) (t : Tree) (first : List Asked)
    (which : Processes) (text : List ℕ) →
    table_by choice ≡ Ok table → listing tree_bytes ≡ Ok t → script_by choice.rules script_bytes ≡ Ok first →
    together_text choice tree_bytes script_bytes which ≡ Ok text → IsTogetherWritten choice.rules table t first which text
