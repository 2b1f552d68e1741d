-- What the lists of what processes were say of the present of that time.
use Rattle.std.specs.Prelude.{◌≡◌, ℕ, suc, true, List, ◌∷◌, ◌++◌, length, Option, Some, Ok}
use Rattle.pua_tree.specs.Tree.{Tree}
use Rattle.pua_tree.specs.Listing.{listing}
use Rattle.pua_calls.specs.Calls.{CallTable}
use Rattle.pua_script.specs.Requests.{Asked}
use Rattle.pua_script.specs.Scripts.{script_by}
use Rattle.pua_script.specs.Replay.{apply, new_world, world_after}
use Rattle.pua_why.specs.Openings.{ToldAnswer, told_to}
use Rattle.pua_texts.specs.Lines.{answer_lines}
use Rattle.pua_texts.specs.ObjectLines.{heading_before, heading_now}
use Rattle.pua_texts.specs.States.{heading_line}
use Rattle.pua_words.specs.declared.command.Processes.{Processes}
use Rattle.pua_words.specs.declared.command.Processes.TheVariants.{One}
use Rattle.pua_tool.specs.Fronts.{first_lines}
use Rattle.pua_tool.specs.ImageTexts.{images_text, is_replaced}
use Rattle.pua_tool.specs.ObjectTexts.{numbers_asked, objects_text}
use Rattle.pua_tool.specs.Texts.{Chosen, table_by}

-- a text stands in another one
abbrev pub HasPart : List ℕ → List ℕ → Type 0
HasPart text part = (before : List ℕ) × (after : List ℕ) × (text ≡ before ++ part ++ after)

-- the text has a list of the process as it was before this line; and but for the heading that is, behind the answers, what is printed
-- of the process where the lines before, the front of the script, are all of it
pub record IsImageWritten (choice : Chosen) (tree_bytes front : List ℕ) (told : List (Option ToldAnswer)) (line process : ℕ) (text : List ℕ) :
    Type 0 where
  pub rest : List ℕ
  pub image : HasPart text (heading_line (heading_before line choice.rules process) ++ rest)
  pub list : objects_text choice tree_bytes front (One process)
      ≡ Ok (answer_lines 1 told ++ (heading_line (heading_now choice.rules process) ++ rest))

-- so it is of each request by which one of the processes that are asked for is replaced
abbrev pub ImagesAsWritten : Type 0
ImagesAsWritten = (choice : Chosen) (tree_bytes script_bytes front : List ℕ) (table : CallTable) (t : Tree) (before after : List Asked)
    (ask : Asked) (whose : Processes) (numbers text : List ℕ) →
    table_by choice ≡ Ok table → listing tree_bytes ≡ Ok t → script_by choice.rules script_bytes ≡ Ok (before ++ ask ∷ after)
    → first_lines (length before) script_bytes ≡ Some front
    → numbers_asked (world_after table (new_world t) (before ++ ask ∷ after)) whose ≡ Ok numbers
    → images_text choice tree_bytes script_bytes whose ≡ Ok text
    → is_replaced numbers ask (apply table (world_after table (new_world t) before) ask).0 ≡ true →
    IsImageWritten choice tree_bytes front (told_to table (new_world t) before) (suc (length before)) ask.process text
