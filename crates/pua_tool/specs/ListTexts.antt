-- The text of a list, whosever it is, of whatever time, with whatever columns, and what refuses it.
use Rattle.std.specs.Prelude.{◌≡◌, ℕ, Bool, true, false, not, ◌&&◌, is_some, List, Option, Some, None, Result, Err}
use Rattle.pua_words.specs.declared.command.Columns.{Columns}
use Rattle.pua_words.specs.declared.command.Columns.TheVariants.{Plain, Why, How}
use Rattle.pua_words.specs.declared.command.ListWords.{ListWords}
use Rattle.pua_words.specs.declared.command.Processes.{Processes}
use Rattle.pua_words.specs.declared.command.Processes.TheVariants.{One}
use Rattle.pua_words.specs.declared.command.Time.{Time}
use Rattle.pua_words.specs.declared.command.Time.TheVariants.{Now, Ever}
use Rattle.pua_tool.specs.Texts.{Chosen, given_bytes}
use Rattle.pua_tool.specs.BesideTexts.{IsBesideText}
use Rattle.pua_tool.specs.ObjectTexts.{objects_text}
use Rattle.pua_tool.specs.WhyTexts.{objects_why_text}
use Rattle.pua_tool.specs.EverTexts.{ever_text}
use Rattle.pua_tool.specs.EverWhyTexts.{ever_why_text}
use Rattle.pua_tool.specs.ImageTexts.{images_text}
use Rattle.pua_tool.specs.TogetherTexts.{together_text}
use Rattle.pua_tool.specs.EverHowTexts.{IsEverHowText}
use Rattle.pua_tool.specs.declared.fault.ToolFault.{ToolFault}
use Rattle.pua_tool.specs.declared.fault.ToolFault.TheVariants.{EverImages, NowHow, SeveralHow, SeveralWhy, WhyImages}
use Rattle.pua_tool.specs.declared.fault.ToolFault.TheVariants.{HowBeside, ImagesBeside, NowBeside, PlainBelow, WhyBeside}

-- the list for ever of one process, or of several together
abbrev pub lasting_text : Chosen → List ℕ → List ℕ → Processes → Result (List ℕ) ToolFault
lasting_text choice tree script (One process) = ever_text choice tree script process
lasting_text choice tree script several = together_text choice tree script several

-- the list for ever of one process with what lets calls through; there is none of several, each of which has its own promises
abbrev pub lasting_why_text : Chosen → List ℕ → List ℕ → Processes → Result (List ℕ) ToolFault
lasting_why_text choice tree script (One process) = ever_why_text choice tree script process
lasting_why_text choice tree script several = Err SeveralWhy

-- the list for ever of one process with the steps of ways, or its lines at or below a path, where the text is one of several, as which
-- ways are found is in no contract; there is none of several processes, since a way is of one
abbrev pub IsWaysText : Chosen → List ℕ → List ℕ → Option (List ℕ) → Processes → Result (List ℕ) ToolFault → Type 0
IsWaysText choice tree script path (One process) answer = IsEverHowText choice tree script process path answer
IsWaysText choice tree script path several answer = Err SeveralHow ≡ answer

-- of now, one after another, with reasons or without; for ever, with reasons, with the steps of ways, or with neither
abbrev pub IsListBy : Time → Columns → Option (List ℕ) → Processes → Chosen → List ℕ → List ℕ → Result (List ℕ) ToolFault → Type 0
IsListBy Now Plain path whose choice tree script answer = objects_text choice tree script whose ≡ answer
IsListBy Now Why path whose choice tree script answer = objects_why_text choice tree script whose ≡ answer
IsListBy Now How path whose choice tree script answer = Err NowHow ≡ answer
IsListBy Ever Plain path whose choice tree script answer = lasting_text choice tree script whose ≡ answer
IsListBy Ever Why path whose choice tree script answer = lasting_why_text choice tree script whose ≡ answer
IsListBy Ever How path whose choice tree script answer = IsWaysText choice tree script path whose answer

-- with what processes were before each program that they started: of now alone, and without columns
abbrev pub with_images_text : Time → Columns → Processes → Chosen → List ℕ → List ℕ → Result (List ℕ) ToolFault
with_images_text Now Plain whose choice tree script = images_text choice tree script whose
with_images_text Now Why whose choice tree script = Err WhyImages
with_images_text Now How whose choice tree script = Err NowHow
with_images_text Ever columns whose choice tree script = Err EverImages

abbrev pub IsListWith : Bool → Time → Columns → Option (List ℕ) → Processes → Chosen → List ℕ → List ℕ → Result (List ℕ) ToolFault → Type 0
IsListWith false span columns path whose choice tree script answer = IsListBy span columns path whose choice tree script answer
IsListWith true span columns path whose choice tree script answer = with_images_text span columns whose choice tree script ≡ answer

-- with the help of others: for ever alone, and without columns
abbrev pub IsHelpedBy : Time → Columns → Processes → Processes → Chosen → List ℕ → List ℕ → Result (List ℕ) ToolFault → Type 0
IsHelpedBy Now columns whose helping choice tree script answer = Err NowBeside ≡ answer
IsHelpedBy Ever Why whose helping choice tree script answer = Err WhyBeside ≡ answer
IsHelpedBy Ever How whose helping choice tree script answer = Err HowBeside ≡ answer
IsHelpedBy Ever Plain whose helping choice tree script answer = IsBesideText choice tree script whose helping answer

-- and without what processes were
abbrev pub IsHelpedWith : Bool → Time → Columns → Processes → Processes → Chosen → List ℕ → List ℕ → Result (List ℕ) ToolFault → Type 0
IsHelpedWith true span columns whose helping choice tree script answer = Err ImagesBeside ≡ answer
IsHelpedWith false span columns whose helping choice tree script answer = IsHelpedBy span columns whose helping choice tree script answer

abbrev pub IsListOf : Option Processes → Bool → Time → Columns → Option (List ℕ) → Processes → Chosen → List ℕ → List ℕ → Result (List ℕ) ToolFault → Type 0
IsListOf None images span columns path whose choice tree script answer = IsListWith images span columns path whose choice tree script answer
IsListOf (Some helping) images span columns path whose choice tree script answer =
    IsHelpedWith images span columns whose helping choice tree script answer

-- ways are asked for in a list for ever
abbrev pub asks_for_ways : Time → Columns → Bool
asks_for_ways Ever How = true
asks_for_ways _ _ = false

-- what is at or below a path is asked for, and no ways to it
abbrev pub is_plain_below : ListWords → Bool
is_plain_below list = is_some list.below && not (asks_for_ways list.span list.columns)

abbrev pub IsUnlessPlain : Bool → Chosen → List ℕ → List ℕ → ListWords → Result (List ℕ) ToolFault → Type 0
IsUnlessPlain true choice tree script list answer = Err PlainBelow ≡ answer
IsUnlessPlain false choice tree script list answer =
    IsListOf list.beside list.images list.span list.columns (given_bytes list.below) list.whose choice tree script answer

abbrev pub IsListText : Chosen → List ℕ → List ℕ → ListWords → Result (List ℕ) ToolFault → Type 0
IsListText choice tree script list answer = IsUnlessPlain (is_plain_below list) choice tree script list answer
