-- What the reasons say that a command writes, and the columns of a list with reasons.
use Rattle.std.specs.Prelude.{◌≡◌, ⊤, ℕ, suc, Bool, false, true, List, [], ◌∷◌, ◌++◌, length, flat_map, Option, None, Some, Ok, IsTrue, codes, decimal}
use Rattle.std.specs.List.{Contains}
use Rattle.pua_tree.specs.Tree.{Tree}
use Rattle.pua_tree.specs.Listing.{listing}
use Rattle.pua_path.specs.declared.found.Found.TheVariants.{Slot}
use Rattle.pua_calls.specs.Calls.{CallTable, rule_of}
use Rattle.pua_calls.specs.Promises.{holds}
use Rattle.pua_calls.specs.declared.call.Call.{Call}
use Rattle.pua_calls.specs.declared.rules.Rules.{Rules}
use Rattle.pua_policy.specs.States.{ProcessState, held_set, is_ended, perms_kept}
use Rattle.pua_policy.specs.ReasonLaws.{CoveringHolds, LackingsHold}
use Rattle.pua_policy.specs.Reasons.{Holds, promising}
use Rattle.pua_policy.specs.declared.place.Place.TheVariants as place
use Rattle.pua_policy.specs.declared.reason.Covering.{Covering}
use Rattle.pua_policy.specs.declared.reason.Covering.TheVariants.{By}
use Rattle.pua_script.specs.AnswerTexts.{answer_text}
use Rattle.pua_script.specs.Laws.{LacksRoom}
use Rattle.pua_script.specs.Requests.{Asked, says_nothing}
use Rattle.pua_script.specs.Scripts.{script_by}
use Rattle.pua_script.specs.Replay.{World, apply, new_world, kept_at, world_after}
use Rattle.pua_objects.specs.Objects.{Line, Subject, At, Others, line_text}
use Rattle.pua_objects.specs.Roots.{shown_objects}
use Rattle.pua_why.specs.Columns.{columns, resting_on, veil_columns}
use Rattle.pua_why.specs.Keys.{reason_key}
use Rattle.pua_why.specs.Openings.{opened_by, opener_text}
use Rattle.pua_why.specs.Reasons.{NoRoom, Reason, NeverMade, Ended, Refused, Granted, answer_of}
use Rattle.pua_why.specs.Since.{IsSince, TurnsAt}
use Rattle.pua_why.specs.Texts.{date_of, has_key, has_veil_on, letters_text, place_text, reason_text, since_text, spaced_words}
use Rattle.pua_why.specs.Truths.{RequestFaultHolds}
use Rattle.pua_texts.specs.Lines.{with_end}
use Rattle.pua_texts.specs.ObjectLines.{heading_now}
use Rattle.pua_texts.specs.WhyLines.{why_list}
use Rattle.pua_words.specs.declared.command.Processes.TheVariants.{One}
use Rattle.pua_tool.specs.Listed.{HasLine}
use Rattle.pua_tool.specs.Texts.{Chosen, table_by}
use Rattle.pua_tool.specs.WhyTexts.{objects_why_text, run_why_text}

-- what a reason says is so: no process has this number, or the one that has it has ended, or it lives and the check that is named has
-- failed it, or the change lacks room; what is granted says no more than its answer
abbrev pub ReasonHolds : CallTable → World → Asked → Reason → Type 0
ReasonHolds table w ask NeverMade = kept_at w ask.process ≡ None
ReasonHolds table w ask Ended = (h : ProcessState) × (kept_at w ask.process ≡ Some h) × (is_ended h ≡ true)
ReasonHolds table w ask (Refused fault) =
    (h : ProcessState) × (kept_at w ask.process ≡ Some h) × (is_ended h ≡ false) × RequestFaultHolds table w h ask.action fault
    × (fault ≡ NoRoom → LacksRoom table w.tree h ask.action)
ReasonHolds table w ask Granted = ⊤

-- a line for a request behind some others, by its answer, its reason, and the line at which it came to have this reason
abbrev pub reasoned_line : CallTable → World → List Asked → Asked → Reason → Option ℕ → List ℕ
reasoned_line table w before ask why turned =
    let left = world_after table w before in
    decimal (suc (length before)) ++ 32 ∷ ((answer_text (apply table left ask).0 ++ spaced_words (reason_text left.tree why))
    ++ (since_text (date_of why turned) ++ opener_text (opened_by table left ask)))

-- the line of a request behind some others: the answer is what follows from the reason, what the reason says is so; and from the line
-- on that is named the same request had the same reason, and just before it another one; or, where none is, always this one
pub record IsReasonTold (table : CallTable) (w : World) (before : List Asked) (ask : Asked) (line : List ℕ) : Type 0 where
  pub why : Reason
  pub turned : Option ℕ
  pub is_line : line ≡ reasoned_line table w before ask why turned
  pub answers : answer_of why ≡ (apply table (world_after table w before) ask).0
  pub holds : ReasonHolds table (world_after table w before) ask why
  pub since : IsSince (has_key table ask (reason_key why)) table w 1 before ask.process turned

-- so is the first of some lines, unless nobody asks, and then there is none
abbrev pub IsFirstTold : CallTable → World → List Asked → Asked → Bool → List (List ℕ) → List (List ℕ) → Type 0
IsFirstTold table w before ask true lines more = lines ≡ more
IsFirstTold table w before ask false lines more = (line : List ℕ) × (lines ≡ line ∷ more) × IsReasonTold table w before ask line

-- so are the lines of requests, one after another
abbrev pub AreReasonsTold : CallTable → World → List Asked → List Asked → List (List ℕ) → Type 0
AreReasonsTold table w before [] lines = lines ≡ []
AreReasonsTold table w before (ask ∷ asks) lines =
    (more : List (List ℕ)) × IsFirstTold table w before ask (says_nothing ask.action) lines more
    × AreReasonsTold table w (before ++ ask ∷ []) asks more

-- the text of a run with reasons has a line for each request, and nothing else
pub record IsRunReasoned (table : CallTable) (t : Tree) (asks : List Asked) (text : List ℕ) : Type 0 where
  pub lines : List (List ℕ)
  pub is_text : text ≡ flat_map with_end lines
  pub told : AreReasonsTold table (new_world t) [] asks lines

-- what covers what a line is about is so: of further names, of each that has no veil of its own
abbrev pub IsCovered : Tree → ProcessState → Subject → Covering → Type 0
IsCovered t now (At object) over = CoveringHolds t now object over
IsCovered t now (Others dir) over =
    (name : List ℕ) → perms_kept now (place.Slot dir name) ≡ None → CoveringHolds t now (Slot dir name None) over

-- the columns of a veil: its place, its letters, and the line since which it has them there; dashes where none covers
abbrev pub IsVeilTold : CallTable → World → List Asked → ℕ → Covering → List ℕ → Type 0
IsVeilTold table w asks process (By place given) words =
    (line : ℕ) × (words ≡ place_text (world_after table w asks).tree place ++ 32 ∷ letters_text given ++ 32 ∷ decimal line)
    × TurnsAt (has_veil_on place given) table w 1 asks process line
IsVeilTold table w asks process _ words = words ≡ codes "- - -"

-- what stands behind a line of a list: the promises on which its calls rest, each of which is held, and the veil that covers it
pub record IsLineReasoned (table : CallTable) (t : Tree) (asks : List Asked) (process : ℕ) (now : ProcessState) (line : Line)
    (text : List ℕ) : Type 0 where
  pub over : Covering
  pub stands : HasLine text (line_text (world_after table (new_world t) asks).tree line
      ++ columns table (new_world t) asks process now line.calls over)
  pub rests : (call : Call) → Contains line.calls call →
      (set : ℕ) × (promising now (rule_of table call).alternatives ≡ Holds set) × IsTrue (holds (held_set now) set)
      × IsTrue (holds (resting_on table now line.calls) set)
  pub covered : IsCovered (world_after table (new_world t) asks).tree now line.subject over
  pub veil : IsVeilTold table (new_world t) asks process over (veil_columns table (new_world t) asks process over)

-- the text of a list with reasons is those of the requests, and the list, of which each line has its reasons
pub record IsListReasoned (rules : Rules) (table : CallTable) (t : Tree) (asks : List Asked) (process : ℕ) (text : List ℕ) : Type 0 where
  pub now : ProcessState
  pub here : kept_at (world_after table (new_world t) asks) process ≡ Some now
  pub lines : List (List ℕ)
  pub is_text : text ≡ flat_map with_end lines
      ++ why_list (heading_now rules process) (record { table = table; world = new_world t; asks = asks }) now
  pub told : AreReasonsTold table (new_world t) [] asks lines
  pub reasoned : (line : Line) → Contains (shown_objects (world_after table (new_world t) asks).tree table now) line →
      IsLineReasoned table t asks process now line text

-- of each table, listing and script that a command reads
pub record ReasonsAsWritten : Type 0 where
  pub runs : (choice : Chosen) (tree_bytes script_bytes : List ℕ) (table : CallTable) (t : Tree) (asks : List Asked) (text : List ℕ) →
      table_by choice ≡ Ok table → listing tree_bytes ≡ Ok t → script_by choice.rules script_bytes ≡ Ok asks →
      run_why_text choice tree_bytes script_bytes ≡ Ok text → IsRunReasoned table t asks text
  pub lists : (choice : Chosen) (tree_bytes script_bytes : List ℕ) (table : CallTable) (t : Tree) (asks : List Asked) (process : ℕ)
      (text : List ℕ) → table_by choice ≡ Ok table → listing tree_bytes ≡ Ok t → script_by choice.rules script_bytes ≡ Ok asks →
      objects_why_text choice tree_bytes script_bytes (One process) ≡ Ok text → IsListReasoned choice.rules table t asks process text
  -- and with what is told to lack nothing lacks, and it does with no less
  pub exact : LackingsHold
