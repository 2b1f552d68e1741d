-- What the list of objects that a command writes says of the present.
use Rattle.std.specs.Prelude.{◌≡◌, ◌≢◌, ◌⊎◌, ℕ, List, ◌++◌, Some, Ok, IsTrue, codes}
use Rattle.std.specs.List.{Contains}
use Rattle.pua_tree.specs.Tree.{Tree}
use Rattle.pua_tree.specs.Listing.{listing}
use Rattle.pua_path.specs.Resolution.{resolution_of_text}
use Rattle.pua_calls.specs.Calls.{CallTable, ending_of, last_of}
use Rattle.pua_calls.specs.declared.call.Call.{Call}
use Rattle.pua_calls.specs.declared.rules.Rules.{Rules}
use Rattle.pua_policy.specs.States.{root_dir, ProcessState}
use Rattle.pua_policy.specs.Verdict.{object_named, verdict_of}
use Rattle.pua_policy.specs.declared.answer.Verdict.TheVariants.{Allowed}
use Rattle.pua_script.specs.Requests.{Asked}
use Rattle.pua_script.specs.Scripts.{script_by}
use Rattle.pua_script.specs.Openings.{Opening, opens_call}
use Rattle.pua_script.specs.Replay.{World, apply, new_world, kept_at, world_after}
use Rattle.pua_script.specs.declared.answer.Answer.TheVariants.{Okay}
use Rattle.pua_script.specs.declared.request.Action.TheVariants.{OnPath}
use Rattle.pua_objects.specs.Objects.{At, Line, line_text}
use Rattle.pua_objects.specs.Roots.{shown_objects, shown_of}
use Rattle.pua_objects.specs.Laws.{HasShownLine, IsCallTold, IsCallToldBehind, StartsIn}
use Rattle.pua_objects.specs.declared.roots.Shown.TheVariants.{Below}
use Rattle.pua_path.specs.declared.found.Found.TheVariants.{Whole}
use Rattle.pua_path.specs.declared.found.Way.{Way}
use Rattle.pua_why.specs.Openings.{told_to}
use Rattle.pua_texts.specs.Lines.{answer_lines, with_end}
use Rattle.pua_texts.specs.Openings.{opening_text}
use Rattle.pua_texts.specs.ObjectLines.{process_list, heading_now}
use Rattle.pua_words.specs.declared.command.Processes.TheVariants.{One}
use Rattle.pua_tool.specs.Texts.{Chosen, table_by}
use Rattle.pua_tool.specs.ObjectTexts.{objects_text}
use Rattle.pua_path.specs.declared.found.Start.{Start}

-- a line stands in a text
abbrev pub HasLine : List ℕ → List ℕ → Type 0
HasLine text line = (before : List ℕ) × (after : List ℕ) × (text ≡ before ++ with_end line ++ after)

-- whatever path is spelled, by the root of the process and from where its paths may start, or where all is shown by whatever root and from
-- wherever: where a call is allowed on it, what it names has a line with the call
abbrev pub IsListComplete : CallTable → Tree → ProcessState → Type 0
IsListComplete table t now = (from : Start) (call : Call) (path : List ℕ) → StartsIn t (shown_of t now) from →
    let named = resolution_of_text t from (ending_of call) path (last_of call) in
    verdict_of t table now call named ≡ Allowed → HasShownLine t table now call named

-- and each line stands in the text
abbrev pub AreLinesPrinted : CallTable → Tree → ProcessState → List ℕ → Type 0
AreLinesPrinted table t now text = (line : Line) → Contains (shown_objects t table now) line → HasLine text (line_text t line)

-- a call on a path that the process asks for is answered ok only where what the path names has a line with the call, or a promise opens
-- the path for the call, and that has its line
abbrev pub AreOkaysListed : CallTable → World → ℕ → ProcessState → List ℕ → Type 0
AreOkaysListed table w process now text = (call : Call) (path : List ℕ) →
    (apply table w (record { process = process; action = OnPath call path })).0 ≡ Okay →
    HasShownLine w.tree table now call (object_named w.tree now call path)
    ⊎ ((o : Opening) × IsTrue (opens_call call path o) × HasLine text (codes "opening " ++ opening_text o))

-- each call of each line is allowed on the line's own path, or on that of each further name, where the root is node 0
abbrev pub AreLinesSound : CallTable → Tree → ProcessState → Type 0
AreLinesSound table t now = root_dir now ≡ 0 → (line : Line) → Contains (shown_objects t table now) line → (call : Call) →
    Contains line.calls call →
    IsCallTold t table now call line.word line.subject

-- where no path leaves another root, the same is so of what stands below that, by the last of the line's names
abbrev pub AreLinesSoundBelow : CallTable → Tree → ProcessState → Type 0
AreLinesSoundBelow table t now = (root : ℕ) → shown_of t now ≡ Below root → (line : Line) → Contains (shown_objects t table now) line →
    ((way : Way) → line.subject ≢ At (Whole root way)) → (call : Call) → Contains line.calls call →
    IsCallToldBehind t table now call line.word line.subject

-- the text is the answers and the list of the process, and the list is complete, and has nothing by mistake
pub record IsListWritten (rules : Rules) (table : CallTable) (t : Tree) (first : List Asked) (process : ℕ) (text : List ℕ) : Type 0 where
  pub now : ProcessState
  pub here : kept_at (world_after table (new_world t) first) process ≡ Some now
  pub is_text : text ≡ answer_lines 1 (told_to table (new_world t) first)
      ++ process_list (heading_now rules process) table (world_after table (new_world t) first).tree now
  pub complete : IsListComplete table (world_after table (new_world t) first).tree now
  pub sound : AreLinesSound table (world_after table (new_world t) first).tree now
  pub sound_below : AreLinesSoundBelow table (world_after table (new_world t) first).tree now
  pub okays : AreOkaysListed table (world_after table (new_world t) first) process now text
  pub printed : AreLinesPrinted table (world_after table (new_world t) first).tree now text

abbrev pub ObjectsAsWritten : Type 0
ObjectsAsWritten = (choice : Chosen) (tree_bytes script_bytes : List ℕ) (table : CallTable) (t : Tree) (first : List Asked)
    (process : ℕ) (text : List ℕ) →
    table_by choice ≡ Ok table → listing tree_bytes ≡ Ok t → script_by choice.rules script_bytes ≡ Ok first →
    objects_text choice tree_bytes script_bytes (One process) ≡ Ok text → IsListWritten choice.rules table t first process text
