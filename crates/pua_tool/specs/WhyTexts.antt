-- The texts with reasons, of a run, of what decides one request, and of lists, and what refuses them.
use Rattle.std.specs.Prelude.{ℕ, List, [], ◌∷◌, ◌++◌, flat_map, Result, Ok, Err, decimal}
use Rattle.pua_tree.specs.Listing.{listing}
use Rattle.pua_tree.specs.Steps.{◌>>=◌}
use Rattle.pua_calls.specs.declared.rules.Rules.{Rules}
use Rattle.pua_script.specs.Requests.{Asked}
use Rattle.pua_script.specs.Scripts.{script_by, request_by}
use Rattle.pua_script.specs.Replay.{new_world}
use Rattle.pua_script.specs.declared.fault.ScriptFault.{ScriptFault}
use Rattle.pua_why.specs.Texts.{why_lines, chain}
use Rattle.pua_words.specs.declared.command.Processes.{Processes}
use Rattle.pua_tool.specs.Texts.{Chosen, as_listing, as_script, table_by}
use Rattle.pua_texts.specs.Lines.{with_end}
use Rattle.pua_tool.specs.ObjectTexts.{numbers_asked}
use Rattle.pua_tool.specs.declared.fault.ToolFault.{ToolFault}
use Rattle.pua_tool.specs.declared.fault.ToolFault.TheVariants.{Request}
use Rattle.pua_texts.specs.WhyLines.{ServedScript, why_lists_of, world_left}

-- a script over a listing, by the table that is chosen, or the first fault: the table's, the listing's, or the script's
unfoldable pub served_script : Chosen → List ℕ → List ℕ → Result ServedScript ToolFault
served_script choice tree_bytes script_bytes = do
  table ← table_by choice
  t ← as_listing (listing tree_bytes)
  asks ← as_script (script_by choice.rules script_bytes)
  Ok (record { table = table; world = new_world t; asks = asks })

-- a line for each request: its number, its answer, and why and since when it is so, or what opened it
abbrev pub reason_lines : ServedScript → List ℕ
reason_lines p = flat_map with_end (why_lines p.table p.world [] 1 p.asks)

abbrev pub run_why_text : Chosen → List ℕ → List ℕ → Result (List ℕ) ToolFault
run_why_text choice tree_bytes script_bytes = served_script choice tree_bytes script_bytes >>= λ p. Ok (reason_lines p)

-- a line of a script, by its process and the fields behind
abbrev pub request_line : ℕ → List (List ℕ) → List ℕ
request_line process fields = decimal process ++ flat_map (λ field. 32 ∷ field) fields

abbrev pub as_request : Result Asked ScriptFault → Result Asked ToolFault
as_request (Ok ask) = Ok ask
as_request (Err fault) = Err (Request fault)

-- a line for each check that a request passes behind the script, and its answer
abbrev pub chain_lines : ServedScript → Asked → List ℕ
chain_lines p ask = flat_map with_end (chain p.table p.world p.asks ask)

-- what decides the request with these fields behind a script over a listing, or the first fault: the table's, the
-- listing's, the script's, or that of the fields
unfoldable pub why_text : Chosen → List ℕ → List ℕ → ℕ → List (List ℕ) → Result (List ℕ) ToolFault
why_text choice tree_bytes script_bytes process fields = do
  p ← served_script choice tree_bytes script_bytes
  ask ← as_request (request_by choice.rules 1 (request_line process fields))
  Ok (chain_lines p ask)

-- the lines of a script with reasons, and the lists of the processes that are asked for, or why there are none
abbrev pub why_lists_asked : Rules → ServedScript → Processes → Result (List ℕ) ToolFault
why_lists_asked rules p which = numbers_asked (world_left p) which >>= λ numbers. Ok (reason_lines p ++ why_lists_of rules p numbers)

-- the lists with reasons at the end of a script over a listing, or the first fault: the table's, the listing's, the
-- script's, or a process never made
unfoldable pub objects_why_text : Chosen → List ℕ → List ℕ → Processes → Result (List ℕ) ToolFault
objects_why_text choice tree_bytes script_bytes which =
    served_script choice tree_bytes script_bytes >>= λ p. why_lists_asked choice.rules p which
