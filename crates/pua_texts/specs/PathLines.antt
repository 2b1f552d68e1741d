-- The lines of one path.
use Rattle.std.specs.Prelude.{ℕ, List, ◌∷◌, ◌++◌, flat_map}
use Rattle.pua_tree.specs.Spelling.{spelling}
use Rattle.pua_calls.specs.Calls.{call_name}
use Rattle.pua_calls.specs.declared.call.Call.{Call}
use Rattle.pua_texts.specs.Lines.{with_end}

-- the line of a call and a path as it is printed
abbrev pub printed_line : List ℕ → Call → List ℕ
printed_line printed call = with_end (printed ++ 32 ∷ call_name call)

abbrev pub printed_lines : List ℕ → List Call → List ℕ
printed_lines printed calls = flat_map (printed_line printed) calls

abbrev pub path_line : List ℕ → Call → List ℕ
path_line path = printed_line (spelling path)

-- a line for each of some calls
abbrev pub path_lines : List ℕ → List Call → List ℕ
path_lines path = printed_lines (spelling path)
