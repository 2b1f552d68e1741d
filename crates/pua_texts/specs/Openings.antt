-- What promises open by themselves, as lines of what a list says of a process's state.
use Rattle.std.specs.Prelude.{ℕ, List, [], ◌∷◌, ◌++◌, Bool, codes, flat_map, if◌then◌else◌, map}
use Rattle.pua_tree.specs.Names.{same_bytes}
use Rattle.pua_calls.specs.Calls.{call_name}
use Rattle.pua_objects.specs.Objects.{with_commas}
use Rattle.pua_script.specs.Openings.{Opening, openings}
use Rattle.pua_texts.specs.Lines.{with_end}

abbrev pub veils_word : Bool → List ℕ
veils_word asked = if asked then codes " veils" else []

-- what its line says behind the word `opening`
abbrev pub opening_text : Opening → List ℕ
opening_text o = o.path ++ 32 ∷ with_commas (map call_name o.calls) ++ veils_word o.asks_veils

abbrev pub opening_line : Opening → List ℕ
opening_line o = with_end (codes "opening " ++ opening_text o)

-- its line, if it is that of this promise
abbrev pub line_if : List ℕ → Opening → List ℕ
line_if keyword o = if same_bytes o.promise keyword then opening_line o else []

-- a line for each opening of a promise
abbrev pub opened_by : List ℕ → List ℕ
opened_by keyword = flat_map (line_if keyword) openings

-- those of several promises, in their order
abbrev pub opening_lines : List (List ℕ) → List ℕ
opening_lines keywords = flat_map opened_by keywords
