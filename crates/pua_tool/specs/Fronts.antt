-- The part of a script that is served, where it is asked how things stood behind one of its lines.
use Rattle.std.specs.Prelude.{ℕ, zero, suc, ◌+◌, List, [], ◌∷◌, ◌==◌, length, Option, Some, None, Result, Ok, ok_or, option_map, position}
use Rattle.std.specs.Prelude.{unwrap_or, take, drop}
use Rattle.pua_tool.specs.declared.fault.ToolFault.{ToolFault}
use Rattle.pua_tool.specs.declared.fault.ToolFault.TheVariants.{NoLine}

-- how many bytes the first line has, with its end
abbrev pub line_size : List ℕ → ℕ
line_size bytes = unwrap_or (option_map (λ before. before + 1) (position (λ b. b == 10) bytes)) (length bytes)

-- how many bytes the first n lines have, with their ends; none where there are fewer lines
abbrev pub lines_size : ℕ → List ℕ → Option ℕ
lines_size zero bytes = Some 0
lines_size (suc n) [] = None
lines_size (suc n) (b ∷ more) =
    option_map (λ size. line_size (b ∷ more) + size) (lines_size n (drop (line_size (b ∷ more)) (b ∷ more)))

-- the first n lines, with their ends; none where there are fewer
abbrev pub first_lines : ℕ → List ℕ → Option (List ℕ)
first_lines n bytes = option_map (λ size. take size bytes) (lines_size n bytes)

-- all of a script, or its first lines up to the one that is named
abbrev pub script_at : Option ℕ → List ℕ → Result (List ℕ) ToolFault
script_at None script = Ok script
script_at (Some line) script = ok_or (first_lines line script) (NoLine line)
