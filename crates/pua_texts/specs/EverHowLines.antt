-- The list for ever of a process with what stands behind the calls of each line.
use Rattle.std.specs.Prelude.{◌≡◌, ℕ, ◌+◌, Bool, List, [], ◌∷◌, ◌++◌, filter, flat_map, Some}
use Rattle.pua_tree.specs.Tree.{Tree}
use Rattle.pua_calls.specs.Calls.{CallTable}
use Rattle.pua_calls.specs.declared.rules.Rules.{Rules}
use Rattle.pua_policy.specs.States.{ProcessState}
use Rattle.pua_audit.specs.Reach.{Word}
use Rattle.pua_ever.specs.Ever.{EverLine, Thing, ever_line_text as line_text, has_ever_calls}
use Rattle.pua_ever.specs.EverLines.{IsThing, line_with}
use Rattle.pua_ever.specs.EverList.{word_of_row}
use Rattle.pua_ever.specs.ShownForEver.{execs_shown}
use Rattle.pua_ever.specs.declared.list.EverRow.{EverRow}
use Rattle.pua_texts.specs.EndingsState.{EndingsState}
use Rattle.pua_texts.specs.EverLines.{heading_ever}
use Rattle.pua_texts.specs.States.{head_lines}
use Rattle.pua_texts.specs.declared.list_line.ListLine.{ListLine}

-- lines, each with what stands behind its calls, LF with it
abbrev pub lines_with : Tree → List (EverLine × List ℕ) → List ℕ
lines_with t lines = flat_map (λ line. line_text t line.0 ++ line.1) lines

-- the heading of a list for ever, the state of its process, and lines with what stands behind them
abbrev pub ever_list_with : Rules → CallTable → Tree → ℕ → ProcessState → List (EverLine × List ℕ) → List ℕ
ever_list_with rules table t process h lines = head_lines t (heading_ever rules (execs_shown t table h) process) h ++ lines_with t lines

-- Notes: rows of the code with a text for each.

abbrev pub has_calls_with : EverLine × List ℕ → Bool
has_calls_with line = has_ever_calls line.0

-- rows and texts tell these lines: one each, but for those without calls
abbrev pub AreToldWith : Tree → Word → List EverRow → List (List ℕ) → List (EverLine × List ℕ) → Type 0
AreToldWith t before [] texts lines = lines ≡ []
AreToldWith t before (row ∷ rows) [] lines = ⊥
AreToldWith t before (row ∷ rows) (text ∷ texts) lines =
    (about : Thing) × (more : List (EverLine × List ℕ)) × IsThing t about row.line.thing
    × (lines ≡ filter has_calls_with ((line_with (word_of_row before row) about row.line, text) ∷ []) ++ more)
    × AreToldWith t (word_of_row before row) rows texts more

-- the line of a row, behind whose calls stands the text with a number
abbrev pub line_numbered : ℕ → EverRow → ListLine
line_numbered n row =
    record { depth = row.depth; name = row.name; thing = row.line.thing; calls = row.line.calls; resting = 0; veil = Some n }

abbrev pub lines_numbered : ℕ → List EverRow → List ListLine
lines_numbered n [] = []
lines_numbered n (row ∷ rows) = line_numbered n row ∷ lines_numbered (n + 1) rows

-- LF behind a line that has no text, and the text with its number behind one that has
abbrev pub numbered : List (List ℕ) → EndingsState
numbered texts = record { resting = []; veils = texts; unveiled = 10 ∷ [] }
