-- The lines of answers and of pairs, and what stands before those of an audit.
use Rattle.std.specs.Prelude.{ℕ, suc, List, [], ◌∷◌, ◌++◌, flat_map, Option, Some, None, codes, decimal}
use Rattle.pua_calls.specs.Calls.{call_name}
use Rattle.pua_audit.specs.Reach.{Pair, printed_path}
use Rattle.pua_audit.specs.declared.base.Base.{Base}
use Rattle.pua_why.specs.Openings.{ToldAnswer, told_text}
-- each line of a text ends in LF
pub use Rattle.pua_script.specs.AnswerTexts.{with_end}

-- the line of an answer behind the digits of a number, with the promise by which it was opened, where one opened it; none for None
abbrev pub answer_line : List ℕ → Option ToldAnswer → List ℕ
answer_line digits None = []
answer_line digits (Some told) = with_end (digits ++ 32 ∷ told_text told)

-- a line for each answer, with the number of the script's line, counted from n
abbrev pub answer_lines : ℕ → List (Option ToldAnswer) → List ℕ
answer_lines n [] = []
answer_lines n (told ∷ more) = answer_line (decimal n) told ++ answer_lines (suc n) more

abbrev pub pair_line : Base → Pair → List ℕ
pair_line base pair = with_end (printed_path base pair.0 ++ 32 ∷ call_name pair.1)

abbrev pub pair_lines : Base → List Pair → List ℕ
pair_lines base pairs = flat_map (pair_line base) pairs

abbrev pub reach_line : ℕ → List ℕ
reach_line process = with_end (codes "reach " ++ decimal process)

-- the answers and the heading, which an audit that is resumed doesn't write again
abbrev pub front_of : Option (List ℕ) → ℕ → List (Option ToldAnswer) → List ℕ
front_of None process told = answer_lines 1 told ++ reach_line process
front_of (Some after) process told = []
