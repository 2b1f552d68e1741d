-- A list as it is written: what stands before its lines, and the lines, each beside the one before it.
use Rattle.std.specs.Prelude.{ℕ, List, [], ◌∷◌, ◌++◌, map, take, flat_map, option_map}
use Rattle.pua_tree.specs.Tree.{Tree}
use Rattle.pua_calls.specs.Calls.{call_name}
use Rattle.pua_calls.specs.CallSets.{calls_in}
use Rattle.pua_calls.specs.declared.call.Call.{Call}
use Rattle.pua_audit.specs.Reach.{Word}
use Rattle.pua_objects.specs.Lines.{kind_word}
use Rattle.pua_objects.specs.Objects.{with_commas}
use Rattle.pua_texts.specs.EndingsState.{EndingsState, columns_of}
use Rattle.pua_texts.specs.EverLines.{kind_of, path_or_new}
use Rattle.pua_objects.specs.ListItems.{with_name}
use Rattle.pua_texts.specs.Lists.{HeadState}
use Rattle.pua_texts.specs.States.{veil_lines}
use Rattle.pua_texts.specs.declared.list_line.ListLine.{ListLine}

-- the names that lead to what a line is about, by those that lead to what the line before is about
abbrev pub word_after : Word → ListLine → Word
word_after before line = with_name (take line.depth before) (option_map (λ name. name.now) line.name)

-- those that lead to what the last of some lines is about
abbrev pub last_word : Word → List ListLine → Word
last_word before [] = before
last_word before (line ∷ lines) = last_word (word_after before line) lines

-- a line without calls is none
abbrev pub unless_none : List Call → List ℕ → List ℕ
unless_none [] text = []
unless_none (call ∷ calls) text = text

abbrev pub whole_line : EndingsState → Word → ListLine → List ℕ
whole_line columns word line =
    (kind_word (kind_of line.thing) ++ 32 ∷ []) ++ ((path_or_new line.thing word ++ 32 ∷ [])
    ++ (with_commas (map call_name (calls_in line.calls)) ++ columns_of columns line.resting line.veil))

abbrev pub text_at : EndingsState → Word → ListLine → List ℕ
text_at columns word line = unless_none (calls_in line.calls) (whole_line columns word line)

-- lines, one after another, behind one about what these names lead to
abbrev pub lines_text : EndingsState → Word → List ListLine → List ℕ
lines_text columns before [] = []
lines_text columns before (line ∷ lines) =
    text_at columns (word_after before line) line ++ lines_text columns (word_after before line) lines

-- the names that lead to what the last line so far is about, and the lines that are still to come
pub record NamedState : Type 0 where
  pub word : Word
  pub left : List ListLine

-- a list: what stands before its lines, the lines, and what stands behind them
pub record ListState : Type 0 where
  pub head : HeadState
  pub lines : List ListLine
  pub columns : EndingsState

abbrev pub head_text : Tree → HeadState → List ℕ
head_text t head = head.text ++ (veil_lines t head.veils ++ head.files)

abbrev pub list_text : Tree → ListState → List ℕ
list_text t list = head_text t list.head ++ lines_text list.columns [] list.lines

abbrev pub lists_text : Tree → List ListState → List ℕ
lists_text t lists = flat_map (list_text t) lists
