-- The texts of tightened scripts, step by step.
use Rattle.pua_tool.proofs.Common.{◌≡◌, ◌≢◌, ◌∙◌, ◌++◌, ℕ, List, ap, sym, Err, Ok, Result, ◌>>=◌, CallTable, Chosen, table_by, ToolFault}
use Rattle.pua_tool.proofs.Common.{OutOfMemory, with_end}
use Rattle.std.proofs.Common.{◌+◌, ◌<◌, ◌≤◌, get_or, drop, length, append-nil, append_assoc}
use Rattle.std.proofs.lemmas.List.{drop_more}
use Rattle.std.proofs.Math.ListN.{drop_of_length-le}
use Rattle.pua_calls.specs.declared.rules.Rules.{Rules}
use Rattle.pua_tight.specs.Texts.{text_over}
use Rattle.pua_tight.specs.Uses.{uses_over}
use Rattle.pua_tight.specs.declared.word_use.WordUse.{WordUse}
use Rattle.pua_tight.specs.declared.fault.TightFault.{TightFault}
use Rattle.pua_tight.specs.declared.fault.TightFault.TheVariants as refused
use Rattle.pua_tool.specs.TightTexts.{as_tight, tight_fault, tight_text, use_lines, use_text, words_by}

-- a fault that is not want of memory was none before either
pub no_memory : (fault : TightFault) → tight_fault fault ≢ OutOfMemory → fault ≢ refused.OutOfMemory
no_memory fault other is = other (ap tight_fault is)

module _ (choice : Chosen) (tree_bytes script_bytes : List ℕ) where
  abbrev text_by : CallTable → Result (List ℕ) ToolFault
  text_by table = as_tight (text_over choice.rules table tree_bytes script_bytes)

  abbrev uses_by : CallTable → Result (List WordUse) ToolFault
  uses_by table = as_tight (uses_over choice.rules table tree_bytes script_bytes)

  -- a table's fault comes first
  pub text_refused : (fault : ToolFault) → table_by choice ≡ Err fault → tight_text choice tree_bytes script_bytes ≡ Err fault
  unfolding tight_text
  text_refused fault refuses = λ i. refuses i >>= text_by

  pub text_is : (table : CallTable) (read : Result (List ℕ) TightFault) → table_by choice ≡ Ok table →
      text_over choice.rules table tree_bytes script_bytes ≡ read → tight_text choice tree_bytes script_bytes ≡ as_tight read
  unfolding tight_text
  text_is table read chosen is = (λ i. chosen i >>= text_by) ∙ ap as_tight is

  pub words_refused : (fault : ToolFault) → table_by choice ≡ Err fault → words_by choice tree_bytes script_bytes ≡ Err fault
  unfolding words_by
  words_refused fault refuses = λ i. refuses i >>= uses_by

  pub words_are : (table : CallTable) (words : Result (List WordUse) TightFault) → table_by choice ≡ Ok table →
      uses_over choice.rules table tree_bytes script_bytes ≡ words → words_by choice tree_bytes script_bytes ≡ as_tight words
  unfolding words_by
  words_are table words chosen is = (λ i. chosen i >>= uses_by) ∙ ap as_tight is

-- the lines that are still to come from a word on
abbrev pub lines_left : Rules → List WordUse → ℕ → List ℕ
lines_left rules words i = use_lines rules (drop i words)

pub word_more : (rules : Rules) (text : List ℕ) (words : List WordUse) (i : ℕ) (used : WordUse) → i < length words → used ≡ get_or words i used →
    text ++ lines_left rules words i ≡ (text ++ with_end (use_text rules used)) ++ lines_left rules words (i + 1)
word_more rules text words i used within is =
    ap (λ left. text ++ use_lines rules left) (drop_more words i used within)
    ∙ sym (append_assoc text (with_end (use_text rules (get_or words i used))) (lines_left rules words (i + 1)))
    ∙ ap (λ next. (text ++ with_end (use_text rules next)) ++ lines_left rules words (i + 1)) (sym is)

pub words_done : (rules : Rules) (text : List ℕ) (words : List WordUse) (i : ℕ) → length words ≤ i → text ++ lines_left rules words i ≡ text
words_done rules text words i past = ap (λ left. text ++ use_lines rules left) (drop_of_length-le words past) ∙ append-nil text
