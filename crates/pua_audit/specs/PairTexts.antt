-- The text of a pair, and that a resume text is the text of its pair alone.
use Rattle.std.specs.Prelude.{◌≡◌, ◌↔◌, ◌≤◌, ℕ, Bool, List, ◌∷◌, ◌++◌, length, Some, IsTrue}
use Rattle.std.specs.List.{AllByRecursion, list_all, list_any}
use Rattle.pua_tree.specs.Names.{same_bytes}
use Rattle.pua_calls.specs.Calls.{call_name, is_known}
use Rattle.pua_audit.specs.Reach.{Word, Pair, Scope, printed_path}
use Rattle.pua_audit.specs.Begin.{resume_pair}
use Rattle.pua_audit.specs.Judge.{is_letter}
use Rattle.pua_audit.specs.declared.base.Base.{Base}

-- the call's name, a colon, and the path as it is printed
abbrev pub pair_text : Base → Pair → List ℕ
pair_text base pair = call_name pair.1 ++ 58 ∷ printed_path base pair.0

abbrev pub is_in_alphabet : List (List ℕ) → List ℕ → Bool
is_in_alphabet alphabet letter = list_any (same_bytes letter) alphabet

-- a word over the alphabet, within the limit
pub record IsWord (s : Scope) (word : Word) : Type 0 where
  pub within : length word ≤ s.limit
  pub letters : AllByRecursion (λ a. IsTrue (is_in_alphabet s.alphabet a)) word

-- a text names a pair exactly where it is the text of that pair, with a call that the table has
abbrev pub ResumeTextsName : Type 0
ResumeTextsName = (s : Scope) (text : List ℕ) (pair : Pair) → IsTrue (list_all is_letter s.alphabet) →
    (resume_pair s text ≡ Some pair) ↔ (IsWord s pair.0 × IsTrue (is_known s.table pair.1) × (text ≡ pair_text s.base pair))
