-- The lines of a list, step by step.
use Rattle.pua_texts.proofs.Common.{◌≡◌, ℕ, suc, List, [], ◌∷◌, ◌++◌, ◌<◌, ◌≤◌, ◌∙◌, refl, sym, ap, map, take}
use Rattle.pua_texts.proofs.Common.{length, get_or, append_assoc, append-nil, arith, Call, Word, calls_in, call_name, with_commas, Option}
use Rattle.pua_texts.proofs.Common.{None, ProcessState, Some, take_all, Tree}
use Rattle.std.proofs.Common.{◌≢◌, zero, length-append}
use Rattle.std.proofs.lemmas.List.{get_or_append_left}
use Rattle.std.proofs.Math.Seq.{take-append_seam}
use Rattle.std.specs.List.{AllByRecursion}
use Rattle.pua_objects.specs.Lines.{kind_word}
use Rattle.pua_texts.specs.EndingsState.{EndingsState, veil_column}
use Rattle.pua_texts.specs.EverLines.{kind_of, path_or_new}
use Rattle.pua_objects.specs.ListItems.{with_name}
use Rattle.pua_texts.specs.ListLines.{ListState, NamedState, head_text, last_word, lines_text, list_text, text_at, unless_none, word_after}
use Rattle.pua_texts.specs.Lists.{HeadState, head_of}
use Rattle.pua_texts.specs.States.{head_lines}
use Rattle.pua_texts.specs.declared.state.Heading.{Heading}
use Rattle.pua_texts.specs.declared.list_line.ListLine.{ListLine}

-- a list of a process is its head and its lines
pub list_headed : (t : Tree) (list : ListState) (head : HeadState) (lines : List ListLine) (columns : EndingsState) (heading : Heading)
    (h : ProcessState) → list ≡ record { head = head; lines = lines; columns = columns } → head ≡ head_of t heading h →
    list_text t list ≡ head_lines t heading h ++ lines_text columns [] lines
list_headed t list head lines columns heading h is headed =
    ap (list_text t) is ∙ ap (λ (head : HeadState). head_text t head ++ lines_text columns [] lines) headed

-- the line that comes next stands before the others
pub line_next : (columns : EndingsState) (old new : NamedState) (line : ListLine) → old.left ≡ line ∷ new.left →
    new.word ≡ word_after old.word line
    → lines_text columns old.word old.left ≡ text_at columns new.word line ++ lines_text columns new.word new.left
line_next columns old new line left word =
    ap (lines_text columns old.word) left ∙ ap (λ (w : Word). text_at columns w line ++ lines_text columns w new.left) (sym word)

-- a line with calls is one
pub is_line : (calls : List Call) (text : List ℕ) → calls ≢ [] → text ≡ unless_none calls text
is_line [] text some = absurd (some refl)
is_line (call ∷ calls) text some = refl

-- and one without calls is none
pub no_line : (calls : List Call) (text : List ℕ) → calls ≡ [] → [] ≡ unless_none calls text
no_line calls text none = sym (ap (λ (left : List Call). unless_none left text) none)

-- as many names as were taken are those that were taken
take_length : {A : Type 0} (n : ℕ) (xs : List A) → take (length (take n xs)) xs ≡ take n xs
take_length zero xs = refl
take_length (suc n) [] = refl
take_length (suc n) (x ∷ xs) = ap (λ ys. x ∷ ys) (take_length n xs)

-- what lines share of their names
pub shared_names : (before : Word) (own : Option (List ℕ)) (depth count : ℕ) → count ≡ length (take depth before) →
    take count before ≡ take count (with_name (take depth before) own)
shared_names before None depth count is =
    ap (λ n. take n before) is ∙ take_length depth before ∙ sym (take_all count (take depth before) (omega (arith, is)))
shared_names before (Some name) depth count is =
    ap (λ n. take n before) is ∙ take_length depth before ∙ sym (take-append_seam (take depth before) (name ∷ [])) ∙
    ap (λ n. take n (take depth before ++ name ∷ [])) (sym is)

pub long_enough : (word : Word) (own : Option (List ℕ)) → length word ≤ length (with_name word own)
long_enough word None = omega arith
long_enough word (Some name) = omega (arith, length-append word (name ∷ []))

-- a line behind others
pub line_added : (columns : EndingsState) (before : Word) (lines : List ListLine) (line : ListLine) →
    lines_text columns before (lines ++ line ∷ []) ≡ lines_text columns before lines
    ++ text_at columns (word_after (last_word before lines) line) line
line_added columns before [] line = append-nil (text_at columns (word_after before line) line)
line_added columns before (first ∷ lines) line =
    ap (λ t. text_at columns (word_after before first) first ++ t) (line_added columns (word_after before first) lines line)
    ∙ sym (append_assoc (text_at columns (word_after before first) first) (lines_text columns (word_after before first) lines)
    (text_at columns (word_after (last_word (word_after before first) lines) line) line))

pub word_added : (before : Word) (lines : List ListLine) (line : ListLine) →
    last_word before (lines ++ line ∷ []) ≡ word_after (last_word before lines) line
word_added before [] line = refl
word_added before (first ∷ lines) line = word_added (word_after before first) lines line

-- lines whose promises have columns among these
abbrev pub AreNumbered : List (List ℕ) → List ListLine → Type 0
AreNumbered resting = AllByRecursion (λ line. line.resting < length resting)

-- they are so among further columns, and with one more line
pub numbered_more : (old new : List (List ℕ)) (lines : List ListLine) → length old ≤ length new → AreNumbered old lines →
    AreNumbered new lines
numbered_more old new [] less all = tt
numbered_more old new (line ∷ lines) less all = (omega (arith, less, all.0), numbered_more old new lines less all.1)

pub numbered_added : (resting : List (List ℕ)) (lines : List ListLine) (line : ListLine) → AreNumbered resting lines →
    line.resting < length resting → AreNumbered resting (lines ++ line ∷ [])
numbered_added resting [] line all within = (within, tt)
numbered_added resting (first ∷ lines) line all within = (all.0, numbered_added resting lines line all.1 within)

-- further columns of promises change nothing of lines
module _ (old new : EndingsState) (more : List (List ℕ)) (grows : new.resting ≡ old.resting ++ more) (veils : new.veils ≡ old.veils)
    (unveiled : new.unveiled ≡ old.unveiled) where
  line_grown : (word : Word) (line : ListLine) → line.resting < length old.resting → text_at new word line ≡ text_at old word line
  line_grown word line within = λ i.
      unless_none (calls_in line.calls)
      ((kind_word (kind_of line.thing) ++ 32 ∷ []) ++ ((path_or_new line.thing word ++ 32 ∷ [])
      ++ (with_commas (map call_name (calls_in line.calls))
      ++ ((ap (λ cs. get_or cs line.resting []) grows ∙ get_or_append_left old.resting more [] line.resting within) i
      ++ veil_column (veils i) (unveiled i) line.veil))))

  pub lines_grown : (before : Word) (lines : List ListLine) → AreNumbered old.resting lines →
      lines_text new before lines ≡ lines_text old before lines
  lines_grown before [] all = refl
  lines_grown before (line ∷ lines) all = λ i.
      line_grown (word_after before line) line all.0 i ++ lines_grown (word_after before line) lines all.1 i
