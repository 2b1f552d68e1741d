-- The lines of the list for ever, row by row.
use Rattle.pua_texts.proofs.Common.{◌≡◌, ℕ, ◌+◌, ◌<◌, ◌≤◌, List, [], ◌∷◌, ◌++◌, ◌∙◌, refl, ap, map, sym, subst, drop, codes, cond, arith}
use Rattle.pua_texts.proofs.Common.{length, slice_index_or, append_assoc, append-nil, drop_more, drop_of_length-le, None, Tree, Call}
use Rattle.pua_texts.proofs.Common.{call_name, calls_in, Word, printed_path, Root, kind_word, with_commas, ever_lines, with_end}
use Rattle.std.proofs.lemmas.Grind.{flat_map-append}
use Rattle.std.specs.Prelude.{filter, nat_lt}
use Rattle.std.proofs.lemmas.Bool.{lt-ltb}
use Rattle.pua_ever.specs.Ever.{EverLine, Thing, Stands, Comes, ever_line_text, has_ever_calls, thing_text}
use Rattle.pua_ever.specs.EverLines.{IsThing, line_with}
use Rattle.pua_ever.specs.declared.line.EverThing.{EverThing}
use Rattle.pua_ever.specs.declared.line.EverThing.TheVariants as told
use Rattle.pua_texts.specs.EndingsState.{plain}
use Rattle.pua_texts.specs.EverLines.{kind_of, path_or_new}
use Rattle.pua_ever.specs.EverList.{AreEverTold, word_of_row}
use Rattle.pua_texts.specs.ListLines.{last_word, lines_text, text_at, unless_none}
use Rattle.pua_ever.specs.declared.list.EverRow.{EverRow}
use Rattle.pua_texts.specs.declared.list_line.ListLine.{ListLine}
use Rattle.pua_texts.proofs.ListLines.{line_added, word_added}
use Rattle.pua_texts.proofs.ObjectLines.{line_parts}

pub given_text : (t : Tree) (about : Thing) (thing : EverThing) (word : Word) → IsThing t about thing →
    thing_text t word about ≡ kind_word (kind_of thing) ++ 32 ∷ path_or_new thing word
given_text t (Stands subject) (told.Stands kind) word is = ap (λ k. k ++ 32 ∷ printed_path Root word) (sym is)
given_text t (Comes new) (told.Comes kind) word is = ap (λ k. k ++ 32 ∷ codes "new") (sym is)
given_text t (Stands subject) (told.Comes kind) word is = absurd is
given_text t (Comes new) (told.Stands kind) word is = absurd is

-- the line of a row
abbrev pub line_at : EverRow → ListLine
line_at row =
    record { depth = row.depth; name = row.name; thing = row.line.thing; calls = row.line.calls; resting = 0; veil = None }

module _ (t : Tree) where
  by_calls : (cs : List Call) (one : List ℕ) (line : EverLine) → ever_lines t (line ∷ []) ≡ one →
      ever_lines t (cond (nat_lt 0 (length cs)) (line ∷ []) []) ≡ unless_none cs one
  by_calls [] one line is = refl
  by_calls (c ∷ cs) one line is =
      ap (λ b. ever_lines t (cond b (line ∷ []) [])) (lt-ltb 0 (length (c ∷ cs)) (omega arith)) ∙ is

  -- the line of a row, if it has calls
  row_told : (word : Word) (row : EverRow) (about : Thing) → IsThing t about row.line.thing →
      ever_lines t (filter has_ever_calls (line_with word about row.line ∷ [])) ≡ text_at plain word (line_at row)
  row_told word row about is =
      let names = with_commas (map call_name (calls_in row.line.calls)) in
      by_calls (calls_in row.line.calls) _ (line_with word about row.line)
      (append-nil (with_end (thing_text t word about ++ 32 ∷ names))
      ∙ ap (λ text. with_end (text ++ 32 ∷ names)) (given_text t about row.line.thing word is)
      ∙ sym (line_parts (kind_word (kind_of row.line.thing)) (path_or_new row.line.thing word) names))

  -- the lines so far, and those of the other rows, are all lines
  pub record Going (lines : List ListLine) (left : List EverRow) (all : List ℕ) : Type 0 where
    pub rest : List EverLine
    pub told : AreEverTold t (last_word [] lines) left rest []
    pub text : lines_text plain [] lines ++ ever_lines t rest ≡ all

  next : (lines : List ListLine) (row : EverRow) (left : List EverRow) (all : List ℕ) → Going lines (row ∷ left) all →
      Going (lines ++ line_at row ∷ []) left all
  next lines row left all going =
      let word = last_word [] lines in
      let at = word_of_row word row in
      let told = going.told in
      let about = told.0 in
      let rest = told.1 in
      record {
        rest = rest;
        told = subst (λ w. AreEverTold t w left rest []) (sym (word_added [] lines (line_at row))) told.4;
        text =
            ap (λ s. s ++ ever_lines t rest) (line_added plain [] lines (line_at row))
            ∙ append_assoc (lines_text plain [] lines) (text_at plain at (line_at row)) (ever_lines t rest)
            ∙ ap (λ s. lines_text plain [] lines ++ s) (ap (λ s. s ++ ever_lines t rest) (sym (row_told at row about told.2)) ∙
            sym (flat_map-append (λ line. with_end (ever_line_text t line)) (filter has_ever_calls (line_with at about row.line ∷ [])) rest)
            ∙ ap (ever_lines t) (sym told.3))
            ∙ going.text;
      }

  pub row_more : (rows : List EverRow) (row : EverRow) (i : ℕ) → i < length rows → row ≡ slice_index_or rows i row →
      (lines : List ListLine) (all : List ℕ) → Going lines (drop i rows) all → Going (lines ++ line_at row ∷ []) (drop (i + 1) rows) all
  row_more rows row i within is lines all going =
      next lines row (drop (i + 1) rows) all (subst (λ left. Going lines left all) (drop_more rows i row within ∙
      ap (λ r. r ∷ drop (i + 1) rows) (sym is)) going)

  pub rows_done : (rows : List EverRow) (i : ℕ) (lines : List ListLine) (all : List ℕ) → length rows ≤ i → Going lines (drop i rows) all →
      lines_text plain [] lines ≡ all
  rows_done rows i lines all past going =
      let none = subst (λ left. AreEverTold t (last_word [] lines) left going.rest []) (drop_of_length-le rows past) going.told in
      sym (append-nil (lines_text plain [] lines)) ∙ ap (λ rest. lines_text plain [] lines ++ ever_lines t rest) (sym none) ∙ going.text
