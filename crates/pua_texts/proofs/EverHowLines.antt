-- The lines of the list for ever with a text behind each, row by row.
use Rattle.pua_texts.proofs.Common.{◌≡◌, ℕ, ◌+◌, List, [], ◌∷◌, ◌++◌, ◌∙◌, refl, ap, map, sym, arith, cond, filter, length}
use Rattle.pua_texts.proofs.Common.{append_assoc, append-nil, get_or, Tree, Call}
use Rattle.pua_texts.proofs.Common.{call_name, calls_in, Word, kind_word, with_commas}
use Rattle.std.proofs.Math.Seq.{get_or-append_seam}
use Rattle.std.proofs.lemmas.Bool.{lt-ltb}
use Rattle.std.proofs.lemmas.Grind.{flat_map-append}
use Rattle.std.proofs.lemmas.List.{length-append}
use Rattle.std.specs.Prelude.{nat_lt}
use Rattle.pua_ever.specs.Ever.{EverLine, Thing, ever_line_text}
use Rattle.pua_ever.specs.EverLines.{IsThing, line_with}
use Rattle.pua_ever.specs.EverList.{word_of_row}
use Rattle.pua_ever.specs.declared.list.EverRow.{EverRow}
use Rattle.pua_texts.specs.EverHowLines.{AreToldWith, has_calls_with, line_numbered, lines_numbered, lines_with, numbered}
use Rattle.pua_texts.specs.EverLines.{kind_of, path_or_new}
use Rattle.pua_texts.specs.ListLines.{lines_text, text_at, unless_none}
use Rattle.pua_texts.proofs.EverLines.{given_text}
use Rattle.pua_texts.proofs.ObjectLines.{parts_before}

module _ (t : Tree) where
  by_calls : (cs : List Call) (one : List ℕ) (line : EverLine × List ℕ) → lines_with t (line ∷ []) ≡ one →
      lines_with t (cond (nat_lt 0 (length cs)) (line ∷ []) []) ≡ unless_none cs one
  by_calls [] one line is = refl
  by_calls (c ∷ cs) one line is =
      ap (λ b. lines_with t (cond b (line ∷ []) [])) (lt-ltb 0 (length (c ∷ cs)) (omega arith)) ∙ is

  -- the line of a row with its text, if it has calls
  row_with : (all : List (List ℕ)) (n : ℕ) (text : List ℕ) → get_or all n (10 ∷ []) ≡ text → (word : Word) (row : EverRow) (about : Thing) →
      IsThing t about row.line.thing →
      lines_with t (filter has_calls_with ((line_with word about row.line, text) ∷ [])) ≡ text_at (numbered all) word (line_numbered n row)
  row_with all n text at word row about is =
      let names = with_commas (map call_name (calls_in row.line.calls)) in
      by_calls (calls_in row.line.calls) _ (line_with word about row.line, text)
      (append-nil (ever_line_text t (line_with word about row.line) ++ text)
      ∙ ap (λ front. (front ++ 32 ∷ names) ++ text) (given_text t about row.line.thing word is)
      ∙ ap (λ rest. (kind_word (kind_of row.line.thing) ++ 32 ∷ path_or_new row.line.thing word ++ 32 ∷ names) ++ rest) (sym at)
      ∙ sym (parts_before (kind_word (kind_of row.line.thing)) (path_or_new row.line.thing word) names (get_or all n (10 ∷ []))))

  -- all lines, by the texts before them
  pub told_with : (rows : List EverRow) (texts done all : List (List ℕ)) (n : ℕ) (before : Word) (told : List (EverLine × List ℕ)) →
      n ≡ length done → all ≡ done ++ texts → AreToldWith t before rows texts told →
      lines_text (numbered all) before (lines_numbered n rows) ≡ lines_with t told
  told_with [] texts done all n before told count is are = ap (lines_with t) (sym are)
  told_with (row ∷ rows) [] done all n before told count is are = absurd are
  told_with (row ∷ rows) (text ∷ texts) done all n before told count is are =
      let word = word_of_row before row in
      let about = are.0 in
      let more = are.1 in
      let one : List (EverLine × List ℕ) = filter has_calls_with ((line_with word about row.line, text) ∷ []) in
      let at : get_or all n (10 ∷ []) ≡ text = (λ i. get_or (is i) (count i) (10 ∷ [])) ∙ get_or-append_seam done text texts (10 ∷ []) in
      let longer : n + 1 ≡ length (done ++ text ∷ []) = omega (arith, count, length-append done (text ∷ [])) in
      let rest = told_with rows texts (done ++ text ∷ []) all (n + 1) word more longer (is ∙ sym (append_assoc done (text ∷ []) texts)) are.4 in
      (λ i. sym (row_with all n text at word row about are.2) i ++ rest i)
      ∙ sym (flat_map-append (λ line. ever_line_text t line.0 ++ line.1) one more)
      ∙ ap (lines_with t) (sym are.3)
