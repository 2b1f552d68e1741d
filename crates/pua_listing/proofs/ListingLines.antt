-- The lines of a listing, one after another.
use Rattle.pua_listing.proofs.Common.{◌≡◌, ℕ, suc, ◌+◌, ◌<◌, true, List, [], ◌∷◌, ◌++◌, length, map, refl, sym, ap, ◌∙◌, arith, append_assoc}
use Rattle.pua_listing.proofs.Common.{append-nil, and_from, list_all, Tree}
use Rattle.std.proofs.Common.{get_or, take, lt-ltb}
use Rattle.std.proofs.lemmas.List.{map_push}
use Rattle.std.proofs.lemmas.List.Folds.{list_all-append}
use Rattle.pua_tree.specs.Grammar.{entry_text}
use Rattle.pua_tree.specs.declared.form.Form.{Form}
use Rattle.pua_tree.specs.Listing.{Entry}
use Rattle.pua_listing.specs.Entries.{entry_for, entries_from, leads_to_bytes, made_under, is_byte}
use Rattle.pua_listing.specs.Lent.{row_held, rows_held}
use Rattle.pua_listing.specs.Listed.{text_of_lines}
use Rattle.pua_listing.specs.declared.order.TreeRow.{TreeRow}
use Rattle.pua_listing.proofs.Fitting.{entries-push}
use Rattle.pua_listing.proofs.Numbered.{rows_more, rows_so_far}
use Rattle.pua_listing.proofs.Spelled.{text-append}
use Rattle.std.proofs.Common.{Fits, w8}

pub are_bytes : (bs : List ℕ) → ((k : ℕ) → Fits w8 (get_or bs k 0)) → list_all is_byte bs ≡ true
are_bytes [] f = refl
are_bytes (b ∷ bs) f = and_from _ _ (lt-ltb b 256 (omega (arith, f 0))) (are_bytes bs (λ k. f (suc k)))

module _ (t : Tree) (form : Form) (f : ℕ → ℕ) (order : List TreeRow) (k : ℕ) (row : TreeRow) (less : k < length order) (at : row ≡ get_or order k row) where
  entries_more : entries_from t f 1 (rows_held (take (k + 1) order)) ≡
      entries_from t f 1 (rows_held (take k order)) ++ entry_for t f (k + 1) (row_held row) ∷ []
  entries_more = ap (entries_from t f 1) (rows_more order k row less at) ∙ entries-push t f 1 (rows_held (take k order)) (row_held row) ∙
      ap (λ n. entries_from t f 1 (rows_held (take k order)) ++ entry_for t f n (row_held row) ∷ []) (omega (arith, rows_so_far order k less))

  pub text_more : (old so_far new : List ℕ) → so_far ≡ old ++ text_of_lines (map (entry_text form) (entries_from t f 1 (rows_held (take k order)))) →
      new ≡ so_far ++ (entry_text form (entry_for t f (k + 1) (row_held row)) ++ 10 ∷ []) →
      new ≡ old ++ text_of_lines (map (entry_text form) (entries_from t f 1 (rows_held (take (k + 1) order))))
  text_more old so_far new were is =
      let es : List Entry = entries_from t f 1 (rows_held (take k order)) in
      let line : List ℕ = entry_text form (entry_for t f (k + 1) (row_held row)) in
      is
      ∙ ap (λ text. text ++ (line ++ 10 ∷ [])) were
      ∙ append_assoc old (text_of_lines (map (entry_text form) es)) (line ++ 10 ∷ [])
      ∙ ap (λ last. old ++ (text_of_lines (map (entry_text form) es) ++ last)) (sym (append-nil (line ++ 10 ∷ [])))
      ∙ ap (λ text. old ++ text) (sym (text-append (map (entry_text form) es) (line ∷ [])))
      ∙ ap (λ ls. old ++ text_of_lines ls) (sym (map_push (entry_text form) es (entry_for t f (k + 1) (row_held row))))
      ∙ ap (λ fs. old ++ text_of_lines (map (entry_text form) fs)) (sym entries_more)

  pub bytes_more : list_all (λ e. leads_to_bytes e.made) (entries_from t f 1 (rows_held (take k order))) ≡ true →
      leads_to_bytes (made_under t f (k + 1) row.node) ≡ true →
      list_all (λ e. leads_to_bytes e.made) (entries_from t f 1 (rows_held (take (k + 1) order))) ≡ true
  bytes_more were is =
      ap (list_all (λ (e : Entry). leads_to_bytes e.made)) entries_more
      ∙ list_all-append (λ (e : Entry). leads_to_bytes e.made) (entries_from t f 1 (rows_held (take k order))) (entry_for t f (k + 1) (row_held row) ∷ [])
      ∙ and_from _ _ were (and_from _ _ is refl)
