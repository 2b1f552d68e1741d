use Rattle.pua_listing.proofs.Common.{◌≡◌, ◌∙◌, ◌++◌, ap, sym, subst, map, spot_cmp, ℕ, List, Row}
use Rattle.std.proofs.Common.{IsTrue}
use Rattle.std.specs.FinMap.{is_sorted}
use Rattle.pua_tree.specs.Grammar.{entry_text}
use Rattle.pua_tree.specs.LentRows.{lent_entry}
use Rattle.pua_listing.specs.Entries.{number_of, entries_from, has_second_lines}
use Rattle.pua_listing.specs.Lent.{rows_held}
use Rattle.pua_listing.specs.Listed.{text_of_lines}
use Rattle.pua_listing.specs.Numbers.{number_in}
use Rattle.pua_listing.specs.Order.{order_of}
use Rattle.pua_listing.proofs.ReadBack.{text_is, bytes_are, types_are}
use Rattle.pua_listing.proofs.listing.text_of.Goals as goal

pub returns : goal.returns
returns g c =
    let t = g.T.FileTree.content c.args.tree.now in
    let same_rows : map lent_entry c.deref.result.now ≡ t.rows = ap (map lent_entry) c.deref.ensures.value ∙ c.in_ok-rows.ensures in
    let order_is = c.in_ok-order.ensures (subst (λ rows. IsTrue (is_sorted spot_cmp rows)) (sym same_rows) c.known.ensures.rows_in_order) ∙
    ap order_of same_rows in
    let numbered = ap rows_held c.deref-2.ensures.value in
    let written = ap rows_held c.deref-4.ensures.value in
    let order : List Row = rows_held c.deref-4.result.now in
    let f = number_in c.in_ok-numbers.numbers in
    let same : (x : ℕ) → f x ≡ number_of order x = λ x. c.in_ok-numbers.ensures.numbers x ∙ ap (λ rows. number_of rows x) (numbered ∙ sym written) in
    record {
      text = text_is t order f (written ∙ order_is) same c.has_types.result c.in_ok-numbers.numbers.second_lines c.form_for-form.result c.head.result.now
          c.add_lines.new.text.items c.known.ensures (types_are t c.deref-3.result.now c.has_types.result (ap (map lent_entry) c.deref-3.ensures.value ∙ c.in_ok-rows.ensures) c.has_types.ensures) (c.in_ok-numbers.ensures.second ∙ ap has_second_lines (numbered ∙ sym written))
          c.form_for-form.ensures c.head.ensures (c.in_ok-add_lines.ensures.text ∙
          ap (λ head. head ++ text_of_lines (map (entry_text c.form_for-form.result) (entries_from t f 1 order))) c.in_ok-text.ensures.items);
      bytes = bytes_are t order f (written ∙ order_is) same c.in_ok-add_lines.ensures.bytes;
    }
