use Rattle.pua_tree.proofs.Common.{◌≡◌, ◌<◌, ◌≤◌, ◌⊎◌, ℕ, Some, List, [], length, sym, ap, ◌∙◌, arith, inl, inr, option_map, ltb-true, ltb-false}
use Rattle.pua_tree.proofs.Common.{leb-true, line_of_fields, line_read}
use Rattle.pua_tree.specs.Listing.{plain_kind, long_kind}
use Rattle.std.proofs.Common.{get_or}
use Rattle.std.specs.Borrow.{Bor}
use Rattle.std.proofs.lemmas.Bool.{leb-false}
use Rattle.pua_tree.proofs.LineFields.{line_of-first_fields, line_of_fields-four, line_of_fields-five, line_of_fields-other, plain_line}
use Rattle.pua_tree.proofs.LineFields.{long_line}
use Rattle.pua_tree.proofs.Lifetimes.{in_four}
use Rattle.pua_tree.proofs.line.read_line.Goals as goal
use Rattle.pua_tree.proofs.line.read_line.Goals.{in_default-via-then-as_slice-lt4}
use Rattle.pua_tree.proofs.line.read_line.Goals.{in_default-via-else-as_slice-lt4+else-this-lt5+else-this-lt6}

pub returns-in_ok-plain_kind-in-len4 : goal.returns-in_ok-plain_kind-in-len4
returns-in_ok-plain_kind-in-len4 c =
    let none : Bor (List ℕ) = record { ref_ptr = (0, 0); now = [] } in
    let four : length c.as_slice.result.now ≡ 4 = omega arith in
    (λ i. Some (record (plain_line c.as_slice.result.now none c.in_ok-plain_kind-in-len4.field-0) { mount = c.is_mount_word.ensures i }))
    ∙ sym
    (line_of-first_fields c.args.form c.args.text.now c.in_ok-fields.fields c.in_ok-fields.ensures ∙
    ap (line_of_fields c.args.form) (sym c.as_slice.ensures)
    ∙ line_of_fields-four c.args.form c.as_slice.result.now none four
    ∙ ap (λ types. option_map (plain_line c.as_slice.result.now none) (plain_kind types (get_or c.as_slice.result.now 1 none).now))
    (sym c.knows_types.ensures)
    ∙ ap (option_map (plain_line c.as_slice.result.now none)) (sym c.in_ok-plain_kind-in-len4.ensures))

pub returns-in_default : goal.returns-in_default
returns-in_default c =
    let count : (length c.as_slice.result.now < 4) ⊎ (6 ≤ length c.as_slice.result.now) =
    elim c.in_default.branch [
      | in_default-via-then-as_slice-lt4 w ↦ inl (omega (arith, ltb-true, ltb-false, leb-true, leb-false))
      | in_default-via-else-as_slice-lt4+else-this-lt5+else-this-lt6 w ↦ inr (omega (arith, ltb-true, ltb-false, leb-true, leb-false))
    ] in
    sym
    (line_of-first_fields c.args.form c.args.text.now c.in_ok-fields.fields c.in_ok-fields.ensures ∙
    ap (line_of_fields c.args.form) (sym c.as_slice.ensures)
    ∙ line_of_fields-other c.args.form c.as_slice.result.now count)

pub returns-in_ok-long_kind-in-len5 : goal.returns-in_ok-long_kind-in-len5
returns-in_ok-long_kind-in-len5 c =
    let none : Bor (List ℕ) = record { ref_ptr = (0, 0); now = [] } in
    let five : length c.as_slice.result.now ≡ 5 = omega arith in
    sym
    (line_of-first_fields c.args.form c.args.text.now c.in_ok-fields.fields c.in_ok-fields.ensures ∙
    ap (line_of_fields c.args.form) (sym c.as_slice.ensures)
    ∙ line_of_fields-five c.args.form c.as_slice.result.now none five
    ∙ ap (λ hard. option_map (long_line c.as_slice.result.now none) (long_kind hard (get_or c.as_slice.result.now 1 none).now))
    (sym c.knows_hard.ensures)
    ∙ ap (option_map (long_line c.as_slice.result.now none)) (sym c.in_ok-long_kind-in-len5.ensures))

pub from_residual-requires : goal.from_residual-requires
from_residual-requires c = λ κs. in_four κs.0

pub from_residual-requires-in_err-plain_kind-in-len4 : goal.from_residual-requires-in_err-plain_kind-in-len4
from_residual-requires-in_err-plain_kind-in-len4 c = λ κs. in_four κs.0

pub from_residual-requires-in_err-long_kind-in-len5 : goal.from_residual-requires-in_err-long_kind-in-len5
from_residual-requires-in_err-long_kind-in-len5 c = λ κs. in_four κs.0

pub returns-in_err-plain_kind-in-len4 : goal.returns-in_err-plain_kind-in-len4
returns-in_err-plain_kind-in-len4 c =
    let none : Bor (List ℕ) = record { ref_ptr = (0, 0); now = [] } in
    let four : length c.as_slice.result.now ≡ 4 = omega arith in
    ap (option_map line_read) c.from_residual-in_err-plain_kind-in-len4.ensures ∙ sym
    (line_of-first_fields c.args.form c.args.text.now c.in_ok-fields.fields c.in_ok-fields.ensures ∙
    ap (line_of_fields c.args.form) (sym c.as_slice.ensures)
    ∙ line_of_fields-four c.args.form c.as_slice.result.now none four
    ∙ ap (λ types. option_map (plain_line c.as_slice.result.now none) (plain_kind types (get_or c.as_slice.result.now 1 none).now))
    (sym c.knows_types.ensures)
    ∙ ap (option_map (plain_line c.as_slice.result.now none)) (sym c.in_err-plain_kind-in-len4.ensures))

pub returns-in_err-long_kind-in-len5 : goal.returns-in_err-long_kind-in-len5
returns-in_err-long_kind-in-len5 c =
    let none : Bor (List ℕ) = record { ref_ptr = (0, 0); now = [] } in
    let five : length c.as_slice.result.now ≡ 5 = omega arith in
    ap (option_map line_read) c.from_residual-in_err-long_kind-in-len5.ensures ∙ sym
    (line_of-first_fields c.args.form c.args.text.now c.in_ok-fields.fields c.in_ok-fields.ensures ∙
    ap (line_of_fields c.args.form) (sym c.as_slice.ensures)
    ∙ line_of_fields-five c.args.form c.as_slice.result.now none five
    ∙ ap (λ hard. option_map (long_line c.as_slice.result.now none) (long_kind hard (get_or c.as_slice.result.now 1 none).now))
    (sym c.knows_hard.ensures)
    ∙ ap (option_map (long_line c.as_slice.result.now none)) (sym c.in_err-long_kind-in-len5.ensures))
