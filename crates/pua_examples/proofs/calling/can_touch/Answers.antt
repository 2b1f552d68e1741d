use Rattle.std.proofs.Common.{◌≡◌, ◌+◌, ◌∙◌, ◌∷◌, [], ap, arith, drop, drop_of_length-le, List, subst, sym}
use Rattle.std.proofs.lemmas.Bool.Decides.{not_from_Decides}
use Rattle.std.proofs.lemmas.List.{drop_more}
use Rattle.std.specs.List.{AllByRecursion}
use Rattle.pua_objects.specs.Items.{subject_given}
use Rattle.pua_objects.specs.ListItems.{IsToldIn, items_told, word_after}
use Rattle.pua_objects.specs.Lines.{lines_of}
use Rattle.pua_objects.specs.declared.list.ListItem.{ListItem}
use Rattle.pua_examples.proofs.Nowhere.{met, nowhere, passed}
use Rattle.pua_examples.proofs.calling.can_touch.Goals as goal

pub loop-item-init : goal.loop-item-init
loop-item-init g c =
    let t = g.T.FileTree.content c.args.tree.now in
    let table = c.args.table.now in
    let h = c.args.process.now in
    let all = sym c.deref-item-items.ensures.value in
    record {
      told = subst (AllByRecursion (IsToldIn t h)) all c.in_ok-items.ensures.told;
      left = (
        [],
        sym (ap (λ xs. lines_of t table h (items_told t [] xs)) (sym all) ∙ ap (lines_of t table h) c.in_ok-items.ensures.items),
      );
    }

pub loop-item-preserved : goal.loop-item-preserved
loop-item-preserved g c =
    let t = g.T.FileTree.content c.args.tree.now in
    let table = c.args.table.now in
    let h = c.args.process.now in
    let all = c.deref-item-items.result.now in
    let i = c.loop-item.item-index in
    let item : ListItem = c.item-item.result in
    let left : List ListItem = drop (i + 1) all in
    let next : drop i all ≡ item ∷ left = drop_more all i item c.loop-item-test.true ∙ ap (λ x. x ∷ left) (sym c.item-item.is) in
    let told = subst (AllByRecursion (IsToldIn t h)) next c.loop-item.invariant.told in
    record {
      told = told.1;
      left =
          let so_far = c.loop-item.invariant.left in
          let on = c.line_of.ensures t (subject_given t item.item.subject) told.0.tells in (
            word_after so_far.0 item,
            so_far.1 ∙ ap (λ xs. lines_of t table h (items_told t so_far.0 xs)) next
                ∙ passed t table h so_far.0 item left c.line_of.result on (c.is_empty.ensures.0 c.if-not-is_empty.false),
          );
    }

pub returns-then-not-is_empty-clause-touched : goal.returns-then-not-is_empty-clause-touched
returns-then-not-is_empty-clause-touched g c = λ touches none.
    let t = g.T.FileTree.content c.args.tree.now in
    let table = c.args.table.now in
    let h = c.args.process.now in
    let all = c.deref-item-items.result.now in
    let i = c.loop-item.item-index in
    let item : ListItem = c.item-item.result in
    let left : List ListItem = drop (i + 1) all in
    let next : drop i all ≡ item ∷ left = drop_more all i item c.loop-item-test.true ∙ ap (λ x. x ∷ left) (sym c.item-item.is) in
    let told = subst (AllByRecursion (IsToldIn t h)) next c.loop-item.invariant.told in
    let so_far = c.loop-item.invariant.left in
    let on = c.line_of.ensures t (subject_given t item.item.subject) told.0.tells in
    met t table h so_far.0 item left c.line_of.result on
    (not_from_Decides c.is_empty.result c.is_empty.ensures c.if-not-is_empty.true)
    (sym (so_far.1 ∙ ap (λ xs. lines_of t table h (items_told t so_far.0 xs)) next) ∙ none)

pub returns-clause-nowhere : goal.returns-clause-nowhere
returns-clause-nowhere g c = λ none.
    let t = g.T.FileTree.content c.args.tree.now in
    let table = c.args.table.now in
    let h = c.args.process.now in
    let all = c.deref-item-items.result.now in
    let so_far = c.loop-item.invariant.left in
    nowhere c.completeness_law.ensures.complete t table h c.known.ensures (so_far.1
    ∙ ap (λ xs. lines_of t table h (items_told t so_far.0 xs)) (drop_of_length-le all (omega (arith, c.loop-item-test.false))))
