use Rattle.pua_ever.proofs.Common.{◌≡◌, ◌<◌, ◌≤◌, ◌∷◌, ◌++◌, [], sym, ap, subst, ◌∙◌, arith, length, take, flat_map, Some, ever_lines_of, both_of, made_left}
use Rattle.std.proofs.Common.{◌+◌, add-one, drop, drop_of_length-le}
use Rattle.std.proofs.Math.Seq.{take-suc}
use Rattle.std.proofs.lemmas.List.{drop_more}
use Rattle.pua_objects.specs.ListItems.{IsToldIn, items_told, last_name, last_word}
use Rattle.pua_objects.specs.declared.list.ListItem.{ListItem}
use Rattle.pua_ever.specs.EverList.{AreEverTold, AreRowsSoFar, dir_at}
use Rattle.pua_ever.specs.declared.made.Made.TheVariants.{Dir}
use Rattle.pua_ever.proofs.RowsTell.{dir_there, near_at, told_at}
use Rattle.std.specs.List.{AllByRecursion}
use Rattle.std.proofs.lemmas.Bool.{not-false}
use Rattle.pua_tree.specs.Tree.{device}
use Rattle.pua_ever.proofs.Common.{eqb-true, subject_given, Tree, ProcessState}
use Rattle.pua_ever.specs.Ever.{kept_on}
use Rattle.pua_ever.specs.Destinations.{IsOnDevice}
use Rattle.pua_ever.specs.Movable.{IsMovable}
use Rattle.pua_ever.specs.Prospects.{IsMovableAt, IsProspects, dir_of_subject}
use Rattle.pua_ever.proofs.list.rows_of.Given.{Over}
use Rattle.pua_ever.proofs.list.rows_of.Goals as goal
use Rattle.pua_ever.proofs.list.rows_of.Goals.{In_ok-add_rows, then-ne+in_ok-movable-2, else-ne}

module _ (g : Over) (c : In_ok-add_rows g) where
  abbrev t : Tree
  t = g.T.FileTree.content c.args.tree.now

  abbrev h : ProcessState
  h = c.args.process.now

  abbrev AllTold : Type 0
  AllTold = AllByRecursion (IsToldIn t h) c.args.items.now

  own : IsOnDevice t h c.in_ok-own.own × (c.in_ok-own.own.dir ≡ dir_at c.place_of.result) × AllByRecursion (IsOnDevice t h) c.device_at.new.above.items
  own = c.in_ok-own.ensures c.loop-item.invariant.above

  seated : c.in_ok-own.own.dir ≡ dir_of_subject (subject_given t c.item-item.result.item.subject)
  seated = own.1 ∙ dir_there t (last_name c.item-item.result.item.subject) c.place_of.result (subject_given t c.item-item.result.item.subject)
      (c.place_of.ensures t)

  -- the device of now is that of the item
  is_own : c.if-ne.device ≡ c.in_ok-own.own.device
  is_own = elim c.if-ne.branch [
    | then-ne+in_ok-movable-2 w ↦ w.device-is
    | else-ne w ↦ w.device-is ∙ sym (eqb-true c.in_ok-own.own.device c.loop-item.device (not-false _ (sym c.ne.ensures ∙ w.if-ne.false)))
  ]

  moves : IsProspects t c.args.table.now h c.args.prospects.now → AllTold →
      IsMovable t c.args.table.now h (kept_on t h c.if-ne.device) c.if-ne.movable
  moves found all = elim c.if-ne.branch [
    | then-ne+in_ok-movable-2 w ↦
        subst (λ n. IsMovable t c.args.table.now h (kept_on t h n) c.if-ne.movable) (sym is_own)
        (subst (IsMovable t c.args.table.now h (kept_on t h c.in_ok-own.own.device)) (sym w.movable-is)
        (w.in_ok-movable-2.ensures t found own.0))
    | else-ne w ↦
        subst (λ n. IsMovable t c.args.table.now h (kept_on t h n) c.if-ne.movable) (sym w.device-is)
        (subst (IsMovable t c.args.table.now h (kept_on t h c.loop-item.device)) (sym w.movable-is)
        (c.loop-item.invariant.movable found all))
  ]

  moves_at : IsProspects t c.args.table.now h c.args.prospects.now → AllTold →
      IsMovableAt t c.args.table.now h (subject_given t c.item-item.result.item.subject) c.if-ne.movable
  moves_at found all =
      subst (λ n. IsMovable t c.args.table.now h (kept_on t h n) c.if-ne.movable)
      (is_own ∙ sym own.0.0 ∙ ap (device t) seated) (moves found all)

pub loop-item-preserved : goal.loop-item-preserved
loop-item-preserved g c = record {
  told = λ fits needs found all near.
      let t = g.T.FileTree.content c.args.tree.now in
      let h = c.args.process.now in
      let table = c.args.table.now in
      let items = c.args.items.now in
      let i = c.loop-item.item-index in
      let item = c.item-item.result in
      let rows = c.loop-item.rows.items in
      let within : i < length items = c.loop-item-test.true in
      let now : AreRowsSoFar t table h items (take i items) (item ∷ drop (i + 1) items) rows =
      subst (λ left. AreRowsSoFar t table h items (take i items) left rows)
      (drop_more items i item within ∙ ap (λ x. x ∷ drop (i + 1) items) (sym c.item-item.is))
      (c.loop-item.invariant.told fits needs found all near) in
      let taken : take (i + 1) items ≡ take i items ++ item ∷ [] =
      ap (λ n. take n items) (add-one i) ∙ take-suc items i item within ∙ ap (λ x. take i items ++ x ∷ []) (sym c.item-item.is) in
      let here : IsToldIn t h item = subst (IsToldIn t h) (sym c.item-item.is) (told_at (IsToldIn t h) items i item all within) in
      let close : item.depth ≤ length (last_word [] (take i items)) =
      subst (λ (x : ListItem). x.depth ≤ length (last_word [] (take i items))) (sym c.item-item.is) (near_at [] items i item near within) in
      subst (λ so_far. AreRowsSoFar t table h items so_far (drop (i + 1) items) c.add_rows.new.rows.items) (sym taken)
      (c.in_ok-add_rows.ensures.told items (take i items) (drop (i + 1) items) fits needs found (moves_at g c found all) here close now);
  items = λ t fits all.
      let h = c.args.process.now in
      let items = c.args.items.now in
      let i = c.loop-item.item-index in
      let item = c.item-item.result in
      c.in_ok-add_rows.ensures.items t fits
      (subst (IsToldIn t h) (sym c.item-item.is) (told_at (IsToldIn t h) items i item all c.loop-item-test.true)) (c.loop-item.invariant.items t fits all);
  above = (own g c).2;
  movable = λ found all. moves g c found all;
}

pub returns-clause-told : goal.returns-clause-told
returns-clause-told g c = λ fits needs found all near.
    let t = g.T.FileTree.content c.args.tree.now in
    let h = c.args.process.now in
    let table = c.args.table.now in
    let items = c.args.items.now in
    let i = c.loop-item.item-index in
    let word = last_word [] (take i items) in
    subst (λ left. AreEverTold t [] c.loop-item.rows.items
    (ever_lines_of t table h (flat_map both_of (items_told t [] items) ++ made_left (Some Dir)))
    (ever_lines_of t table h (flat_map both_of (items_told t word left) ++ made_left (Some Dir))))
    (drop_of_length-le items (omega (arith, c.loop-item-test.false)))
    (c.loop-item.invariant.told fits needs found all near).told
