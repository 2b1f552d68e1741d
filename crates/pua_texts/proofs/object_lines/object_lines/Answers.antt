use Rattle.pua_texts.proofs.Common.{◌≡◌, ◌∷◌, ◌++◌, ◌+◌, [], sym, subst, refl, drop, arith, None, List}
use Rattle.pua_texts.specs.EndingsState.{plain}
use Rattle.pua_objects.specs.ListItems.{items_told}
use Rattle.pua_texts.specs.ListLines.{last_word, lines_text}
use Rattle.pua_texts.specs.declared.list_line.ListLine.{ListLine}
use Rattle.pua_texts.proofs.ItemLines.{told, told_all, told_at, told_more}
use Rattle.pua_texts.proofs.object_lines.object_lines.Goals as goal

pub loop-item-preserved : goal.loop-item-preserved
loop-item-preserved c = λ t by_root all.
    let shown = c.args.shown.now in
    let h = c.args.process.now in
    let table = c.args.table.now in
    let items = c.args.items.now in
    let i = c.loop-item.item-index in
    let item = c.item-item.result in
    let here = told_at t h items item i c.loop-item-test.true c.item-item.is all in
    subst (λ (lines : List ListLine). lines_text plain [] lines ++ told t table h shown (λ line. 10 ∷ [])
    (items_told t (last_word [] lines) (drop (i + 1) items)) ≡ told t table h shown (λ line. 10 ∷ []) (items_told t [] items))
    (sym c.in-Ok.ensures.items)
    (told_more t table h shown (λ line. 10 ∷ []) plain items item i c.loop-item-test.true c.item-item.is c.name.result c.name.ensures
    c.shown_line-line.result
    (c.shown_line-line.ensures h table t c.new-allowed.ensures by_root here) 0 None c.loop-item.lines.items _ (λ word. refl)
    (c.loop-item.invariant t by_root all))

pub returns : goal.returns
returns c = λ t by_root all.
    told_all t c.args.table.now c.args.process.now c.args.shown.now (λ line. 10 ∷ []) plain c.args.items.now c.loop-item.item-index c.loop-item.lines.items _
    (omega (arith, c.loop-item-test.false)) (c.loop-item.invariant t by_root all)
