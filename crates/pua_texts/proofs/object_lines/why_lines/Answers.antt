use Rattle.pua_texts.proofs.Common.{◌≡◌, ◌++◌, ◌+◌, [], List, ap, sym, subst, ◌∙◌, drop, length, arith, CallTable, calls_in, resting_on}
use Rattle.pua_texts.proofs.Common.{world_left, subject_given}
use Rattle.std.proofs.Common.{length-append}
use Rattle.pua_objects.specs.Lines.{IsShownLine}
use Rattle.pua_objects.specs.ListItems.{items_told}
use Rattle.pua_texts.specs.ListLines.{last_word, lines_text}
use Rattle.pua_texts.specs.WhyLists.{AreColumnsOf}
use Rattle.pua_texts.specs.declared.list_line.ListLine.{ListLine}
use Rattle.pua_texts.proofs.ItemLines.{line_on, told, told_all, told_at, told_more}
use Rattle.pua_texts.proofs.ListLines.{AreNumbered, lines_grown, numbered_added, numbered_more}
use Rattle.pua_texts.proofs.WhyColumns.{behind, behind_is, covering_alike, lines_behind}
use Rattle.pua_texts.proofs.object_lines.why_lines.Goals as goal

pub loop-item-preserved : goal.loop-item-preserved
loop-item-preserved c =
    let items = c.args.items.now in
    let i = c.loop-item.item-index in
    let item = c.item-item.result in
    let inv = c.loop-item.invariant in
    let num = c.in_ok-resting.ensures in
    let new = c.number_of.new.self in
    let lines = c.loop-item.lines.items in
    let old = c.loop-item.columns in
    let shown = c.args.shown.now in
    record {
      veils = num.veils ∙ inv.veils;
      unveiled = num.unveiled ∙ inv.unveiled;
      numbered = subst (AreNumbered new.resting) (sym c.in-Ok.ensures.items)
          (numbered_added new.resting lines _ (numbered_more old.resting new.resting lines (omega (
            arith,
            ap length num.grows,
            length-append old.resting num.more,
          )) inv.numbered) num.within);
      lines = λ p number ruled by_root all are.
          let h = c.args.process.now in
          let t = (world_left p).tree in
          let here = told_at t h items item i c.loop-item-test.true c.item-item.is all in
          let subject = subject_given t item.item.subject in
          let line = c.shown_line-line.result in
          let on : IsShownLine t p.table h shown subject line =
          subst (λ (table : CallTable). IsShownLine t table h shown subject line) ruled
          (c.shown_line-line.ensures h c.args.table.now t c.new-allowed.ensures by_root here)
          in
          let own : AreColumnsOf p number h.veils new = record {
            veils = num.veils ∙ inv.veils ∙ are.veils;
            unveiled = num.unveiled ∙ inv.unveiled ∙ are.unveiled;
          } in
          let rests = c.resting_on.ensures ∙ ap (λ (table : CallTable). resting_on table h (calls_in line.calls)) ruled in
          subst (λ (lines : List ListLine). lines_text new [] lines ++ told t p.table h shown (behind p number h)
          (items_told t (last_word [] lines) (drop (i + 1) items)) ≡ told t p.table h shown (behind p number h) (items_told t [] items))
          (sym c.in-Ok.ensures.items)
          (told_more t p.table h shown (behind p number h) new items item i c.loop-item-test.true c.item-item.is c.name.result c.name.ensures line on
          c.in_ok-resting.resting item.veil lines _
          (λ word. behind_is p number h h.veils new (line_on word subject line) c.resting_on.result c.in_ok-resting.resting
          item.veil own num.is rests (here.veil ∙ covering_alike t h subject))
          (ap (λ s. s ++ told t p.table h shown (behind p number h) (items_told t (last_word [] lines) (drop i items)))
          (lines_grown old new num.more num.grows num.veils num.unveiled [] lines inv.numbered) ∙ inv.lines p number ruled by_root all are));
    }

pub returns : goal.returns
returns c = λ p number ruled by_root all are.
    let h = c.args.process.now in
    told_all (world_left p).tree p.table h c.args.shown.now (behind p number h) c.loop-item.columns c.args.items.now c.loop-item.item-index
    c.loop-item.lines.items _ (omega (arith, c.loop-item-test.false)) (c.loop-item.invariant.lines p number ruled by_root all are)
    ∙ lines_behind p number h _
