use Rattle.pua_jointly.proofs.Common.{◌==◌, ◌&&◌, ◌∙◌, ap, not, sym, ℕ}
use Rattle.pua_jointly.specs.JointFound.{turns_in}
use Rattle.pua_jointly.specs.JointRounds.{is_taken, stays_in}
use Rattle.pua_jointly.specs.declared.crew.Entry.{Entry}
use Rattle.pua_jointly.proofs.JointGathered.{marked_more}
use Rattle.pua_jointly.proofs.facts.Facts.marks.Goals as goal

pub loop-entry-preserved : goal.loop-entry-preserved
loop-entry-preserved c =
    let facts = c.args.self.now in
    let all = c.args.entries.now in
    let i : ℕ = c.loop-entry.entry-index in
    let item : Entry = c.entry-item.result in
    let inv = c.loop-entry.invariant in
    record {
      held_full = c.mark.ensures.full ∙ inv.held_full;
      turned_full = c.mark-in-loop-entry.ensures.full ∙ inv.turned_full;
      held = marked_more (stays_in facts.crew.columns facts.crew.shape.agents facts.told.items) all i item c.args.count c.loop-entry.held.items c.mark.new.marked.items item.dir
          (not c.is_taken-stays.result) c.loop-entry-test.true c.entry-item.is inv.held_full c.mark.ensures.marked
          (λ n. ap (λ b. (item.dir == n) && not b)
          (ap (λ words. is_taken facts.crew.columns facts.crew.shape.agents words item.row) (sym c.deref.ensures.value) ∙ sym c.is_taken-stays.ensures)) inv.held;
      turned = marked_more (turns_in facts.crew facts.told.items) all i item c.args.count c.loop-entry.turned.items
          c.mark-in-loop-entry.new.marked.items item.node c.turns.result c.loop-entry-test.true c.entry-item.is inv.turned_full c.mark-in-loop-entry.ensures.marked
          (λ n. ap (λ b. (item.node == n) && b) (sym c.turns.ensures)) inv.turned;
    }
