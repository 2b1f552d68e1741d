use Rattle.std.proofs.Common.{◌∙◌, ap, subst, sym, List}
use Rattle.pua_script.specs.Requests.{Asked}
use Rattle.pua_script.specs.Replay.{World, answers_to, new_world}
use Rattle.pua_tight.specs.Laws.{leave_out}
use Rattle.pua_tight.specs.Starts.{IsStart}
use Rattle.pua_tight.specs.Uses.{first_other, use_by}
use Rattle.pua_tight.proofs.Starts.{used_more}
use Rattle.pua_tight.proofs.word_use.uses_of.Goals as goal

pub loop-word-preserved : goal.loop-word-preserved
loop-word-preserved c =
    let table = c.args.wanted.now.table.now in
    let w : World = new_world c.args.wanted.now.tree in
    let want = c.args.wanted.now.answers.items in
    let inv = c.loop-word.invariant in
    let start = subst (λ (l : List Asked). IsStart table w l c.loop-word.start) (sym inv.kept) inv.start in
    record {
      kept = c.in_ok-needed_by.ensures.kept ∙ inv.kept;
      start = subst (λ (l : List Asked). IsStart table w l c.other_without.new.start) inv.kept (c.in_ok-needed_by.ensures.start start);
      told = λ same. used_more (use_by table w want c.args.requests.now.items) c.args.words.now c.loop-word.word-index c.word-item.result c.loop-word.uses.items
          c.push.new.self.items _ c.loop-word-test.true c.word-item.is (inv.told same)
          (ap (λ other. record { line = c.word-item.result.line; word = c.word-item.result.piece; needed_by = other })
          (c.in_ok-needed_by.ensures.other (ap (answers_to table w) inv.kept ∙ same) start
          ∙ ap (λ l. first_other (answers_to table w (leave_out c.word-item.result.line c.word-item.result.piece l)) want) inv.kept))
          c.in_ok-push.ensures.items;
    }
