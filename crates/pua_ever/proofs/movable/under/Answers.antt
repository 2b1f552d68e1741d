use Rattle.pua_ever.proofs.Common.{Bool, take, sym, ap, ◌∙◌, ◌||◌, list_any, empty_tree, covered_verdict, is_allowed, Cover}
use Rattle.std.proofs.lemmas.List.Folds.{list_any_more}
use Rattle.pua_ever.proofs.movable.under.Goals as goal
use Rattle.pua_calls.proofs.ForCallers.{has_none}

pub loop-cover-init : goal.loop-cover-init
loop-cover-init c = record { so_far = λ judged seen call. has_none call }

pub loop-cover-preserved : goal.loop-cover-preserved
loop-cover-preserved c = record {
  so_far = λ judged seen call.
      let h = c.args.process.now in
      let p : Cover → Bool = λ left. is_allowed (covered_verdict empty_tree c.args.table.now h call left judged) in
      let i = c.loop-cover.cover-index in
      c.union-calls.ensures call
      ∙ (λ k. c.loop-cover.invariant.so_far judged seen call k || c.allowed-more.ensures empty_tree judged seen call k)
      ∙ ap (λ x. list_any p (take i c.args.covers.now) || p x) c.cover-item.is
      ∙ sym (list_any_more p c.args.covers.now i c.cover-item.result c.loop-cover-test.true);
}
