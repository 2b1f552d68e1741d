use Rattle.pua_tool.proofs.Common.{◌∷◌, ◌++◌, [], ◌∙◌, ap, arith, map, refl, subst, sym}
use Rattle.std.proofs.Common.{◌+◌, get_or, None, take}
use Rattle.std.proofs.lemmas.List.{take_all}
use Rattle.std.specs.List.{AllZip}
use Rattle.pua_calls.specs.Calls.{rule_of}
use Rattle.pua_calls.specs.TmpTable.{tmp_table}
use Rattle.pua_calls.specs.Promises.{holds}
use Rattle.pua_texts.specs.WhyLines.{world_left}
use Rattle.pua_tool.specs.EverColumns.{IsKept, dated_text}
use Rattle.pua_tool.specs.declared.ever_columns.Kept.{Kept}
use Rattle.pua_tool.proofs.EverColumns.{line_shown, shown, shown_more, zip_push}
use Rattle.pua_tool.proofs.ever_columns.kept_each.Goals as goal

pub loop-veil-preserved : goal.loop-veil-preserved
loop-veil-preserved g c =
    let veils = c.args.veils.now in
    let i = c.loop-veil.veil-index in
    let now = c.loop-veil.invariant in
    let veil = c.veil-item.result in
    record {
      tree = c.in_ok-text.ensures.tree ∙ now.tree;
      count = c.in_ok-push.ensures.len ∙ ap (λ n. n + 1) now.count;
      kept = λ p number holder same ruled comings dated.
          let t = (world_left p).tree in
          let line = line_shown p number veils veil i c.date_at-line.result c.args.dates.now c.loop-veil-test.true c.veil-item.is dated
          (c.date_at-line.ensures ∙ ap (λ n. get_or c.args.dates.now n None) (c.len.ensures ∙ now.count)) in
          let kept : Kept = record {
            place = veil.0;
            lets = c.let_through-lets.result;
            taking = c.in_ok-taking.taking;
            text = c.in_ok-text.text;
          } in
          let own : IsKept p number holder (shown veil) kept = record {
            place = refl;
            lets = λ call. c.let_through-lets.ensures call ∙ ap (λ table. holds veil.1.now (rule_of table call).perms) ruled;
            taking = c.in_ok-taking.ensures t (tmp_table p.table) holder comings;
            text = c.in_ok-text.ensures.text ∙ (λ j. dated_text ((now.tree ∙ same) j) veil.0.now veil.1.now (line j));
          } in
          subst (λ ks. AllZip (IsKept p number holder) (map shown (take (i + 1) veils)) ks) (sym c.in_ok-push.ensures.items)
          (subst (λ vs. AllZip (IsKept p number holder) vs (c.loop-veil.kept.items ++ kept ∷ [])) (sym (shown_more veils veil i c.loop-veil-test.true c.veil-item.is))
          (zip_push (IsKept p number holder) (map shown (take i veils)) c.loop-veil.kept.items (shown veil) kept
          (now.kept p number holder same ruled comings dated) own));
    }

pub returns : goal.returns
returns g c = λ p number holder same ruled comings dated.
    subst (λ vs. AllZip (IsKept p number holder) (map shown vs) c.loop-veil.kept.items)
    (take_all c.loop-veil.veil-index c.args.veils.now (omega (arith, c.loop-veil-test.false)))
    (c.loop-veil.invariant.kept p number holder same ruled comings dated)
