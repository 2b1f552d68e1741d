use Rattle.pua_jointly.proofs.Common.{◌≡◌, ◌<◌, ◌∙◌, ◌∷◌, ◌++◌, [], ap, arith, false, length, map, Option, subst, sym, ℕ, List}
use Rattle.std.specs.Prelude.{◌+◌, get_or}
use Rattle.std.proofs.lemmas.Grind.{common_steps}
use Rattle.std.proofs.lemmas.List.{length-append}
use Rattle.pua_jointly.specs.JointMembers.{veil_now}
use Rattle.pua_jointly.specs.JointSetting.{AreColumns, AreWatched, is_watched}
use Rattle.pua_jointly.specs.declared.crew.Watch.{Watch}
use Rattle.pua_jointly.proofs.JointGathered.{watches_more, watches_still}
use Rattle.pua_jointly.proofs.JointWatches.{columns_more, columns_still}
use Rattle.pua_jointly.proofs.watching.find_watches.Goals as goal
use Rattle.pua_jointly.proofs.watching.find_watches.Goals.{else-is_marked, then-is_marked+in_ok-push}

pub loop-number-preserved : goal.loop-number-preserved
loop-number-preserved g c =
    let t = g.T.FileTree.content c.args.tree.now in
    let many : ℕ = length c.args.members.now in
    let veils = map veil_now c.args.veils.now in
    let number : ℕ = c.loop-number.number in
    let watches : List Watch = c.loop-number.watches.items in
    let columns : List (Option ℕ) = c.loop-number.columns.items in
    let inv = c.loop-number.invariant in
    let few = inv.few in
    let all = inv.all in
    let dir : c.new-dir.result ≡ number = grind (arith, common_steps) in
    let low : number < c.args.last + 1 = grind (arith, common_steps) in
    let told : c.is_marked.result ≡ is_watched t veils number = c.is_marked.ensures
    ∙ (λ z. get_or (c.deref.ensures.value z) (dir z) false) ∙ c.in_ok-watched.ensures number low in
    let gained = c.in_ok-push-2.ensures.items in
    let longer = ap length gained ∙ length-append columns (c.if-is_marked.column ∷ []) in
    elim c.if-is_marked.branch [
      | then-is_marked+in_ok-push w ↦
          (let watch : Watch = record { dir = c.new-dir.result; column = many + 1 + w.len.result } in
          let items : c.if-is_marked.watches.items ≡ watches ++ watch ∷ [] = ap (λ v. v.items) w.watches-is ∙ w.in_ok-push.ensures.items in
          let long : w.len.result ≡ length watches = grind (arith, common_steps) in
          let more = length-append watches (watch ∷ []) in
          let longer_by = ap length items in
          record {
            watched = subst (AreWatched t many (number + 1) veils) (sym items)
                (watches_more t many number veils watches inv.watched watch dir (omega (arith, long)) (sym told ∙ w.if-is_marked.true));
            few = omega (arith, few, more, longer_by);
            columns = subst (λ (ws : List Watch). AreColumns ws c.push-in-loop-number.new.self.items) (sym items)
                (subst (AreColumns (watches ++ watch ∷ [])) (sym (gained ∙ ap (λ x. columns ++ x ∷ []) w.column-is))
                (columns_more watches columns inv.columns watch (dir ∙ sym all)));
            all = omega (arith, all, longer);
          })
      | else-is_marked w ↦
          (let items : c.if-is_marked.watches.items ≡ watches = ap (λ v. v.items) w.watches-is in
          let longer_by = ap length items in
          record {
            watched = subst (AreWatched t many (number + 1) veils) (sym items)
                (watches_still t many number veils watches inv.watched (sym told ∙ w.if-is_marked.false));
            few = omega (arith, few, longer_by);
            columns = subst (λ (ws : List Watch). AreColumns ws c.push-in-loop-number.new.self.items) (sym items)
                (subst (AreColumns watches) (sym (gained ∙ ap (λ x. columns ++ x ∷ []) w.column-is)) (columns_still watches columns inv.columns));
            all = omega (arith, all, longer);
          })
    ]

pub returns-clause-watches : goal.returns-clause-watches
returns-clause-watches g c =
    let last : c.loop-number.number ≡ c.args.last + 1 = grind (arith, common_steps) in
    subst (λ n. AreWatched (g.T.FileTree.content c.args.tree.now) (length c.args.members.now) n (map veil_now c.args.veils.now) c.loop-number.watches.items)
    last c.loop-number.invariant.watched
