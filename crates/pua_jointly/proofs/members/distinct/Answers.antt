use Rattle.pua_jointly.proofs.Common.{◌≡◌, ◌∙◌, ◌∷◌, ◌++◌, [], ap, contained, false≢true, ProcessState, subst, sym, take, ℕ, List}
use Rattle.std.specs.Bool.{Decides}
use Rattle.std.specs.Borrow.{Bor}
use Rattle.std.specs.List.{Contains}
use Rattle.std.proofs.lemmas.List.{map-append}
use Rattle.pua_jointly.specs.JointMembers.{SameMembers, states}
use Rattle.pua_jointly.specs.JointPlace.{Once}
use Rattle.pua_jointly.proofs.JointMembers.{once_more, same_more, same_there, states_more}
use Rattle.pua_jointly.proofs.members.distinct.Goals as goal
use Rattle.pua_jointly.proofs.members.distinct.Goals.{else-not-branch, then-not-branch+in_ok-push}

pub loop-process-preserved : goal.loop-process-preserved
loop-process-preserved c =
    let i : ℕ = c.loop-process.process-index in
    let all = c.args.processes.now in
    let process : Bor ProcessState = c.process-item.result in
    let kept : List (Bor ProcessState) = c.loop-process.kept.items in
    let more = states_more all i process c.loop-process-test.true c.process-item.is in
    let inv = c.loop-process.invariant in
    let equal : Decides c.in_ok-has_equal.field-0 (Contains (states kept) process.now) =
    subst (λ (ps : List (Bor ProcessState)). Decides c.in_ok-has_equal.field-0 (Contains (states ps) process.now)) c.deref.ensures.value
    c.in_ok-has_equal.ensures in
    elim c.if-not-branch.branch [
      | then-not-branch+in_ok-push w ↦
          (let items : states c.if-not-branch.kept.items ≡ states kept ++ process.now ∷ [] =
          ap (λ v. states v.items) w.kept-is ∙ ap states w.in_ok-push.ensures.items
          ∙ map-append (λ (p : Bor ProcessState). p.now) kept (process ∷ []) in
          record {
            once = subst Once (sym items) (once_more (states kept) process.now inv.once (λ a.
                false≢true (sym w.if-not-branch.true ∙ equal.1 (contained (states kept) process.now a))));
            same = subst (λ xs. SameMembers xs (states c.if-not-branch.kept.items)) (sym more)
                (subst (SameMembers (states (take i all) ++ process.now ∷ [])) (sym items)
                (same_more (states (take i all)) (states kept) process.now inv.same));
          })
      | else-not-branch w ↦
          (let items : states c.if-not-branch.kept.items ≡ states kept = ap (λ v. states v.items) w.kept-is in
          record {
            once = subst Once (sym items) inv.once;
            same = subst (λ xs. SameMembers xs (states c.if-not-branch.kept.items)) (sym more)
                (subst (SameMembers (states (take i all) ++ process.now ∷ [])) (sym items)
                (same_there (states (take i all)) (states kept) process.now inv.same (equal.0 w.if-not-branch.false)));
          })
    ]
