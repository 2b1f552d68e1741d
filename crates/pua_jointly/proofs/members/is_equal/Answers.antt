use Rattle.pua_jointly.proofs.Common.{◌≡◌, ◌∙◌, ap, map, subst, sym, Place, List, ℕ}
use Rattle.std.specs.Bool.{Decides}
use Rattle.pua_jointly.specs.JointMembers.{veil_now}
use Rattle.pua_jointly.proofs.JointMembers.{equal_by, other_files, unequal_by}
use Rattle.pua_jointly.proofs.members.is_equal.Goals as goal
use Rattle.pua_jointly.proofs.members.is_equal.Goals.{else-has_same_state, then-has_same_state}

pub returns-then-not-alike : goal.returns-then-not-alike
returns-then-not-alike c =
    other_files c.args.one.now c.args.other.now
    (subst (λ r. Decides r (c.args.one.now.files ≡ c.args.other.now.files)) c.if-not-alike.true c.in_ok-alike.ensures)

pub returns : goal.returns
returns c =
    let a = c.args.one.now in
    let b = c.args.other.now in
    elim c.if-has_same_state.branch [
      | then-has_same_state w ↦
          (let own : map veil_now w.deref.result.now ≡ a.veils = ap (map veil_now) w.deref.ensures.value ∙ c.in_ok-own.ensures.state in
          let others : map veil_now w.deref-then-has_same_state.result.now ≡ b.veils =
          ap (map veil_now) w.deref-then-has_same_state.ensures.value ∙ c.in_ok-others.ensures.state in
          subst (λ r. Decides r (a ≡ b)) (sym w.result-is)
          (equal_by a b w.are_same.result (sym c.has_same_state.ensures ∙ w.if-has_same_state.true) (c.in_ok-alike.ensures.0 c.if-not-alike.false)
          (subst (λ (vs : List (Place × ℕ)). Decides w.are_same.result (vs ≡ b.veils)) own
          (subst (λ (vs : List (Place × ℕ)). Decides w.are_same.result (map veil_now w.deref.result.now ≡ vs)) others w.are_same.ensures))))
      | else-has_same_state w ↦
          subst (λ r. Decides r (a ≡ b)) (sym (w.result-is ∙ w.if-has_same_state.false))
          (unequal_by a b (sym c.has_same_state.ensures ∙ w.if-has_same_state.false))
    ]
