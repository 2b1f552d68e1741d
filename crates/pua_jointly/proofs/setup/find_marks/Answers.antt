use Rattle.pua_jointly.proofs.Common.{◌∷◌, ◌++◌, [], map, Place, subst, sym, take, ℕ, List}
use Rattle.pua_jointly.specs.JointMembers.{veil_now}
use Rattle.pua_jointly.specs.JointSetting.{AreMarksOf}
use Rattle.pua_jointly.specs.declared.crew.Mark.{Mark}
use Rattle.pua_jointly.proofs.JointGathered.{marks_more, marks_still, veils_step}
use Rattle.pua_jointly.proofs.setup.find_marks.Goals as goal

pub loop-veil-preserved-in_default : goal.loop-veil-preserved-in_default
loop-veil-preserved-in_default g c =
    let t = g.T.FileTree.content c.args.tree.now in
    let entries = c.args.entries.now.all.items in
    let veils = c.args.veils.now in
    let i : ℕ = c.loop-veil.veil-index in
    let veil = c.veil-item.result in
    record {
      marks = subst (λ (vs : List (Place × ℕ)). AreMarksOf t entries vs c.loop-veil.marks.items)
          (sym (veils_step veils i veil c.loop-veil-test.true c.veil-item.is))
          (marks_still t entries (map veil_now (take i veils)) c.loop-veil.marks.items c.loop-veil.invariant.marks (veil_now veil) c.in_default.ensures);
    }

pub loop-veil-preserved : goal.loop-veil-preserved
loop-veil-preserved g c =
    let t = g.T.FileTree.content c.args.tree.now in
    let entries = c.args.entries.now.all.items in
    let veils = c.args.veils.now in
    let i : ℕ = c.loop-veil.veil-index in
    let veil = c.veil-item.result in
    let marks : List Mark = c.loop-veil.marks.items in
    record {
      marks = subst (λ (vs : List (Place × ℕ)). AreMarksOf t entries vs c.push.new.self.items)
          (sym (veils_step veils i veil c.loop-veil-test.true c.veil-item.is))
          (subst (AreMarksOf t entries (map veil_now (take i veils) ++ veil_now veil ∷ [])) (sym c.in-Ok.ensures.items)
          (marks_more t entries (map veil_now (take i veils)) marks c.loop-veil.invariant.marks (veil_now veil) c.in-Some.mark c.in-Some.ensures));
    }
