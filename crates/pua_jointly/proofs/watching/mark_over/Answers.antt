use Rattle.pua_jointly.proofs.Common.{◌≡◌, ◌≢◌, ◌∙◌, ◌&&◌, ◌||◌, ◌==◌, Bool, ℕ, true, false, length, not, refl, sym, ap, arith, cond, false≢true, eq-eqb, eqb-true, Some, None}
use Rattle.pua_jointly.proofs.Common.{same_Some, subst, Tree, above}
use Rattle.std.proofs.Common.{get_or}
use Rattle.pua_tree.specs.Tree.{climb}
use Rattle.pua_policy.proofs.ForCallers.{length-climb_step}
use Rattle.pua_jointly.proofs.JointWatches.{Climbing, climb_ends, climb_goes_on}
use Rattle.pua_jointly.proofs.watching.mark_over.Goals as goal
use Rattle.pua_jointly.proofs.watching.mark_over.Goals.{After-mark}
use Rattle.pua_jointly.proofs.watching.mark_over.Given.{Over}

not_false : (b : Bool) → not b ≡ false → b ≡ true
not_false true e = refl
not_false false e = sym e

module _ (g : Over) (c : After-mark g) where
  abbrev t : Tree
  t = g.T.FileTree.content c.args.tree.now

  under : c.loop-dir.at ≢ 0
  under same = false≢true (sym (ap not (eq-eqb c.loop-dir.at 0 same)) ∙ sym c.ne-in-loop-dir.ensures ∙ c.loop-dir-test.true)

  up : above t c.loop-dir.at ≡ c.in-Some.above
  up = same_Some (above t c.loop-dir.at) c.in-Some.above
      (ap (λ b. cond b (Some (above t c.loop-dir.at)) None) (sym c.loop-dir.invariant.living) ∙ sym c.parent.ensures ∙ c.in-Some.is)

-- one directory less is left
pub loop-dir-smaller : goal.loop-dir-smaller
loop-dir-smaller g c =
    let less = length-climb_step (t g c) c.known.ensures c.loop-dir.at (under g c) c.loop-dir.invariant.living in
    let same = ap (λ d. length (climb (t g c) d)) (up g c) in
    omega (arith, less, same)

pub loop-dir-preserved : goal.loop-dir-preserved
loop-dir-preserved g c =
    let dir : ℕ = c.args.dir in
    let now = c.loop-dir.watched.items in
    subst (Climbing (t g c) dir c.args.watched.now.items c.mark.new.marked.items) (up g c)
    (climb_goes_on (t g c) c.known.ensures dir c.args.watched.now.items now c.loop-dir.at c.loop-dir.invariant c.mark.new.marked.items (under g c)
    c.mark.ensures.full
    (λ other low. c.mark.ensures.marked other low
    ∙ ap (λ b. get_or now other false || ((c.in-Some.above == other) && b)) c.ne-in-loop-dir-2.ensures
    ∙ ap (λ x. get_or now other false || ((x == other) && not (x == dir))) (sym (up g c))))

pub returns-clause-marked : goal.returns-clause-marked
returns-clause-marked g c =
    let root : c.loop-dir.at ≡ 0 = eqb-true c.loop-dir.at 0 (not_false _ (sym c.ne-in-loop-dir.ensures ∙ c.loop-dir-test.false)) in
    climb_ends (g.T.FileTree.content c.args.tree.now) c.known.ensures c.args.dir c.args.watched.now.items c.loop-dir.watched.items c.loop-dir.at
    c.loop-dir.invariant root
