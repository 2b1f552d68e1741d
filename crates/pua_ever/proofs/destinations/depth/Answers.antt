use Rattle.pua_ever.proofs.Common.{◌≡◌, ◌∙◌, length, sym, ap, true, arith, not-true, Some, Tree, is_dir, above, climb, above_lives}
use Rattle.std.proofs.Common.{◌+◌}
use Rattle.std.proofs.lemmas.Bool.{eqb-false}
use Rattle.std.proofs.lemmas.Option.{same_Some}
use Rattle.pua_policy.proofs.ForCallers.{length-climb_step}
use Rattle.pua_ever.proofs.Opened.{when_some}
use Rattle.pua_ever.proofs.destinations.depth.Goals as goal
use Rattle.pua_ever.proofs.destinations.depth.Goals.{After-saturating_add-count}
use Rattle.pua_ever.proofs.destinations.depth.Given.{Over}

module _ (g : Over) (c : After-saturating_add-count g) where
  abbrev t : Tree
  t = g.T.FileTree.content c.args.tree.now

  -- what is above a directory is found there
  up : (is_dir t c.loop-at.at ≡ true) × (Some (above t c.loop-at.at) ≡ Some c.in-Some.above)
  up = when_some (is_dir t c.loop-at.at) (Some (above t c.loop-at.at)) c.in-Some.above (sym c.parent.ensures ∙ c.in-Some.is)

  same : c.in-Some.above ≡ above t c.loop-at.at
  same = sym (same_Some _ _ up.1)

  -- so one directory less is left
  less : length (climb t c.loop-at.at) ≡ length (climb t c.in-Some.above) + 1
  less = length-climb_step t c.known.ensures c.loop-at.at (eqb-false c.loop-at.at 0 (not-true _ (sym c.loop-at-test.ensures))) up.0 ∙
      ap (λ d. length (climb t d) + 1) (sym same)

pub loop-at-smaller : goal.loop-at-smaller
loop-at-smaller g c = omega (arith, less g c)

pub loop-at-preserved : goal.loop-at-preserved
loop-at-preserved g c = record {
  passed = c.loop-at.invariant.passed + 1;
  count = omega (arith, c.loop-at.invariant.count, c.saturating_add-count.ensures);
  living = ap (is_dir (t g c)) (same g c) ∙ above_lives (t g c) c.loop-at.at c.known.ensures ∙ sym (up g c).0 ∙ c.loop-at.invariant.living;
  all = λ is. omega (arith, less g c, c.loop-at.invariant.all is);
}
