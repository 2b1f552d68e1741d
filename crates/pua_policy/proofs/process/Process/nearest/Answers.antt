use Rattle.pua_policy.proofs.Common.{◌≡◌, ◌≢◌, ◌∙◌, ℕ, Bool, true, false, refl, sym, ap, arith, eq-eqb, Option, Some, None, if◌then◌else◌}
use Rattle.pua_policy.proofs.Common.{above, climb, is_dir, Dir, veil_at, first_veiled}
use Rattle.pua_tree.specs.Tree.{parent}
use Rattle.pua_policy.proofs.Climbs.{climb-some, climb-more, length-climb, length-climb_step, is_dir_above}
use Rattle.pua_policy.proofs.Veiled.{veiled_here, veiled_above}
use Rattle.pua_policy.proofs.process.Process.nearest.Goals as goal
use Rattle.pua_policy.proofs.process.Process.nearest.Goals.{In-Some-parent}
use Rattle.pua_policy.proofs.process.Process.nearest.Given.{Over}

-- the directory is not the root
is_other : (g : Over) (c : In-Some-parent g) → c.loop-perms.dir ≢ 0
is_other g c = λ e. let root = sym c.if-eq.false ∙ c.eq.ensures ∙ eq-eqb c.loop-perms.dir 0 e in cc

-- what has a directory above it is one
parted : (living : Bool) (up found : ℕ) → ◌≡◌ {A = Option ℕ} (if living then Some up else None) (Some found) →
    (living ≡ true) × (found ≡ up)
parted true up found e = (refl, cc)
parted false up found e = cc

-- so the climb goes on above it
goes_up : (g : Over) (c : In-Some-parent g) →
    (is_dir (g.P.Probe.tree c.args.probe.now) c.loop-perms.dir ≡ true) ×
    (c.in-Some-parent.above ≡ above (g.P.Probe.tree c.args.probe.now) c.loop-perms.dir)
goes_up g c =
    let t = g.P.Probe.tree c.args.probe.now in
    let dir = c.loop-perms.dir in
    parted (is_dir t dir) (above t dir) c.in-Some-parent.above
    (ap (λ t. parent t dir) (sym c.loop-perms.invariant.same_tree) ∙ sym c.parent.ensures.parent ∙ c.in-Some-parent.is)

pub returns-in-Some-clause-exact : goal.returns-in-Some-clause-exact
returns-in-Some-clause-exact g c = λ living.
    let t = g.P.Probe.tree c.args.probe.now in
    sym (veiled_here t (λ dir. veil_at c.args.self.now.veils (Dir dir)) c.loop-perms.dir c.in-Some.perms (sym c.kept.ensures.state ∙
    c.in-Some.is))
    ∙ c.loop-perms.invariant.still_nearest

pub returns-in-Some-clause-cost : goal.returns-in-Some-clause-cost
returns-in-Some-clause-cost g c =
    let t = g.P.Probe.tree c.args.probe.now in
    omega (arith, climb-some t c.loop-perms.dir, length-climb t c.args.from, c.loop-perms.invariant.cost)

pub returns-then-eq-clause-cost : goal.returns-then-eq-clause-cost
returns-then-eq-clause-cost g c =
    let t = g.P.Probe.tree c.args.probe.now in
    omega (arith, climb-some t c.loop-perms.dir, length-climb t c.args.from, c.loop-perms.invariant.cost)

pub loop-perms-smaller : goal.loop-perms-smaller
loop-perms-smaller g c =
    let t = g.P.Probe.tree c.args.probe.now in
    let up = goes_up g c in
    let step = length-climb_step t c.known.ensures c.loop-perms.dir (is_other g c) up.0 in
    rw (c.parent.ensures.tree, c.loop-perms.invariant.same_tree, up.1) (omega (arith, step))

pub loop-perms-preserved : goal.loop-perms-preserved
loop-perms-preserved g c =
    let t = g.P.Probe.tree c.args.probe.now in
    let dir = c.loop-perms.dir in
    let up = goes_up g c in
    let step = length-climb_step t c.known.ensures dir (is_other g c) up.0 in
    record {
      same_tree = c.parent.ensures.tree ∙ c.loop-perms.invariant.same_tree;
      living = λ _. rw (up.1) (is_dir_above t c.known.ensures dir);
      still_nearest = ap (λ d. first_veiled (λ dir. veil_at c.args.self.now.veils (Dir dir)) (climb t d)) up.1
          ∙ sym (veiled_above t c.known.ensures (λ dir. veil_at c.args.self.now.veils (Dir dir)) dir (is_other g c) up.0
          (sym c.kept.ensures.state ∙ c.in_default.is))
          ∙ c.loop-perms.invariant.still_nearest;
      cost = rw (up.1) (omega (arith, step, c.parent.ensures.count, c.loop-perms.invariant.cost));
    }

pub returns-in_default-parent-clause-cost : goal.returns-in_default-parent-clause-cost
returns-in_default-parent-clause-cost g c =
    let t = g.P.Probe.tree c.args.probe.now in
    let other : c.loop-perms.dir ≢ 0 = λ e. let root = sym c.if-eq.false ∙ c.eq.ensures ∙ eq-eqb c.loop-perms.dir 0 e in cc in
    omega (
      arith,
      climb-more t c.known.ensures c.loop-perms.dir other,
      length-climb t c.args.from,
      c.parent.ensures.count,
      c.loop-perms.invariant.cost,
    )
