use Rattle.pua_tree.proofs.Common.{◌≡◌, ◌+◌, ◌-◌, ◌∙◌, ℕ, suc, sym, ap, arith, true, false, None, cond, is_dir, lent_spot, climb_within}
use Rattle.std.specs.Prelude.{option_map}
use Rattle.pua_tree.specs.Tree.{climb, dir_spot, is_mount, first_mount}
use Rattle.pua_tree.proofs.Mounts.{first_here, first_root, first_more}
use Rattle.pua_tree.proofs.Sound.{sound_from, above_dir, no_spot_root, spot_says}
use Rattle.pua_tree.proofs.judgement.device.Goals as goal

zero_is : (n : ℕ) → n ≡ 0 + n
zero_is n = omega arith

pub returns-then-not-is_dir : goal.returns-then-not-is_dir
returns-then-not-is_dir g c =
    let t = g.T.Judged.held c.args.tree.now in
    sym (ap (λ b. cond b (first_mount t (climb t c.args.dir)) 0) (sym c.is_dir.ensures ∙ c.if-not-is_dir.true))

pub loop-init : goal.loop-init
loop-init g c =
    let t = g.T.Judged.held c.args.tree.now in
    let living : is_dir t c.args.dir ≡ true = cc in (
      living,
      λ n e.
          (ap (λ steps. first_mount t (climb_within steps t c.args.dir)) (zero_is n ∙ e ∙ c.node_count-end.ensures)
          ∙ sym (ap (λ b. cond b (first_mount t (climb t c.args.dir)) 0) living)),
    )

pub returns-then-has_mount : goal.returns-then-has_mount
returns-then-has_mount g c =
    let t = g.T.Judged.held c.args.tree.now in
    let left = c.node_count-end.result - c.loop.counter in
    let here : is_mount t c.loop.at ≡ true = sym c.has_mount.ensures ∙ c.if-has_mount.true in
    sym (first_here t left c.loop.at here) ∙ c.loop.invariant.1 left (omega arith)

pub returns-in_default : goal.returns-in_default
returns-in_default g c =
    let t = g.T.Judged.held c.args.tree.now in
    let left = c.node_count-end.result - c.loop.counter in
    let other : is_mount t c.loop.at ≡ false = sym c.has_mount.ensures ∙ c.if-has_mount.false in
    let none : dir_spot t c.loop.at ≡ None = sym c.dir_spot.ensures ∙ ap (option_map lent_spot) c.in_default.is in
    let root = no_spot_root t (sound_from t c.is_tree.ensures) c.loop.at c.loop.invariant.0 none in
    sym (first_root t left c.loop.at root other) ∙ c.loop.invariant.1 left (omega arith)

pub loop-preserved : goal.loop-preserved
loop-preserved g c =
    let t = g.T.Judged.held c.args.tree.now in
    let at = c.loop.at in
    let sound = sound_from t c.is_tree.ensures in
    let says = spot_says t sound at (lent_spot c.in-Some.spot) (sym c.dir_spot.ensures ∙ ap (option_map lent_spot) c.in-Some.is) in
    let other : is_mount t at ≡ false = sym c.has_mount.ensures ∙ c.if-has_mount.false in (
      ap (is_dir t) (sym says.2) ∙ above_dir t sound at says.0 says.1,
      λ n e.
          (ap (λ d. first_mount t (climb_within n t d)) (sym says.2)
          ∙ sym (first_more t n at other says.1)
          ∙ c.loop.invariant.1 (suc n) (omega arith)),
    )

pub returns-then-has_mount-2 : goal.returns-then-has_mount-2
returns-then-has_mount-2 g c =
    let t = g.T.Judged.held c.args.tree.now in
    let here : is_mount t c.loop.at ≡ true = sym c.has_mount-2.ensures ∙ c.if-has_mount-2.true in
    sym (first_here t 0 c.loop.at here) ∙ c.loop.invariant.1 0 (omega arith)

pub returns : goal.returns
returns g c =
    let t = g.T.Judged.held c.args.tree.now in
    let other : is_mount t c.loop.at ≡ false = sym c.has_mount-2.ensures ∙ c.if-has_mount-2.false in
    sym (ap (λ b. cond b c.loop.at 0) other) ∙ c.loop.invariant.1 0 (omega arith)
