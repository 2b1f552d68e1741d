use Rattle.pua_tree.proofs.Common.{◌≡◌, ◌+◌, ◌-◌, ◌==◌, ◌∙◌, ℕ, sym, ap, arith, suc, true, false, ◌&&◌, None}
use Rattle.pua_tree.proofs.Common.{list_any, climb_within, is_dir, lent_spot}
use Rattle.pua_tree.specs.Tree.{climb, dir_spot}
use Rattle.std.specs.Prelude.{option_map}
use Rattle.pua_tree.proofs.Sound.{climb_here, climb_root, climb_more, climb_last, sound_from, above_dir, no_spot_root, spot_says}
use Rattle.pua_tree.proofs.judgement.is_within.Goals as goal

zero_is : (n : ℕ) → n ≡ 0 + n
zero_is n = omega arith

pub returns-then-not-is_dir : goal.returns-then-not-is_dir
returns-then-not-is_dir g c =
    let t = g.T.Judged.held c.args.tree.now in
    sym (ap (λ b. b && list_any (λ d. d == c.args.outer) (climb t c.args.dir)) (sym c.is_dir.ensures ∙ c.if-not-is_dir.true))

pub loop-init : goal.loop-init
loop-init g c =
    let t = g.T.Judged.held c.args.tree.now in
    let living : is_dir t c.args.dir ≡ true = cc in (
      living,
      λ n e.
          (ap (λ steps. list_any (λ d. d == c.args.outer) (climb_within steps t c.args.dir)) (zero_is n ∙ e ∙ c.node_count-end.ensures)
          ∙ sym (ap (λ b. b && list_any (λ d. d == c.args.outer) (climb t c.args.dir)) living)),
    )

pub returns-then-eq : goal.returns-then-eq
returns-then-eq g c =
    let left = c.node_count-end.result - c.loop.counter in
    let here : (c.loop.at == c.args.outer) ≡ true = sym c.eq.ensures ∙ c.if-eq.true in
    sym (climb_here (g.T.Judged.held c.args.tree.now) left c.loop.at c.args.outer here) ∙ c.loop.invariant.1 left (omega arith)

pub returns-in_default : goal.returns-in_default
returns-in_default g c =
    let t = g.T.Judged.held c.args.tree.now in
    let left = c.node_count-end.result - c.loop.counter in
    let other : (c.loop.at == c.args.outer) ≡ false = sym c.eq.ensures ∙ c.if-eq.false in
    let none : dir_spot t c.loop.at ≡ None = sym c.dir_spot.ensures ∙ ap (option_map lent_spot) c.in_default.is in
    let root = no_spot_root t (sound_from t c.is_tree.ensures) c.loop.at c.loop.invariant.0 none in
    sym (climb_root t left c.loop.at c.args.outer other root) ∙ c.loop.invariant.1 left (omega arith)

pub loop-preserved : goal.loop-preserved
loop-preserved g c =
    let t = g.T.Judged.held c.args.tree.now in
    let at = c.loop.at in
    let sound = sound_from t c.is_tree.ensures in
    let says = spot_says t sound at (lent_spot c.in-Some.spot) (sym c.dir_spot.ensures ∙ ap (option_map lent_spot) c.in-Some.is) in
    let other : (at == c.args.outer) ≡ false = sym c.eq.ensures ∙ c.if-eq.false in (
      ap (is_dir t) (sym says.2) ∙ above_dir t sound at says.0 says.1,
      λ n e.
          (ap (λ d. list_any (λ x. x == c.args.outer) (climb_within n t d)) (sym says.2)
          ∙ sym (climb_more t n at c.args.outer other says.1)
          ∙ c.loop.invariant.1 (suc n) (omega arith)),
    )

pub returns : goal.returns
returns g c =
    c.eq-2.ensures ∙ sym (climb_last (g.T.Judged.held c.args.tree.now) c.loop.at c.args.outer) ∙ c.loop.invariant.1 0 (omega arith)
