use Rattle.pua_jointly.proofs.Common.{◌∙◌, sym, ap, subst, or_left, or_right, Tree, ℕ}
use Rattle.std.specs.Prelude.{◌==◌, ◌/◌, get_or}
use Rattle.std.specs.Int.{bit_at}
use Rattle.pua_jointly.specs.JointFacts.{watches}
use Rattle.pua_jointly.specs.JointSetup.{FollowsTold, RoundsState, crew_told, devices_told, guarded_told, hands_told, side_of, spots_told}
use Rattle.pua_jointly.specs.declared.crew.Crew.{Crew}
use Rattle.pua_jointly.proofs.Gaining.{has_or}
use Rattle.pua_jointly.proofs.JointSteps.{full_has, step_only, step_all}
use Rattle.pua_jointly.proofs.finding.RoundsSteps.next.Goals as goal

pub returns-then-is_full-clause-all : goal.returns-then-is_full-clause-all
returns-then-is_full-clause-all g c = λ bit new.
    let t : Tree = g.T.FileTree.content c.self.inside.tree.now in
    let k : Crew = c.self.inside.crew.now in
    let out = c.self.invariant.0 in
    let word : ℕ = get_or c.args.told.now c.args.at 0 in
    has_or word 0 bit
    ∙ or_left (bit_at word bit == 1) (bit_at 0 bit == 1)
    (full_has t k c.args.told.now (c.args.at / k.columns) c.row.result c.part.result (side_of k c.row.result) word bit
    (sym c.is_full.ensures ∙ c.if-is_full.true)
    (step_all t out.0 c.self.inside.table.now (crew_told k) (devices_told k) (watches t (crew_told k)) (spots_told k) (guarded_told k) k out.1 c.args.told.now
    c.args.at c.row.result c.part.result (c.row.ensures (hands_told k) (spots_told k) (sym out.1.hands))
    (c.part.ensures (crew_told k) (guarded_told k) (sym out.1.many)) bit
    (subst (λ (s : RoundsState). FollowsTold s.tree s.table s.crew c.args.told.now c.args.at bit) (sym c.self.view_is) new)))

pub returns-clause-only : goal.returns-clause-only
returns-clause-only g c = λ bit held.
    let t : Tree = g.T.FileTree.content c.self.inside.tree.now in
    let k : Crew = c.self.inside.crew.now in
    let out = c.self.invariant.0 in
    subst (λ (s : RoundsState). FollowsTold s.tree s.table s.crew c.args.told.now c.args.at bit) c.self.view_is
    (step_only t out.0 c.self.inside.table.now (crew_told k) (devices_told k) (watches t (crew_told k)) (spots_told k) (guarded_told k) k out.1 c.args.told.now c.args.at
    c.row-2.result c.part-2.result (c.row-2.ensures (hands_told k) (spots_told k) (sym out.1.hands))
    (c.part-2.ensures (crew_told k) (guarded_told k) (sym out.1.many)) bit
    (ap (λ w. bit_at w bit == 1) (sym c.part-3.ensures) ∙ held))

pub returns-clause-all : goal.returns-clause-all
returns-clause-all g c = λ bit new.
    let t : Tree = g.T.FileTree.content c.self.inside.tree.now in
    let k : Crew = c.self.inside.crew.now in
    let out = c.self.invariant.0 in
    let word : ℕ = get_or c.args.told.now c.args.at 0 in
    has_or word c.part-3.result bit
    ∙ or_right (bit_at word bit == 1) (bit_at c.part-3.result bit == 1)
    (ap (λ w. bit_at w bit == 1) c.part-3.ensures
    ∙ step_all t out.0 c.self.inside.table.now (crew_told k) (devices_told k) (watches t (crew_told k)) (spots_told k) (guarded_told k) k out.1 c.args.told.now
    c.args.at c.row-2.result c.part-2.result (c.row-2.ensures (hands_told k) (spots_told k) (sym out.1.hands))
    (c.part-2.ensures (crew_told k) (guarded_told k) (sym out.1.many)) bit
    (subst (λ (s : RoundsState). FollowsTold s.tree s.table s.crew c.args.told.now c.args.at bit) (sym c.self.view_is) new))
