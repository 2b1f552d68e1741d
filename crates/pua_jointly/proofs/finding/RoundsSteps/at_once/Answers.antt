use Rattle.pua_jointly.proofs.Common.{◌∙◌, sym, ap, subst, Tree}
use Rattle.std.specs.Prelude.{◌==◌, ◌/◌}
use Rattle.std.specs.Int.{bit_at}
use Rattle.pua_jointly.specs.JointFacts.{watches}
use Rattle.pua_jointly.specs.JointSetup.{FollowsTold, RoundsState, crew_told, devices_told, guarded_told, hands_told, side_of, spots_told}
use Rattle.pua_jointly.specs.declared.crew.Crew.{Crew}
use Rattle.pua_jointly.proofs.JointOlds.{no_bit}
use Rattle.pua_jointly.proofs.JointSteps.{side_of_once, step_only}
use Rattle.pua_jointly.proofs.finding.RoundsSteps.at_once.Goals as goal

pub returns-then-row-crew : goal.returns-then-row-crew
returns-then-row-crew g c = λ bit held. absurd (no_bit bit held)

pub returns : goal.returns
returns g c = λ bit held.
    let t : Tree = g.T.FileTree.content c.self.inside.tree.now in
    let k : Crew = c.self.inside.crew.now in
    let out = c.self.invariant.0 in
    subst (λ (s : RoundsState). FollowsTold s.tree s.table s.crew c.args.told.now c.args.at bit) c.self.view_is
    (step_only t out.0 c.self.inside.table.now (crew_told k) (devices_told k) (watches t (crew_told k)) (spots_told k) (guarded_told k) k out.1 c.args.told.now c.args.at
    c.row.result c.part.result (c.row.ensures (hands_told k) (spots_told k) (sym out.1.hands))
    (c.part.ensures (crew_told k) (guarded_told k) (sym out.1.many)) bit
    (side_of_once t k c.args.told.now (c.args.at / k.columns) c.row.result c.part.result (side_of k c.row.result) bit (ap (λ w. bit_at w bit == 1) (sym c.at_once.ensures) ∙ held)))
