use Rattle.pua_jointly.proofs.Common.{◌≡◌, ◌∙◌, ap, length, List, subst}
use Rattle.std.specs.Prelude.{◌*◌}
use Rattle.std.proofs.Math.Nat.{mul_comm}
use Rattle.pua_jointly.specs.JointFound.{AreMarked, turns_in}
use Rattle.pua_jointly.specs.JointRounds.{stays_in}
use Rattle.pua_jointly.specs.JointSetup.{count_told, crew_told, devices_told, dirs_of, guarded_told, spots_told}
use Rattle.pua_jointly.specs.declared.crew.Crew.{Crew}
use Rattle.pua_jointly.specs.declared.crew.Entry.{Entry}
use Rattle.pua_jointly.proofs.JointTabled.{table_law}
use Rattle.pua_jointly.proofs.JointWorked.{count_is}
use Rattle.pua_jointly.proofs.finding.facts_of.Goals as goal

pub returns : goal.returns
returns g c =
    let t = g.T.FileTree.content c.args.tree.now in
    let table = c.args.table.now in
    let crew : Crew = c.in_ok-crew.crew in
    let out = c.in_ok-crew.ensures.worked in
    let full : length c.in_ok-told.told.items ≡ count_told crew = c.in_ok-told.ensures.full
    ∙ mul_comm c.in-Some.rows crew.columns ∙ ap (λ n. crew.columns * n) c.in-Some.ensures ∙ count_is t table crew out in
    record {
      worked = out;
      members = c.in_ok-crew.ensures.members;
      full = full;
      closed = c.in_ok-told.ensures.closed;
      has = table_law t out.0 table (crew_told crew) (devices_told crew) (dirs_of crew) (spots_told crew) (guarded_told crew) out.1.fits c.in_ok-told.told.items full
          c.in_ok-told.ensures.closed c.in_ok-told.ensures.reached;
      held = subst (λ (es : List Entry). AreMarked (stays_in crew.columns crew.shape.agents c.in_ok-told.told.items) es (dirs_of crew) c.in_ok-held.held.items)
          c.deref-2.ensures.value c.in_ok-held.ensures.held;
      turned = subst (λ (es : List Entry). AreMarked (turns_in crew c.in_ok-told.told.items) es (dirs_of crew) c.in_ok-held.turned.items)
          c.deref-2.ensures.value c.in_ok-held.ensures.turned;
    }
