use Rattle.pua_jointly.proofs.Common.{◌≡◌, ◌∙◌, ◌∷◌, ◌++◌, [], ap, length, List, subst, sym, ℕ}
use Rattle.std.specs.Prelude.{◌+◌}
use Rattle.std.proofs.lemmas.List.{length-append}
use Rattle.pua_jointly.specs.JointMembers.{Each}
use Rattle.pua_jointly.specs.JointSides.{IsMoverOf}
use Rattle.pua_jointly.specs.declared.agent.Agent.{Agent}
use Rattle.pua_jointly.specs.declared.mover.Mover.{Mover}
use Rattle.pua_jointly.proofs.JointMembers.{each_more}
use Rattle.pua_jointly.proofs.JointSides.{slice_at}
use Rattle.pua_jointly.proofs.setup.find_movers.Goals as goal

pub loop-place-preserved : goal.loop-place-preserved
loop-place-preserved c =
    let share = c.args.share.now in
    let agents : List Agent = share.parts.agents.now in
    let dirs : ℕ = share.parts.size.shape.last + 1 in
    let hands : ℕ = share.parts.size.shape.hands in
    let place : ℕ = c.loop-place.place in
    let movers : List Mover = c.loop-place.movers.items in
    let mover : Mover = c.mover.result in
    let inv = c.loop-place.invariant in
    let items : c.push.new.self.items ≡ movers ++ mover ∷ [] = c.in_ok-push.ensures.items in
    let here : IsMoverOf agents dirs hands share.first place mover = record {
      agent = c.index-agents-place.result;
      at = slice_at agents place c.index-agents-place.result c.loop-place-test.true c.index-agents-place.is;
      place = c.mover.ensures.place;
      moving = c.mover.ensures.moving;
      made = c.mover.ensures.made;
      landing = c.mover.ensures.landing;
      drops = c.mover.ensures.drops;
    } in
    let many : length movers ≡ place = inv.many in
    record {
      many = ap length items ∙ length-append movers (mover ∷ []) ∙ ap (λ n. n + 1) many;
      each = subst (Each (IsMoverOf agents dirs hands share.first)) (sym items)
          (each_more (IsMoverOf agents dirs hands share.first) movers mover inv.each
          (subst (λ k. IsMoverOf agents dirs hands share.first k mover) (sym many) here));
    }
