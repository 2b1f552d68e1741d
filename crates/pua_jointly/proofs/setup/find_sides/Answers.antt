use Rattle.pua_jointly.proofs.Common.{◌≡◌, ◌<◌, ◌∙◌, ◌∷◌, ◌++◌, [], ap, arith, length, List, map, subst, sym, take, ℕ}
use Rattle.std.specs.Prelude.{◌+◌}
use Rattle.std.proofs.lemmas.Grind.{common_steps}
use Rattle.pua_jointly.specs.JointMembers.{Each}
use Rattle.pua_jointly.specs.JointSides.{IsPart}
use Rattle.pua_jointly.specs.declared.crew.Side.{Side}
use Rattle.pua_jointly.proofs.JointGathered.{as_many, map_more}
use Rattle.pua_jointly.proofs.JointMembers.{each_more}
use Rattle.pua_jointly.proofs.JointSides.{map_same}
use Rattle.pua_jointly.proofs.setup.find_sides.Goals as goal

pub loop-place-preserved : goal.loop-place-preserved
loop-place-preserved c =
    let parts = c.args.parts.now in
    let kinds : List ℕ = parts.kinds.now in
    let place : ℕ = c.loop-place.place in
    let sides : List Side = c.loop-place.sides.items in
    let side : Side = c.in_ok-side.side in
    let device : ℕ = c.index-kinds-place.result in
    let inv = c.loop-place.invariant in
    let low : place < length kinds = c.loop-place-test.true in
    let items : c.push.new.self.items ≡ sides ++ side ∷ [] = c.in_ok-push.ensures.items in
    let so_far : map (λ (s : Side). s.device) sides ≡ map (λ (d : ℕ). d) (take place kinds) = inv.devices ∙ sym (map_same (take place kinds)) in
    let count : length sides ≡ place =
    as_many (λ (s : Side). s.device) (λ (d : ℕ). d) sides kinds place so_far (omega (arith, low)) in
    let here : IsPart parts place side = record {
      first = c.in_ok-side.ensures.first ∙ grind (arith, common_steps);
      part = c.in_ok-side.ensures.part;
    } in
    record {
      devices = ap (map (λ (s : Side). s.device)) items
          ∙ map_more (λ (s : Side). s.device) (λ (d : ℕ). d) sides kinds place side device low c.index-kinds-place.is so_far c.in_ok-side.ensures.device
          ∙ map_same (take (place + 1) kinds);
      each = subst (Each (IsPart parts)) (sym items)
          (each_more (IsPart parts) sides side inv.each (subst (λ k. IsPart parts k side) (sym count) here));
    }
