use Rattle.pua_jointly.proofs.Common.{◌≡◌, ◌∙◌, ap, arith, List, subst, sym, Tree, ℕ}
use Rattle.std.specs.Prelude.{◌+◌}
use Rattle.std.proofs.lemmas.Grind.{common_steps}
use Rattle.pua_tree.specs.Tree.{device}
use Rattle.pua_jointly.specs.JointSetting.{AreDevices}
use Rattle.pua_jointly.proofs.JointSides.{devices_more}
use Rattle.pua_jointly.proofs.setup.devices_to.Goals as goal

pub loop-number-preserved : goal.loop-number-preserved
loop-number-preserved g c =
    let t : Tree = g.T.FileTree.content c.args.tree.now in
    let devices : List ℕ = c.loop-number.devices.items in
    let number : ℕ = c.loop-number.number in
    let dir : c.new-dir.result ≡ number = grind (arith, common_steps) in
    record {
      devices = subst (AreDevices t (number + 1)) (sym c.in_ok-push.ensures.items)
          (devices_more t number devices c.device_by-device.result c.loop-number.invariant.devices
          (c.device_by-device.ensures number (subst (AreDevices t number) (sym c.as_slice.ensures.value) c.loop-number.invariant.devices)
          ∙ ap (device t) dir));
    }

pub returns : goal.returns
returns g c =
    let t : Tree = g.T.FileTree.content c.args.tree.now in
    let last : c.loop-number.number ≡ c.args.last + 1 = grind (arith, common_steps) in
    subst (λ n. AreDevices t n c.loop-number.devices.items) last c.loop-number.invariant.devices
