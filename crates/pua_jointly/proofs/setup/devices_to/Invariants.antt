use Rattle.pua_jointly.specs.JointSetting.{AreDevices}
use Rattle.pua_jointly.proofs.setup.devices_to.Given as goal

-- the numbers so far are told
abbrev pub invariant-loop-number : goal.invariant-loop-number
invariant-loop-number g l = record { devices : AreDevices (g.T.FileTree.content l.tree) l.number l.devices.items }
