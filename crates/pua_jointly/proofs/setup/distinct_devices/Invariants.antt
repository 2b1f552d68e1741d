use Rattle.pua_jointly.proofs.Common.{take, ℕ}
use Rattle.std.specs.List.{Contains}
use Rattle.pua_jointly.specs.JointPlace.{Once}
use Rattle.pua_jointly.proofs.setup.distinct_devices.Given as goal

abbrev pub invariant-loop-device : goal.invariant-loop-device
invariant-loop-device l = record {
  once : Once l.kinds.items;
  all : (device : ℕ) → Contains (take l.device-index l.devices) device → Contains l.kinds.items device;
}
