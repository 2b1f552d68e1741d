use Rattle.pua_jointly.proofs.Common.{◌≡◌, take}
use Rattle.std.specs.Prelude.{filter}
use Rattle.pua_jointly.specs.JointSides.{is_on_device}
use Rattle.pua_jointly.proofs.setup.watches_on.Given as goal

abbrev pub invariant-loop-watch : goal.invariant-loop-watch
invariant-loop-watch l = record { kept : l.kept.items ≡ filter (λ watch. is_on_device l.devices l.device watch.dir) (take l.watch-index l.watches) }
