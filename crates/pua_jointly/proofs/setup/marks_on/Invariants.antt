use Rattle.pua_jointly.proofs.Common.{◌≡◌, take}
use Rattle.std.specs.Prelude.{filter}
use Rattle.pua_jointly.specs.JointSides.{is_on_device}
use Rattle.pua_jointly.proofs.setup.marks_on.Given as goal

abbrev pub invariant-loop-mark : goal.invariant-loop-mark
invariant-loop-mark l = record { kept : l.kept.items ≡ filter (λ mark. is_on_device l.devices l.device mark.dir) (take l.mark-index l.marks) }
