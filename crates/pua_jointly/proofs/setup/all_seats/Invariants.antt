use Rattle.pua_jointly.proofs.Common.{◌≡◌}
use Rattle.pua_jointly.specs.JointTable.{numbers}
use Rattle.pua_jointly.proofs.setup.all_seats.Given as goal

abbrev pub invariant-loop-seat : goal.invariant-loop-seat
invariant-loop-seat l = record { all : l.seats.items ≡ numbers l.seat }
