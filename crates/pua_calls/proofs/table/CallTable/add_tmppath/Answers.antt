use Rattle.pua_calls.proofs.Common.{◌<◌, get_or, length, arith, sym, subst}
use Rattle.std.proofs.Common.{◌-◌}
use Rattle.pua_calls.specs.Tables.{NeedsNoError}
use Rattle.pua_calls.proofs.CallBits.{bit_below}
use Rattle.pua_calls.proofs.TmpTable.{at_within, with_tmppath_needs_no_error}
use Rattle.pua_calls.proofs.table.CallTable.add_tmppath.Goals as goal

pub set-requires : goal.set-requires
set-requires c =
    let rows = c.self.inside.rows in
    let within : c.number.result - 1 < length rows = omega (arith, bit_below c.args.call, c.number.ensures, c.self.invariant.each) in
    subst NeedsNoError (sym c.with_tmppath.ensures)
    (with_tmppath_needs_no_error (get_or rows (c.number.result - 1) c.index-self-number.result)
    (at_within NeedsNoError rows (c.number.result - 1) c.index-self-number.result within c.self.invariant.rules))
