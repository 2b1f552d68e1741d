use Rattle.std.proofs.Common.{◌-◌, length, arith, length-drop}
use Rattle.std.proofs.lemmas.List.{take_rest}
use Rattle.pua_texts.proofs.Copying.{copied_ends}
use Rattle.pua_texts.proofs.copies.overwrite_ends.Goals as goal

pub returns : goal.returns
returns g c = λ same many covers.
    let bytes = c.args.bytes.now in
    let last = length bytes - g.row.N in
    let first = c.copy_front.ensures (omega (arith, same, many)) many in
    copied_ends bytes g.row.N same many covers first ((rw (take_rest bytes last) at c.copy_front-2.ensures)
    (omega (arith, first.len, same, many)) (omega (arith, length-drop last bytes, many)))
