use Rattle.pua_jointly.proofs.Common.{◌∙◌, ◌<◌, ap, arith, length, List, same_Some, Some, sym, Tree, ℕ}
use Rattle.std.specs.Prelude.{slice_get}
use Rattle.std.proofs.lemmas.Bool.{ltb-true}
use Rattle.std.proofs.lemmas.Option.{slice_get-get_or}
use Rattle.pua_jointly.proofs.Devices.{device_from}
use Rattle.pua_jointly.proofs.setup.device_by.Goals as goal

pub returns-in-Some-get : goal.returns-in-Some-get
returns-in-Some-get g c = λ count are.
    let t : Tree = g.T.FileTree.content c.args.tree.now in
    let before : List ℕ = c.args.before.now in
    let parent : ℕ = c.in-Some.parent in
    let less : c.number.result < length before = ltb-true _ _ (sym c.in-Some-get.ensures.lookup.0) in
    let full = are.full in
    let within : parent < count = omega (arith, less, full, c.number.ensures) in
    same_Some _ _
    (ap Some c.in-Some-get.ensures.lookup.1 ∙ sym (slice_get-get_or before c.number.result c.in-Some-get.device.now less)
    ∙ ap (slice_get before) c.number.ensures ∙ are.each parent within)
    ∙ sym (device_from t c.known.ensures c.args.dir parent (sym c.parent.ensures ∙ c.in-Some.is) (sym c.is_mount.ensures ∙ c.if-is_mount.false))
