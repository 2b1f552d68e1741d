use Rattle.pua_ever.proofs.Common.{◌≡◌, ◌==◌, ◌∙◌, ap, sym, Some, eqb-true, is_mount, not, not-true}
use Rattle.std.proofs.lemmas.Bool.{eqb-false}
use Rattle.pua_tree.specs.Tree.{parent}
use Rattle.pua_ever.proofs.Devices.{device_above}
use Rattle.pua_ever.proofs.list.stands_in.Goals as goal

pub returns-then-ne : goal.returns-then-ne
returns-then-ne g c = λ none.
    let t = g.T.FileTree.content c.args.tree.now in
    let over : c.in-Some.above ≡ c.args.over = eqb-true c.in-Some.above c.args.over (sym c.eq.ensures ∙ c.if-eq.true) in
    let at : parent t c.args.dir ≡ Some c.args.over = sym c.parent.ensures ∙ c.in-Some.is ∙ ap Some over in
    device_above t c.known.ensures c.args.dir c.args.over at
    (eqb-false c.args.dir 0 (not-true (c.args.dir == 0) (sym c.ne.ensures ∙ c.if-ne.true)))
    (not-true (is_mount t c.args.dir) (ap not (sym c.is_mount.ensures) ∙ none))
