use Rattle.pua_ever.proofs.Common.{◌≡◌, ◌++◌, ◌∙◌, ap, sym, refl, true, false, Some, None, At, Slot, Stands, can_link, kind_at, look}
use Rattle.std.proofs.Common.{append-nil}
use Rattle.pua_ever.specs.Comings.{as_list, files_by, place_over, places_on}
use Rattle.pua_ever.proofs.ComingDevices.{named_so}
use Rattle.pua_ever.proofs.comings.name_under.Goals as goal

pub returns-in_default : goal.returns-in_default
returns-in_default g c = λ well living moved covers.
    let t = g.T.FileTree.content c.args.tree.now in
    let at : look t c.args.dir c.args.name.now ≡ None = sym c.look.ensures ∙ c.in_default.is in
    ap as_list (c.over_name.ensures None well living)
    ∙ ap (λ node. places_on t c.args.table.now c.args.process.now (Stands (At (Slot c.args.dir c.args.name.now node)))) (sym at)

pub returns-then-can_move : goal.returns-then-can_move
returns-then-can_move g c = λ well living moved covers.
    let t = g.T.FileTree.content c.args.tree.now in
    let h = c.args.process.now in
    let table = c.args.table.now in
    let node = c.in-Some.node in
    (λ i. files_by t h (moved.on i) (moved.moves i))
    ∙ named_so t table h c.args.dir c.args.name.now node c.args.cover (place_over t h (Slot c.args.dir c.args.name.now (Some node))) true
    (can_link table h (kind_at t node) c.args.cover)
    (sym c.look.ensures ∙ c.in-Some.is) covers refl (sym c.can_move.ensures ∙ c.if-can_move.true) refl

pub returns-then-can_link : goal.returns-then-can_link
returns-then-can_link g c = λ well living moved covers.
    let t = g.T.FileTree.content c.args.tree.now in
    let h = c.args.process.now in
    let table = c.args.table.now in
    let node = c.in-Some.node in
    (λ i. as_list c.over_name-over.result ++ files_by t h (moved.on i) (moved.moves i))
    ∙ named_so t table h c.args.dir c.args.name.now node c.args.cover c.over_name-over.result false true
    (sym c.look.ensures ∙ c.in-Some.is) covers (c.over_name-over.ensures (Some node) well living) (sym c.can_move.ensures ∙ c.if-can_move.false)
    (ap (λ kind. can_link table h kind c.args.cover) (sym c.kind.ensures) ∙ sym c.can_link.ensures ∙ c.if-can_link.true)

pub returns : goal.returns
returns g c = λ well living moved covers.
    let t = g.T.FileTree.content c.args.tree.now in
    let h = c.args.process.now in
    let table = c.args.table.now in
    let node = c.in-Some.node in
    sym (append-nil (as_list c.over_name-over.result))
    ∙ named_so t table h c.args.dir c.args.name.now node c.args.cover c.over_name-over.result false false
    (sym c.look.ensures ∙ c.in-Some.is) covers (c.over_name-over.ensures (Some node) well living) (sym c.can_move.ensures ∙ c.if-can_move.false)
    (ap (λ kind. can_link table h kind c.args.cover) (sym c.kind.ensures) ∙ sym c.can_link.ensures ∙ c.if-can_link.false)
