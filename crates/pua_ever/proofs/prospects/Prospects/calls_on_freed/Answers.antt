use Rattle.pua_ever.proofs.Common.{refl, sym, ap, ◌∙◌, ◌&&◌, has_c, is_some, not, and_from, Spot, empty_tree, IsMissing, may_edit, is_free, own_spot}
use Rattle.pua_ever.proofs.Named.{own_name_is, no_name, not_freed, freed, mounted_is}
use Rattle.pua_ever.proofs.prospects.Prospects.calls_on_freed.Goals as goal

pub returns-in_default : goal.returns-in_default
returns-in_default g c = λ about well found fits on.
    let t = g.T.FileTree.content c.args.tree.now in
    let h = c.args.process.now in
    no_name t well c.args.table.now h (own_spot about) (c.in_default.ensures ∙
    own_name_is t well c.args.table.now h about c.args.item.now fits on)

pub returns-in_default-kept : goal.returns-in_default-kept
returns-in_default-kept g c = λ about well found fits on.
    let t = g.T.FileTree.content c.args.tree.now in
    let h = c.args.process.now in
    let table = c.args.table.now in
    let spot : Spot = (c.in-Some.own.0, c.in-Some.own.1.now) in
    not_freed t well table h about spot fits (c.in-Some.ensures ∙ own_name_is t well table h about c.args.item.now fits on)
    (ap (λ o. is_some o && (may_edit table h && is_free t h spot)) (sym c.in_default-kept.ensures.state))

pub returns : goal.returns
returns g c = λ about well found fits on.
    let t = g.T.FileTree.content c.args.tree.now in
    let h = c.args.process.now in
    let table = c.args.table.now in
    let item = c.args.item.now in
    freed t well table h about (c.in-Some.own.0, c.in-Some.own.1.now) fits (c.in-Some.ensures ∙
    own_name_is t well table h about item fits on) item.cover c.in-Some-kept.perms c.allowed.result
    on.cover
    (sym c.in-Some-kept.ensures.state)
    (and_from (may_edit table h) _ (sym found.edits ∙ c.if-not-self.false)
    (ap (λ b. has_c item.cover && not b) (sym (mounted_is t well table h about item (c.in-Some.own.0, c.in-Some.own.1.now) on c.in-Some.ensures))
    ∙ sym c.can_leave.ensures ∙ c.if-not-can_leave.false))
    (λ call. c.allowed.ensures empty_tree IsMissing refl call)
