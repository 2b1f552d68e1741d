use Rattle.pua_ever.proofs.Common.{◌∷◌, ◌++◌, ◌∙◌, ◌≡◌, [], ap, sym, subst, subject_given, own_spot, Option, Spot, None}
use Rattle.std.specs.List.{AllByRecursion}
use Rattle.pua_ever.specs.EverList.{IsFreedRow, IsRowOn}
use Rattle.pua_ever.proofs.Named.{own_name_is}
use Rattle.pua_ever.proofs.RowsTell.{all_more, both_told, freed_on, one_told}
use Rattle.pua_ever.proofs.list.add_rows.Goals as goal

pub returns-in_default-freed_row-clause-told : goal.returns-in_default-freed_row-clause-told
returns-in_default-freed_row-clause-told g c = λ items so_far left well needs found movable told near now.
    let t = g.T.FileTree.content c.args.tree.now in
    let h = c.args.process.now in
    let table = c.args.table.now in
    let item = c.args.item.now in
    let none : own_spot (subject_given t item.item.subject) ≡ None =
    sym (own_name_is t well table h (subject_given t item.item.subject) item.item told.fits told.tells) ∙ c.in_default-freed_row.ensures.own in
    one_told t table h items so_far left item c.args.rows.now.items c.stands_row-stands.result now near c.stands_row-stands.ensures.at
    (c.stands_row-stands.ensures.about t) (c.stands_row-stands.ensures.row well needs found movable told) none c.push.new.self.items c.in-Ok.ensures.items

pub returns-in_default-freed_row-clause-items : goal.returns-in_default-freed_row-clause-items
returns-in_default-freed_row-clause-items g c = λ t well told all.
    subst (AllByRecursion (IsRowOn t c.args.process.now)) (sym c.in-Ok.ensures.items)
    (all_more (IsRowOn t c.args.process.now) c.args.rows.now.items c.stands_row-stands.result all
    (c.stands_row-stands.ensures.on t c.args.process.now told))

pub returns-clause-told : goal.returns-clause-told
returns-clause-told g c = λ items so_far left well needs found movable told near now.
    let t = g.T.FileTree.content c.args.tree.now in
    let h = c.args.process.now in
    let table = c.args.table.now in
    let item = c.args.item.now in
    let own = own_name_is t well table h (subject_given t item.item.subject) item.item told.fits told.tells in
    both_told t table h items so_far left item c.args.rows.now.items c.stands_row-stands.result now near c.stands_row-stands.ensures.at
    (c.stands_row-stands.ensures.about t) (c.stands_row-stands.ensures.row well needs found movable told) c.in-Some.freed
    (subst (λ (o : Option Spot). IsFreedRow item o c.in-Some.freed) own c.in-Some.ensures.own) (c.in-Some.ensures.calls well found told)
    c.push-2.new.self.items
    (c.in-Ok-push.ensures.items ∙ ap (λ rs. rs ++ c.in-Some.freed ∷ []) c.in-Ok.ensures.items)

pub returns-clause-items : goal.returns-clause-items
returns-clause-items g c = λ t well told all.
    let h = c.args.process.now in
    let item = c.args.item.now in
    let own = own_name_is t well c.args.table.now h (subject_given t item.item.subject) item.item told.fits told.tells in
    let freed = subst (λ (o : Option Spot). IsFreedRow item o c.in-Some.freed) own c.in-Some.ensures.own in
    let first = subst (AllByRecursion (IsRowOn t h)) (sym c.in-Ok.ensures.items)
    (all_more (IsRowOn t h) c.args.rows.now.items c.stands_row-stands.result all (c.stands_row-stands.ensures.on t h told)) in
    subst (AllByRecursion (IsRowOn t h)) (sym c.in-Ok-push.ensures.items)
    (all_more (IsRowOn t h) c.push.new.self.items c.in-Some.freed first
    (freed_on t h (subject_given t item.item.subject) item c.in-Some.freed told.fits freed (c.in-Some.ensures.inside t well told)))
