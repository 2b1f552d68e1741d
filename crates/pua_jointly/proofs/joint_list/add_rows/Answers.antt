use Rattle.pua_jointly.proofs.Common.{◌∷◌, ◌++◌, ◌∙◌, ◌≡◌, [], ap, sym, subst, subject_given, own_spot, Option, Spot, None}
use Rattle.std.specs.List.{AllByRecursion}
use Rattle.pua_ever.specs.EverList.{IsFreedRow, IsRowOn}
use Rattle.pua_jointly.specs.JointCalls.{AreOwnCallsOfOne}
use Rattle.pua_jointly.specs.Jointly.{agents_of}
use Rattle.pua_jointly.proofs.JointLines.{both_told, one_told}
use Rattle.pua_ever.proofs.ForCallers.{own_name_is}
use Rattle.pua_ever.proofs.ForCallers.{all_more, freed_on}
use Rattle.pua_jointly.proofs.joint_list.add_rows.Goals as goal

pub returns-in_default-freed_row-clause-told : goal.returns-in_default-freed_row-clause-told
returns-in_default-freed_row-clause-told c = λ t crew a given test items so_far left well is tells there told near now.
    let table = c.args.table.now in
    let item = c.args.item.now in
    let none : own_spot (subject_given t item.item.subject) ≡ None =
    sym (own_name_is t well table a (subject_given t item.item.subject) item.item told.fits told.tells) ∙ c.in_default-freed_row.ensures.own in
    one_told t table crew a given test tells items so_far left item c.args.rows.now.items c.stands_row-stands.result now near c.stands_row-stands.ensures.at
    (c.stands_row-stands.ensures.about t) (c.stands_row-stands.ensures.kind t a told) (c.stands_row-stands.ensures.calls t crew a given is told there) none
    c.push.new.self.items c.in-Ok.ensures.items

pub returns-in_default-freed_row-clause-items : goal.returns-in_default-freed_row-clause-items
returns-in_default-freed_row-clause-items c = λ t well told all.
    let a = c.args.process.now in
    subst (AllByRecursion (IsRowOn t a)) (sym c.in-Ok.ensures.items)
    (all_more (IsRowOn t a) c.args.rows.now.items c.stands_row-stands.result all (c.stands_row-stands.ensures.on t a told))

pub returns-clause-told : goal.returns-clause-told
returns-clause-told c = λ t crew a given test items so_far left well is tells there told near now.
    let table = c.args.table.now in
    let item = c.args.item.now in
    let own = own_name_is t well table a (subject_given t item.item.subject) item.item told.fits told.tells in
    both_told t table crew a given test tells items so_far left item c.args.rows.now.items c.stands_row-stands.result now near
    c.stands_row-stands.ensures.at (c.stands_row-stands.ensures.about t) (c.stands_row-stands.ensures.kind t a told)
    (c.stands_row-stands.ensures.calls t crew a given is told there) c.in-Some.freed
    (subst (λ (o : Option Spot). IsFreedRow item o c.in-Some.freed) own c.in-Some.ensures.own)
    (subst (λ (o : Option Spot). AreOwnCallsOfOne t table crew (agents_of (a, given)) o c.in-Some.freed.line.calls) own (c.in-Some.ensures.calls t crew a given is told))
    c.push-2.new.self.items (c.in-Ok-push.ensures.items ∙ ap (λ rs. rs ++ c.in-Some.freed ∷ []) c.in-Ok.ensures.items)

pub returns-clause-items : goal.returns-clause-items
returns-clause-items c = λ t well told all.
    let a = c.args.process.now in
    let item = c.args.item.now in
    let own = own_name_is t well c.args.table.now a (subject_given t item.item.subject) item.item told.fits told.tells in
    let freed = subst (λ (o : Option Spot). IsFreedRow item o c.in-Some.freed) own c.in-Some.ensures.own in
    let first = subst (AllByRecursion (IsRowOn t a)) (sym c.in-Ok.ensures.items)
    (all_more (IsRowOn t a) c.args.rows.now.items c.stands_row-stands.result all (c.stands_row-stands.ensures.on t a told)) in
    subst (AllByRecursion (IsRowOn t a)) (sym c.in-Ok-push.ensures.items)
    (all_more (IsRowOn t a) c.push.new.self.items c.in-Some.freed first
    (freed_on t a (subject_given t item.item.subject) item c.in-Some.freed told.fits freed (c.in-Some.ensures.inside t well told)))
