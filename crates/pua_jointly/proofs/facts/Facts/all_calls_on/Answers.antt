use Rattle.pua_jointly.proofs.Common.{Stands}
use Rattle.pua_jointly.specs.Jointly.{as_started}
use Rattle.pua_jointly.proofs.JointGroups.{group_alone, group_both, item_too, own_of}
use Rattle.pua_jointly.proofs.facts.Facts.all_calls_on.Goals as goal

pub returns-in_default : goal.returns-in_default
returns-in_default c = λ t crew a given about is fits on there.
    let table = c.args.table.now in
    let facts = c.args.self.now in
    let of = c.args.of.now in
    group_alone t table crew a facts of given is c.in_default.is (Stands about) c.calls_on-own.result
    (c.calls_on-own.ensures t crew a about (own_of t table crew a facts of given is) fits on there)

pub returns : goal.returns
returns c = λ t crew a given about is fits on there.
    let table = c.args.table.now in
    let facts = c.args.self.now in
    let of = c.args.of.now in
    group_both t table crew a facts of given is c.in-Some.program c.in-Some.is (Stands about) c.calls_on-own.result c.calls_on.result c.union.result
    (c.calls_on-own.ensures t crew a about (own_of t table crew a facts of given is) fits on there)
    (λ g its. c.calls_on.ensures t crew (as_started a g) about its fits (item_too t a g about c.args.item.now on) there) c.union.ensures
