use Rattle.pua_ever.specs.Prospects.{own_given}
use Rattle.pua_jointly.specs.Jointly.{as_started}
use Rattle.pua_jointly.proofs.JointGroups.{item_too, own_alone, own_both, own_of}
use Rattle.pua_jointly.proofs.facts.Facts.all_calls_on_freed.Goals as goal

pub returns-in_default : goal.returns-in_default
returns-in_default c = λ t crew a given about is fits on.
    let table = c.args.table.now in
    let facts = c.args.self.now in
    let of = c.args.of.now in
    let item = c.args.item.now in
    own_alone t table crew a facts of given is c.in_default.is (own_given item.subject item.object) c.calls_on_freed-own.result
    (c.calls_on_freed-own.ensures t crew a about (own_of t table crew a facts of given is) fits on)

pub returns : goal.returns
returns c = λ t crew a given about is fits on.
    let table = c.args.table.now in
    let facts = c.args.self.now in
    let of = c.args.of.now in
    let item = c.args.item.now in
    own_both t table crew a facts of given is c.in-Some.program c.in-Some.is (own_given item.subject item.object) c.calls_on_freed-own.result
    c.calls_on_freed.result c.union.result (c.calls_on_freed-own.ensures t crew a about (own_of t table crew a facts of given is) fits on)
    (λ g its. c.calls_on_freed.ensures t crew (as_started a g) about its fits (item_too t a g about item on)) c.union.ensures
