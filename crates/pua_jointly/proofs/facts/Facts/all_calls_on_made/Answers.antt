use Rattle.pua_jointly.proofs.Common.{Comes}
use Rattle.pua_ever.specs.EverLines.{new_of}
use Rattle.pua_jointly.specs.Jointly.{as_started}
use Rattle.pua_jointly.proofs.JointGroups.{group_alone, group_both, own_of}
use Rattle.pua_jointly.proofs.facts.Facts.all_calls_on_made.Goals as goal

pub returns-in_default : goal.returns-in_default
returns-in_default c = λ t crew a given is.
    let table = c.args.table.now in
    let facts = c.args.self.now in
    let of = c.args.of.now in
    group_alone t table crew a facts of given is c.in_default.is (Comes (new_of c.args.made)) c.calls_on_made-own.result
    (c.calls_on_made-own.ensures t crew a (own_of t table crew a facts of given is))

pub returns : goal.returns
returns c = λ t crew a given is.
    let table = c.args.table.now in
    let facts = c.args.self.now in
    let of = c.args.of.now in
    group_both t table crew a facts of given is c.in-Some.program c.in-Some.is (Comes (new_of c.args.made)) c.calls_on_made-own.result
    c.calls_on_made.result c.union.result (c.calls_on_made-own.ensures t crew a (own_of t table crew a facts of given is))
    (λ g its. c.calls_on_made.ensures t crew (as_started a g) its) c.union.ensures
