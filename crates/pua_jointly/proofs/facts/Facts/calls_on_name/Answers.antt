use Rattle.pua_jointly.proofs.Common.{subst}
use Rattle.pua_jointly.specs.JointCalls.{AreFreeCalls}
use Rattle.pua_jointly.specs.JointSetting.{IsEntryIn}
use Rattle.pua_jointly.proofs.JointTold.{as_found, as_missing, found_there}
use Rattle.pua_jointly.proofs.facts.Facts.calls_on_name.Goals as goal

pub returns-in-Some : goal.returns-in-Some
returns-in-Some c = λ t crew a is lives plain there.
    let table = c.args.table.now in
    let facts = c.args.self.now in
    let of = c.args.of.now in
    let entry = c.in-Some.entry.now in
    let found = subst (IsEntryIn facts.crew.entries.items (c.args.dir, c.args.name.now)) c.in-Some.is there in
    as_found t table crew facts a of is c.args.dir c.args.name.now entry found.0 found.1 c.calls_on_entry.result
    (c.calls_on_entry.ensures t crew a is found.0
    (plain entry.node (found_there t table crew facts a of is c.args.dir c.args.name.now entry found.0 found.1)))

pub returns-in-None : goal.returns-in-None
returns-in-None c = λ t crew a is lives plain there.
    let table = c.args.table.now in
    let facts = c.args.self.now in
    let of = c.args.of.now in
    as_missing t table crew facts a of is c.args.dir c.args.name.now (subst (IsEntryIn facts.crew.entries.items (c.args.dir, c.args.name.now)) c.in-None.is there) lives c.calls_on_free.result
    (subst (λ h. AreFreeCalls table h c.args.dir c.args.name.now c.calls_on_free.result) is.process c.calls_on_free.ensures)
