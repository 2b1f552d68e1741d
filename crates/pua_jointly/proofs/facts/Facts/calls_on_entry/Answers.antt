use Rattle.pua_jointly.proofs.Common.{◌∙◌, false≢true, object_of_kind, refl, Some, sym}
use Rattle.pua_policy.specs.Verdict.{IsProg}
use Rattle.pua_jointly.specs.JointFound.{entry_word}
use Rattle.pua_jointly.proofs.JointTold.{calls_known, kind_calls, place_of_entry, turned_calls, turned_has, turned_means, under_by}
use Rattle.pua_jointly.proofs.facts.Facts.calls_on_entry.Goals as goal

pub returns-then-not-is_turned : goal.returns-then-not-is_turned
returns-then-not-is_turned c = λ t crew a is among other.
    let table = c.args.table.now in
    let facts = c.args.self.now in
    let of = c.args.of.now in
    let entry = c.args.entry.now in
    let are = is.facts_are in
    let g = place_of_entry t table crew facts a of is entry among in
    kind_calls t table crew facts a of is g.at entry g.is other
    (λ turn. false≢true (sym c.if-not-is_turned.true ∙ c.is_turned.ensures ∙ are.turned entry.node (are.worked.1.low_nodes entry among)
    ∙ turned_has t table crew facts are entry.node turn)) c.calls_under-calls.result c.kept_by.result
    (under_by table of.process.now a c.on_entry-covers.result (entry_word facts.crew facts.told.items of entry) (object_of_kind (Some entry.kind))
    c.calls_under-calls.result is.process c.on_entry-covers.ensures (c.calls_under-calls.ensures (calls_known t table crew facts a of is) (object_of_kind (Some entry.kind)) refl))
    c.kept_by.ensures

pub returns : goal.returns
returns c = λ t crew a is among other.
    let table = c.args.table.now in
    let facts = c.args.self.now in
    let of = c.args.of.now in
    let entry = c.args.entry.now in
    let are = is.facts_are in
    let g = place_of_entry t table crew facts a of is entry among in
    turned_calls t table crew facts a of is g.at entry g.is other
    (turned_means t table crew facts are entry.node (sym (are.turned entry.node (are.worked.1.low_nodes entry among)) ∙ sym c.is_turned.ensures
    ∙ c.if-not-is_turned.false)) c.calls_under-calls.result c.calls_under-started.result c.on_new_file.result
    (under_by table of.process.now a c.on_entry-covers.result (entry_word facts.crew facts.told.items of entry) (object_of_kind (Some entry.kind))
    c.calls_under-calls.result is.process c.on_entry-covers.ensures (c.calls_under-calls.ensures (calls_known t table crew facts a of is) (object_of_kind (Some entry.kind)) refl))
    (under_by table of.process.now a c.on_entry-covers.result (entry_word facts.crew facts.told.items of entry) IsProg
    c.calls_under-started.result is.process c.on_entry-covers.ensures (c.calls_under-started.ensures (calls_known t table crew facts a of is) IsProg refl))
    c.on_new_file.ensures
