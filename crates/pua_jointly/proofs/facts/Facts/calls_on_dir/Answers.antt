use Rattle.pua_jointly.proofs.Common.{◌∙◌, and_from, ap, and_parts, false≢true, lasting_dir, not, refl, removable_dir, sym}
use Rattle.std.proofs.lemmas.Bool.{not-true}
use Rattle.pua_jointly.specs.JointSides.{is_top}
use Rattle.pua_jointly.proofs.JointTold.{calls_known, dir_word, emptied_calls, first_not, held_is, lasting_calls, not_first, under_by}
use Rattle.pua_jointly.proofs.facts.Facts.calls_on_dir.Goals as goal

pub returns-then-not-is_removable : goal.returns-then-not-is_removable
returns-then-not-is_removable c = λ t crew a way is lives.
    let table = c.args.table.now in
    let facts = c.args.self.now in
    let of = c.args.of.now in
    let dir = c.args.dir in
    lasting_calls t table crew facts a of is dir way c.calls_under-lasting.result lives
    (λ other none free. false≢true (sym c.if-not-is_removable.true ∙ c.is_removable.ensures
    ∙ and_from (not (is_top facts.crew.devices.items dir)) _ (ap not (not_first t table crew facts a of is dir lives other none))
    (ap not (held_is t table crew facts a of is dir lives) ∙ free)))
    (under_by table of.process.now a c.on_dir-covers.result (dir_word t table crew facts a of is dir) lasting_dir c.calls_under-lasting.result
    is.process c.on_dir-covers.ensures (c.calls_under-lasting.ensures (calls_known t table crew facts a of is) lasting_dir refl))

pub returns : goal.returns
returns c = λ t crew a way is lives.
    let table = c.args.table.now in
    let facts = c.args.self.now in
    let of = c.args.of.now in
    let dir = c.args.dir in
    let both = and_parts (not (is_top facts.crew.devices.items dir)) _ (sym c.is_removable.ensures ∙ c.if-not-is_removable.false) in
    let first = first_not t table crew facts a of is dir lives (not-true _ both.0) in
    emptied_calls t table crew facts a of is dir way c.calls_under-lasting.result c.calls_under-emptied.result c.union.result lives
    first.0 first.1 (ap not (sym (held_is t table crew facts a of is dir lives)) ∙ both.1)
    (under_by table of.process.now a c.on_dir-covers.result (dir_word t table crew facts a of is dir) lasting_dir c.calls_under-lasting.result
    is.process c.on_dir-covers.ensures (c.calls_under-lasting.ensures (calls_known t table crew facts a of is) lasting_dir refl))
    (under_by table of.process.now a c.on_dir-covers.result (dir_word t table crew facts a of is dir) removable_dir c.calls_under-emptied.result
    is.process c.on_dir-covers.ensures (c.calls_under-emptied.ensures (calls_known t table crew facts a of is) removable_dir refl))
    c.union.ensures
