use Rattle.pua_jointly.proofs.Common.{◌≡◌, ◌∙◌, ap, false, None≢Some, Option, own_spot, row_says, Some, sound_from, Spot, subst, sym, true}
use Rattle.pua_calls.proofs.ForCallers.{has_none}
use Rattle.pua_jointly.specs.JointCalls.{AreFreeCalls, AreOwnCalls}
use Rattle.pua_jointly.specs.JointRounds.{is_taken}
use Rattle.pua_jointly.proofs.JointNames.{no_name_kept}
use Rattle.pua_jointly.proofs.JointTold.{as_freed, as_held, named_known, none_found, own_stands, unnamed_calls}
use Rattle.pua_ever.proofs.ForCallers.{own_name_is}
use Rattle.pua_jointly.proofs.facts.Facts.calls_on_freed.Goals as goal

pub returns-in_default : goal.returns-in_default
returns-in_default c = λ t crew a about is fits on.
    subst (λ (o : Option Spot). AreOwnCalls t c.args.table.now crew a o 0) c.in_default.ensures has_none

pub returns-then-not-of : goal.returns-then-not-of
returns-then-not-of c = λ t crew a about is fits on.
    let table = c.args.table.now in
    let facts = c.args.self.now in
    let of = c.args.of.now in
    let spot : Spot = (c.in-Some.own.0, c.in-Some.own.1.now) in
    subst (λ (o : Option Spot). AreOwnCalls t table crew a o 0) c.in-Some.ensures
    (unnamed_calls t table crew facts a of is spot.0 spot.1
    (no_name_kept a of.named (named_known t table crew facts a of is) c.if-not-of.true spot.0 spot.1) 0 has_none)

pub returns-in_default-entry : goal.returns-in_default-entry
returns-in_default-entry c = λ t crew a about is fits on.
    let table = c.args.table.now in
    let facts = c.args.self.now in
    let of = c.args.of.now in
    let spot : Spot = (c.in-Some.own.0, c.in-Some.own.1.now) in
    let own : own_spot about ≡ Some spot =
    sym (c.in-Some.ensures ∙ own_name_is t is.facts_are.worked.0 table a about c.args.item.now fits on) in
    let there = own_stands t a about spot.0 spot.1 fits own in
    absurd (None≢Some there.0 (sym (none_found t table crew facts a of is spot.0 spot.1 (c.in_default-entry.ensures is.facts_are.worked.1.in_order)) ∙ there.1))

pub returns-then-not-is_taken : goal.returns-then-not-is_taken
returns-then-not-is_taken c = λ t crew a about is fits on.
    let table = c.args.table.now in
    let facts = c.args.self.now in
    let of = c.args.of.now in
    let entry = c.in-Some-entry.entry.now in
    let found = c.in-Some-entry.ensures is.facts_are.worked.1.in_order in
    let held : is_taken facts.crew.columns facts.crew.shape.agents facts.told.items entry.row ≡ false =
    ap (λ told. is_taken facts.crew.columns facts.crew.shape.agents told entry.row) (sym c.deref.ensures.value) ∙ sym c.is_taken.ensures ∙ c.if-not-is_taken.true in
    subst (λ (o : Option Spot). AreOwnCalls t table crew a o 0) c.in-Some.ensures
    (as_held t table crew facts a of is c.in-Some.own.0 c.in-Some.own.1.now entry found.0 found.1 held 0 has_none)

pub returns : goal.returns
returns c = λ t crew a about is fits on.
    let table = c.args.table.now in
    let facts = c.args.self.now in
    let of = c.args.of.now in
    let entry = c.in-Some-entry.entry.now in
    let found = c.in-Some-entry.ensures is.facts_are.worked.1.in_order in
    let spot : Spot = (c.in-Some.own.0, c.in-Some.own.1.now) in
    let well = is.facts_are.worked.0 in
    let own : own_spot about ≡ Some spot = sym (c.in-Some.ensures ∙ own_name_is t well table a about c.args.item.now fits on) in
    let there = own_stands t a about spot.0 spot.1 fits own in
    let taken : is_taken facts.crew.columns facts.crew.shape.agents facts.told.items entry.row ≡ true =
    ap (λ told. is_taken facts.crew.columns facts.crew.shape.agents told entry.row) (sym c.deref.ensures.value) ∙ sym c.is_taken.ensures ∙ c.if-not-is_taken.false in
    subst (λ (o : Option Spot). AreOwnCalls t table crew a o c.calls_on_free.result) c.in-Some.ensures
    (as_freed t table crew facts a of is spot.0 spot.1 entry found.0 found.1 taken
    (row_says t (sound_from t well) spot there.0 there.1).0 c.calls_on_free.result
    (subst (λ h. AreFreeCalls table h spot.0 spot.1 c.calls_on_free.result) is.process c.calls_on_free.ensures))
