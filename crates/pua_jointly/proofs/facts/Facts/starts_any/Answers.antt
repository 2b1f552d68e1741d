use Rattle.pua_jointly.proofs.Common.{◌∙◌, Comes, false≢true, inl, inr, List, NewFile, refl, subst, sym}
use Rattle.std.specs.List.{Contains}
use Rattle.pua_calls.specs.declared.call.Call.TheVariants.{Exec}
use Rattle.pua_jointly.specs.JointPrograms.{SomeStart}
use Rattle.pua_jointly.specs.declared.crew.Entry.{Entry}
use Rattle.pua_jointly.proofs.JointStarting.{exec_found, from_entry}
use Rattle.pua_jointly.proofs.facts.Facts.starts_any.Goals as goal

pub returns-then-starts_among : goal.returns-then-starts_among
returns-then-starts_among c = λ t crew a is.
    let table = c.args.table.now in
    let facts = c.args.self.now in
    let some = (c.starts_among.ensures t crew a is (λ entry among. subst (λ (xs : List Entry). Contains xs entry) c.deref.ensures.value among)).0
    c.if-starts_among.true in (
      λ yes. from_entry t table crew facts a c.args.of.now is
          (subst (λ (xs : List Entry). SomeStart t table crew a xs) c.deref.ensures.value some),
      λ has. refl,
    )

pub returns : goal.returns
returns c = λ t crew a is.
    let table = c.args.table.now in
    let facts = c.args.self.now in
    let calls = c.calls_on_made.ensures t crew a is in
    let decided = c.starts_among.ensures t crew a is
    (λ entry among. subst (λ (xs : List Entry). Contains xs entry) c.deref.ensures.value among) in (
      λ yes. record { thing = Comes NewFile; listed = calls.only Exec (sym c.contains.ensures ∙ yes) },
      λ has. elim (exec_found t table crew facts a c.args.of.now is has) [
        | inl some ↦
            absurd (false≢true (sym c.if-starts_among.false
            ∙ decided.1 (subst (λ (xs : List Entry). SomeStart t table crew a xs) (sym c.deref.ensures.value) some)))
        | inr made ↦ c.contains.ensures ∙ calls.all Exec made
      ],
    )
