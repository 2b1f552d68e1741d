use Rattle.pua_jointly.proofs.Common.{◌∙◌, ◌∷◌, [], Among, among_contained, arith, false≢true, inl, inr, List, refl, subst, sym, take, ℕ}
use Rattle.pua_objects.proofs.ForCallers.{among_either}
use Rattle.std.specs.List.{Contains}
use Rattle.pua_jointly.specs.JointPrograms.{StartsAt}
use Rattle.pua_jointly.specs.declared.crew.Entry.{Entry}
use Rattle.pua_jointly.proofs.JointGathered.{taken_all}
use Rattle.pua_jointly.proofs.JointMembers.{taken_more}
use Rattle.pua_jointly.proofs.facts.Facts.starts_among.Goals as goal

pub loop-entry-init : goal.loop-entry-init
loop-entry-init c = record { none = λ t crew a is within entry among starts. among }

pub loop-entry-preserved : goal.loop-entry-preserved
loop-entry-preserved c = record {
  none = λ t crew a is within entry among starts.
      let entries : List Entry = c.args.entries.now in
      let i : ℕ = c.loop-entry.entry-index in
      let item : Entry = c.entry-item.result in
      let here : Contains entries item = (i, c.loop-entry-test.true, sym c.entry-item.is) in
      let decided = c.starts_at.ensures t crew a is (within item here) in
      elim (among_either (take i entries) (item ∷ []) entry
      (subst (λ (xs : List Entry). Among xs entry) (taken_more entries i item c.loop-entry-test.true c.entry-item.is) among)) [
        | inl before ↦ c.loop-entry.invariant.none t crew a is within entry before starts
        | inr last ↦ elim last [
          | inl same ↦
              false≢true (sym c.if-starts_at.false ∙ decided.1 (subst (StartsAt t c.args.table.now crew a) (sym same) starts))
          | inr none ↦ none
        ]
      ];
}

pub returns-then-starts_at : goal.returns-then-starts_at
returns-then-starts_at c = λ t crew a is within.
    let item : Entry = c.entry-item.result in
    let here : Contains c.args.entries.now item = (c.loop-entry.entry-index, c.loop-entry-test.true, sym c.entry-item.is) in (
      λ yes. record { entry = item; among = here; starts = (c.starts_at.ensures t crew a is (within item here)).0 c.if-starts_at.true },
      λ some. refl,
    )

pub returns : goal.returns
returns c = λ t crew a is within. (
  λ no. absurd (false≢true no),
  λ some.
      absurd (c.loop-entry.invariant.none t crew a is within some.entry
      (subst (λ (xs : List Entry). Among xs some.entry)
      (sym (taken_all c.args.entries.now c.loop-entry.entry-index (omega (arith, c.loop-entry-test.false))))
      (among_contained c.args.entries.now some.entry some.among)) some.starts),
)
