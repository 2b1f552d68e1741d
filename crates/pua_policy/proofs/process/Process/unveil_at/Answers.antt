use Rattle.pua_policy.proofs.Common.{◌≡◌, ◌∙◌, ℕ, List, sym, ap, subst, refl, true, false, Place, Unveiled, state_after, with_veil, veil_at}
use Rattle.pua_policy.specs.History.{StandsFor}
use Rattle.pua_policy.proofs.Common.{ghosts}
use Rattle.std.specs.Prelude.{Result, Ok, Err, OnOk, OnErr}
use Rattle.std.specs.Result.{is_err}
use Rattle.indexmap.specs.IndexMap.{insert_entry}
use Rattle.pua_policy.specs.declared.answer.UnveilFault.TheVariants.{OutOfMemory}
use Rattle.pua_policy.proofs.StatesLeft.{unveil_fault_by}
use Rattle.pua_policy.proofs.Histories.{stands_after}
use Rattle.pua_policy.proofs.SamePlace.{same_place-eq}
use Rattle.pua_policy.proofs.Veils.{with_veil-insert_entry, veil_at-lookup, once_more}
use Rattle.pua_policy.proofs.process.Process.unveil_at.Goals as goal

if_no_err : {T E P : Type 0} (r : Result T E) → is_err r ≡ false → OnOk r P → P
if_no_err (Ok x) e p = p
if_no_err (Err x) e p = cc

if_err : {T E P : Type 0} (r : Result T E) → is_err r ≡ true → OnErr r P → P
if_err (Ok x) e p = cc
if_err (Err x) e p = p

pub returns-in-Some-clause-err : goal.returns-in-Some-clause-err
returns-in-Some-clause-err c =
    λ h s. (
      λ _. unveil_fault_by c.args.self.now h s c.args.place c.args.perms ∙ sym c.in-Some.ensures.fault,
      λ is. absurd (c.in-Some.ensures.other is),
    )

pub returns-then-is_err-clause-err : goal.returns-then-is_err-clause-err
returns-then-is_err-clause-err c =
    λ h s. (
      λ no. absurd (no refl),
      λ _. unveil_fault_by c.args.self.now h s c.args.place c.args.perms ∙ sym c.unveil_fault.ensures.fault ∙
          c.in_default.is,
    )

pub returns-in-Some-clause-fault : goal.returns-in-Some-clause-fault
returns-in-Some-clause-fault c = (λ _. sym c.in-Some.ensures.fault, λ is. absurd (c.in-Some.ensures.other is))

pub returns-then-is_err-clause-fault : goal.returns-then-is_err-clause-fault
returns-then-is_err-clause-fault c = (λ no. absurd (no refl), λ _. sym c.unveil_fault.ensures.fault ∙ c.in_default.is)

-- the veils after an insert that was not refused
put : {T E : Type 0} (r : Result T E) → is_err r ≡ false → (place : Place) (perms : ℕ) (old new : List (Place × ℕ)) →
    OnOk r (new ≡ insert_entry ghosts.eq old place perms) → new ≡ with_veil place perms old
put r well place perms old new is = if_no_err r well is ∙ with_veil-insert_entry ghosts.eq same_place-eq place perms old

pub returns-clause-ok : goal.returns-clause-ok
returns-clause-ok c = λ h s. (
  unveil_fault_by c.args.self.now h s c.args.place c.args.perms ∙ sym c.unveil_fault.ensures.fault ∙ c.in_default.is,
  rw (put c.insert.result (sym c.is_err.ensures.value ∙ c.if-is_err.false) c.args.place c.args.perms _ _ c.insert.ensures.entries)
      (stands_after _ h (subst (λ p. StandsFor p h) (sym c.self.view_is) s) (Unveiled c.args.place c.args.perms)),
)

pub returns-clause-state : goal.returns-clause-state
returns-clause-state c = (
  sym c.unveil_fault.ensures.fault ∙ c.in_default.is,
  rw (put c.insert.result (sym c.is_err.ensures.value ∙ c.if-is_err.false) c.args.place c.args.perms _ _ c.insert.ensures.entries)
      (ap (state_after (Unveiled c.args.place c.args.perms)) c.self.view_is),
)

pub returns-in-Some-clause-memory : goal.returns-in-Some-clause-memory
returns-in-Some-clause-memory c = λ e. let same : c.in-Some.fault ≡ OutOfMemory = cc in absurd (c.in-Some.ensures.other same)

pub returns-then-is_err-clause-memory : goal.returns-then-is_err-clause-memory
returns-then-is_err-clause-memory c = λ _.
    ap (λ p. veil_at p.veils c.args.place) (sym c.self.view_is)
    ∙ sym (veil_at-lookup ghosts.eq same_place-eq c.args.place c.self.inside.veils.entries)
    ∙ if_err c.insert.result (sym c.is_err.ensures.value ∙ c.if-is_err.true) c.insert.ensures.absent

pub invariant_of-self-2 : goal.invariant_of-self-2
invariant_of-self-2 c =
    rw (put c.insert.result (sym c.is_err.ensures.value ∙ c.if-is_err.false) c.args.place c.args.perms _ _ c.insert.ensures.entries)
    (once_more c.args.place c.args.perms _ c.self.invariant)
