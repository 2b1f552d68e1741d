-- What a question is told stays, where what was touched doesn't concern it.
use Rattle.pua_since.proofs.Common.{◌≡◌, ℕ, false, None, Option, Some, Ok, Err, refl, sym, ap, subst, ◌∙◌, if◌then◌else◌, ◌==◌}
use Rattle.pua_since.proofs.Common.{option_eq, option_map_or, false≢true, same_bytes, CallTable, Asked, came_from, ProcessState, perms_kept}
use Rattle.pua_since.proofs.Common.{Change, NoChange, CopyAs, World, kept_at, Action, Fault, Ended, IsToldOf, is_told, kept_in, Touched}
use Rattle.pua_since.proofs.Common.{Question, Told}
use Rattle.std.specs.Prelude.{nat_le, Bool, true, ◌||◌}
use Rattle.pua_policy.specs.States.{is_ended}
use Rattle.pua_policy.specs.Verdict.{or_fault}
use Rattle.pua_script.specs.Limits.{most_processes}
use Rattle.pua_script.specs.Decide.{AddNode, CutRow, ShiftRow, TieRow, BeginProgram, AddEvent, TakeFile, Outcome, fault_if}
use Rattle.pua_why.specs.Checked.{reason_checked, checked_by, checks_fault, process_fault}
use Rattle.pua_why.specs.Keys.{reason_key}
use Rattle.pua_why.specs.Reasons.{NumberTaken, NoProcessLeft, reason_of, change_or_fault}
use Rattle.pua_since.specs.Concerns.{ChangesOnly, ChangesProcess, MakesNone, asks_other, is_concerned}
use Rattle.pua_script.specs.Worlds.{is_take}
use Rattle.pua_script.proofs.ForCallers.{takes_ask}
use Rattle.pua_why.specs.Laws.{decision_of}
use Rattle.pua_why.proofs.ForCallers.{reasons_give_decisions}
use Rattle.pua_since.specs.declared.touched.Touched.TheVariants.{Process, Anything}
use Rattle.pua_since.specs.declared.watch.Question.TheVariants as asks
use Rattle.pua_since.specs.declared.watch.Told.TheVariants as tells

-- two worlds tell the same of a question
abbrev TellsSame : CallTable → World → World → ℕ → Question → Type 0
TellsSame table w v process (asks.Request action) =
    reason_checked table v (record { process = process; action = action.now })
    ≡ reason_checked table w (record { process = process; action = action.now })
TellsSame table w v process (asks.Veil place) = kept_in v process place.now ≡ kept_in w process place.now

-- so a question that is told something is told the same
pub record IsToldSame (table : CallTable) (w v : World) (process : ℕ) (question : Question) (was : Told) : Type 0 where
  pub told : IsToldOf table w process question was → IsToldOf table v process question was
  pub test : is_told table question was v process ≡ is_told table question was w process

told_same : (table : CallTable) (w v : World) (process : ℕ) (question : Question) (told : Told) → TellsSame table w v process question →
    IsToldSame table w v process question told
told_same table w v process (asks.Request action) (tells.Reason key) same = record {
  told = λ is. is ∙ ap reason_key (sym same);
  test = ap (λ reason. same_bytes (reason_key reason) key) same;
}
told_same table w v process (asks.Veil place) (tells.Veil perms) same = record {
  told = λ is. is ∙ sym same;
  test = ap (λ kept. option_eq ◌==◌ kept perms) same;
}
told_same table w v process (asks.Request action) (tells.Veil perms) same = record { told = λ is. is; test = refl }
told_same table w v process (asks.Veil place) (tells.Reason key) same = record { told = λ is. is; test = refl }

-- neither of two
or_false : (a b : Bool) → (a || b) ≡ false → (a ≡ false) × (b ≡ false)
or_false true b e = absurd (false≢true (sym e))
or_false false b e = (refl, e)

-- another process
module _ (table : CallTable) (w v : World) (own : ℕ) (only : ChangesProcess own w v) (process : ℕ) (other : process == own ≡ false) where
  same_fault : (h : ProcessState) (c : Change) → ((number from theirs : ℕ) → c ≡ TakeFile number from theirs → ⊥) →
      process_fault v h c ≡ process_fault w h c
  same_fault h (TakeFile number from theirs) alone = absurd (alone number from theirs refl)
  same_fault h (CopyAs new) alone = λ i. or_fault (fault_if (only.there new i) (NumberTaken new))
      (fault_if (nat_le most_processes (only.count i)) NoProcessLeft)
  same_fault h NoChange alone = refl
  same_fault h (AddNode spot node) alone = refl
  same_fault h (CutRow spot) alone = refl
  same_fault h (ShiftRow old new) alone = refl
  same_fault h (TieRow spot x) alone = refl
  same_fault h (BeginProgram left) alone = refl
  same_fault h (AddEvent event) alone = refl

  -- a request that is no take asks nothing of others
  no_take : (action : Action) (h : ProcessState) (c : Change) → is_take action ≡ false → change_or_fault table w.tree h action ≡ Ok c →
      (number from theirs : ℕ) → c ≡ TakeFile number from theirs → ⊥
  no_take action h c own is number from theirs same =
      let decided = sym (reasons_give_decisions table w.tree h action) ∙ ap decision_of (is ∙ ap (λ (d : Change). Ok d) same) in
      false≢true (sym own ∙ ap is_take (takes_ask table w.tree h action number from theirs decided))

  same_checks : (action : Action) (h : ProcessState) (outcome : Outcome Fault) → is_take action ≡ false →
      change_or_fault table w.tree h action ≡ outcome → checks_fault v h outcome ≡ checks_fault w h outcome
  same_checks action h (Ok change) own is = same_fault h change (no_take action h change own is)
  same_checks action h (Err fault) own is = refl

  same_by : (action : Action) (o : Option ProcessState) → is_take action ≡ false → checked_by table v action o ≡ checked_by table w action o
  same_by action None own = refl
  same_by action (Some h) own =
      ap (λ fault. if is_ended h then Ended else reason_of fault)
      (ap (λ t. checks_fault v h (change_or_fault table t h action)) only.tree ∙ same_checks action h (change_or_fault table w.tree h action) own refl)

  process_same : (question : Question) → asks_other question ≡ false → TellsSame table w v process question
  process_same (asks.Request action) own = ap (checked_by table v action.now) (only.others process other)
      ∙ same_by action.now (kept_at w process) own
  process_same (asks.Veil place) own =
      ap (λ (o : Option ProcessState). option_map_or (λ h. perms_kept h place.now) o None) (only.others process other)

module _ (table : CallTable) (w v : World) (process : ℕ) (question : Question) (was : Told) where
  -- where the world is the same
  pub same_told : v ≡ w → IsToldSame table w v process question was
  same_told same = subst (λ u. IsToldSame table w u process question was) (sym same) (record { told = λ is. is; test = refl })

  -- where what was touched doesn't concern it
  pub spared : (touched : Touched) → ChangesOnly touched w v → is_concerned touched process question ≡ false →
      IsToldSame table w v process question was
  spared (Process own) changes free =
      let apart = or_false (process == own) (asks_other question) free in
      told_same table w v process question was (process_same table w v own changes process apart.0 question apart.1)
  spared Anything changes free = absurd (false≢true (sym free))

-- what may change anything concerns each question
pub itself_by : (touched : Touched) (table : CallTable) (w : World) (ask : Asked) (asker : ℕ) (question : Question) → MakesNone touched table w ask →
    is_concerned touched asker question ≡ false → (process : ℕ) → came_from table w ask process ≡ process
itself_by (Process own) table w ask asker question none free = none
itself_by Anything table w ask asker question none free = absurd (false≢true (sym free))
