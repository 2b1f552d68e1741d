-- Why there is no list of what several processes can ever touch together.
use Rattle.std.specs.Prelude.{◌≡◌, ◌⊎◌, ℕ, suc, true, List, [], ◌∷◌, Option, Some, None}
use Rattle.pua_calls.specs.Calls.{CallTable}
use Rattle.pua_policy.specs.States.{ProcessState, is_ended}
use Rattle.pua_script.specs.Laws.{IsConfined}
use Rattle.pua_ever.specs.Laws.{EditsNeedC}
use Rattle.pua_ever.specs.Refusals.{refusal}
use Rattle.pua_ever.specs.declared.refusal.EverRefusal.{EverRefusal}
use Rattle.pua_jointly.specs.declared.fault.FactsFault.{FactsFault}
use Rattle.pua_jointly.specs.declared.fault.FactsFault.TheVariants as facts_fault

-- of several processes the first one that has a reason, by its place
abbrev pub refused_at : ℕ → Option EverRefusal → Option (ℕ × EverRefusal) → Option (ℕ × EverRefusal)
refused_at place (Some why) later = Some (place, why)
refused_at place None later = later

abbrev pub first_refusal : CallTable → ℕ → List ProcessState → Option (ℕ × EverRefusal)
first_refusal table place [] = None
first_refusal table place (h ∷ hs) = refused_at place (refusal table h) (first_refusal table (suc place) hs)

abbrev pub first_refused_in : FactsFault → Option (ℕ × EverRefusal)
first_refused_in (facts_fault.Refused place why) = Some (place, why)
first_refused_in facts_fault.OutOfMemory = None

-- a process whose list holds for ever by a table: it can put no veil any more or has ended, and what changes names needs `c`
pub record IsLasting (table : CallTable) (h : ProcessState) : Type 0 where
  pub none : refusal table h ≡ None
  pub needs : EditsNeedC table
  pub confined : IsConfined h ⊎ (is_ended h ≡ true)
