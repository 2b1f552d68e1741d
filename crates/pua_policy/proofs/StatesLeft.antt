-- What a history lets a process do is what it left lets it do.
use Rattle.pua_policy.proofs.Common.{◌≡◌, ℕ, sym, ap, ◌∙◌, if◌then◌else◌, Some, length, Place, veil_at, ProcessState}
use Rattle.pua_policy.specs.States.{place_fault, unveil_fault}
use Rattle.pua_policy.specs.History.{History, StandsFor, perms_kept, state_of}
use Rattle.pua_policy.specs.History as past
use Rattle.pua_policy.specs.declared.answer.UnveilFault.TheVariants.{NotPermitted}
use Rattle.pua_policy.specs.Laws.{StatesAreLeft}
use Rattle.pua_policy.proofs.Histories.{stands, state_more, state_exec}
use Rattle.pua_policy.proofs.Veils.{veils_are_kept}

module _ (p : ProcessState) (h : History) (s : StandsFor p h) where
  -- what a process has at a place is what its history keeps there
  pub kept_by : (place : Place) → perms_kept h place ≡ veil_at p.veils place
  kept_by place = sym (veils_are_kept h place) ∙ ap (λ vs. veil_at vs place) (sym s.veils)

  -- what a process keeps decides what it answers to an unveil
  pub unveil_fault_by : (place : Place) (perms : ℕ) → past.unveil_fault h place perms ≡ unveil_fault p place perms
  unveil_fault_by place perms =
      λ i. if sym s.locked i then Some NotPermitted else place_fault (kept_by place i) (length (sym s.veils i)) perms

pub states_are_left : StatesAreLeft
states_are_left = record {
  event = state_more;
  exec = state_exec;
  unveils = λ h. unveil_fault_by (state_of h) h (stands _ h (λ i. state_of h));
  kept = λ h. kept_by (state_of h) h (stands _ h (λ i. state_of h));
}
