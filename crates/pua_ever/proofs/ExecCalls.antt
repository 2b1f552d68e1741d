-- One call starts a program.
use Rattle.pua_ever.proofs.Common.{◌≡◌, ◌≢◌, ◌⊎◌, false, refl, ap, ◌∙◌, inl, inr, ℕ, ◌&&◌, false≢true, has, Call}
use Rattle.pua_calls.specs.declared.call.Call.TheVariants as call
use Rattle.pua_ever.specs.Ever.{is_exec_call}

-- a call is exec, or another one
pub exec_or_other : (c : Call) → (c ≡ call.Exec) ⊎ ((c ≢ call.Exec) × (is_exec_call c ≡ false))
exec_or_other call.Exec = inl refl
exec_or_other _ = inr (λ e. false≢true (ap is_exec_call e), refl)

-- where a set hasn't exec, no call starts by it
pub none_starts : (c : Call) (set : ℕ) → has set call.Exec ≡ false → (is_exec_call c && has set c) ≡ false
none_starts c set none = elim (exec_or_other c) [
  | inl is ↦ ap (λ d. is_exec_call d && has set d) is ∙ none
  | inr other ↦ ap (λ b. b && has set c) other.1
]
