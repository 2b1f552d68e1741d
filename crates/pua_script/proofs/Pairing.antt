-- What is decided of what both paths of a request name, by the promises that were asked and by what was found.
use Rattle.pua_script.proofs.Common.{◌≡◌, ℕ, List, sym, ap, ◌∙◌, Result, Ok, Err, Tree, PairRule, ProcessState, Found, Ending}
use Rattle.pua_script.proofs.Common.{Refusal, Decision, asker_of, if_may}
use Rattle.pua_calls.specs.declared.rules.Rules.{Rules}
use Rattle.pua_policy.specs.States.{may_any}
use Rattle.pua_script.specs.Decide.{decide_pair}
use Rattle.pua_script.specs.Judged.{if_covered, on_judged}

module _ (whose : Rules) (rules need : PairRule) (same : need ≡ rules) (t : Tree) (p : ProcessState) (end : Ending) (old new : List ℕ)
    (further : Found → Found → Decision) where
  module _ {X : Type 0} (held : Result X Refusal) (judged : (d : Decision) → on_judged held (λ _. d) ≡
      if_may (may_any p need.old.needs.alternatives) (if_may (may_any p need.new.needs.alternatives) d)) where
    asked : (r : Result X Refusal) → held ≡ r →
        on_judged r (λ _. if_covered whose need t p end old new further) ≡ decide_pair whose rules t (asker_of p) end old new further
    asked r is =
        ap (λ r. on_judged r (λ _. if_covered whose need t p end old new further)) (sym is)
        ∙ judged (if_covered whose need t p end old new further)
        ∙ ap (λ rule. decide_pair whose rule t (asker_of p) end old new further) same

    -- where the promises are refused
    pub pair_refused : (refusal : Refusal) → held ≡ Err refusal → Err refusal ≡ decide_pair whose rules t (asker_of p) end old new further
    pair_refused refusal is = asked (Err refusal) is

    -- where they are held
    pub pair_held : (x : X) → held ≡ Ok x → (d : Decision) → d ≡ if_covered whose need t p end old new further →
        d ≡ decide_pair whose rules t (asker_of p) end old new further
    pair_held x is d decided = decided ∙ asked (Ok x) is
