-- What a process does, by the effect of what it asks for.
use Rattle.pua_script.proofs.Common.{◌≡◌, sym, ap, subst, ◌∙◌, Tree, ProcessState, May, Refusal, Answer, WorldFault}
use Rattle.pua_script.proofs.Common.{Decision, if_may, Effect}
use Rattle.std.proofs.Common.{Some, None, Result, Ok, Err}
use Rattle.pua_policy.specs.Verdict.{refusal_of}
use Rattle.pua_script.specs.Decide.{unless_refused}
use Rattle.pua_script.specs.Worlds.{Does, Edits, Attempts, AttemptsEdit}

-- where promises refuse, the decision is the refusal
pub promises_refuse : (m : May) (refusal : Refusal) (d : Decision) → refusal_of m ≡ Some refusal → if_may m d ≡ Err refusal
promises_refuse m refusal d is = ap (λ o. unless_refused o d) is

-- where they do not, it is what stands behind them
pub promises_allow : (m : May) (d : Decision) → refusal_of m ≡ None → if_may m d ≡ d
promises_allow m d is = ap (λ o. unless_refused o d) is

module _ (t u : Tree) (p : ProcessState) (a : Answer) (q : ProcessState) where
  -- by an equal effect
  pub as_same : (d e : Effect) → d ≡ e → Does t p e a u q → Does t p d a u q
  as_same d e is does = subst (λ x. Does t p x a u q) (sym is) does

  -- an effect on the tree alone
  pub as_edit : (e : Effect) → Edits t p e a u → q ≡ p → Does t p e a u q
  as_edit e edits same = record { told = edits.told; left = edits.left; is = same ∙ sym edits.same; alone = edits.alone }

-- the same where a growth may have been refused
module _ (t u : Tree) (p : ProcessState) (r : Result Answer WorldFault) (q : ProcessState) where
  pub attempts_same : (d e : Effect) → d ≡ e → Attempts t p e r u q → Attempts t p d r u q
  attempts_same d e is does = subst (λ x. Attempts t p x r u q) (sym is) does

  pub attempts_edit : (e : Effect) → AttemptsEdit t p e r u → q ≡ p → Attempts t p e r u q
  attempts_edit e = by r
    where
      by : (r : Result Answer WorldFault) → AttemptsEdit t p e r u → q ≡ p → Attempts t p e r u q
      by (Ok answer) edits same = as_edit t u p answer q e edits same
      by (Err fault) okay same = okay
