-- What a call without its promises gets.
use Rattle.pua_policy.proofs.Common.{◌≡◌, sym, ap, Option, Some, unwrap_or, if_promised}
use Rattle.pua_policy.specs.Verdict.{refusal_of, refusal_verdict}
use Rattle.pua_policy.specs.declared.answer.May.{May}
use Rattle.pua_policy.specs.declared.answer.May.TheVariants.{Yes, Enosys, Death}
use Rattle.pua_policy.specs.declared.answer.Refusal.{Refusal}
use Rattle.pua_policy.specs.declared.answer.Refusal.TheVariants.{Killed}
use Rattle.pua_policy.specs.declared.answer.Verdict.{Verdict}

-- a refusal is the verdict, whatever the rest of the verdict would be
pub refused_is : (may : May) (v : Verdict) (refusal : Refusal) → refusal_of may ≡ Some refusal → refusal_verdict refusal ≡ if_promised may v
refused_is Yes v refusal e = cc
refused_is Enosys v refusal e = ap (λ (o : Option Refusal). refusal_verdict (unwrap_or o Killed)) (sym e)
refused_is Death v refusal e = ap (λ (o : Option Refusal). refusal_verdict (unwrap_or o Killed)) (sym e)
