use Rattle.pua_policy.proofs.Common.{◌≡◌, ◌∙◌, sym, ap, refl, Bool, true, false, Option}
use Rattle.std.specs.Prelude.{Some, None, is_some, is_none, not}
use Rattle.pua_policy.specs.Objects.{misfit_seen}
use Rattle.pua_policy.proofs.Suiting.{suits_seen}
use Rattle.pua_policy.proofs.judge.suits_by_standard.Goals as goal

none_is : {X : Type 0} (o : Option X) (b : Bool) → is_some o ≡ not b → b ≡ is_none o
none_is None true e = refl
none_is None false e = cc
none_is (Some x) true e = cc
none_is (Some x) false e = refl

pub returns : goal.returns
returns c = λ t judged seen.
    none_is c.misfit_seen.result c.is_none.result c.is_none.ensures
    ∙ ap is_none c.misfit_seen.ensures
    ∙ ap (λ fits. is_none (misfit_seen fits c.args.object)) c.fits.ensures
    ∙ suits_seen t c.args.call c.args.object judged seen
