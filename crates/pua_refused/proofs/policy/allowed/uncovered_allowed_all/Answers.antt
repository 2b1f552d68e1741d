use Rattle.pua_refused.proofs.Common.{◌∙◌, ◌≡◌, false, refl, sym, false≢true, empty_tree}
use Rattle.pua_calls.specs.declared.call.Call.TheVariants.{Stat}
use Rattle.pua_policy.specs.Verdict.{IsFile, covered_verdict, is_allowed}
use Rattle.pua_policy.specs.declared.answer.Cover.TheVariants.{Nothing}
use Rattle.pua_refused.proofs.policy.allowed.uncovered_allowed_all.Goals as goal

pub unreachable-requires : goal.unreachable-requires
unreachable-requires c =
    let fault : is_allowed (covered_verdict empty_tree c.standard.result c.in-Ok.process Stat Nothing IsFile) ≡ false =
    rw (c.standard.ensures, c.in-Ok.ensures.state) refl in
    let not_allowed = c.contains.ensures ∙ c.on.ensures _ _ empty_tree IsFile c.new-allowed.ensures refl Stat ∙ fault in
    false≢true (sym not_allowed ∙ c.if-contains.true)
