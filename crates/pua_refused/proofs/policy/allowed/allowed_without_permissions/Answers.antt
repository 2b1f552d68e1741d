use Rattle.pua_refused.proofs.Common.{◌≡◌, false, refl, sym, ◌∙◌, false≢true, empty_tree}
use Rattle.pua_policy.specs.Verdict.{IsFile, covered_verdict, is_allowed}
use Rattle.pua_policy.specs.declared.answer.Cover.TheVariants.{Only}
use Rattle.pua_calls.specs.declared.call.Call.TheVariants.{Stat}
use Rattle.pua_refused.proofs.policy.allowed.allowed_without_permissions.Goals as goal

pub unreachable-requires : goal.unreachable-requires
unreachable-requires c =
    let fault : is_allowed (covered_verdict empty_tree c.standard.result c.in-Ok.process Stat (Only 0) IsFile) ≡ false =
    rw (c.standard.ensures, c.in-Ok.ensures.state) refl in
    let not_allowed = c.contains.ensures ∙ c.allowed-calls.ensures empty_tree IsFile refl Stat ∙ fault in
    false≢true (sym not_allowed ∙ c.if-contains.true)
