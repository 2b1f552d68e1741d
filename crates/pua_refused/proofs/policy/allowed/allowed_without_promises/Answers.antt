use Rattle.pua_refused.proofs.Common.{◌≡◌, false, refl, sym, ◌∙◌, false≢true, empty_tree}
use Rattle.pua_policy.specs.Verdict.{IsFile, covered_verdict, is_allowed}
use Rattle.pua_policy.specs.declared.answer.Cover.TheVariants.{All}
use Rattle.pua_calls.specs.declared.call.Call.TheVariants.{Stat}
use Rattle.pua_refused.proofs.policy.allowed.allowed_without_promises.Goals as goal

pub unreachable-requires : goal.unreachable-requires
unreachable-requires c =
    let fault : is_allowed (covered_verdict empty_tree c.standard.result c.end.new.self Stat All IsFile) ≡ false = rw c.end.ensures.state refl in
    false≢true (sym (c.contains.ensures ∙ c.allowed-calls.ensures empty_tree IsFile refl Stat ∙ fault) ∙ c.if-contains.true)
