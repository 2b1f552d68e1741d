use Rattle.pua_refused.proofs.Common.{◌∙◌, ◌≡◌, false, refl, sym, false≢true, empty_tree}
use Rattle.pua_calls.specs.declared.call.Call.TheVariants.{OpenRead}
use Rattle.pua_policy.specs.Verdict.{IsSock, covered_verdict, is_allowed}
use Rattle.pua_policy.specs.declared.answer.Cover.TheVariants.{All}
use Rattle.pua_refused.proofs.policy.allowed.socket_opened.Goals as goal

pub unreachable-requires : goal.unreachable-requires
unreachable-requires c =
    let fault : is_allowed (covered_verdict empty_tree c.standard.result c.in-Ok.process OpenRead All IsSock) ≡ false =
    rw (c.standard.ensures, c.in-Ok.ensures.state) refl in
    let not_allowed = c.contains.ensures ∙ c.on.ensures _ _ empty_tree IsSock c.new-allowed.ensures refl OpenRead ∙ fault in
    false≢true (sym not_allowed ∙ c.if-contains.true)
