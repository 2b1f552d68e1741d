use Rattle.pua_refused.proofs.Common.{◌∙◌, ◌≡◌, refl, sym, false≢true, empty_tree}
use Rattle.std.proofs.Common.{true}
use Rattle.pua_calls.specs.declared.call.Call.TheVariants.{Stat}
use Rattle.pua_policy.specs.Verdict.{IsFile, covered_verdict, is_allowed}
use Rattle.pua_policy.specs.declared.answer.Cover.TheVariants.{All}
use Rattle.pua_refused.proofs.policy.allowed.allowed_calls_forgotten.Goals as goal

pub unreachable-requires : goal.unreachable-requires
unreachable-requires c =
    let held : is_allowed (covered_verdict empty_tree c.standard.result c.in-Ok.process Stat All IsFile) ≡ true =
    rw (c.standard.ensures, c.in-Ok.ensures.state) refl in
    let is_there = c.contains.ensures ∙ c.allowed-calls.ensures empty_tree IsFile refl Stat ∙ held in
    false≢true (sym c.if-not-contains.true ∙ is_there)
