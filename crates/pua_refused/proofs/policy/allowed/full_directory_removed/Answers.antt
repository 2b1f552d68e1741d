use Rattle.pua_refused.proofs.Common.{◌≡◌, false, refl, sym, ◌∙◌, false≢true, empty_tree}
use Rattle.pua_path.specs.declared.found.Way.TheVariants.{Top}
use Rattle.pua_policy.specs.Verdict.{IsDir, covered_verdict, is_allowed}
use Rattle.pua_policy.specs.declared.answer.Cover.TheVariants.{All}
use Rattle.pua_calls.specs.declared.call.Call.TheVariants.{Rmdir}
use Rattle.pua_refused.proofs.policy.allowed.full_directory_removed.Goals as goal

pub unreachable-requires : goal.unreachable-requires
unreachable-requires c =
    let fault : is_allowed (covered_verdict empty_tree c.standard.result c.in-Ok.process Rmdir All (IsDir 0 Top)) ≡ false =
    rw (c.standard.ensures, c.in-Ok.ensures.state) refl in
    let not_allowed = c.contains.ensures ∙ c.allowed-calls.ensures empty_tree (IsDir 0 Top) refl Rmdir ∙
    fault in
    false≢true (sym not_allowed ∙ c.if-contains.true)
