use Rattle.pua_refused.proofs.Common.{◌≡◌, false, refl, sym, ◌∙◌, false≢true, empty_tree}
use Rattle.pua_tree.specs.declared.node.Kind.TheVariants.{Known}
use Rattle.pua_tree.specs.declared.node.FileType.TheVariants.{Plain}
use Rattle.pua_policy.specs.Verdict.{Is, covered_verdict, is_allowed}
use Rattle.pua_policy.specs.declared.answer.Cover.TheVariants.{All}
use Rattle.pua_calls.specs.declared.call.Call.TheVariants.{Connect}
use Rattle.pua_refused.proofs.policy.allowed.connected_to_plain_file.Goals as goal

pub unreachable-requires : goal.unreachable-requires
unreachable-requires c =
    let fault : is_allowed (covered_verdict empty_tree c.openbsd.result c.in-Ok.process Connect All (Is (Known Plain))) ≡ false =
    rw (c.openbsd.ensures, c.in-Ok.ensures.state) refl in
    let not_allowed = c.contains.ensures ∙ c.allowed-calls.ensures empty_tree (Is (Known Plain)) refl Connect ∙ fault in
    false≢true (sym not_allowed ∙ c.if-contains.true)
