use Rattle.pua_refused.proofs.Common.{◌≡◌, false, refl, sym, ◌∙◌, false≢true, empty_tree}
use Rattle.pua_tree.specs.declared.node.Kind.TheVariants.{Known}
use Rattle.pua_tree.specs.declared.node.FileType.TheVariants.{Fifo}
use Rattle.pua_policy.specs.Verdict.{Is, covered_verdict, is_allowed}
use Rattle.pua_policy.specs.declared.answer.Cover.TheVariants.{All}
use Rattle.pua_calls.specs.declared.call.Call.TheVariants.{Exec}
use Rattle.pua_refused.proofs.policy.allowed.fifo_started.Goals as goal

pub unreachable-requires : goal.unreachable-requires
unreachable-requires c =
    let fault : is_allowed (covered_verdict empty_tree c.standard.result c.in-Ok.process Exec All (Is (Known Fifo))) ≡ false =
    rw (c.standard.ensures, c.in-Ok.ensures.state) refl in
    let not_allowed = c.contains.ensures ∙ c.allowed-calls.ensures empty_tree (Is (Known Fifo)) refl Exec ∙ fault in
    false≢true (sym not_allowed ∙ c.if-contains.true)
