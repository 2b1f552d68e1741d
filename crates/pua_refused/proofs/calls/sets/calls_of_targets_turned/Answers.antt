use Rattle.pua_refused.proofs.Common.{◌≡◌, false, sym, ◌∙◌, false≢true}
use Rattle.std.proofs.Math.Bool.{and-false}
use Rattle.pua_calls.specs.declared.call.Call.TheVariants.{Unlink}
use Rattle.pua_refused.proofs.calls.sets.calls_of_targets_turned.Goals as goal

pub unreachable-requires : goal.unreachable-requires
unreachable-requires c =
    let not_there : c.contains.result ≡ false = c.contains.ensures ∙ c.following.ensures Unlink ∙ and-false _ in
    false≢true (sym not_there ∙ c.if-contains.true)
