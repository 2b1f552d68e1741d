use Rattle.pua_policy.proofs.Common.{◌≡◌, ◌∙◌, ap, sym, rules}
use Rattle.std.proofs.Common.{◌<◌, length}
use Rattle.std.proofs.lemmas.Grind.{get_or_default_zero}
use Rattle.std.specs.Prelude.{◌&&◌}
use Rattle.pua_calls.specs.CallSets.{has}
use Rattle.pua_policy.specs.AllowedCalls.{place_of_object}
use Rattle.pua_policy.specs.Verdict.{covered_verdict, is_allowed}
use Rattle.pua_policy.proofs.Letters.{within_letters}
use Rattle.pua_policy.proofs.allowed_calls.AllowedCalls.on.Goals as goal

pub returns-in-Only : goal.returns-in-Only
returns-in-Only c = λ process table t judged worked seen call.
    let low : c.in-Only.perms < 16 = search rules in
    let sets = c.args.self.now in
    let at_place = get_or_default_zero sets.in_view c.place.result c.index-self-place.result (search rules) in
    let at_perms = get_or_default_zero sets.within c.bits.result c.index-self-bits.result (search rules) in
    c.intersection.ensures call
    ∙ (λ i. has (at_place i) call && has (at_perms i) call)
    ∙ rw (c.place.ensures.place, c.bits.ensures)
    (λ i. worked.everything t c.args.object judged seen call i && worked.permitted c.in-Only.perms low call i)
    ∙ within_letters t table process call c.in-Only.perms judged
    ∙ ap (λ cover. is_allowed (covered_verdict t table process call cover judged)) (sym c.in-Only.is)
