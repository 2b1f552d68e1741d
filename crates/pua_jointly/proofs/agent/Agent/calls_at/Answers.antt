use Rattle.pua_jointly.proofs.Common.{◌≡◌, ◌∙◌, ap, covered_verdict, empty_tree, has, is_allowed, List, Some, subst, sym}
use Rattle.std.specs.Prelude.{slice_get}
use Rattle.std.proofs.lemmas.Bool.{ltb-true}
use Rattle.std.proofs.lemmas.Option.{slice_get-get_or}
use Rattle.pua_jointly.specs.declared.doing.Allowed.{Allowed}
use Rattle.pua_jointly.proofs.agent.Agent.calls_at.Goals as goal

pub returns-in-Some : goal.returns-in-Some
returns-in-Some c = λ covers known judged same call.
    let allowed : Allowed = c.in-Some.allowed.now in
    let seen = c.in-Some.ensures.lookup in
    let here : slice_get c.args.self.now.calls.items c.args.bit ≡ Some allowed =
    subst (λ (xs : List Allowed). slice_get xs c.args.bit ≡ Some allowed) c.deref.ensures.value
    (slice_get-get_or c.deref.result.now c.args.bit allowed (ltb-true _ _ (sym seen.0)) ∙ ap Some (sym seen.1)) in
    ap (λ n. has n call) c.on.ensures ∙ known c.args.bit allowed here c.args.object judged same call

pub returns-in-None : goal.returns-in-None
returns-in-None c = λ covers known judged same call.
    c.allowed.ensures empty_tree judged same call
    ∙ ap (λ k. is_allowed (covered_verdict empty_tree c.args.table.now c.args.self.now.process.now call k judged)) covers
