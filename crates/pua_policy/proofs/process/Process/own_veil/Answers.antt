use Rattle.pua_policy.proofs.Common.{◌≡◌, ◌∙◌, ap, subst, sym, Some, ghosts, veil_at}
use Rattle.std.specs.Prelude.{IfSome, slice_get}
use Rattle.pua_policy.proofs.SamePlace.{same_place-eq}
use Rattle.pua_policy.proofs.Veils.{lookup_key-same, veil_at-lookup}
use Rattle.pua_policy.proofs.process.Process.own_veil.Goals as goal

pub returns-in-Some-clause-perms : goal.returns-in-Some-clause-perms
returns-in-Some-clause-perms c =
    c.in-Some.ensures.value ∙ veil_at-lookup ghosts.eq same_place-eq c.args.place.now _
    ∙ ap (λ process. veil_at process.veils c.args.place.now) c.self.view_is

pub returns-in-None-clause-perms : goal.returns-in-None-clause-perms
returns-in-None-clause-perms c =
    c.in-None.ensures.value ∙ veil_at-lookup ghosts.eq same_place-eq c.args.place.now _
    ∙ ap (λ process. veil_at process.veils c.args.place.now) c.self.view_is

pub returns-in-Some-clause-index : goal.returns-in-Some-clause-index
returns-in-Some-clause-index c =
    let at = c.args.place.now in
    let here : c.in-Some.field-0-1.now ≡ at = subst (λ found. IfSome found (λ place. place ≡ at)) (sym c.in-Some.ensures.key)
    (lookup_key-same ghosts.eq same_place-eq at _) in
    ap (λ process. slice_get process.veils c.in-Some.index) (sym c.self.view_is) ∙ c.in-Some.ensures.entry ∙
    ap (λ place. Some (place, c.in-Some.perms.now)) here
