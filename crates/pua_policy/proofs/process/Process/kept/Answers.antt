use Rattle.pua_policy.proofs.Common.{◌∙◌, ap, sym, veil_at, ghosts}
use Rattle.pua_policy.proofs.SamePlace.{same_place-eq}
use Rattle.pua_policy.proofs.StatesLeft.{kept_by}
use Rattle.pua_policy.proofs.Veils.{veil_at-lookup}
use Rattle.pua_policy.proofs.process.Process.kept.Goals as goal

pub returns-clause-state : goal.returns-clause-state
returns-clause-state c =
    c.copied.ensures ∙ c.get.ensures.value ∙ veil_at-lookup ghosts.eq same_place-eq c.args.place.now _
    ∙ ap (λ process. veil_at process.veils c.args.place.now) c.self.view_is

pub returns-clause-history : goal.returns-clause-history
returns-clause-history c = λ h stands. returns-clause-state c ∙ sym (kept_by c.args.self.now h stands c.args.place.now)
