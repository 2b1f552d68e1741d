use Rattle.pua_tool.proofs.Common.{◌≡◌, ◌∙◌, ap, refl, List}
use Rattle.pua_script.specs.Worlds.{WorldState, run_to}
use Rattle.pua_script.specs.declared.answer.Answer.{Answer}
use Rattle.pua_tool.proofs.two_worlds.serve.Goals as goal

pub returns : goal.returns
returns c = (
  refl,
  λ same.
      let served : ◌≡◌ {A = List Answer × WorldState} _ _ = c.in-Ok.ensures.served ∙ ap (λ (s : WorldState). run_to s c.args.requests) same in
      record { answers = ap (λ (ran : List Answer × WorldState). ran.0) served; after = ap (λ (ran : List Answer × WorldState). ran.1) served },
)
