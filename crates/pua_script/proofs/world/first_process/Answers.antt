use Rattle.pua_script.proofs.Common.{ap, ◌∙◌, ◌∷◌, []}
use Rattle.pua_script.proofs.world.first_process.Goals as goal

pub returns : goal.returns
returns c = (rw c.new-processes.ensures.empty at c.in_ok-insert.ensures.entries) ∙ ap (λ p. (1, p) ∷ []) c.in_ok-process.ensures.state
