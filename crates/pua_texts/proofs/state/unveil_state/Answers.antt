use Rattle.pua_texts.proofs.Common.{rules}
use Rattle.pua_texts.proofs.state.unveil_state.Goals as goal

pub returns-then-locked : goal.returns-then-locked
returns-then-locked c = search rules
