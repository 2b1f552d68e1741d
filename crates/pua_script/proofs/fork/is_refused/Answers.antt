use Rattle.pua_script.proofs.Common.{rules}
use Rattle.pua_script.proofs.fork.is_refused.Goals as goal

pub returns-else-contains_key : goal.returns-else-contains_key
returns-else-contains_key c = search rules
