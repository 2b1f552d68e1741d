use Rattle.pua_tree.proofs.Common.{rules}
use Rattle.pua_tree.proofs.field.Fields.as_slice.Goals as goal

pub returns : goal.returns
returns c = search rules
