use Rattle.pua_tool.proofs.EverColumns.{has_some_is}
use Rattle.pua_tool.proofs.ever_columns.has_some.Goals as goal

pub returns : goal.returns
returns c =
    has_some_is c.args.others c.args.calls c.intersection.result c.intersection.ensures c.is_empty.result c.is_empty.ensures.0
    c.is_empty.ensures.1
