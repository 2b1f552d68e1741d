use Rattle.pua_ever.proofs.Common.{rules, tests, YieldsList-from_slice, can_move}
use Rattle.std.proofs.lemmas.Iterator.Search.{any_from_yields_List}
use Rattle.pua_ever.proofs.moving.moves_any.Goals as goal

pub returns : goal.returns
returns c =
    any_from_yields_List (can_move c.args.table.now c.args.process.now) _ _ _ c.any.ensures.ran
    (YieldsList-from_slice c.args.covers.now cc) (λ x b q k. search (rules, tests))
