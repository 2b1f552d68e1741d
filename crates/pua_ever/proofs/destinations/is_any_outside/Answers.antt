use Rattle.pua_ever.proofs.Common.{rules, tests, YieldsList-from_slice}
use Rattle.std.proofs.lemmas.Iterator.Search.{any_from_yields_List}
use Rattle.pua_ever.specs.Destinations.{is_outside}
use Rattle.pua_ever.proofs.destinations.is_any_outside.Goals as goal

pub returns-in_default : goal.returns-in_default
returns-in_default g c =
    any_from_yields_List (is_outside (g.T.FileTree.content c.args.tree.now) c.args.other) _ _ _ c.any.ensures.ran
    (YieldsList-from_slice c.args.opened.now.dirs.items cc) (λ x b q k. search (rules, tests))
