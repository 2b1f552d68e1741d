use Rattle.pua_ever.proofs.Common.{[], ◌∙◌, rules, tests, YieldsList-from_slice}
use Rattle.std.proofs.lemmas.Iterator.Search.{any_from_yields_List}
use Rattle.pua_ever.proofs.RowsLast.{exec_told, starts}
use Rattle.pua_ever.proofs.lasting_list.some_exec.Goals as goal

pub returns : goal.returns
returns c = λ t lines told.
    any_from_yields_List starts _ _ _ c.any.ensures.ran (YieldsList-from_slice c.args.rows.now cc) (λ x b q k. search (rules, tests))
    ∙ exec_told t [] c.args.rows.now lines told
