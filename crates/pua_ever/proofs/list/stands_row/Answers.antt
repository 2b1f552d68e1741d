use Rattle.pua_ever.proofs.Common.{◌∙◌, ap, Stands}
use Rattle.std.specs.Prelude.{option_map}
use Rattle.pua_ever.specs.EverList.{subject_at}
use Rattle.pua_ever.proofs.RowsTell.{stands_on}
use Rattle.pua_ever.proofs.list.stands_row.Goals as goal

pub returns-clause-about : goal.returns-clause-about
returns-clause-about g c = λ t. ap (option_map Stands) ((λ i. subject_at t (c.name.ensures i) c.place_of.result) ∙ c.place_of.ensures t)

pub returns-clause-on : goal.returns-clause-on
returns-clause-on g c = λ t h told.
    stands_on t h c.args.item.now told _ ((λ i. subject_at t (c.name.ensures i) c.place_of.result) ∙ c.place_of.ensures t)
