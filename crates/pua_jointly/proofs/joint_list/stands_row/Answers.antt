use Rattle.pua_jointly.proofs.Common.{◌∙◌, ap, Stands, subject_given}
use Rattle.std.specs.Prelude.{option_map}
use Rattle.pua_ever.specs.EverList.{subject_at}
use Rattle.pua_ever.proofs.ForCallers.{stands_on}
use Rattle.pua_jointly.proofs.joint_list.stands_row.Goals as goal

pub returns-clause-about : goal.returns-clause-about
returns-clause-about c = λ t. ap (option_map Stands) ((λ i. subject_at t (c.name.ensures i) c.place_of.result) ∙ c.place_of.ensures t)

pub returns-clause-on : goal.returns-clause-on
returns-clause-on c = λ t h told.
    stands_on t h c.args.item.now told _ ((λ i. subject_at t (c.name.ensures i) c.place_of.result) ∙ c.place_of.ensures t)

pub returns-clause-kind : goal.returns-clause-kind
returns-clause-kind c = λ t h told. c.kind_of.ensures t h (subject_given t c.args.item.now.item.subject) told.tells

pub returns-clause-calls : goal.returns-clause-calls
returns-clause-calls c = λ t crew a given is told there.
    c.all_calls_on.ensures t crew a given (subject_given t c.args.item.now.item.subject) is told.fits told.tells there
