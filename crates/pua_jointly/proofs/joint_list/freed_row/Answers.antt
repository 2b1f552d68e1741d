use Rattle.pua_jointly.proofs.Common.{refl, subject_given, sym}
use Rattle.pua_ever.proofs.ForCallers.{own_last}
use Rattle.pua_jointly.proofs.joint_list.freed_row.Goals as goal

pub returns-clause-own : goal.returns-clause-own
returns-clause-own c =
    let item = c.args.item.now.item in
    let own = c.in-Some.own in
    record {
      at = record { depth = refl; name = own_last item.subject item.object (own.0, own.1.now) (sym c.in-Some.ensures) };
      spot = (own.0, own.1.now);
      is = sym c.in-Some.ensures;
      thing = refl;
      name = refl;
      about = refl;
    }

pub returns-clause-calls : goal.returns-clause-calls
returns-clause-calls c = λ t crew a given is told.
    c.all_calls_on_freed.ensures t crew a given (subject_given t c.args.item.now.item.subject) is told.fits told.tells
