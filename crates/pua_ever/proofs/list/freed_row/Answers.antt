use Rattle.pua_ever.proofs.Common.{refl, sym}
use Rattle.pua_ever.proofs.RowsTell.{own_last}
use Rattle.pua_ever.proofs.list.freed_row.Goals as goal

pub returns-clause-own : goal.returns-clause-own
returns-clause-own g c =
    let item = c.args.item.now.item in
    let own = c.in-Some.own in
    record {
      at = record { depth = refl; name = own_last item.subject item.object (own.0, own.1.now) (sym c.in-Some.ensures) };
      spot = (own.0, own.1.now);
      is = sym c.in-Some.ensures;
      thing = refl;
      name = refl;
      about = refl;
    }
