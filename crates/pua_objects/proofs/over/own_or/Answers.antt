use Rattle.pua_objects.proofs.Common.{refl, rules, sym}
use Rattle.pua_objects.proofs.HandedDown.{own_over, same_over}
use Rattle.pua_objects.proofs.over.own_or.Goals as goal

pub returns-in-Some-clause-handed : goal.returns-in-Some-clause-handed
returns-in-Some-clause-handed c =
    own_over c.args.process.now c.args.place.now c.args.over.now _ c.in-Some.index c.in-Some.perms (sym c.in-Some.ensures.perms)
    c.in-Some.ensures.index refl (search rules)

pub returns-in-None-clause-handed : goal.returns-in-None-clause-handed
returns-in-None-clause-handed c = same_over c.args.process.now c.args.place.now c.args.over.now (sym c.in-None.ensures.perms)
