use Rattle.pua_jointly.proofs.Common.{refl, subst, sym, List}
use Rattle.std.specs.List.{Contains}
use Rattle.pua_jointly.specs.JointSetting.{AreInOrder}
use Rattle.pua_jointly.specs.declared.crew.Entry.{Entry}
use Rattle.pua_jointly.proofs.setup.row_of.Goals as goal

pub returns-in-None : goal.returns-in-None
returns-in-None c = λ entry among.
    c.in-None.ensures (subst AreInOrder (sym c.deref.ensures.value) c.args.entries.now.in_order) entry
    (subst (λ (es : List Entry). Contains es entry) (sym c.deref.ensures.value) among)

pub returns-in-Some : goal.returns-in-Some
returns-in-Some c =
    let entry : Entry = c.in-Some.entry.now in
    let found = c.in-Some.ensures (subst AreInOrder (sym c.deref.ensures.value) c.args.entries.now.in_order) in
    (entry, subst (λ (es : List Entry). Contains es entry) c.deref.ensures.value found.0, found.1, refl)
