use Rattle.pua_jointly.proofs.Common.{List, subst, sym}
use Rattle.pua_jointly.specs.JointSetting.{AreInOrder, IsEntryIn, IsEntryOf}
use Rattle.pua_jointly.specs.declared.crew.Entry.{Entry}
use Rattle.pua_jointly.proofs.facts.Facts.entry_of.Goals as goal

pub returns-in-Name : goal.returns-in-Name
returns-in-Name c = λ order.
    let entries : List Entry = c.args.self.now.crew.entries.items in
    subst (λ s. IsEntryOf entries s c.entry_after.result) (sym c.in-Name.is)
    (subst (λ (es : List Entry). AreInOrder es → IsEntryIn es (c.in-Name.dir, c.in-Name.name.now) c.entry_after.result) c.deref.ensures.value
    c.entry_after.ensures order)
