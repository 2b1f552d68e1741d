use Rattle.pua_jointly.proofs.Common.{List, subst}
use Rattle.pua_jointly.specs.JointSetting.{AreInOrder, IsEntryIn}
use Rattle.pua_jointly.specs.declared.crew.Entry.{Entry}
use Rattle.pua_jointly.proofs.facts.Facts.entry.Goals as goal

pub returns : goal.returns
returns c =
    subst (λ (es : List Entry). AreInOrder es → IsEntryIn es (c.args.dir, c.args.name.now) c.entry_at.result) c.deref.ensures.value c.entry_at.ensures
