use Rattle.pua_jointly.proofs.Common.{◌∙◌, sym}
use Rattle.pua_tree.proofs.ForCallers.{exact_spots}
use Rattle.pua_jointly.specs.JointSetting.{entry_of}
use Rattle.pua_jointly.proofs.crew.Entry.is_at.Goals as goal

pub returns-in-Equal : goal.returns-in-Equal
returns-in-Equal c = λ _. exact_spots (entry_of c.args.self.now) (c.args.dir, c.args.name.now) (sym c.cmp_spot.ensures ∙ c.in-Equal.is)
