use Rattle.pua_jointly.proofs.Common.{map, take}
use Rattle.pua_jointly.specs.JointMembers.{veil_now}
use Rattle.pua_jointly.specs.JointSetting.{AreMarksOf}
use Rattle.pua_jointly.proofs.setup.find_marks.Given as goal

abbrev pub invariant-loop-veil : goal.invariant-loop-veil
invariant-loop-veil g l = record {
  marks : AreMarksOf (g.T.FileTree.content l.tree) l.entries.all.items (map veil_now (take l.veil-index l.veils)) l.marks.items;
}
