use Rattle.pua_jointly.proofs.Common.{◌≡◌, map, take}
use Rattle.pua_jointly.specs.JointMembers.{Each}
use Rattle.pua_jointly.specs.JointSetting.{IsEntryAt, entry_of}
use Rattle.pua_jointly.proofs.entries.find_entries.Given as goal

abbrev pub invariant-loop-place : goal.invariant-loop-place
invariant-loop-place g l = record {
  rows : map entry_of l.all.items ≡ map (λ row. (row.dir, row.name.now)) (take l.place l.rows.rows.now);
  each : Each (IsEntryAt (g.T.FileTree.content l.rows.tree.now) l.rows.first) l.all.items;
}
