use Rattle.pua_jointly.proofs.Common.{◌≡◌, ◌≤◌, length, map}
use Rattle.pua_jointly.specs.JointMembers.{veil_now}
use Rattle.pua_jointly.specs.JointSetting.{AreColumns, AreWatched}
use Rattle.pua_jointly.proofs.watching.find_watches.Given as goal

abbrev pub invariant-loop-number : goal.invariant-loop-number
invariant-loop-number g l = record {
  watched : AreWatched (g.T.FileTree.content l.tree) (length l.members) l.number (map veil_now l.veils) l.watches.items;
  few : length l.watches.items ≤ l.number;
  columns : AreColumns l.watches.items l.columns.items;
  all : length l.columns.items ≡ l.number;
}
