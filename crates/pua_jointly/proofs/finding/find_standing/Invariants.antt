use Rattle.pua_jointly.proofs.Common.{◌≡◌, length}
use Rattle.pua_jointly.specs.JointSetup.{AreStanding}
use Rattle.pua_jointly.proofs.finding.find_standing.Given as goal

-- the numbers so far are told
abbrev pub invariant-loop-number : goal.invariant-loop-number
invariant-loop-number g l = record {
  standing : AreStanding (g.T.FileTree.content l.tree) l.number l.standing.items;
  full : length l.standing.items ≡ l.number;
}
