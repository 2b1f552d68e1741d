use Rattle.pua_jointly.proofs.Common.{◌≡◌, ◌<◌, ℕ, false, length, list_any, take}
use Rattle.std.specs.Prelude.{get_or}
use Rattle.pua_jointly.specs.JointFacts.{watches_by}
use Rattle.pua_jointly.specs.JointMembers.{veil_now}
use Rattle.pua_jointly.proofs.watching.find_watched.Given as goal

abbrev pub invariant-loop-veil : goal.invariant-loop-veil
invariant-loop-veil g l = record {
  full : length l.watched.items ≡ l.count;
  marked : (dir : ℕ) → dir < l.count → get_or l.watched.items dir false
      ≡ list_any (λ veil. watches_by (g.T.FileTree.content l.tree) dir (veil_now veil)) (take l.veil-index l.veils);
}
