use Rattle.pua_texts.proofs.Common.{map, ◌-◌, length, IsKept}
use Rattle.pua_texts.proofs.kept_path.KeptPath.extend.Given as goal

abbrev pub invariant-loop-self : goal.invariant-loop-self
invariant-loop-self l = record {
  kept : IsKept (map (λ name. name.now) l.word) l.fn.self → IsKept (map (λ name. name.now) l.word) l.self;
}

abbrev pub decreases-loop-self : goal.decreases-loop-self
decreases-loop-self l = length l.word - length l.self.starts
