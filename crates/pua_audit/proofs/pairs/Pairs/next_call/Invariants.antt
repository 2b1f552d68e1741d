use Rattle.pua_audit.proofs.Common.{◌≡◌, ◌<◌, ◌-◌, length, AllByRecursion}
use Rattle.pua_audit.specs.Coming.{AreReady}
use Rattle.pua_audit.proofs.pairs.Pairs.next_call.Given as goal

abbrev pub invariant-loop-self : goal.invariant-loop-self
invariant-loop-self l = record {
  terms : l.self.terms ≡ l.initial.self.terms;
  walk : l.self.walk ≡ l.initial.self.walk;
  live : l.self.live ≡ l.initial.self.live;
  ready : AreReady l.self;
  known : AllByRecursion (λ i. i < length l.self.terms.letters) l.self.walk.word.items;
}

abbrev pub decreases-loop-self : goal.decreases-loop-self
decreases-loop-self l = length l.self.walk.word.items - length l.self.path.starts.items
