use Rattle.pua_audit.proofs.Common.{◌<◌, ℕ, length, get_or, AllByRecursion, IsApart, IsNamed, []}
use Rattle.pua_audit.proofs.terms.Terms.dots.Given as goal

abbrev pub invariant-loop-place : goal.invariant-loop-place
invariant-loop-place l = record {
  within : AllByRecursion (λ letter. letter < length l.self.letters) l.dots.items;
  others : (letter : ℕ) → letter < l.place → IsApart letter l.dots.items → IsNamed (get_or l.self.letters letter []);
}
