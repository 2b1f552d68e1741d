use Rattle.pua_audit.proofs.Common.{◌≡◌, take, map, AllByRecursion, IsTrue, is_letter}
use Rattle.pua_audit.proofs.alphabet.named.Given as goal

abbrev pub invariant-loop-name : goal.invariant-loop-name
invariant-loop-name l = record {
  names : l.letters.items ≡ map (λ name. name.now) (take l.name-index l.names);
  known : AllByRecursion (λ letter. IsTrue (is_letter letter)) l.letters.items;
}
