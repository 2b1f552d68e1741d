use Rattle.pua_audit.proofs.Common.{◌≡◌, ◌≤◌, drop, length, longest}
use Rattle.std.proofs.Common.{fold, max}
use Rattle.pua_tree.specs.Limits.{most_name}
use Rattle.pua_audit.proofs.alphabet.longest.Given as goal

abbrev pub invariant-loop-letter : goal.invariant-loop-letter
invariant-loop-letter l = record {
  most : longest l.letters ≡ fold (λ most letter. max most (length letter)) l.most
      (drop l.letter-index l.letters);
  short : l.most ≤ most_name;
}
