use Rattle.pua_audit.proofs.Common.{◌≡◌, map, reverse, with_names}
use Rattle.pua_audit.proofs.alphabet.Alphabet.add_names.Given as goal

abbrev pub invariant-loop-name : goal.invariant-loop-name
invariant-loop-name l = l.self ≡ with_names (reverse (map (λ n. n.now) l.yielded)) l.fn.self
