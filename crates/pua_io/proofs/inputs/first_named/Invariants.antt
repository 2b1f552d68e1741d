use Rattle.pua_io.proofs.Common.{◌≡◌}
use Rattle.std.proofs.Common.{drop, map}
use Rattle.pua_io.specs.Named.{kept_under}
use Rattle.pua_io.proofs.inputs.first_named.Given as goal

-- no name before this one was the one that is wanted
abbrev pub invariant-loop-known : goal.invariant-loop-known
invariant-loop-known l =
    kept_under l.name (map (λ entry. (entry.0.now, entry.1.now)) l.entries)
    ≡ kept_under l.name (map (λ entry. (entry.0.now, entry.1.now)) (drop l.known-index l.entries))
