use Rattle.pua_ever.proofs.Common.{◌≡◌, map}
use Rattle.std.proofs.Common.{drop}
use Rattle.pua_ever.specs.Together.{gather}
use Rattle.pua_ever.proofs.gathering.gather.Given as goal

-- with those that are still to come it has what it is to have in the end
abbrev pub invariant-loop-held : goal.invariant-loop-held
invariant-loop-held l =
    record l.one { files = gather l.one.files (map (λ held. (held.0.now, held.1.now)) (drop l.held-index l.files)) }
    ≡ record l.fn.one { files = gather l.fn.one.files (map (λ held. (held.0.now, held.1.now)) l.files) }
