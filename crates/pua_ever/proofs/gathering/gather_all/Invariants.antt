use Rattle.pua_ever.proofs.Common.{◌≡◌, map}
use Rattle.std.proofs.Common.{drop}
use Rattle.pua_ever.specs.Together.{gather_all}
use Rattle.pua_ever.proofs.gathering.gather_all.Given as goal

-- with what those have that are still to come it has what it is to have in the end
abbrev pub invariant-loop-process : goal.invariant-loop-process
invariant-loop-process l =
    record l.one { files = gather_all l.one.files (map (λ process. process.now) (drop l.process-index l.more)) }
    ≡ record l.fn.one { files = gather_all l.fn.one.files (map (λ process. process.now) l.more) }
