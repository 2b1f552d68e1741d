use Rattle.pua_since.proofs.Common.{◌≡◌, take, forebear_by, made_by}
use Rattle.pua_since.proofs.watches.forebear.Given as goal

abbrev pub invariant-loop-fork : goal.invariant-loop-fork
invariant-loop-fork l = l.at ≡ forebear_by (made_by (take l.fork-index l.forks)) l.process
