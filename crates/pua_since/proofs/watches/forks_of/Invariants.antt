use Rattle.pua_since.proofs.Common.{◌≡◌, ◌++◌, map, drop, length, fork_seen, forks_done}
use Rattle.pua_since.proofs.watches.forks_of.Given as goal

abbrev pub invariant-loop-request : goal.invariant-loop-request
invariant-loop-request l =
    map fork_seen l.forks.items ++ forks_done (drop (length l.yielded) l.requests) (drop (length l.yielded) l.answers)
    ≡ forks_done l.requests l.answers
