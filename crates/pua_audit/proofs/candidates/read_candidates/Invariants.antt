use Rattle.pua_audit.proofs.Common.{◌≡◌, suc, drop, map, candidates_from}
use Rattle.pua_audit.proofs.Reading.{with_read}
use Rattle.pua_audit.proofs.candidates.read_candidates.Given as goal

-- the names so far stand in front of those that are still to be read
abbrev pub invariant-loop-place : goal.invariant-loop-place
invariant-loop-place l =
    candidates_from 1 (map (λ s. s.now) l.spellings) ≡ with_read l.names.items
    (candidates_from (suc l.place) (map (λ s. s.now) (drop l.place l.spellings)))
