use Rattle.pua_audit.proofs.Common.{◌≡◌, ◌<◌, ◌-◌, ltb, take, drop, length, List, rules, arith, sym, take_all, LetterSpot}
use Rattle.std.specs.List.{AllWithin}
use Rattle.std.proofs.lemmas.List.{length-drop}
use Rattle.std.proofs.lemmas.List.Sorted.{IsPartitionPoint-from_clause, IsPartitionedBy-ltb, IsNonDecreasingBy-drop}
use Rattle.std.proofs.lemmas.List.Sorted.{IsNonDecreasingBy-take}
use Rattle.pua_audit.proofs.Spotted.{unmarked_between}
use Rattle.pua_audit.proofs.table.spots.spots_in.Goals as goal

pub returns-clause-all : goal.returns-clause-all
returns-clause-all c = λ sorted letter apart.
    let spots : List LetterSpot = c.args.spots.now in
    let first = c.partition_point-first.result in
    let n = length spots - first in
    let rest : List LetterSpot = take n (drop first spots) in
    let past = c.run_in.result in
    let whole : rest ≡ drop first spots = take_all n (drop first spots) (omega (arith, length-drop first spots)) in
    let before = IsPartitionPoint-from_clause (λ (s : LetterSpot). ltb s.dir c.args.dir) spots first
    c.partition_point-first.ensures.partitioned (IsPartitionedBy-ltb (λ s. s.dir) spots c.args.dir sorted) (λ a r q k. search rules) in
    let rise = IsNonDecreasingBy-take (λ (s : LetterSpot). s.dir) n (drop first spots) (IsNonDecreasingBy-drop (λ (s : LetterSpot). s.dir)
    first spots sorted) in
    let after : AllWithin (λ (s : LetterSpot). c.args.dir < s.dir) rest past (length rest) =
    λ k d low high. omega (arith, c.run_in.ensures.past d (omega (arith, low, high)), rise past k d low high) in
    unmarked_between c.args.dir letter first past spots rest (sym whole) before.0 after apart
