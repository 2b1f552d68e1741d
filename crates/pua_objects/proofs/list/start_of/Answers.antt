use Rattle.pua_objects.proofs.Common.{rules, Bor, ℕ, List}
use Rattle.std.proofs.Common.{ltb}
use Rattle.std.proofs.lemmas.List.Sorted.{IsPartitionPoint-from_clause}
use Rattle.pua_objects.proofs.Ranges.{starts}
use Rattle.pua_objects.proofs.list.start_of.Goals as goal

pub returns : goal.returns
returns c =
    let here = starts c.args.dir c.partition_point.result c.args.spots.now c.partition_point.ensures.bound
    (λ parted. IsPartitionPoint-from_clause (λ (y : ℕ × Bor (List ℕ)). ltb y.0 c.args.dir) _ _ c.partition_point.ensures.partitioned parted
    (λ a r q k. search rules)) in
    record { passed = λ rises. (here rises).0; names = λ rises. (here rises).1 }
