use Rattle.pua_script.proofs.Common.{subst}
use Rattle.std.proofs.Common.{IsPermutation}
use Rattle.std.proofs.lemmas.Iterator.{items_from_collect}
use Rattle.std.proofs.lemmas.Iterator.Consumers.{YieldsList-at, YieldsList-from_copied, YieldsList-from_rest}
use Rattle.std.proofs.lemmas.Result.{IfOk-at_ok}
use Rattle.std.specs.Map.{keys_of}
use Rattle.pua_script.proofs.Numbers.{numbers_are}
use Rattle.pua_script.proofs.world.sorted_keys.Goals as goal

pub returns : goal.returns
returns c =
    let keys = keys_of c.args.processes.now.entries in
    let kept = IfOk-at_ok _ c.in_ok-numbers.was
    (items_from_collect _ c.collect.ensures.ran
    (YieldsList-from_copied (YieldsList-at c.copied.ensures.source (YieldsList-from_rest keys c.keys.ensures.rest)))) in
    λ t rules. numbers_are (record { tree = t; table = rules; processes = c.args.processes.now.entries }) c.sort_unstable.new.self.items
    (record {
      moved = subst (λ from. IsPermutation from c.sort_unstable.new.self.items) kept c.sort_unstable.ensures.permutation;
      order = c.sort_unstable.ensures.sorted;
      distinct = c.keys.ensures.unique;
    })
