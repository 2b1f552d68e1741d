use Rattle.pua_tree.proofs.Common.{◌≡◌, ◌≤◌, suc, [], length, map, take, fields}
use Rattle.std.specs.Option.{option_map_or}
use Rattle.pua_tree.proofs.Filling.{filled}
use Rattle.pua_tree.proofs.field.Fields.read.Given as goal

-- the fields that are still to be read go on from those that are kept
abbrev pub invariant-loop-rest : goal.invariant-loop-rest
invariant-loop-rest l = record {
  same : filled [] (fields l.fn.line) ≡ filled (map (λ field. field.now) (take l.count l.fields))
      (option_map_or (λ text. fields text.now) l.rest []);
  few : l.count ≤ 6;
  room : length l.fields ≡ 6;
}

abbrev pub decreases-loop-rest : goal.decreases-loop-rest
decreases-loop-rest l = option_map_or (λ text. suc (length text.now)) l.rest 0
