-- How many probes a part of a path may cost.
use Rattle.std.specs.Prelude.{ℕ, ◌+◌, ◌*◌, max, fold, length, List, Option, Some, None}
use Rattle.pua_tree.specs.Tree.{Tree}
use Rattle.pua_path.specs.Limits.{most_links}
use Rattle.pua_path.specs.Paths.{parts_of}
use Rattle.pua_path.specs.declared.text.Ending.TheVariants.{Dot}

-- the parts of a link's target
abbrev pub target_parts : Option (List ℕ) → ℕ
target_parts None = 0
target_parts (Some target) = length (parts_of Dot target)

-- the most parts in a target, at least 1
abbrev pub most_parts : Tree → ℕ
most_parts t = fold (λ most entry. max most (target_parts entry.1.target)) 1 t.nodes

-- at most 3 probes a part, and a part with the links that it may follow
abbrev pub part_cost : Tree → ℕ
part_cost t = 3 * (1 + most_links * most_parts t)
