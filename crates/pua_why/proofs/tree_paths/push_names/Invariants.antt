use Rattle.pua_why.proofs.Common.{◌≡◌, ◌++◌, map, string_bytes, take, slashed_names}
use Rattle.pua_why.proofs.tree_paths.push_names.Given as goal

abbrev pub invariant-loop-name : goal.invariant-loop-name
invariant-loop-name l = string_bytes l.text ≡ string_bytes l.fn.text ++ slashed_names (map (λ name. name.now) (take l.name-index l.names))
