use Rattle.pua_tree.proofs.Common.{ℕ, ◌++◌, List, length, drop, replicate, ap, ◌∙◌}
use Rattle.std.proofs.lemmas.List.{drop-replicate}
use Rattle.pua_tree.proofs.name.pad.Goals as goal

pub returns : goal.returns
returns c =
    let bytes : List ℕ = c.args.name.bytes.now in
    let zeros : List ℕ = replicate 255 0 in
    ap (λ xs. xs ++ drop (length bytes) zeros) c.copy_from_slice.ensures.after ∙
    ap (λ ys. bytes ++ ys) (drop-replicate (length bytes) 255 0)
