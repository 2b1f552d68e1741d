-- One request confines, where what it leaves is a tree.
use Rattle.pua_script.proofs.Common.{ap, ◌∙◌, Tree, ProcessState, apply, UncoveredStay, has_c}
use Rattle.pua_script.specs.Confinement.{EachRequestSpares}
use Rattle.pua_script.proofs.Covering.{covers_stay}
use Rattle.pua_script.proofs.Spared.{requests_spare}

pub each_spares : EachRequestSpares
each_spares table needs w ask h well well_then here =
    covers_stay w.tree (apply table w ask).1.tree well well_then h (requests_spare table needs w ask h well here)

-- two steps that spare what a state doesn't cover spare it together
pub spared_twice : (h : ProcessState) (t u v : Tree) → UncoveredStay h t u → UncoveredStay h u v → UncoveredStay h t v
spared_twice h t u v first second s x here lacks =
    let a = first s x here lacks in
    let b = second s x a.row (ap has_c a.covered ∙ lacks) in
    record { row = b.row; node = b.node ∙ a.node; covered = b.covered ∙ a.covered }
