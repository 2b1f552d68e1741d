use Rattle.pua_tree.proofs.Common.{ap, sym, ◌∙◌, take, arith, ◌≤◌, length}
use Rattle.pua_tree.specs.Names.{front}
use Rattle.pua_tree.proofs.Fronts.{front-eight, front-padded}
use Rattle.pua_tree.proofs.name.Name.front.Goals as goal

pub returns-clause-number : goal.returns-clause-number
returns-clause-number c =
    let long : 8 ≤ length c.self.inside.bytes = omega arith in
    c.from_be_bytes.ensures ∙ front-eight c.self.inside.bytes long ∙ ap (front 8 0) (sym c.self.invariant.0)
    ∙ front-padded (take c.self.inside.len c.self.inside.bytes) ∙ ap (front 8 0) c.self.view_is
