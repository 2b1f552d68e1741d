use Rattle.pua_tree.proofs.Common.{◌≡◌, Some, None, sym, ap, ◌∙◌, err_from_is_err_and, hard_node_in, node_of, line_read}
use Rattle.pua_tree.proofs.Judged.{node_here, tied_node, no_node}
use Rattle.pua_tree.proofs.listing.Reading.node_of.Goals as goal

pub returns-in-Some-other_in : goal.returns-in-Some-other_in
returns-in-Some-other_in g c = λ es h.
    let line = line_read c.args.line.now in
    let node : hard_node_in es line ≡ Some c.in-Some-other_in.node =
    sym (node_here c.args.self.now.form (g.T.FileTree.content c.args.self.now.tree) c.args.self.now.greatest es line h) ∙
    sym c.in-Some-other_in.ensures in
    tied_node es c.args.n c.args.number c.in-Some-other_in.node line c.in-None.is node

pub returns-in-None-other_in : goal.returns-in-None-other_in
returns-in-None-other_in g c = λ es h _.
    let line = line_read c.args.line.now in
    let node : hard_node_in es line ≡ None =
    sym (node_here c.args.self.now.form (g.T.FileTree.content c.args.self.now.tree) c.args.self.now.greatest es line h) ∙
    sym c.in-None-other_in.ensures in
    no_node es c.args.n c.args.number line c.in-None.is node

pub returns-in_err-target-in-Some : goal.returns-in_err-target-in-Some
returns-in_err-target-in-Some g c = λ es h.
    let failed = err_from_is_err_and c.from_residual.result c.from_residual.ensures.1 in
    let line = line_read c.args.line.now in
    rw (failed.1, failed.2) (λ other. ap (node_of es c.args.n c.args.number line) c.in-Some.is ∙
    c.in_err-target-in-Some.ensures.err other es c.args.number)

pub returns-in_ok-target-in-Some : goal.returns-in_ok-target-in-Some
returns-in_ok-target-in-Some g c = λ es h.
    let line = line_read c.args.line.now in
    ap (node_of es c.args.n c.args.number line) c.in-Some.is ∙ rw (c.new.ensures, c.is_mounted-mount.ensures.mount) (c.in_ok-target-in-Some.ensures.ok es c.args.number)
