use Rattle.pua_tree.proofs.Common.{◌≡◌, Some, None, Ok, Err, sym, ◌∙◌, err_from_is_err_and, listing_line, number_in, parent_in, name_of}
use Rattle.pua_tree.proofs.Common.{line_read}
use Rattle.pua_tree.proofs.Judged.{number_here, parent_here, bad_parent, bad_name, bad_node, whole_entry}
use Rattle.pua_tree.proofs.listing.Reading.entry.Goals as goal

pub returns-in_default-dir_in : goal.returns-in_default-dir_in
returns-in_default-dir_in g c = λ es h _.
    let line = line_read c.in-Some.line in
    let read : listing_line c.args.self.now.form c.args.text.now ≡ Some line =
    sym c.in-Some.ensures in
    let number : number_in es line ≡ Some c.in-Some-number_after.number =
    sym (number_here c.args.self.now.form (g.T.FileTree.content c.args.self.now.tree) c.args.self.now.greatest es line h) ∙
    sym c.in-Some-number_after.ensures in
    let parent : parent_in es line ≡ None =
    sym (parent_here c.args.self.now.form (g.T.FileTree.content c.args.self.now.tree) c.args.self.now.greatest es line h) ∙
    sym (c.in_default-dir_in.ensures) in
    bad_parent c.args.self.now.form es c.args.n c.args.text.now line c.in-Some-number_after.number read number parent

pub returns-in_default-read : goal.returns-in_default-read
returns-in_default-read g c = λ es h _.
    let line = line_read c.in-Some.line in
    let read : listing_line c.args.self.now.form c.args.text.now ≡ Some line =
    sym c.in-Some.ensures in
    let number : number_in es line ≡ Some c.in-Some-number_after.number =
    sym (number_here c.args.self.now.form (g.T.FileTree.content c.args.self.now.tree) c.args.self.now.greatest es line h) ∙
    sym c.in-Some-number_after.ensures in
    let parent : parent_in es line ≡ Some c.in-Some-dir_in.parent =
    sym (parent_here c.args.self.now.form (g.T.FileTree.content c.args.self.now.tree) c.args.self.now.greatest es line h) ∙
    sym (c.in-Some-dir_in.ensures) in
    let name : name_of line.name ≡ Err c.in_default-read.field-0 = c.in_default-read.ensures in
    bad_name c.args.self.now.form es c.args.n c.args.text.now line c.in-Some-number_after.number c.in-Some-dir_in.parent
    c.in_default-read.field-0 read number parent name

pub returns-in_err-node : goal.returns-in_err-node
returns-in_err-node g c = λ es h.
    let line = line_read c.in-Some.line in
    let read : listing_line c.args.self.now.form c.args.text.now ≡ Some line =
    sym c.in-Some.ensures in
    let number : number_in es line ≡ Some c.in-Some-number_after.number =
    sym (number_here c.args.self.now.form (g.T.FileTree.content c.args.self.now.tree) c.args.self.now.greatest es line h) ∙
    sym c.in-Some-number_after.ensures in
    let parent : parent_in es line ≡ Some c.in-Some-dir_in.parent =
    sym (parent_here c.args.self.now.form (g.T.FileTree.content c.args.self.now.tree) c.args.self.now.greatest es line h) ∙
    sym (c.in-Some-dir_in.ensures) in
    let name : name_of line.name ≡ Ok c.in-Ok.name.bytes.now = c.in-Ok.ensures in
    let failed = err_from_is_err_and c.from_residual.result c.from_residual.ensures.1 in
    rw (failed.1, failed.2) (λ other. bad_node c.args.self.now.form es c.args.n c.args.text.now line c.in-Some-number_after.number
    c.in-Some-dir_in.parent c.in-Ok.name.bytes.now _ read number parent name (c.in_err-node.ensures es h other))

pub returns : goal.returns
returns g c = λ es h.
    let line = line_read c.in-Some.line in
    let read : listing_line c.args.self.now.form c.args.text.now ≡ Some line =
    sym c.in-Some.ensures in
    let number : number_in es line ≡ Some c.in-Some-number_after.number =
    sym (number_here c.args.self.now.form (g.T.FileTree.content c.args.self.now.tree) c.args.self.now.greatest es line h) ∙
    sym c.in-Some-number_after.ensures in
    let parent : parent_in es line ≡ Some c.in-Some-dir_in.parent =
    sym (parent_here c.args.self.now.form (g.T.FileTree.content c.args.self.now.tree) c.args.self.now.greatest es line h) ∙
    sym (c.in-Some-dir_in.ensures) in
    let name : name_of line.name ≡ Ok c.in-Ok.name.bytes.now = c.in-Ok.ensures in
    whole_entry c.args.self.now.form es c.args.n c.args.text.now line c.in-Some-number_after.number c.in-Some-dir_in.parent c.in-Ok.name.bytes.now
    c.in_ok-node.node _ read number parent name (c.in_ok-node.ensures es h)
