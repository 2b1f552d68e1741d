use Rattle.pua_tree.proofs.Common.{◌≡◌, Some, sym, rules, bytes_spelled, is_target, Link, line_read}
use Rattle.std.proofs.Common.{IsTrue}
use Rattle.pua_tree.proofs.Judged.{link_target}
use Rattle.pua_tree.proofs.listing.target_of.Goals as goal

pub returns-in-Some-clause-ok : goal.returns-in-Some-clause-ok
returns-in-Some-clause-ok c = λ es number.
    let line = line_read c.args.line.now in
    let target = c.in-Some.target.items in
    let spelled : bytes_spelled line.last ≡ Some target = sym (rw c.in-Some.is at c.in_ok-target.ensures) in
    let tested : IsTrue (is_target target) = cc in
    let is_link : c.args.kind ≡ Link = search rules in
    link_target es c.args.n number line c.args.kind target is_link spelled tested
