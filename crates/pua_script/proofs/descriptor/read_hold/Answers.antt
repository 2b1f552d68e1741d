use Rattle.pua_script.proofs.Common.{and_from, ◌&&◌}
use Rattle.pua_script.specs.Requests.{has_no_nul, is_descriptor, is_open}
use Rattle.pua_script.proofs.Reading.{path_plain}
use Rattle.pua_script.proofs.descriptor.read_hold.Goals as goal

pub add-requires : goal.add-requires
add-requires c =
    let path = c.in_ok-path-in-Some-Some.path in
    and_from (is_descriptor c.in-Some-Some.number) (is_open c.in-Some-Some.call && has_no_nul path) c.in-Some-Some.ensures.bounded
    (and_from (is_open c.in-Some-Some.call) (has_no_nul path) c.in-Some-Some.ensures'.opens
    (path_plain c.args.path.now path _ c.in_ok-path-in-Some-Some.ensures))
