use Rattle.pua_script.proofs.Reading.{path_plain}
use Rattle.pua_script.proofs.descriptor.read_chroot.Goals as goal

pub add-requires : goal.add-requires
add-requires c = path_plain c.args.path.now c.in_ok-path.path _ c.in_ok-path.ensures
