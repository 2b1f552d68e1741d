use Rattle.pua_tree.proofs.DevicesKeep as keep
use Rattle.pua_tree.proofs.laws.edits_keep_devices.Goals as goal

pub returns : goal.returns
returns c = keep.edits_keep_devices
