use Rattle.pua_script.proofs.DevicesKeep.{requests_keep_devices}
use Rattle.pua_script.proofs.futures.devices_law.Goals as goal

pub returns : goal.returns
returns c = requests_keep_devices
