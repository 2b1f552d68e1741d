use Rattle.pua_script.proofs.Possible.{decisions_are_possible}
use Rattle.pua_script.proofs.Room.{changes_lack}
use Rattle.pua_script.proofs.Guarding.{refusals_lack_no_room}
use Rattle.pua_script.proofs.RequestRoom.{requests_lack}
use Rattle.pua_script.proofs.laws.room_law.Goals as goal

pub returns : goal.returns
returns c = record { possible = decisions_are_possible; changes = changes_lack; refusals = refusals_lack_no_room; requests = requests_lack }
