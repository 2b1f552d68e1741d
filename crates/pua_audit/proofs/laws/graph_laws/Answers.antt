use Rattle.pua_audit.proofs.Fresh.{entries_stand}
use Rattle.pua_audit.proofs.Leading.{masks_list}
use Rattle.pua_audit.proofs.LiveStates.{live_states_count}
use Rattle.pua_audit.proofs.Refined.{graphs_reach}
use Rattle.pua_audit.proofs.Tabled.{table_stands}
use Rattle.pua_audit.proofs.laws.graph_laws.Goals as goal

pub returns : goal.returns
returns c = record { reach = graphs_reach; entries = entries_stand; masks = masks_list; live = live_states_count; tables = table_stands }
