use Rattle.pua_tree.proofs.NamedRows.{is_place}
use Rattle.pua_tree.proofs.named_rows.place_of.Goals as goal

pub returns : goal.returns
returns c = is_place c.args.names.now.keys c.args.name.now c.get_index_of.result c.get_index_of.ensures.index c.get_index_of.ensures.found
