use Rattle.pua_tree.specs.NamedRows.{HeldRows, IsPlaceOf}
use Rattle.pua_tree.proofs.Common.{subst}
use Rattle.pua_tree.proofs.NamedRows.{is_place}
use Rattle.pua_tree.proofs.named_rows.NamedRows.place.Goals as goal

pub returns : goal.returns
returns c =
    subst (λ (rows : HeldRows). IsPlaceOf rows.names c.args.name.now c.get_index_of.result) c.self.view_is
    (is_place c.self.inside.names.keys c.args.name.now c.get_index_of.result c.get_index_of.ensures.index c.get_index_of.ensures.found)
