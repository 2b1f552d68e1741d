use Rattle.pua_tree.proofs.Common.{◌∙◌, sym, ap, Tree, look, row_at}
use Rattle.pua_tree.proofs.SlotsHold.{rows_found}
use Rattle.pua_tree.proofs.slab_tree.SlabTreeFileTree.look.Goals as goal

pub returns : goal.returns
returns c = c.row.ensures ∙ ap (λ name. row_at c.self.inside.slots (c.args.dir, name)) c.bytes.ensures.bytes
    ∙ sym (rows_found c.self.inside.slots (c.args.dir, c.args.name.now))
    ∙ ap (λ (t : Tree). look t c.args.dir c.args.name.now) c.self.view_is
