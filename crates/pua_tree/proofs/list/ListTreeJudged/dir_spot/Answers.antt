use Rattle.pua_tree.proofs.Common.{◌≡◌, ◌∙◌, ◌==◌, true, refl, sym, ap, cond, None, map, option_map, is_dir, row_entry}
use Rattle.std.proofs.Common.{find}
use Rattle.pua_tree.specs.Tree.{spot_of}
use Rattle.pua_tree.proofs.Rows.{row_spot}
use Rattle.pua_tree.proofs.list.ListTreeJudged.dir_spot.Goals as goal

pub returns-then-is_dir : goal.returns-then-is_dir
returns-then-is_dir c =
    let self = c.args.self.now in
    let living : is_dir self c.args.dir ≡ true = cc in
    let rows : self.rows ≡ map row_entry c.deref.result.now = rw (← c.self.view_is, c.deref.ensures.value) refl in
    c.spot_of.ensures ∙ row_spot c.deref.result.now c.args.dir
    ∙ ap (λ es. option_map (λ row. row.0) (find (λ row. row.1 == c.args.dir) es)) (sym rows)
    ∙ sym (ap (λ b. cond b (spot_of self c.args.dir) None) living)
