use Rattle.pua_tree.proofs.Common.{◌∙◌, sym, ap, option_map, Some, None, eqb-false, lent_spot}
use Rattle.pua_tree.proofs.Sound.{sound_from, parent_by_spot}
use Rattle.pua_tree.proofs.judgement.parent.Goals as goal

pub returns-in-Some : goal.returns-in-Some
returns-in-Some g c =
    parent_by_spot (g.T.Judged.held c.args.tree.now) (sound_from _ c.is_tree.ensures) c.args.dir (Some (lent_spot c.in-Some.spot))
    (eqb-false c.args.dir 0 (sym c.eq.ensures ∙ c.if-eq.false)) (ap (option_map lent_spot) (sym c.in-Some.is) ∙ c.dir_spot.ensures)

pub returns-in-None : goal.returns-in-None
returns-in-None g c =
    parent_by_spot (g.T.Judged.held c.args.tree.now) (sound_from _ c.is_tree.ensures) c.args.dir None
    (eqb-false c.args.dir 0 (sym c.eq.ensures ∙ c.if-eq.false)) (ap (option_map lent_spot) (sym c.in-None.is) ∙ c.dir_spot.ensures)
