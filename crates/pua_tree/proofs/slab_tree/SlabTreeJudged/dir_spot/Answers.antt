use Rattle.pua_tree.proofs.Common.{◌∙◌, sym, ap, Tree, eqb-true, eqb-false}
use Rattle.pua_tree.specs.Tree.{dir_spot}
use Rattle.pua_tree.proofs.Sound.{sound_from, root_spot}
use Rattle.pua_tree.proofs.SlabTrees.{spot_of_dir}
use Rattle.pua_tree.proofs.slab_tree.SlabTreeJudged.dir_spot.Goals as goal

pub returns-then-eq : goal.returns-then-eq
returns-then-eq c =
    sym (ap (dir_spot c.args.self.now) (eqb-true c.args.dir 0 (sym c.eq.ensures ∙ c.if-eq.true))
    ∙ root_spot c.args.self.now (sound_from c.args.self.now c.is_tree.ensures))

pub returns : goal.returns
returns c =
    c.spot_of.ensures
    ∙ spot_of_dir c.self.inside.slots c.self.inside.numbering c.args.dir c.self.invariant.0 c.self.invariant.1
    (eqb-false c.args.dir 0 (sym c.eq.ensures ∙ c.if-eq.false))
    ∙ ap (λ (t : Tree). dir_spot t c.args.dir) c.self.view_is
