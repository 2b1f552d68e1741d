use Rattle.pua_tree.proofs.Common.{◌∙◌, sym, ap, Some, None, Tree}
use Rattle.std.specs.Prelude.{option_copied}
use Rattle.pua_tree.specs.Tree.{is_empty}
use Rattle.pua_tree.proofs.SlabTrees.{bare_of_dir}
use Rattle.pua_tree.proofs.slab_tree.SlabTreeJudged.is_bare.Goals as goal

pub returns-in-Some : goal.returns-in-Some
returns-in-Some c =
    bare_of_dir c.self.inside.slots c.self.inside.numbering c.args.dir c.self.invariant.0 c.self.invariant.1 (Some c.in-Some.standing.now)
    (ap option_copied (sym c.in-Some.is) ∙ c.directory.ensures)
    ∙ ap (λ (t : Tree). is_empty t c.args.dir) c.self.view_is

pub returns-in-None : goal.returns-in-None
returns-in-None c =
    bare_of_dir c.self.inside.slots c.self.inside.numbering c.args.dir c.self.invariant.0 c.self.invariant.1 None
    (ap option_copied (sym c.in-None.is) ∙ c.directory.ensures)
    ∙ ap (λ (t : Tree). is_empty t c.args.dir) c.self.view_is
