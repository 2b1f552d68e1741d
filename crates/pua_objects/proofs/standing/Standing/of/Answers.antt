use Rattle.pua_objects.proofs.Common.{ap, subst, sym, ◌∙◌, map, filter_map}
use Rattle.pua_tree.specs.Tree.{kind_at}
use Rattle.pua_objects.specs.Standing.{AreVeiledIn, slot_dir}
use Rattle.pua_objects.proofs.StandingRows.{veiled_in_dirs}
use Rattle.pua_objects.proofs.standing.Standing.of.Goals as goal

pub returns : goal.returns
returns g c =
    let vs = c.args.process.now.veils in
    record {
      rows = c.in_ok-rows.ensures;
      kinds = c.in_ok-kinds.ensures ∙ ap (map (λ row. kind_at (g.T.FileTree.content c.args.tree.now) row.node)) c.as_slice.ensures.value;
      veiled = subst (AreVeiledIn vs) (sym (c.in_ok-veiled.ensures
          ∙ ap (λ ps. filter_map slot_dir (map (λ place. place.now) ps)) c.as_slice-2.ensures.value
          ∙ ap (filter_map slot_dir) c.in_ok-places.ensures)) (veiled_in_dirs vs);
    }
