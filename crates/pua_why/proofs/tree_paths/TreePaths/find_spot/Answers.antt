use Rattle.pua_why.proofs.Common.{[], ◌∷◌, ◌++◌, map, ap, ◌∙◌, dir_names}
use Rattle.std.specs.Prelude.{reverse}
use Rattle.pua_why.proofs.Paths.{found_names}
use Rattle.pua_why.specs.TreePaths.{PathsState}
use Rattle.pua_why.proofs.tree_paths.TreePaths.find_spot.Goals as goal

pub returns-clause-names : goal.returns-clause-names
returns-clause-names g c =
    let names = dir_names (g.T.FileTree.content c.self.inside.tree.now) c.args.dir in
    let first = c.push_reserved.ensures.items ∙ ap (λ ns. ns ++ c.args.name ∷ []) c.clear.ensures.items in
    found_names c.climb.new.names.items c.reverse.new.self.items (names ++ c.args.name.now ∷ [])
    (c.climb.ensures.names ∙ ap (λ ns. names ++ reverse (map (λ name. name.now) ns)) first) c.reverse.ensures.items
    ∙ ap (λ (s : PathsState). dir_names s.tree c.args.dir ++ c.args.name.now ∷ []) c.self.view_is
