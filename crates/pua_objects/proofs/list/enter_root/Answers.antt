use Rattle.pua_objects.proofs.ListGrows.{on_both, root_made}
use Rattle.pua_objects.proofs.Common.{◌++◌, ◌∷◌, [], ◌∙◌, ap}
use Rattle.pua_objects.proofs.list.enter_root.Goals as goal

pub returns : goal.returns
returns c = λ no_dirs none.
    on_both c.enter.result (λ more_dirs more. λ t spots fits are.
    root_made t fits c.args.process.now spots are c.over_dir-over.result c.outermost.result _ _ _ c.push.new.self.items _ no_dirs none
    more_dirs
    (c.in-Ok.ensures.items ∙ ap (λ item. c.args.items.now.items ++ item ∷ []) c.root_item.ensures) more
    c.outermost.ensures.covers c.over_dir-over.ensures.handed c.outermost.ensures.inside c.over_dir-over.ensures.inside) c.enter.ensures.entered c.enter.ensures.items
