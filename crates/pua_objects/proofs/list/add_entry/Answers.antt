use Rattle.pua_objects.proofs.Common.{◌≡◌, ◌++◌, ◌∷◌, [], true, false, sym, ap, ◌∙◌, map, Slot, is_dir, spot_now}
use Rattle.pua_tree.specs.Tree.{is_dir_kind}
use Rattle.pua_tree.proofs.ForCallers.{None≢Some, same_Some}
use Rattle.pua_policy.specs.Objects.{object_seen}
use Rattle.pua_policy.specs.Verdict.{object_of, object_of_kind}
use Rattle.pua_objects.proofs.ListGrows.{dir_listed, name_listed, on_both, on_ok}
use Rattle.pua_objects.proofs.list.add_entry.Goals as goal

pub returns-in_default-clause-listing : goal.returns-in_default-clause-listing
returns-in_default-clause-listing g c = λ around stands are deep dirs before.
    let t = g.T.FileTree.content c.args.tree.now in
    let inner = c.args.inner.now in
    let name = c.args.name.now in
    let none = c.in_default.ensures c.args.process.now stands in
    on_ok c.add_name.result (name_listed t c.known.ensures c.args.process.now (map spot_now c.args.spots.now) are inner around c.args.name
    c.args.items.now.items before c.args.entered.now.items dirs c.args.depth deep _ _ c.over_name-over.result
    (λ x e. absurd (None≢Some x (sym none ∙ e)))
    (ap (λ there. object_seen t (object_of t (Slot inner.dir name there))) (sym none))
    (c.over_name-over.ensures.handed (λ e. stands.veiled inner.dir name (sym c.is_veiled-veiled.ensures ∙ e)))
    c.over_name-over.ensures.inside)
    c.add_name.ensures

pub returns-then-not-is_directory-clause-listing : goal.returns-then-not-is_directory-clause-listing
returns-then-not-is_directory-clause-listing g c = λ around stands are deep dirs before.
    let t = g.T.FileTree.content c.args.tree.now in
    let inner = c.args.inner.now in
    let name = c.args.name.now in
    let id = c.in-Some.there.0 in
    let found = c.in-Some.ensures c.args.process.now stands in
    let plain : is_dir t id ≡ false = ap is_dir_kind found.1 ∙ sym c.is_directory.ensures ∙ c.if-not-is_directory.true in
    on_ok c.add_name-then-not-is_directory.result (name_listed t c.known.ensures c.args.process.now (map spot_now c.args.spots.now) are inner around c.args.name
    c.args.items.now.items before c.args.entered.now.items dirs c.args.depth deep _ _ c.over_name-over-then-not-is_directory.result
    (λ x e. ap (is_dir t) (sym (same_Some id x (sym found.0 ∙ e))) ∙ plain)
    (c.at_name.ensures t ∙ ap (λ k. object_seen t (object_of_kind k)) (sym found.1)
    ∙ ap (λ there. object_seen t (object_of t (Slot inner.dir name there))) (sym found.0))
    (c.over_name-over-then-not-is_directory.ensures.handed (λ e. stands.veiled inner.dir name (sym c.is_veiled-veiled.ensures ∙ e)))
    c.over_name-over-then-not-is_directory.ensures.inside)
    c.add_name-then-not-is_directory.ensures

pub returns-clause-listing : goal.returns-clause-listing
returns-clause-listing g c = λ around stands are deep dirs before.
    let t = g.T.FileTree.content c.args.tree.now in
    let inner = c.args.inner.now in
    let id = c.in-Some.there.0 in
    let found = c.in-Some.ensures c.args.process.now stands in
    let living : is_dir t id ≡ true = ap is_dir_kind found.1 ∙ sym c.is_directory.ensures ∙ c.if-not-is_directory.false in
    on_both c.enter.result (λ more_dirs more.
    dir_listed t c.known.ensures c.args.process.now (map spot_now c.args.spots.now) are inner around c.args.name
    c.args.items.now.items before c.args.entered.now.items dirs c.args.depth deep _ c.push.new.self.items _ id c.start_of.result
    c.directory.result c.over_dir-over.result
    found.0 living (c.start_of.ensures.passed are.rise) (c.start_of.ensures.names are.rise)
    (c.directory.ensures inner.dir c.args.name.now) c.over_dir-over.ensures.handed c.over_dir-over.ensures.inside more_dirs
    (c.in-Ok.ensures.items ∙ ap (λ item. c.args.items.now.items ++ item ∷ []) c.dir_item-own.ensures) more)
    c.enter.ensures.entered c.enter.ensures.items
