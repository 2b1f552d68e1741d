use Rattle.pua_ever.proofs.Common.{List, ◌++◌, Bool, refl, sym, ap, ◌∙◌, ◌||◌, list_any-append, empty_tree, IsMissing, covered_verdict}
use Rattle.pua_ever.proofs.Common.{is_allowed, Cover, is_allowed_under}
use Rattle.pua_ever.proofs.movable.on_names.Goals as goal

pub returns : goal.returns
returns c = λ call.
    let h = c.args.process.now in
    let found = c.args.found.now in
    let passes : Cover → Bool = λ left. is_allowed (covered_verdict empty_tree c.args.table.now h call left IsMissing) in
    let under : List Cover → Bool = λ covers. is_allowed_under c.args.table.now h covers IsMissing call in
    let named = c.under-at_names.ensures IsMissing refl call ∙ ap under c.deref.ensures.value in
    let inside = c.on_dirs-in_dirs.ensures IsMissing refl call in
    c.union.ensures call ∙ (λ i. named i || inside i) ∙
    sym (list_any-append passes found.names.items (found.dirs.items ++ found.entrances.items))
