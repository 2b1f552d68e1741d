use Rattle.pua_ever.proofs.Common.{List, Bool, sym, ap, ◌∙◌, ◌||◌, list_any-append, empty_tree, covered_verdict, is_allowed, Cover}
use Rattle.pua_ever.proofs.Common.{is_allowed_under}
use Rattle.pua_ever.proofs.movable.on_dirs.Goals as goal

pub returns : goal.returns
returns c = λ judged seen call.
    let h = c.args.process.now in
    let found = c.args.found.now in
    let passes : Cover → Bool = λ left. is_allowed (covered_verdict empty_tree c.args.table.now h call left judged) in
    let under : List Cover → Bool = λ covers. is_allowed_under c.args.table.now h covers judged call in
    let own = c.under-own.ensures judged seen call ∙ ap under c.deref.ensures.value in
    let others = c.under-others.ensures judged seen call ∙ ap under c.deref-2.ensures.value in
    c.union.ensures call ∙ (λ i. own i || others i) ∙ sym (list_any-append passes found.dirs.items found.entrances.items)
