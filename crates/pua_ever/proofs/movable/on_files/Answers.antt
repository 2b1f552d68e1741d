use Rattle.pua_ever.proofs.Common.{List, [], ◌++◌, Bool, sym, ap, ◌∙◌, ◌||◌, if◌then◌else◌, list_any-append, empty_tree, covered_verdict}
use Rattle.pua_ever.proofs.Common.{is_allowed, Cover, is_allowed_under}
use Rattle.std.proofs.lemmas.List.{append-nil}
use Rattle.pua_ever.proofs.movable.on_files.Goals as goal

pub returns-then-moves : goal.returns-then-moves
returns-then-moves c = λ judged seen call.
    let h = c.args.process.now in
    let found = c.args.found.now in
    let passes : Cover → Bool = λ left. is_allowed (covered_verdict empty_tree c.args.table.now h call left judged) in
    let under : List Cover → Bool = λ covers. is_allowed_under c.args.table.now h covers judged call in
    let named = c.under-at_names.ensures judged seen call ∙ ap under c.deref.ensures.value in
    let anywhere = c.on_dirs-anywhere.ensures judged seen call in
    c.union.ensures call ∙ (λ i. named i || anywhere i) ∙
    sym (list_any-append passes found.names.items (found.dirs.items ++ found.entrances.items)) ∙
    ap (λ b. under (found.names.items ++ (found.dirs.items ++ (if b then found.entrances.items else [])))) (sym c.if-moves.true)

pub returns : goal.returns
returns c = λ judged seen call.
    let h = c.args.process.now in
    let found = c.args.found.now in
    let passes : Cover → Bool = λ left. is_allowed (covered_verdict empty_tree c.args.table.now h call left judged) in
    let under : List Cover → Bool = λ covers. is_allowed_under c.args.table.now h covers judged call in
    let named = c.under-at_names.ensures judged seen call ∙ ap under c.deref.ensures.value in
    let inside = c.under-in_dirs.ensures judged seen call ∙ ap under c.deref-2.ensures.value in
    c.union-2.ensures call ∙ (λ i. named i || inside i) ∙
    ap (λ covers. under found.names.items || under covers) (sym (append-nil found.dirs.items)) ∙
    sym (list_any-append passes found.names.items (found.dirs.items ++ [])) ∙
    ap (λ b. under (found.names.items ++ (found.dirs.items ++ (if b then found.entrances.items else [])))) (sym c.if-moves.false)
