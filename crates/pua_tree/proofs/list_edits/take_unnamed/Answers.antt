use Rattle.pua_tree.proofs.Common.{◌∙◌, sym}
use Rattle.pua_tree.proofs.ListEdits.{unnamed_taken, named_kept}
use Rattle.pua_tree.proofs.list_edits.take_unnamed.Goals as goal

pub returns-then-not-has_name : goal.returns-then-not-has_name
returns-then-not-has_name c = λ next. unnamed_taken _ c.args.nodes.now.items _ c.args.id next (sym c.has_name.ensures ∙
    c.if-not-has_name.true) c.take_node.ensures

pub returns-else-not-has_name : goal.returns-else-not-has_name
returns-else-not-has_name c = λ next. named_kept _ c.args.nodes.now.items c.args.id next (sym c.has_name.ensures ∙ c.if-not-has_name.false)
