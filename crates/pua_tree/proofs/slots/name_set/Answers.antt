use Rattle.pua_tree.proofs.Common.{◌∙◌, ap, map, refl, reverse, List, distinct_names}
use Rattle.std.proofs.lemmas.List.{reverse-reverse}
use Rattle.std.proofs.lemmas.Iterator.Adapters.{YieldsList-from_rev_slice}
use Rattle.std.proofs.lemmas.Iterator.Consumers.{YieldsList-end}
use Rattle.pua_tree.specs.declared.tree.LentRow.{LentRow}
use Rattle.pua_tree.proofs.SlotsNames.{one_name_more}
use Rattle.pua_tree.proofs.slots.name_set.Goals as goal

pub loop-row-preserved : goal.loop-row-preserved
loop-row-preserved c =
    one_name_more (λ (row : LentRow). row.name.now) c.loop-row.yielded c.in-Some.row c.loop-row.names.keys c.insert.new.self.keys _ refl
    c.loop-row.invariant c.in_ok-insert.ensures.keys

pub returns : goal.returns
returns c =
    let ended = YieldsList-end (YieldsList-from_rev_slice c.args.rows.now cc) c.loop-row.yielded _ c.loop-row.yielded_by _ _
    c.in-None.is c.next.ensures.steps in
    c.loop-row.invariant
    ∙ ap (λ (rows : List LentRow). distinct_names (map (λ row. row.name.now) (reverse rows))) ended.0
    ∙ ap (λ (rows : List LentRow). distinct_names (map (λ row. row.name.now) rows)) (reverse-reverse c.args.rows.now)
