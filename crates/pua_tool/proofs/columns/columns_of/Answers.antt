use Rattle.pua_tool.proofs.Common.{ℕ, ◌∷◌, ◌∙◌, [], List, Tree, ap, arith, map, sym, subst}
use Rattle.std.proofs.Common.{◌+◌, ◌≤◌, length, take}
use Rattle.std.proofs.lemmas.List.{map-append, take_all}
use Rattle.std.specs.Prelude.{string_bytes}
use Rattle.pua_ever.specs.EverList.{IsRowOn}
use Rattle.pua_ever.specs.declared.list.EverRow.{EverRow}
use Rattle.pua_how.specs.Targets.{IsLast}
use Rattle.pua_tool.specs.RowColumns.{AreColumns, done_behind}
use Rattle.pua_tool.proofs.RowColumns.{row_column, row_on}
use Rattle.pua_tool.proofs.columns.columns_of.Goals as goal

pub loop-row-preserved : goal.loop-row-preserved
loop-row-preserved c =
    let rows : List EverRow = c.args.rows.now in
    let row : EverRow = c.row-item.result in
    let i : ℕ = c.loop-row.row-index in
    let n : ℕ = c.args.behind.now.number in
    let rules = c.args.behind.now.rules in
    let done = done_behind c.args.behind.now in
    let h = c.args.process.now in
    let texts : List (List ℕ) = map string_bytes c.loop-row.columns.items in
    let text : List ℕ = string_bytes c.in_ok-column.column in
    record {
      columns = λ on.
          let above = subst (λ (t : Tree). IsLast t c.in_ok-last.last) c.tree.ensures c.in_ok-last.ensures in
          let here = row_on (IsRowOn done.world.tree h) rows i row on c.loop-row-test.true c.row-item.is in
          subst (λ (texts : List (List ℕ)). AreColumns rules done n h (take (i + 1) rows) texts)
          (sym (ap (map string_bytes) c.in_ok-push.ensures.items ∙ map-append string_bytes c.loop-row.columns.items (c.in_ok-column.column ∷ [])))
          (row_column rules done n h rows row i c.loop-row-test.true c.row-item.is texts text (c.loop-row.invariant.columns on)
          (c.in_ok-column.ensures above here));
    }

pub returns : goal.returns
returns c = λ on.
    let past : length c.args.rows.now ≤ c.loop-row.row-index = omega (arith, c.loop-row-test.false) in
    subst (λ (rows : List EverRow). AreColumns c.args.behind.now.rules (done_behind c.args.behind.now) c.args.behind.now.number c.args.process.now rows
    (map string_bytes c.loop-row.columns.items))
    (take_all c.loop-row.row-index c.args.rows.now past) (c.loop-row.invariant.columns on)
