use Rattle.pua_tool.proofs.Common.{ℕ, ◌∷◌, ◌++◌, [], ◌∙◌, List, ap, arith, map, subst, sym, with_end}
use Rattle.std.proofs.Common.{◌+◌, take}
use Rattle.std.proofs.lemmas.List.{map-append, take_all}
use Rattle.std.specs.Prelude.{string_bytes}
use Rattle.pua_calls.specs.TmpTable.{tmp_table}
use Rattle.pua_ever.specs.EverLines.{line_with}
use Rattle.pua_ever.specs.EverList.{IsRowOn}
use Rattle.pua_texts.specs.WhyLines.{world_left}
use Rattle.pua_tool.specs.EverColumns.{AreTexts, IsTextOf}
use Rattle.pua_tool.specs.EverWhyTexts.{column_on}
use Rattle.pua_tool.proofs.EverColumns.{rows_more, under_there, zip_push}
use Rattle.pua_tool.proofs.RowColumns.{row_on}
use Rattle.pua_tool.proofs.ever_columns.columns_of.Goals as goal

pub loop-row-preserved : goal.loop-row-preserved
loop-row-preserved g c =
    let rows = c.args.rows.now in
    let row = c.row-item.result in
    let i : ℕ = c.loop-row.row-index in
    let holder = c.args.holder.now in
    record {
      above = c.in_ok-under.ensures.above c.loop-row.invariant.above;
      columns = λ p number h execs same ruled are on.
          let t = (world_left p).tree in
          let here = row_on (IsRowOn t holder) rows i row on c.loop-row-test.true c.row-item.is in
          let own : IsTextOf p number h holder execs row (string_bytes c.in_ok-column.column) =
          λ about is.
          c.in_ok-column.ensures p number h holder execs ruled are
          ∙ ap (λ places. with_end (column_on p number h execs places (line_with [] about row.line).calls))
          (under_there holder c.args.reasons.now.comings row about c.in_ok-under.under (g.T.FileTree.content c.args.tree.now) t
          c.args.table.now (tmp_table p.table) same ruled (λ found. c.in_ok-under.ensures.under about found c.loop-row.invariant.above) are.comings here is) in
          subst (λ (texts : List (List ℕ)). AreTexts p number h holder execs (take (i + 1) rows) texts)
          (sym (ap (map string_bytes) c.in_ok-push.ensures.items ∙ map-append string_bytes c.loop-row.columns.items (c.in_ok-column.column ∷ [])))
          (subst (λ rs. AreTexts p number h holder execs rs (map string_bytes c.loop-row.columns.items ++ string_bytes c.in_ok-column.column ∷ []))
          (sym (rows_more rows row i c.loop-row-test.true c.row-item.is))
          (zip_push (IsTextOf p number h holder execs) (take i rows) (map string_bytes c.loop-row.columns.items) row
          (string_bytes c.in_ok-column.column) (c.loop-row.invariant.columns p number h execs same ruled are on) own));
    }

pub returns : goal.returns
returns g c = λ p number h execs same ruled are on.
    subst (λ rows. AreTexts p number h c.args.holder.now execs rows (map string_bytes c.loop-row.columns.items))
    (take_all c.loop-row.row-index c.args.rows.now (omega (arith, c.loop-row-test.false)))
    (c.loop-row.invariant.columns p number h execs same ruled are on)
