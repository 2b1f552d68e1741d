use Rattle.pua_texts.proofs.Common.{◌∙◌, ◌++◌, ap, sym, arith, string_bytes, Tree}
use Rattle.pua_tree.specs.LentRows.{lent_entry}
use Rattle.pua_texts.specs.FileLines.{line_of, named_line}
use Rattle.pua_texts.proofs.FileLines.{row_next, rows_done, still_named}
use Rattle.pua_texts.proofs.file_lines.push_names.Goals as goal

pub loop-row-preserved : goal.loop-row-preserved
loop-row-preserved g c =
    let held = c.args.held.now in
    let rows = c.args.rows.now in
    let row = c.row-item.result in
    let t : Tree = c.args.paths.now.tree in
    let text = string_bytes c.loop-row.text in
    record {
      tree = c.push_named.ensures.tree ∙ c.loop-row.invariant.tree;
      text = row_next (line_of held) t held.node rows row c.loop-row.row-index text (string_bytes c.push_named.new.text)
          (string_bytes c.args.text.now ++ still_named (line_of held) t held.node rows 0) c.loop-row-test.true c.row-item.is
          (c.in_ok-push_named.ensures.text
          ∙ ap (λ (u : Tree). text ++ named_line (line_of held) u held.node (lent_entry row)) c.loop-row.invariant.tree)
          c.loop-row.invariant.text;
    }

pub returns-clause-text : goal.returns-clause-text
returns-clause-text g c =
    let held = c.args.held.now in
    sym (rows_done (line_of held) c.args.paths.now.tree held.node c.args.rows.now c.loop-row.row-index (string_bytes c.loop-row.text)
    (omega (arith, c.loop-row-test.false)))
    ∙ c.loop-row.invariant.text
