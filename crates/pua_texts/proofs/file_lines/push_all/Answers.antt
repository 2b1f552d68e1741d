use Rattle.pua_texts.proofs.Common.{◌∙◌, ◌++◌, map, ap, string_bytes, Tree}
use Rattle.pua_tree.specs.LentRows.{lent_entry}
use Rattle.pua_texts.specs.FileLines.{held_line, lines_at}
use Rattle.pua_texts.proofs.FileLines.{file_next}
use Rattle.pua_texts.proofs.file_lines.push_all.Goals as goal

pub loop-held-preserved : goal.loop-held-preserved
loop-held-preserved g c =
    let t : Tree = g.T.FileTree.content c.args.tree.now in
    let held = c.held-item.result in
    let file = held.1.now in
    record {
      tree = c.push_lines.ensures.tree ∙ c.loop-held.invariant.tree;
      text = file_next t c.args.promises c.args.files.now held c.loop-held.held-index (string_bytes c.loop-held.text)
          (string_bytes c.push_lines.new.text) c.loop-held-test.true c.held-item.is
          (c.in_ok-push_lines.ensures.text (ap (map lent_entry) c.as_slice.ensures.value ∙ c.in_ok-rows.ensures) c.loop-held.invariant.tree
          ∙ ap (λ uses. string_bytes c.loop-held.text ++ lines_at (held_line held.0.now file.kind uses) t file.node)
          (c.as_str.ensures.value ∙ c.in_ok-uses.ensures))
          ∙ c.loop-held.invariant.text;
    }
