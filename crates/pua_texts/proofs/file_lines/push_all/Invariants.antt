use Rattle.pua_texts.proofs.Common.{◌≡◌, ◌++◌, string_bytes}
use Rattle.pua_texts.proofs.FileLines.{still_open}
use Rattle.pua_texts.proofs.file_lines.push_all.Given as goal

-- the lines of the descriptors so far are added, and those of the others are still to come
abbrev pub invariant-loop-held : goal.invariant-loop-held
invariant-loop-held g l = record {
  tree : l.paths.tree ≡ g.T.FileTree.content l.fn.tree;
  text : string_bytes l.text ++ still_open (g.T.FileTree.content l.fn.tree) l.promises l.files l.held-index
      ≡ string_bytes l.fn.text ++ still_open (g.T.FileTree.content l.fn.tree) l.promises l.files 0;
}
