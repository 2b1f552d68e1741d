use Rattle.pua_listing.proofs.Common.{◌≡◌, ◌++◌, map, list_all}
use Rattle.std.proofs.Common.{take, IsTrue}
use Rattle.pua_tree.specs.Grammar.{entry_text}
use Rattle.pua_listing.specs.Entries.{entries_from, leads_to_bytes}
use Rattle.pua_listing.specs.Lent.{rows_held}
use Rattle.pua_listing.specs.Listed.{text_of_lines}
use Rattle.pua_listing.specs.Numbers.{number_in}
use Rattle.pua_listing.proofs.listing.add_lines.Given as goal

abbrev pub invariant-loop-place : goal.invariant-loop-place
invariant-loop-place g l = record {
  text : l.text.items ≡ l.fn.text.items ++ text_of_lines (map (entry_text l.fn.form)
      (entries_from (g.T.FileTree.content l.fn.tree) (number_in l.fn.numbers) 1 (rows_held (take l.place l.order))));
  bytes : IsTrue (list_all (λ e. leads_to_bytes e.made)
      (entries_from (g.T.FileTree.content l.fn.tree) (number_in l.fn.numbers) 1 (rows_held (take l.place l.order))));
}
