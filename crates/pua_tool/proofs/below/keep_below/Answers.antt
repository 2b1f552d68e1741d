use Rattle.pua_tool.proofs.Common.{[], ◌∙◌, ap, List, Option, Some, ℕ}
use Rattle.std.specs.Borrow.{Bor}
use Rattle.pua_tool.specs.EverHowTexts.{below_asked}
use Rattle.pua_tool.specs.RowsBelow.{rows_below}
use Rattle.pua_tool.specs.Texts.{given_bytes}
use Rattle.pua_tool.proofs.below.keep_below.Goals as goal

pub returns-clause-rows : goal.returns-clause-rows
returns-clause-rows g c = record {
  below = Some c.in_ok-names.names.items;
  asked =
      ap (λ (path : Option (Bor (List ℕ))). below_asked (g.T.FileTree.content c.args.tree.now) c.args.process.now (given_bytes path)) c.in-Some.is
      ∙ c.in_ok-names.ensures.names;
  are = c.in_ok-rows.ensures ∙ (λ i. rows_below (c.as_slice.ensures.value i) [] (c.as_slice-2.ensures.value i));
}
