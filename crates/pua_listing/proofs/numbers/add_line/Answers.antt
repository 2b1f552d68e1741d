use Rattle.pua_listing.proofs.Common.{◌==◌, sym, ◌∙◌}
use Rattle.indexmap.specs.IndexMap.{get}
use Rattle.pua_listing.proofs.Numbered.{line_stays, line_comes}
use Rattle.pua_listing.proofs.numbers.add_line.Goals as goal

pub returns-then-contains_key : goal.returns-then-contains_key
returns-then-contains_key c = record {
  known = sym c.if-contains_key.true ∙ c.contains_key.ensures;
  lines = λ x. line_stays (get ◌==◌ c.args.lines.now) c.args.node c.args.line x (sym c.contains_key.ensures ∙ c.if-contains_key.true);
}

pub returns : goal.returns
returns c = record {
  known = sym c.if-contains_key.false ∙ c.contains_key.ensures;
  lines = λ x. c.in_ok-insert.ensures.updates.0 x ∙
      line_comes (get ◌==◌ c.args.lines.now) c.args.node c.args.line x (sym c.contains_key.ensures ∙ c.if-contains_key.false);
}
