use Rattle.pua_words.proofs.words.with_walk.Goals as goal

pub returns : goal.returns
returns c = λ app built. (
  c.process.result.value_parser,
  c.base.result.value_parser,
  c.with.ensures _ _
      (c.with-audit-3.ensures _ _
      (c.with-audit-2.ensures _ _ (c.with-audit.ensures _ _ built c.limit.ensures) c.process.ensures) c.base.ensures)
      c.option.ensures,
)
