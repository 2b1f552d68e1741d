use Rattle.pua_path.proofs.Common.{◌∙◌}
use Rattle.pua_path.proofs.Pieces.{components-shorter, has_nul-shorter, no_slash_last}
use Rattle.pua_path.proofs.piece.before_slashes.Goals as goal

pub loop-byte-preserved : goal.loop-byte-preserved
loop-byte-preserved c = (
  components-shorter _ _ _ c.in-Some.ensures.cases.0 c.if-byte-ne47.false ∙ c.loop-byte.invariant.0,
  has_nul-shorter _ _ _ c.in-Some.ensures.cases.0 c.if-byte-ne47.false ∙ c.loop-byte.invariant.1,
)

pub returns-then-byte-ne47-clause-end : goal.returns-then-byte-ne47-clause-end
returns-then-byte-ne47-clause-end c = no_slash_last _ _ _ c.in-Some.ensures.cases.0 c.if-byte-ne47.true
