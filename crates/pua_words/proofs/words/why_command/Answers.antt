use Rattle.std.proofs.Common.{rules}
use Rattle.pua_words.proofs.words.why_command.Goals as goal

pub returns : goal.returns
returns c =
    let inputs = c.with_inputs-why.ensures _ (c.with.ensures _ _ (c.with-why.ensures _ _ c.command-why.ensures c.process.ensures) c.at.ensures) in (
      c.process.result.value_parser,
      inputs.0,
      c.with-2.ensures _ _ (c.with-why-2.ensures _ _ inputs.1 (search rules)) c.operands.ensures,
    )
