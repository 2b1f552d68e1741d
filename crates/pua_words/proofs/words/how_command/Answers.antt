use Rattle.std.proofs.Common.{rules}
use Rattle.pua_words.proofs.words.how_command.Goals as goal

pub returns : goal.returns
returns c =
    let inputs = c.with_inputs-how.ensures _ (c.with.ensures _ _ (c.with-how.ensures _ _ c.command-how.ensures c.process.ensures) c.at.ensures) in (
      c.process.result.value_parser,
      inputs.0,
      c.kind.result.value_parser,
      c.with-2.ensures _ _ (c.with-how-3.ensures _ _ (c.with-how-2.ensures _ _ inputs.1 (search rules)) (search rules))
          c.kind.ensures,
    )
