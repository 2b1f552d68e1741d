use Rattle.std.proofs.Common.{rules}
use Rattle.pua_words.proofs.words.with_inputs.Goals as goal

pub returns : goal.returns
returns c = λ app built. (
  c.rules.result.value_parser,
  c.with.ensures _ _
      (c.with-command-3.ensures _ _
      (c.with-command-2.ensures _ _ (c.with-command.ensures _ _ built c.rules.ensures) c.option.ensures)
      (search rules)) (search rules),
)
