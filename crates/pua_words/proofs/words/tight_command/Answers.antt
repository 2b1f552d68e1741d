use Rattle.pua_words.proofs.words.tight_command.Goals as goal

pub returns : goal.returns
returns c = c.with_inputs.ensures _ (c.with-tight.ensures _ _ c.command-tight.ensures c.flag.ensures)
