use Rattle.pua_words.proofs.words.run_command.Goals as goal

pub returns : goal.returns
returns c = c.with_inputs.ensures _ (c.with.ensures _ _ (c.with-run.ensures _ _ c.command-run.ensures c.flag.ensures) c.at.ensures)
