use Rattle.pua_words.proofs.words.objects_command.Goals as goal

pub returns : goal.returns
returns c =
    c.with_inputs.ensures _
    (c.with.ensures _ _
    (c.with-objects-7.ensures _ _
    (c.with-objects-6.ensures _ _
    (c.with-objects-5.ensures _ _
    (c.with-objects-4.ensures _ _
    (c.with-objects-3.ensures _ _
    (c.with-objects-2.ensures _ _ (c.with-objects.ensures _ _ c.command-objects.ensures c.flag.ensures) c.flag-2.ensures)
    c.flag-3.ensures) c.flag-4.ensures) c.processes.ensures) c.beside.ensures) c.option.ensures) c.at.ensures)
