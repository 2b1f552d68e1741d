use Rattle.pua_words.proofs.words.pua_command.Goals as goal

pub returns : goal.returns
returns c =
    let run = c.run_command.ensures in
    let tree = c.tree_command.ensures in
    let objects = c.objects_command.ensures in
    let why = c.why_command.ensures in
    let tight = c.tight_command.ensures in
    let how = c.how_command.ensures in
    let audit = c.audit_command.ensures in (
      record {
        run = run.0;
        tree = tree.0;
        objects = objects.0;
        why_process = why.0;
        why = why.1;
        tight = tight.0;
        how_process = how.0;
        how = how.1;
        how_kind = how.2;
        audit_process = audit.0;
        audit_base = audit.1;
        audit = audit.2;
      },
      c.with_command.ensures _ _
          (c.with_command-pua-6.ensures _ _
          (c.with_command-pua-5.ensures _ _
          (c.with_command-pua-4.ensures _ _
          (c.with_command-pua-3.ensures _ _
          (c.with_command-pua-2.ensures _ _ (c.with_command-pua.ensures _ _ c.program.ensures run.1) tree.1) objects.1) why.2) tight.1)
          how.3) audit.3,
    )
