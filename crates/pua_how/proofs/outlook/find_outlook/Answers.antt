use Rattle.std.proofs.Common.{ap, ◌∙◌}
use Rattle.std.specs.List.{list_any}
use Rattle.pua_ever.specs.ShownForEver.{shown_lasting}
use Rattle.pua_how.specs.Outlooks.{row_has}
use Rattle.pua_how.proofs.Outlooking.{some_rows_have}
use Rattle.pua_how.proofs.outlook.find_outlook.Goals as goal

pub returns : goal.returns
returns g c = λ table h lasting.
    let t = g.T.FileTree.content c.args.tree.now in
    record {
      listed =
          c.some_listed.ensures
          ∙ ap (λ rows. list_any (λ asked. list_any (row_has t asked c.args.call) rows) c.args.things.now) c.as_slice.ensures.value
          ∙ some_rows_have c.args.call t c.args.list.now.rows.items (shown_lasting t table h) lasting.rows c.args.things.now;
      execs = lasting.execs;
    }
