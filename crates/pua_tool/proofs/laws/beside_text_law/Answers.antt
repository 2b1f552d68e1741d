use Rattle.pua_tool.proofs.BesideWritten.{beside_as_written}
use Rattle.pua_tool.proofs.laws.beside_text_law.Goals as goal

pub returns : goal.returns
returns c =
    beside_as_written
    (record {
      accounted = c.openings_law.ensures.okays;
      held = c.openings_law.ensures.held;
      narrow = c.openings_law.ensures.narrow;
      along = c.through_law.ensures.along;
      printed = c.state_law.ensures.openings;
      told = c.jointly_law.ensures.told;
    })
