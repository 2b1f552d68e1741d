use Rattle.pua_tool.proofs.EverTextForesees.{ever_as_written}
use Rattle.pua_tool.proofs.laws.ever_text_law.Goals as goal

pub returns : goal.returns
returns c =
    ever_as_written c.openings_law.ensures.okays c.openings_law.ensures.held c.openings_law.ensures.narrow c.through_law.ensures.along
    c.state_law.ensures.openings
