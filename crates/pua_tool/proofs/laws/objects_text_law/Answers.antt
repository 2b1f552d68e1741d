use Rattle.pua_tool.proofs.ListWritten.{objects_as_written}
use Rattle.pua_tool.proofs.laws.objects_text_law.Goals as goal

pub returns : goal.returns
returns c =
    objects_as_written c.root_law.ensures.complete c.root_law.ensures.starts c.root_law.ensures.within c.soundness_law.ensures.lines
    c.soundness_law.ensures.below c.openings_law.ensures.okays c.state_law.ensures.openings
