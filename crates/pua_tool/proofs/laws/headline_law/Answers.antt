use Rattle.pua_tool.proofs.Headline.{of_histories}
use Rattle.pua_tool.proofs.laws.headline_law.Goals as goal

pub returns : goal.returns
returns c = of_histories c.pasts_law.ensures
