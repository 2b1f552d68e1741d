use Rattle.pua_tool.proofs.Common.{◌∙◌, Ok, ap, world_of}
use Rattle.pua_tool.specs.ObjectTexts.{numbers_asked}
use Rattle.pua_tool.proofs.Numbers.{numbers_are}
use Rattle.pua_tool.proofs.objects.numbers_of.Goals as goal

pub returns-in_ok-numbers-in-All-clause-asked : goal.returns-in_ok-numbers-in-All-clause-asked
returns-in_ok-numbers-in-All-clause-asked g c =
    ap (numbers_asked (world_of c.args.world.now)) c.in-All.is ∙ ap Ok (numbers_are c.args.world.now _ c.in_ok-numbers-in-All.ensures)
