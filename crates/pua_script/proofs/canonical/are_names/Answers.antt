use Rattle.pua_script.proofs.Common.{◌∙◌, ap}
use Rattle.std.specs.List.{slice_split}
use Rattle.std.specs.Prelude.{◌==◌}
use Rattle.pua_tree.specs.Names.{components}
use Rattle.pua_script.specs.Beside.{has_come}
use Rattle.pua_script.proofs.Named.{has_names}
use Rattle.pua_script.proofs.canonical.are_names.Goals as goal

pub returns : goal.returns
returns c =
    c.has_come.ensures ∙ ap (has_come c.args.below (components c.args.path.now)) c.walk.ensures
    ∙ has_names c.args.below (components c.args.path.now) (slice_split (λ b. b == 47) c.args.text.now)
