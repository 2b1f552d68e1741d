use Rattle.pua_path.proofs.Common.{ap, ◌∙◌, take, Remaining, has_no_part}
use Rattle.pua_path.proofs.Stack.{done_where_empty}
use Rattle.pua_path.proofs.rest.Rest.is_done.Goals as goal

pub returns : goal.returns
returns c =
    c.is_empty.ensures
    ∙ done_where_empty c.self.inside.top.now (take c.self.inside.depth c.self.inside.below) c.self.invariant.1
    ∙ ap (λ (rest : Remaining). has_no_part rest.parts) c.self.view_is
