use Rattle.pua_tool.proofs.Common.{ap, ◌∙◌, told_to, world_of}
use Rattle.pua_script.specs.Worlds.{WorldState, state_after_all}
use Rattle.pua_tool.proofs.script.replay_requests.Goals as goal

pub returns : goal.returns
returns c =
    let asks = c.args.requests.now in
    let said = c.in-Ok.ensures.told ∙ ap (λ (s : WorldState). told_to s.table (world_of s) asks) c.in_ok-world.ensures in
    let left = c.in-Ok.ensures.left ∙ ap (λ (s : WorldState). state_after_all s asks) c.in_ok-world.ensures in
    λ i. record { table = (left i).table; answers = said i; world = world_of (left i) }
