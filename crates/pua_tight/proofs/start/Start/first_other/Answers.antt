use Rattle.std.proofs.Common.{◌≡◌, ◌∙◌, drop}
use Rattle.pua_script.specs.Replay.{World, answers_to, new_world}
use Rattle.pua_script.specs.Worlds.{world_of}
use Rattle.pua_tight.specs.Starts.{first_from}
use Rattle.pua_tight.proofs.Starts.{there, told_from}
use Rattle.pua_tight.proofs.start.Start.first_other.Goals as goal

pub returns-in-Ok : goal.returns-in-Ok
returns-in-Ok c = λ asks same is before.
    let table = c.args.wanted.now.table.now in
    let w : World = new_world c.args.wanted.now.tree in
    let rest = drop c.args.self.now.line c.args.requests.now in
    let world : c.in_ok-world.world ≡ c.args.self.now.world = c.in_ok-world.ensures in
    let wanted : c.as_slice-wanted.result.now ≡ c.args.wanted.now.answers.items = c.as_slice-wanted.ensures.value in
    c.in-Ok.ensures (there table w asks c.args.requests.now c.args.self.now before is)
    ∙ (λ j. first_from c.args.self.now.line (answers_to (world j).table (world_of (world j)) rest) (drop c.args.self.now.line (wanted j)))
    ∙ told_from table w asks c.args.requests.now c.args.self.now before c.args.wanted.now.answers.items same is
