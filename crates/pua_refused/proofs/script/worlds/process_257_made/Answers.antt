use Rattle.pua_refused.proofs.Common.{sym, ◌∙◌}
use Rattle.std.proofs.Common.{subst, length, ◌≤◌, ap}
use Rattle.pua_script.specs.Limits.{most_processes}
use Rattle.pua_script.specs.Worlds.{WorldState, world_of}
use Rattle.pua_script.specs.declared.answer.Answer.{Answer}
use Rattle.pua_refused.proofs.Forks.{full_worlds_fork_none}
use Rattle.pua_refused.proofs.script.worlds.process_257_made.Goals as goal

pub unreachable-requires : goal.unreachable-requires
unreachable-requires c =
    let many : most_processes ≤ length c.args.world.now.processes =
    subst (λ n. 256 ≤ n) (c.len.ensures ∙ c.in-Ok.numbers.ok.0 ∙ c.in-Ok.ensures.count) c.if-len-lt-MOST_PROCESSES.false in
    full_worlds_fork_none _ (world_of c.args.world.now) _ c.in-Fork.field-0 many (sym c.action.ensures.action ∙ c.in-Fork.is)
    (sym (ap (λ (done : Answer × WorldState). done.0) c.in-Ok-Okay.ensures.served) ∙ c.in-Ok-Okay.field-0-is)
