use Rattle.std.proofs.Common.{◌∙◌, ap, not}
use Rattle.pua_script.specs.Replay.{new_world}
use Rattle.pua_tight.proofs.Starts.{near_left, told_near}
use Rattle.pua_tight.proofs.together.try_together.Goals as goal

pub returns-then-is_none-clause-told : goal.returns-then-is_none-clause-told
returns-then-is_none-clause-told c = λ to_try is.
    told_near c.args.wanted.now.table.now (new_world c.args.wanted.now.tree) c.args.wanted.now.answers.items c.args.trials.now c.args.requests.now.items
    c.as_slice.result.now c.as_slice.ensures.value c.first_line.result c.args.start.now c.go_near.new.self
    (c.first_line.ensures c.args.wanted.now.answers.items) c.in_ok-go_near.ensures.start c.in_ok-go_near.ensures.before to_try is
    c.as_slice-2.result.now (c.as_slice-2.ensures.value ∙ c.in_ok-kept.ensures.left) c.in_ok-first_other.field-0 _ c.in_ok-first_other.ensures
    (ap not c.is_none.ensures ∙ ap (λ b. not (not b)) c.if-is_none.true)

pub returns-then-is_none-clause-start : goal.returns-then-is_none-clause-start
returns-then-is_none-clause-start c = λ to_try is.
    near_left c.args.wanted.now.table.now (new_world c.args.wanted.now.tree) c.args.wanted.now.answers.items c.args.trials.now c.args.requests.now.items
    c.as_slice.result.now c.as_slice.ensures.value c.first_line.result c.args.start.now c.go_near.new.self
    (c.first_line.ensures c.args.wanted.now.answers.items) c.in_ok-go_near.ensures.start c.in_ok-go_near.ensures.before to_try is
    _ c.in_ok-kept.ensures.left

pub returns-clause-told : goal.returns-clause-told
returns-clause-told c = λ to_try is.
    told_near c.args.wanted.now.table.now (new_world c.args.wanted.now.tree) c.args.wanted.now.answers.items c.args.trials.now c.args.requests.now.items
    c.as_slice.result.now c.as_slice.ensures.value c.first_line.result c.args.start.now c.go_near.new.self
    (c.first_line.ensures c.args.wanted.now.answers.items) c.in_ok-go_near.ensures.start c.in_ok-go_near.ensures.before to_try is
    c.as_slice-2.result.now (c.as_slice-2.ensures.value ∙ c.in_ok-kept.ensures.left) c.in_ok-first_other.field-0 _ c.in_ok-first_other.ensures
    (ap not c.is_none.ensures ∙ ap (λ b. not (not b)) c.if-is_none.false)
