use Rattle.pua_script.proofs.Common.{◌∷◌, [], sym, ap, ◌∙◌, refl, Ok, may_any, proc, CopyAs, come_of, World, Fork}
use Rattle.pua_script.proofs.Doing.{as_same, promises_refuse}
use Rattle.pua_script.proofs.Serving.{serves, forks, fork_fails, unserved, same_entries}
use Rattle.pua_script.proofs.fork.fork.Goals as goal

-- a process that may fork stays as it was, so all do
pub returns-in_default-fork-clause-unchanged : goal.returns-in_default-fork-clause-unchanged
returns-in_default-fork-clause-unchanged c =
    same_entries c.args.number c.in-Some.process.now c.in-Some.process.now c.args.processes.now.entries _ c.in-Some.ensures.value
    (c.get_mut.follows.holds c.in-Some.process.now).0 refl

pub returns-in_default-insert-clause-unchanged : goal.returns-in_default-insert-clause-unchanged
returns-in_default-insert-clause-unchanged c =
    c.in_default-insert.ensures.err
    ∙ same_entries c.args.number c.in-Some.process.now c.in-Some.process.now c.args.processes.now.entries _ c.in-Some.ensures.value
    (c.get_mut.follows.holds c.in-Some.process.now).0 refl

pub returns-in-Err-clause-served : goal.returns-in-Err-clause-served
returns-in-Err-clause-served c = λ t table.
    let p = c.in-Some.process.now in
    let w : World = record { tree = t; processes = c.args.processes.now.entries } in
    serves table t c.args.processes.now.entries (record { process = c.args.number; action = Fork c.args.new }) p (sym c.in-Some.ensures.value)
    (sym c.ended.ensures.state ∙ c.if-ended.false) c.refuse.result t c.refuse.new.process _
    (c.get_mut.follows.holds c.refuse.new.process).0 (as_same t t p _ _ _ _
    (ap (come_of w p) (promises_refuse (may_any p (proc ∷ [])) c.in-Err.refusal (Ok (CopyAs c.args.new)) (sym c.in-Err.ensures.state)))
    (c.refuse.ensures t))

pub returns-clause-served : goal.returns-clause-served
returns-clause-served c = λ t table.
    let there = c.in-Some.ensures.value in
    let same = same_entries c.args.number c.in-Some.process.now c.in-Some.process.now c.args.processes.now.entries _ there
    (c.get_mut.follows.holds c.in-Some.process.now).0 refl in
    forks table t c.args.processes.now.entries c.args.number c.args.new c.in-Some.process.now c.in-Ok-fork.copy _ _
    (sym there) (sym c.ended.ensures.state ∙ c.if-ended.false) (sym c.in-Ok.ensures.state)
    (sym c.is_refused-is_refused.ensures ∙ c.if-is_refused.false) c.in-Ok-fork.ensures same c.in-Ok-insert.ensures.entries

pub returns-then-ended-clause-served : goal.returns-then-ended-clause-served
returns-then-ended-clause-served c = λ t table.
    unserved table t c.args.processes.now.entries (record { process = c.args.number; action = Fork c.args.new }) c.in-Some.process.now _
    c.in-Some.ensures.value (sym c.ended.ensures.state ∙ c.if-ended.true) (c.get_mut.follows.holds c.in-Some.process.now).0

pub returns-then-is_refused-clause-served : goal.returns-then-is_refused-clause-served
returns-then-is_refused-clause-served c = λ t table.
    fork_fails table t c.args.processes.now.entries c.args.number c.args.new c.in-Some.process.now _
    c.in-Some.ensures.value (sym c.ended.ensures.state ∙ c.if-ended.false) (sym c.in-Ok.ensures.state)
    (sym c.is_refused-is_refused.ensures ∙ c.if-is_refused.true) (c.get_mut.follows.holds c.in-Some.process.now).0
