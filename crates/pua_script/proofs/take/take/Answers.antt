use Rattle.pua_script.proofs.Common.{◌≡◌, ◌∷◌, [], sym, ap, ◌∙◌, refl, Ok, Err, same_Some}
use Rattle.pua_script.proofs.Common.{may_any, TakeFile, come_of, World, is_pledged, Okay}
use Rattle.pua_calls.specs.Promises.{recvfd}
use Rattle.pua_script.specs.declared.answer.Answer.TheVariants.{Failed}
use Rattle.pua_script.specs.declared.request.Action.TheVariants.{Take}
use Rattle.pua_script.proofs.Doing.{as_same, promises_refuse}
use Rattle.pua_script.proofs.Serving.{serves, takes, sent_seen, unserved, same_entries}
use Rattle.pua_script.proofs.take.take.Goals as goal

pub returns-then-ended-clause-served : goal.returns-then-ended-clause-served
returns-then-ended-clause-served c = λ t table.
    let p = c.in-Some-get_mut.asker.now in
    unserved table t c.args.processes.now.entries
    (record { process = c.args.process; action = Take c.args.taking.number c.args.taking.from c.args.taking.theirs }) p _
    c.in-Some-get_mut.ensures.value (sym c.ended.ensures.state ∙ c.if-ended.true) (c.get_mut.follows.holds p).0

pub returns-in-Err-clause-served : goal.returns-in-Err-clause-served
returns-in-Err-clause-served c = λ t table.
    let p = c.in-Some-get_mut.asker.now in
    let w : World = record { tree = t; processes = c.args.processes.now.entries } in
    serves table t c.args.processes.now.entries
    (record { process = c.args.process; action = Take c.args.taking.number c.args.taking.from c.args.taking.theirs }) p
    (sym c.in-Some-get_mut.ensures.value) (sym c.ended.ensures.state ∙ c.if-ended.false) c.refuse.result t c.refuse.new.process _
    (c.get_mut.follows.holds c.refuse.new.process).0 (as_same t t p _ _ _ _
    (ap (come_of w p) (promises_refuse (may_any p (recvfd ∷ [])) c.in-Err.refusal
    (Ok (TakeFile c.args.taking.number c.args.taking.from c.args.taking.theirs)) (sym c.in-Err.ensures.state)))
    (c.refuse.ensures t))

pub returns-in-Ok-open_at-clause-served : goal.returns-in-Ok-open_at-clause-served
returns-in-Ok-open_at-clause-served c = λ t table.
    let entries = c.args.processes.now.entries in
    let p = c.in-Some-get_mut.asker.now in
    let same : c.in-Some.asker.now ≡ p = same_Some _ p (c.in-Some.ensures.value ∙ sym c.in-Some-get_mut.ensures.value) in
    let sent = sent_seen p c.get-2.result entries c.is_pledged.result c.args.taking.from c.args.taking.theirs c.sent_by-sent.result
    c.sent_by-sent.ensures (c.is_pledged.ensures ∙ ap is_pledged same) c.get-2.ensures.value in
    takes table t entries c.args.process c.args.taking.number c.args.taking.from c.args.taking.theirs p c.open_at.new.self (Ok c.in-Ok.file)
    Okay _ (sym c.in-Some-get_mut.ensures.value) (sym c.ended.ensures.state ∙ c.if-ended.false) (sym c.in_default-promised.ensures.state)
    (sent ∙ c.in-Ok.is) (record { told = refl; left = refl; is = c.in-Ok-open_at.ensures.state; alone = refl })
    (c.get_mut.follows.holds c.open_at.new.self).0

pub returns-in-Err-open_at-clause-unchanged : goal.returns-in-Err-open_at-clause-unchanged
returns-in-Err-open_at-clause-unchanged c =
    same_entries c.args.process c.in-Some-get_mut.asker.now c.open_at.new.self c.args.processes.now.entries _
    c.in-Some-get_mut.ensures.value (c.get_mut.follows.holds c.open_at.new.self).0 c.in-Err-open_at.ensures.unchanged

pub returns-in-Err-sent-clause-served : goal.returns-in-Err-sent-clause-served
returns-in-Err-sent-clause-served c = λ t table.
    let entries = c.args.processes.now.entries in
    let p = c.in-Some-get_mut.asker.now in
    let same : c.in-Some.asker.now ≡ p = same_Some _ p (c.in-Some.ensures.value ∙ sym c.in-Some-get_mut.ensures.value) in
    let sent = sent_seen p c.get-2.result entries c.is_pledged.result c.args.taking.from c.args.taking.theirs c.sent_by-sent.result
    c.sent_by-sent.ensures (c.is_pledged.ensures ∙ ap is_pledged same) c.get-2.ensures.value in
    takes table t entries c.args.process c.args.taking.number c.args.taking.from c.args.taking.theirs p p (Err c.in-Err-sent.errno)
    (Failed c.in-Err-sent.errno) _ (sym c.in-Some-get_mut.ensures.value) (sym c.ended.ensures.state ∙ c.if-ended.false)
    (sym c.in_default-promised.ensures.state) (sent ∙ c.in-Err-sent.is)
    (record { told = refl; left = refl; is = refl; alone = refl }) (c.get_mut.follows.holds p).0
