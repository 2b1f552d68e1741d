use Rattle.pua_tool.proofs.Common.{◌≡◌, ◌∙◌, ap, subst, sym}
use Rattle.pua_calls.proofs.ForCallers.{has_none}
use Rattle.pua_calls.specs.CallSets.{has}
use Rattle.pua_ever.specs.Ever.{Thing}
use Rattle.pua_ever.specs.EverList.{IsAboutOn, own_name, subject_at, thing_by}
use Rattle.pua_tool.specs.RowColumns.{is_now_on}
use Rattle.pua_ever.proofs.ForCallers.{by_standing}
use Rattle.pua_tool.proofs.RowColumns.{now_freed, now_made}
use Rattle.pua_tool.proofs.row.calls_now.Goals as goal

pub returns-in-Stands : goal.returns-in-Stands
returns-in-Stands c = λ t about on is call.
    let h = c.args.process.now in
    let table = c.args.table.now in
    let row = c.args.row.now in
    by_standing t h about c.in-Stands.object c.in-Stands.cover (λ (a : Thing). has c.standing_now.result call ≡ is_now_on t table h a call)
    (subject_at t (own_name row) c.in-Stands.place) (λ subject at standing. c.standing_now.ensures t subject at standing call)
    (subst (IsAboutOn t h (own_name row)) c.in-Stands.is on.0)
    (ap (thing_by t (own_name row)) (sym c.in-Stands.is) ∙ is)

pub returns-in-Freed : goal.returns-in-Freed
returns-in-Freed c = λ t about on is call.
    let row = c.args.row.now in
    has_none call ∙ now_freed t c.args.table.now c.args.process.now c.in-Freed.field-0 (own_name row) about
    (subst (IsAboutOn t c.args.process.now (own_name row)) c.in-Freed.is on.0) (ap (thing_by t (own_name row)) (sym c.in-Freed.is) ∙ is) call

pub returns-in-Comes : goal.returns-in-Comes
returns-in-Comes c = λ t about on is call.
    let row = c.args.row.now in
    has_none call ∙ now_made t c.args.table.now c.args.process.now c.in-Comes.field-0 (own_name row) about
    (ap (thing_by t (own_name row)) (sym c.in-Comes.is) ∙ is) call
