use Rattle.std.proofs.Common.{◌∙◌, ap, subst, take, List}
use Rattle.pua_script.specs.Requests.{Asked}
use Rattle.pua_script.specs.Replay.{World, answers_to, new_world}
use Rattle.pua_tight.specs.Starts.{IsStart}
use Rattle.pua_tight.specs.Uses.{first_other}
use Rattle.pua_tight.proofs.Starts.{piece_before}
use Rattle.pua_tight.proofs.WithoutSeveral.{no_other}
use Rattle.pua_tight.proofs.trial.other_without.Goals as goal

pub returns-then-not-has_piece-clause-other : goal.returns-then-not-has_piece-clause-other
returns-then-not-has_piece-clause-other c = λ same is.
    no_other c.args.wanted.now.table.now (new_world c.args.wanted.now.tree) c.args.wanted.now.answers.items c.args.trial.now.line c.args.trial.now.piece
    c.args.requests.now.items c.as_slice.result.now c.as_slice.ensures.value
    (c.has_piece.ensures c.if-not-has_piece.true) same

pub returns-clause-other : goal.returns-clause-other
returns-clause-other c = λ same is.
    let table = c.args.wanted.now.table.now in
    let w : World = new_world c.args.wanted.now.tree in
    let asks : List Asked = c.args.requests.now.items in
    let near = subst (λ (l : List Asked). IsStart table w l c.args.start.now → IsStart table w l c.go_near.new.self) c.as_slice-2.ensures.value
    c.in_ok-go_near.ensures.start is in
    let less = c.as_slice-3.ensures.value ∙ c.leave_out-kept.ensures.left in
    c.in_ok-other.ensures asks same near
    (ap (take c.go_near.new.self.line) less
    ∙ piece_before c.go_near.new.self.line c.args.trial.now.line c.args.trial.now.piece asks c.in_ok-go_near.ensures.before)
    ∙ ap (λ l. first_other (answers_to table w l) c.args.wanted.now.answers.items) less

pub returns-clause-start : goal.returns-clause-start
returns-clause-start c =
    subst (λ (l : List Asked). IsStart c.args.wanted.now.table.now (new_world c.args.wanted.now.tree) l c.args.start.now →
    IsStart c.args.wanted.now.table.now (new_world c.args.wanted.now.tree) l c.go_near.new.self) c.as_slice-2.ensures.value
    c.in_ok-go_near.ensures.start
