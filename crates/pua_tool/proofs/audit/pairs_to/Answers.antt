use Rattle.pua_tool.proofs.Common.{map, line_seen}
use Rattle.pua_tool.proofs.Common.{◌≡◌, ℕ, List, ◌++◌, Ok, Err, ap, subst, sym, ◌∙◌, err_from_is_err_and, ◌>>=◌, kept_at, Tells, as_audit}
use Rattle.pua_tool.proofs.Common.{as_replayed, NoText}
use Rattle.std.specs.Prelude.{ok_or}
use Rattle.pua_texts.specs.Lines.{front_of, pair_lines}
use Rattle.pua_tool.specs.Texts.{beginning_of, pairs_after, wants_of}
use Rattle.pua_tool.specs.declared.fault.ToolFault.TheVariants.{NoProcess}
use Rattle.pua_tool.proofs.TextAnswers.{first_refuses, next_answers}
use Rattle.pua_tool.proofs.audit.pairs_to.Goals as goal

pub returns-in_err-list : goal.returns-in_err-list
returns-in_err-list g c =
    let done = as_replayed c.args.replay.now in
    let w = wants_of c.args.job.now in
    let h = c.in-Some.process.now in
    let p = err_from_is_err_and c.from_residual.result c.from_residual.ensures.1 in
    rw (p.1, p.2) (next_answers g.S.Sink.written g.S.Sink.failed (ok_or (kept_at done.world w.process) NoProcess)
    (λ h. as_audit (beginning_of done.world.tree done.table h w) >>= λ b. Ok (pairs_after w done.answers b)) h
    (Err (NoText c.in_err-list.field-0.0)) c.args.sink.now c.args.sink.now (ap (λ made. ok_or made NoProcess) (sym c.in-Some.ensures))
    (first_refuses g.S.Sink.written g.S.Sink.failed (as_audit (beginning_of done.world.tree done.table h w))
    (λ b. Ok (pairs_after w done.answers b)) c.in_err-list.field-0.0 c.args.sink.now (λ other. (λ i. as_audit (beginning_of (sym c.tree.ensures i) (sym c.table.ensures i) h w)) ∙ c.in_err-list.ensures.refused other)))

pub returns : goal.returns
returns g c =
    let done = as_replayed c.args.replay.now in
    let w = wants_of c.args.job.now in
    let h = c.in-Some.process.now in
    let begins = c.in_ok-list.ensures.begun in
    let b = begins.0 in
    let same : beginning_of done.world.tree done.table h w ≡ Ok b =
    (λ i. beginning_of (sym c.tree.ensures i) (sym c.table.ensures i) h w) ∙ begins.1 in
    let front : c.as_str.result.now ≡ front_of w.after w.process done.answers = c.as_str.ensures.value ∙ c.in_ok-front.ensures ∙
    ap (λ told. front_of w.after w.process (map line_seen told)) c.as_slice.ensures.value in
    let text = pairs_after w done.answers b in
    let written : Tells text c.write_audit.result (g.S.Sink.written c.args.sink.now) (g.S.Sink.written c.write_audit.new.sink)
    (g.S.Sink.failed c.args.sink.now) (g.S.Sink.failed c.write_audit.new.sink) =
    subst (λ (t : List ℕ). Tells t c.write_audit.result (g.S.Sink.written c.args.sink.now) (g.S.Sink.written c.write_audit.new.sink)
    (g.S.Sink.failed c.args.sink.now) (g.S.Sink.failed c.write_audit.new.sink))
    (λ i. front i ++ pair_lines (begins.3 i) (begins.2 i))
    c.write_audit.ensures in
    next_answers g.S.Sink.written g.S.Sink.failed (ok_or (kept_at done.world w.process) NoProcess)
    (λ h. as_audit (beginning_of done.world.tree done.table h w) >>= λ b. Ok (pairs_after w done.answers b)) h c.told.result c.args.sink.now
    c.write_audit.new.sink (ap (λ made. ok_or made NoProcess) (sym c.in-Some.ensures))
    (next_answers g.S.Sink.written g.S.Sink.failed (as_audit (beginning_of done.world.tree done.table h w))
    (λ b. Ok (pairs_after w done.answers b)) b c.told.result c.args.sink.now c.write_audit.new.sink (ap as_audit same)
    (c.told.ensures text (g.S.Sink.written c.args.sink.now) (g.S.Sink.written c.write_audit.new.sink) (g.S.Sink.failed c.args.sink.now)
    (g.S.Sink.failed c.write_audit.new.sink) written))
