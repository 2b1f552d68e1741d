use Rattle.std.proofs.Common.{◌∙◌, ap, map, inl, inr}
use Rattle.std.specs.List.{join_with_byte}
use Rattle.pua_tight.specs.Texts.{lines_text}
use Rattle.pua_tight.proofs.LeftOut.{text_step, text_done}
use Rattle.pua_tight.proofs.text.thinned_text.Goals as goal
use Rattle.pua_tight.proofs.text.thinned_text.Goals.{then-place-gt0+in_ok-push, else-place-gt0}

pub loop-place-init : goal.loop-place-init
loop-place-init c = c.new-text.ensures.items

pub loop-place-preserved : goal.loop-place-preserved
loop-place-preserved c =
    text_step (λ line. line.now) c.deref-line-items.result.now c.args.rules c.args.requests.now c.loop-place.place
    _ _ _ _ _ c.loop-place-test.true c.loop-place.invariant
    (elim c.if-place-gt0.branch [
      | then-place-gt0+in_ok-push w ↦ inl (w.if-place-gt0.true, ap (λ t. t.items) w.text-is ∙ w.in_ok-push.ensures.items)
      | else-place-gt0 w ↦ inr (w.if-place-gt0.false, ap (λ t. t.items) w.text-is)
    ]) (c.as_slice.ensures.value ∙ c.in_ok-line.ensures) c.in_ok-extend_from_slice.ensures.items

pub returns : goal.returns
returns c =
    c.loop-place.invariant
    ∙ text_done (λ line. line.now) c.deref-line-items.result.now c.args.rules c.args.requests.now c.loop-place.place c.loop-place-test.false
    ∙ ap (λ ls. join_with_byte 10 (lines_text c.args.rules c.args.requests.now ls))
    (ap (map (λ line. line.now)) c.deref-line-items.ensures.value ∙ c.in_ok-lines.ensures)
