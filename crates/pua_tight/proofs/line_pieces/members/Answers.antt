use Rattle.std.proofs.Common.{◌∙◌, ◌++◌, ◌∷◌, [], sym, ap}
use Rattle.pua_calls.specs.Promises.{promises_of}
use Rattle.pua_tight.proofs.Members.{is_read, next_member, not_member}
use Rattle.pua_tight.proofs.line_pieces.members.Goals as goal
use Rattle.pua_tight.proofs.line_pieces.members.Goals.{in-Ok+in_ok-push, in_default-read}

pub loop-index-preserved-in_default : goal.loop-index-preserved-in_default
loop-index-preserved-in_default c =
    c.loop-index.invariant ∙ sym (not_member c.args.set c.loop-index.index c.loop-index-test.true (sym c.in_default.ensures))

pub loop-index-preserved : goal.loop-index-preserved
loop-index-preserved c =
    elim c.match-read.branch [
      | in-Ok+in_ok-push w ↦
          ap (λ l. l.items) w.bits-is ∙ w.in_ok-push.ensures.items ∙ ap (λ l. l ++ w.in-Ok.bit ∷ []) c.loop-index.invariant
          ∙ next_member c.args.set c.loop-index.index c.loop-index-test.true c.in-Some.keyword.now w.in-Ok.bit (sym c.in-Some.ensures)
          (ap promises_of (sym c.as_bytes.ensures.value) ∙ sym w.in-Ok.ensures)
      | in_default-read w ↦
          absurd (w.in_default-read.not-Ok _ (c.read.ensures ∙ ap promises_of c.as_bytes.ensures.value
          ∙ is_read c.args.set c.loop-index.index c.loop-index-test.true c.in-Some.keyword.now (sym c.in-Some.ensures)))
    ]
