use Rattle.pua_jointly.proofs.Common.{◌∙◌, ◌∷◌, [], ap, length, subst, sym}
use Rattle.std.specs.Prelude.{◌+◌}
use Rattle.std.proofs.lemmas.List.{length-append}
use Rattle.pua_jointly.specs.JointCovers.{AreCallsByCover, AreCallsUnder, cover_of}
use Rattle.pua_jointly.proofs.JointMembers.{each_more}
use Rattle.pua_jointly.proofs.doing.calls_by_cover.Goals as goal

pub loop-bit-preserved : goal.loop-bit-preserved
loop-bit-preserved c =
    let inv = c.loop-bit.invariant in
    let table = c.args.table.now in
    let h = c.args.process.now in
    let one : AreCallsUnder table h (cover_of (length c.loop-bit.calls.items)) c.under.result =
    subst (λ k. AreCallsUnder table h k c.under.result) (c.cover_at.ensures ∙ ap cover_of (sym inv.full)) c.under.ensures in
    record {
      full = ap length c.in_ok-push.ensures.items ∙ length-append c.loop-bit.calls.items (c.under.result ∷ []) ∙ ap (λ n. n + 1) inv.full;
      known = subst (AreCallsByCover table h) (sym c.in_ok-push.ensures.items)
          (each_more (λ bit allowed. AreCallsUnder table h (cover_of bit) allowed) c.loop-bit.calls.items c.under.result inv.known one);
    }
