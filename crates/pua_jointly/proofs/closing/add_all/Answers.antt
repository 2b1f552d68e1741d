use Rattle.pua_jointly.proofs.Common.{◌≡◌, ◌<◌, ◌≤◌, ◌∙◌, ℕ, arith, length, sym, subst, List, false≢true}
use Rattle.std.specs.Prelude.{◌+◌, ◌*◌, ◌/◌, ◌%◌}
use Rattle.std.proofs.lemmas.Grind.{common_steps}
use Rattle.pua_jointly.specs.Closing.{IsClosedAt, room}
use Rattle.pua_jointly.proofs.Gaining.{each_word, still_fewer, up_to}
use Rattle.pua_jointly.proofs.closing.add_all.Goals as goal
use Rattle.pua_jointly.proofs.closing.add_all.Goals.{else-add_row, then-add_row}

pub loop-row-preserved : goal.loop-row-preserved
loop-row-preserved g c =
    let told : List ℕ = c.loop-row.told.items in
    let new : List ℕ = c.add_row.new.told.items in
    let row : ℕ = c.loop-row.row in
    let follows = g.S.Steps.follows c.args.steps.now in
    let columns : ℕ = g.S.Steps.columns c.args.steps.now in
    let inv = c.loop-row.invariant in
    elim c.if-add_row.branch [
      | then-add_row w ↦ record {
        full = c.add_row.ensures.full ∙ inv.full;
        reached = λ from. c.add_row.ensures.reached (inv.reached from);
        same = λ no. absurd (false≢true (sym no ∙ w.is_changed-is));
        closed = λ _ no. absurd (false≢true (sym no ∙ w.is_changed-is));
        fewer = λ _. still_fewer c.loop-row.is_changed c.args.told.now.items told new inv.fewer inv.same
            (c.add_row.ensures.fewer w.if-add_row.true);
      }
      | else-add_row w ↦
          let same : new ≡ told = c.add_row.ensures.same w.if-add_row.false in
          record {
            full = c.add_row.ensures.full ∙ inv.full;
            reached = λ from. c.add_row.ensures.reached (inv.reached from);
            same = λ no. same ∙ inv.same (sym w.is_changed-is ∙ no);
            closed = λ from no. up_to
                (λ r. (column : ℕ) → column < columns → r * columns + column < length new → IsClosedAt follows new (r * columns + column)) row
                (c.add_row.ensures.closed (inv.reached from) w.if-add_row.false)
                (subst (λ xs. (r : ℕ) → r < row → (column : ℕ) → column < columns → r * columns + column < length xs →
                IsClosedAt follows xs (r * columns + column)) (sym same) (inv.closed from (sym w.is_changed-is ∙ no)));
            fewer = λ yes. subst (λ xs. room xs < room c.args.told.now.items) (sym same) (inv.fewer (sym w.is_changed-is ∙ yes));
          }
    ]

pub returns-clause-closed : goal.returns-clause-closed
returns-clause-closed g c = λ from full no at low.
    let columns : ℕ = g.S.Steps.columns c.args.steps.now in
    let inv = c.loop-row.invariant in
    let past : c.args.rows ≤ c.loop-row.row = grind (arith, common_steps) in
    let place = each_word c.args.rows columns at (subst (λ n. at < n) (inv.full ∙ full) low) in
    let below = place.0 in
    subst (IsClosedAt (g.S.Steps.follows c.args.steps.now) c.loop-row.told.items) place.2
    (inv.closed from no (at / columns) (omega (arith, below, past)) (at % columns) place.1
    (subst (λ n. n < length c.loop-row.told.items) (sym place.2) low))
