use Rattle.pua_jointly.proofs.Common.{◌≡◌, ◌<◌, ◌≤◌, ◌∙◌, ℕ, ap, arith, length, sym, subst, List, false≢true, inl, inr}
use Rattle.std.specs.Prelude.{◌+◌, ◌*◌, ◌^◌}
use Rattle.std.proofs.lemmas.Bool.{cases_lt}
use Rattle.std.proofs.lemmas.Grind.{common_steps}
use Rattle.pua_jointly.specs.Closing.{IsClosedAt, room}
use Rattle.pua_jointly.proofs.Gaining.{never_open, still_fewer, up_to}
use Rattle.pua_jointly.proofs.closing.add_row.Goals as goal
use Rattle.pua_jointly.proofs.closing.add_row.Goals.{else-add_word, then-add_word}

pub loop-column-preserved : goal.loop-column-preserved
loop-column-preserved g c =
    let told : List ℕ = c.loop-column.told.items in
    let new : List ℕ = c.add_word.new.told.items in
    let column : ℕ = c.loop-column.column in
    let follows = g.S.Steps.follows c.args.steps.now in
    let start : ℕ = c.args.row * g.S.Steps.columns c.args.steps.now in
    let inv = c.loop-column.invariant in
    elim c.if-add_word.branch [
      | then-add_word w ↦ record {
        full = c.add_word.ensures.full ∙ inv.full;
        reached = λ from. c.add_word.ensures.reached (inv.reached from);
        same = λ no. absurd (false≢true (sym no ∙ w.is_changed-is));
        closed = λ no. absurd (false≢true (sym no ∙ w.is_changed-is));
        fewer = λ _. still_fewer c.loop-column.is_changed c.args.told.now.items told new inv.fewer inv.same
            (c.add_word.ensures.fewer w.if-add_word.true);
      }
      | else-add_word w ↦
          let same : new ≡ told = c.add_word.ensures.same w.if-add_word.false in
          record {
            full = c.add_word.ensures.full ∙ inv.full;
            reached = λ from. c.add_word.ensures.reached (inv.reached from);
            same = λ no. same ∙ inv.same (sym w.is_changed-is ∙ no);
            closed = λ no. up_to (λ a. start + a < length new → IsClosedAt follows new (start + a)) column
                (λ low.
                let small : length new < 2 ^ 64 = grind (arith, common_steps) in
                let product : c.args.row * c.columns.result ≡ start = ap (λ n. c.args.row * n) c.columns.ensures in
                let first = c.saturating_mul-first.ensures in
                let last = c.saturating_add.ensures in
                let at : c.saturating_add.result ≡ start + column = omega (arith, small, product, first, last, low) in
                subst (IsClosedAt follows new) at
                (c.add_word.ensures.closed w.if-add_word.false (subst (λ n. n < length new) (sym at) low)))
                (subst (λ xs. (a : ℕ) → a < column → start + a < length xs → IsClosedAt follows xs (start + a)) (sym same)
                (inv.closed (sym w.is_changed-is ∙ no)));
            fewer = λ yes. subst (λ xs. room xs < room c.args.told.now.items) (sym same) (inv.fewer (sym w.is_changed-is ∙ yes));
          }
    ]

pub returns-clause-closed : goal.returns-clause-closed
returns-clause-closed g c = λ from no column low within.
    let told : List ℕ = c.loop-column.told.items in
    let follows = g.S.Steps.follows c.args.steps.now in
    let start : ℕ = c.args.row * g.S.Steps.columns c.args.steps.now in
    let inv = c.loop-column.invariant in
    let past : c.width-column-end.result ≤ c.loop-column.column = grind (arith, common_steps) in
    elim (cases_lt column c.width-column-end.result) [
      | inl below ↦ inv.closed no column (omega (arith, below, past)) within
      | inr above ↦ never_open follows told (start + column) (inv.reached from) (c.width-column-end.ensures column above low) within
    ]
