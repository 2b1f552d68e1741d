use Rattle.pua_jointly.proofs.Common.{◌≡◌, ◌≢◌, ◌<◌, ◌∙◌, ℕ, length, sym, ap, subst, arith, List}
use Rattle.std.proofs.Common.{◌^◌, set, get_or}
use Rattle.std.proofs.lemmas.Grind.{common_steps}
use Rattle.std.proofs.lemmas.Nat.{or_of_32}
use Rattle.std.specs.Int.Bits.{bit_or}
use Rattle.pua_jointly.specs.Closing.{AreReached, has_bit, room}
use Rattle.pua_jointly.proofs.Gaining.{closed_at, reached_set, room_set}
use Rattle.pua_jointly.proofs.closing.add_word.Goals as goal

pub returns-then-word-index-clause-closed : goal.returns-then-word-index-clause-closed
returns-then-word-index-clause-closed g c = λ _ low.
    let told : List ℕ = c.args.told.now.items in
    let at : ℕ = c.args.at in
    let word : ℕ = c.next.result in
    let follows = g.S.Steps.follows c.args.steps.now in
    let was : c.index.result.now ≡ get_or told at 0 = grind (arith, common_steps) in
    let held : c.index-2.result.now ≡ get_or told at 0 = grind (arith, common_steps) in
    closed_at follows told at word low
    (subst (λ xs. (bit : ℕ) → follows xs at bit → has_bit (bit_or (get_or xs at 0) word) bit) c.deref.ensures.value c.next.ensures.all)
    (ap (λ n. bit_or n word) (sym was) ∙ c.if-word-index.true ∙ held)

pub returns-clause-reached : goal.returns-clause-reached
returns-clause-reached g c = λ from.
    let told : List ℕ = c.args.told.now.items in
    let at : ℕ = c.args.at in
    let word : ℕ = c.next.result in
    let low : at < length told = grind (arith, common_steps) in
    let follows = g.S.Steps.follows c.args.steps.now in
    let was : c.index.result.now ≡ get_or told at 0 = grind (arith, common_steps) in
    c.add_at_once.ensures.reached (subst (λ n. AreReached follows (set told at (bit_or n word))) (sym was)
    (reached_set follows told at word low
    (subst (λ xs. (bit : ℕ) → has_bit word bit → follows xs at bit) c.deref.ensures.value c.next.ensures.only) from))

pub returns-clause-fewer : goal.returns-clause-fewer
returns-clause-fewer g c = λ _.
    let told : List ℕ = c.args.told.now.items in
    let at : ℕ = c.args.at in
    let word : ℕ = c.next.result in
    let low : at < length told = grind (arith, common_steps) in
    let follows = g.S.Steps.follows c.args.steps.now in
    let was : c.index.result.now ≡ get_or told at 0 = grind (arith, common_steps) in
    let held : c.index-2.result.now ≡ get_or told at 0 = grind (arith, common_steps) in
    let both : bit_or c.index.result.now word ≡ bit_or (get_or told at 0) word = ap (λ n. bit_or n word) was in
    let other : bit_or (get_or told at 0) word ≢ get_or told at 0 = λ same. c.if-word-index.false (both ∙ same ∙ sym held) in
    let small : bit_or (get_or told at 0) word < 2 ^ 32 =
    subst (λ n. n < 2 ^ 32) both (or_of_32 c.index.result.now word (grind (arith, common_steps)) (grind (arith, common_steps))) in
    let less : room (set told at (bit_or c.index.result.now word)) < room told =
    subst (λ n. room (set told at n) < room told) (sym both) (room_set follows told at word low other small) in
    let more = c.add_at_once.ensures.no_more in
    omega (arith, less, more)
