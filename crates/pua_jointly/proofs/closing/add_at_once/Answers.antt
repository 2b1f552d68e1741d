use Rattle.pua_jointly.proofs.Common.{◌≡◌, ◌<◌, ◌≤◌, ℕ, length, sym, subst, arith, List}
use Rattle.std.proofs.Common.{set, get_or}
use Rattle.std.proofs.lemmas.Grind.{common_steps}
use Rattle.std.specs.Int.Bits.{bit_or}
use Rattle.pua_jointly.specs.Closing.{AreReached, has_bit, room}
use Rattle.pua_jointly.proofs.Gaining.{reached_set, room_kept}
use Rattle.pua_jointly.proofs.closing.add_at_once.Goals as goal

pub returns-clause-reached : goal.returns-clause-reached
returns-clause-reached g c = λ from.
    let told : List ℕ = c.args.told.now.items in
    let at : ℕ = c.args.at in
    let word : ℕ = c.at_once.result in
    let low : at < length told = grind (arith, common_steps) in
    let follows = g.S.Steps.follows c.args.steps.now in
    let was : c.index.result.now ≡ get_or told at 0 = grind (arith, common_steps) in
    subst (λ n. AreReached follows (set told at (bit_or n word))) (sym was)
    (reached_set follows told at word low
    (subst (λ xs. (bit : ℕ) → has_bit word bit → follows xs at bit) c.deref.ensures.value c.at_once.ensures) from)

pub returns-clause-no_more : goal.returns-clause-no_more
returns-clause-no_more g c =
    let told : List ℕ = c.args.told.now.items in
    let at : ℕ = c.args.at in
    let word : ℕ = c.at_once.result in
    let low : at < length told = grind (arith, common_steps) in
    let was : c.index.result.now ≡ get_or told at 0 = grind (arith, common_steps) in
    subst (λ n. room (set told at (bit_or n word)) ≤ room told) (sym was) (room_kept (g.S.Steps.follows c.args.steps.now) told at word low)
