-- A walk that has gone to the word with one letter more.
use Rattle.pua_steps.proofs.Common.{call_count, ℕ, ◌+◌, ◌-◌, ◌<◌, ◌≤◌, ◌≡◌, ◌^◌, List, [], ◌∷◌, ◌++◌, true, ap, arith, sym, ◌∙◌, length, subst}
use Rattle.pua_steps.proofs.Common.{vec_capacity, length_push, IfSome, IsTable, IsState, AreListsOf, IsOpen, IsSized, live_of, AreOpen}
use Rattle.pua_steps.proofs.Common.{IsReady, Frame, Steps, Lists, Walk}
use Rattle.pua_steps.specs.declared.live.Live as table
use Rattle.pua_steps.proofs.Base.{all_pushed}

pub entered_ready : (t : Steps) (v : table.Live) (ls : Lists) (limit : ℕ) (word : List ℕ) (front : List Frame) (f : Frame) (letter : ℕ)
    (b : Walk) → IsTable t → IsSized t v limit → AreListsOf t v limit ls → AreOpen t ls front → IsOpen t ls f → b.calls < 2 ^ call_count
    → IfSome b.behind (λ s. IsState t s × (live_of v (limit - length word - 1) s ≡ true)) → length front ≡ length word → length word < limit
    → b.tables.steps ≡ t → b.tables.live ≡ v → b.tables.counted.lists ≡ ls → b.limit ≡ limit → limit ≤ vec_capacity b.word →
    limit ≤ vec_capacity b.frames → b.word.items ≡ word ++ letter ∷ [] → b.frames.items ≡ front ++ f ∷ [] → b.unchanged ≤ length word →
    IsReady b
entered_ready t v ls limit word front f letter b known sized listed opens waits few behind even short steps live lists limits words frames
    longer pushed stay =
    let many : length b.word.items ≡ length word + 1 = ap length longer ∙ length_push word letter in
    let left : limit - length word - 1 ≡ b.limit - length b.word.items = omega (arith, many, limits) in
    let moved : IfSome b.behind (λ s. IsState t s × (live_of v (b.limit - length b.word.items) s ≡ true)) =
    subst (λ n. IfSome b.behind (λ s. IsState t s × (live_of v n s ≡ true))) left behind in
    record {
      sound = record {
        table = subst IsTable (sym steps) known;
        sized = subst (λ (t : Steps). IsSized t b.tables.live b.limit) (sym steps)
            (subst (λ (v : table.Live). IsSized t v b.limit) (sym live) (subst (λ n. IsSized t v n) (sym limits) sized));
        listed = subst (λ (t : Steps). AreListsOf t b.tables.live b.limit b.tables.counted.lists) (sym steps)
            (subst (λ (v : table.Live). AreListsOf t v b.limit b.tables.counted.lists) (sym live)
            (subst (λ n. AreListsOf t v n b.tables.counted.lists) (sym limits) (subst (AreListsOf t v limit) (sym lists) listed)));
        room = record { words = omega (arith, words, limits); frames = omega (arith, frames, limits) };
      };
      states = subst (λ (t : Steps). AreOpen t b.tables.counted.lists b.frames.items) (sym steps)
          (subst (λ (ls : Lists). AreOpen t ls b.frames.items) (sym lists)
          (subst (AreOpen t ls) (sym pushed) (all_pushed (λ g. IsOpen t ls g) front f opens waits)));
      calls = few;
      behind = subst (λ (t : Steps). IfSome b.behind (λ s. IsState t s × (live_of b.tables.live (b.limit - length b.word.items) s ≡ true)))
          (sym steps) (subst (λ (v : table.Live). IfSome b.behind (λ s. IsState t s × (live_of v (b.limit - length b.word.items) s ≡ true)))
          (sym live) moved);
      framed = omega (arith, many, ap length pushed, length_push front f, even);
      within = omega (arith, many, short, limits);
      unchanged = omega (arith, many, stay);
    }
