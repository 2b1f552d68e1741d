-- What is known of tables is known of the same tables with another count.
use Rattle.pua_steps.proofs.Common.{ℕ, ◌≡◌, List, sym, subst, IsTable, AreListsOf, IsSized, AreOpen, Frame, Steps, Lists}
use Rattle.pua_steps.specs.declared.live.Live as table

module _ (t u : Steps) (v w : table.Live) (ls ms : Lists) (steps : u ≡ t) (live : w ≡ v) (lists : ms ≡ ls) where
  pub moved_table : IsTable t → IsTable u
  moved_table h = subst IsTable (sym steps) h

  pub moved_sized : (n : ℕ) → IsSized t v n → IsSized u w n
  moved_sized n h = subst (λ (t : Steps). IsSized t w n) (sym steps) (subst (λ (v : table.Live). IsSized t v n) (sym live) h)

  pub moved_listed : (n : ℕ) → AreListsOf t v n ls → AreListsOf u w n ms
  moved_listed n h = subst (λ (t : Steps). AreListsOf t w n ms) (sym steps) (subst (λ (v : table.Live). AreListsOf t v n ms) (sym live)
      (subst (λ (ls : Lists). AreListsOf t v n ls) (sym lists) h))

  pub moved_open : (frames : List Frame) → AreOpen t ls frames → AreOpen u ms frames
  moved_open frames h = subst (λ (t : Steps). AreOpen t ms frames) (sym steps) (subst (λ (ls : Lists). AreOpen t ls frames) (sym lists) h)
