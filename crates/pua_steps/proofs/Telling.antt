-- What a bound and a list say of an entry.
use Rattle.pua_steps.proofs.Common.{◌≡◌, ◌<◌, ◌≤◌, ℕ, true, false, not, ◌||◌, ◌==◌, nat_lt, sym, ap, ◌∙◌, arith, inl, inr, cases_Bool}
use Rattle.pua_steps.proofs.Common.{cases_eq, eqb-true, lt-ltb, le-ltb, bound_of, is_useful, graph_of, visit_of, Entry, Steps}
use Rattle.std.proofs.Common.{◌≢◌}
use Rattle.std.specs.Prelude.{◌⊎◌}
use Rattle.std.proofs.lemmas.Bool.{eqb-false}
use Rattle.pua_steps.specs.Limits.{most_links}
use Rattle.pua_steps.specs.Telling.{gives, EntriesTell, IsAmong}
use Rattle.pua_steps.specs.declared.live.Live as table
use Rattle.pua_steps.proofs.Filling.{entry_gives}
use Rattle.pua_steps.proofs.Narrowing.{cells, useless}

module _ (t : Steps) (v : table.Live) (limit l : ℕ) (e : Entry) (is : IsAmong t v limit l e) where
  abbrev bound : ℕ
  bound = bound_of v.bounds.items v.dirs l e

  told : (u : ℕ) → u ≤ most_links → gives (graph_of t) l (visit_of u e) ≡ nat_lt u bound
  told u low = entry_gives (graph_of t) v.bounds.items v.dirs l (cells t v limit is.table is.sized l is.left) t u e is.entry is.sized.dirs
      low

  useful_gives : (m : ℕ) → is_useful m v.bounds.items v.dirs l e ≡ true →
      (m ≢ 0) ⊎ ((u : ℕ) × ((u ≤ most_links) × (gives (graph_of t) l (visit_of u e) ≡ true)))
  useful_gives m on =
      elim (cases_Bool (m == 0)) [
        | inr some ↦ inl (eqb-false m 0 some)
        | inl none ↦
            let left : not (bound == 0) ≡ true = ap (λ b. not b || not (bound == 0)) (sym none) ∙ on in
            let above : 0 < bound = elim (cases_eq bound 0) [
              | inl zero_is ↦ (let bad : false ≡ true = ap (λ k. not (k == 0)) (sym zero_is) ∙ left in absurd cc)
              | inr apart ↦ omega (arith, apart)
            ] in
            inr (0, (omega arith, told 0 (omega arith) ∙ lt-ltb 0 bound above))
      ]

  none_missing : (m : ℕ) → is_useful m v.bounds.items v.dirs l e ≡ false → m ≡ 0
  none_missing m off =
      elim (cases_Bool (m == 0)) [
        | inl none ↦ eqb-true m 0 none
        | inr some ↦ (let bad : true ≡ false = ap (λ b. not b || not (bound == 0)) (sym some) ∙ off in absurd cc)
      ]

  useless_gives : (m u : ℕ) → is_useful m v.bounds.items v.dirs l e ≡ false → u ≤ most_links → gives (graph_of t) l (visit_of u e) ≡ false
  useless_gives m u off low = told u low ∙ ap (nat_lt u) (useless m bound off) ∙ le-ltb u 0 (omega arith)

pub entries_tell : EntriesTell
entries_tell = record {
  bound = λ t v limit l u e is low. sym (told t v limit l e is u low);
  useful = λ t v limit l missing e is on. useful_gives t v limit l e is missing on;
  useless = λ t v limit l missing e is off. (
    none_missing t v limit l e is missing off,
    λ u low. useless_gives t v limit l e is missing u off low,
  );
}
