-- There are as many different stages in a list as there are cells at which one of them stands.
use Rattle.pua_audit.proofs.Common.{ℕ, zero, suc, ◌*◌, ◌-◌, ◌<◌, ◌≤◌, ◌≡◌, List, [], ◌∷◌, Bool, true, false, ◌||◌, cond, refl, ap, arith}
use Rattle.pua_audit.proofs.Common.{sym, ◌∙◌, length, get_or, inl, inr, cases_eq, or_left, or_right, AllByRecursion, AreApart, Stage}
use Rattle.pua_audit.proofs.Common.{same_stage, unique_keys}
use Rattle.pua_steps.proofs.ForCallers.{total_same}
use Rattle.pua_steps.specs.Reached.{count, total}
use Rattle.pua_audit.proofs.Stages.{is_staged}
use Rattle.pua_audit.proofs.Unique.{one_stage, staged_itself, staged_more}

-- sums

total_none : (n : ℕ) → total (λ _. 0) n ≡ 0
total_none zero = refl
total_none (suc n) = omega (arith, total_none n)

-- of numbers of which one is one more than among others
total_more : (f g : ℕ → ℕ) (a n : ℕ) → a < n → f a ≡ suc (g a) → ((i : ℕ) → i < n → (i ≡ a → ⊥) → f i ≡ g i) →
    total f n ≡ suc (total g n)
total_more f g a zero low more same = absurd (omega (arith, low))
total_more f g a (suc n) low more same = elim (cases_eq n a) [
  | inl here ↦ omega (
    arith,
    total_same f g n (λ i h. same i (omega (arith, h)) (λ e. omega (arith, e, here, h))),
    ap f here ∙ more ∙ ap (λ i. suc (g i)) (sym here),
  )
  | inr away ↦ omega (arith, total_more f g a n (omega (arith, low, away)) more (λ i h. same i (omega (arith, h))), same n (omega arith) away)
]

pub total_le : (f : ℕ → ℕ) (k n : ℕ) → ((i : ℕ) → f i ≤ k) → total f n ≤ n * k
total_le f k zero each = omega arith
total_le f k (suc n) each = omega (arith, total_le f k n each, each n)

abbrev pub one_if : Bool → ℕ
one_if b = cond b 1 0

one_if-le : (b : Bool) → one_if b ≤ 1
one_if-le true = omega arith
one_if-le false = omega arith

-- members

pub all_staged : (P : Stage → Type 0) (xs : List Stage) → ((y : Stage) → is_staged y xs ≡ true → P y) → AllByRecursion P xs
all_staged P [] each = tt
all_staged P (x ∷ xs) each = (
  each x (or_left (same_stage x x) (is_staged x xs) (staged_itself x)),
  all_staged P xs (λ y there. each y (or_right (same_stage y x) (is_staged y xs) there)),
)

unlike : (y x : Stage) → (y ≡ x → ⊥) → same_stage y x ≡ false
unlike y x away = elim (same_stage y x) as (λ b. same_stage y x ≡ b → b ≡ false) [
  | true ↦ λ e. absurd (away (one_stage y x e))
  | false ↦ λ _. refl
] refl

-- a stage by the letters before it, the place of its directory, and its links
pub record IsCell (names : List ℕ) (layers limit most : ℕ) (y : Stage) : Type 0 where
  pub before : ℕ
  pub place : ℕ
  pub low : before < layers
  pub there : place < length names
  pub few : y.links < most
  pub dir : y.dir ≡ get_or names place 0
  pub left : y.left ≡ limit - before

module _ (names : List ℕ) (layers limit most : ℕ) where
  abbrev pub cell : ℕ → ℕ → ℕ → Stage
  cell n d u = record { dir = get_or names d 0; links = u; left = limit - n }

  abbrev pub summed : (Stage → Bool) → ℕ
  summed f = total (λ n. total (λ d. total (λ u. one_if (f (cell n d u))) most) (length names)) layers

  pub by_cells : (f : Stage → Bool) (p : ℕ → ℕ → ℕ → Bool) →
      ((n d u : ℕ) → n < layers → d < length names → u < most → f (cell n d u) ≡ p n d u)
      → summed f ≡ total (λ n. total (λ d. count (λ u. p n d u) most) (length names)) layers
  by_cells f p same =
      total_same (λ n. total (λ d. total (λ u. one_if (f (cell n d u))) most) (length names))
      (λ n. total (λ d. count (λ u. p n d u) most) (length names)) layers
      (λ n low. total_same (λ d. total (λ u. one_if (f (cell n d u))) most) (λ d. count (λ u. p n d u) most) (length names)
      (λ d there. total_same (λ u. one_if (f (cell n d u))) (λ u. one_if (p n d u)) most
      (λ u few. ap one_if (same n d u low there few))))

  pub summed-le : (f : Stage → Bool) → summed f ≤ layers * (length names * most)
  summed-le f =
      total_le (λ n. total (λ d. total (λ u. one_if (f (cell n d u))) most) (length names)) (length names * most) layers
      (λ n. total_le (λ d. total (λ u. one_if (f (cell n d u))) most) most (length names)
      (λ d. omega (arith, total_le (λ u. one_if (f (cell n d u))) 1 most (λ u. one_if-le (f (cell n d u))))))

  summed_none : summed (λ _. false) ≡ 0
  summed_none = (λ i. total (λ n. total (λ d. total_none most i) (length names)) layers) ∙ (λ i. total (λ n. total_none (length names) i) layers) ∙ total_none layers

  module _ (short : layers ≤ suc limit) (apart : AreApart names) where
    -- one stage more is one cell more
    summed_more : (x : Stage) (xs : List Stage) → IsCell names layers limit most x → is_staged x xs ≡ false →
        summed (λ y. same_stage y x || is_staged y xs) ≡ suc (summed (λ y. is_staged y xs))
    summed_more x xs at off =
        total_more (λ n. total (λ d. total (with_x n d) most) (length names)) (λ n. total (λ d. total (without_x n d) most) (length names)) at.before layers at.low
        (total_more (λ d. total (with_x at.before d) most) (λ d. total (without_x at.before d) most) at.place (length names) at.there
        (total_more (with_x at.before at.place) (without_x at.before at.place) x.links most at.few
        (ap one_if (ap (λ b. b || is_staged (cell at.before at.place x.links) xs) (ap (λ y. same_stage y x) same ∙ staged_itself x))
        ∙ sym (ap (λ y. suc (one_if (is_staged y xs))) same ∙ ap (λ b. suc (one_if b)) off))
        (λ u _ away. elsewhere at.before at.place u (λ e. away (ap (λ (y : Stage). y.links) e))))
        (λ d h away. total_same (with_x at.before d) (without_x at.before d) most
        (λ u _. elsewhere at.before d u (λ e. away (apart d at.place h at.there (ap (λ (y : Stage). y.dir) e ∙ at.dir))))))
        (λ n h away. total_same (λ d. total (with_x n d) most) (λ d. total (without_x n d) most) (length names)
        (λ d _. total_same (with_x n d) (without_x n d) most
        (λ u _. elsewhere n d u (λ e. away (omega (arith, h, at.low, short, at.left, ap (λ (y : Stage). y.left) e))))))
      where
        with_x : ℕ → ℕ → ℕ → ℕ
        with_x n d u = one_if (same_stage (cell n d u) x || is_staged (cell n d u) xs)

        without_x : ℕ → ℕ → ℕ → ℕ
        without_x n d u = one_if (is_staged (cell n d u) xs)

        same : cell at.before at.place x.links ≡ x
        same i = record { dir = sym at.dir i; links = x.links; left = sym at.left i }

        elsewhere : (n d u : ℕ) → (cell n d u ≡ x → ⊥) → with_x n d u ≡ without_x n d u
        elsewhere n d u away = ap (λ b. one_if (b || is_staged (cell n d u) xs)) (unlike (cell n d u) x away)

    pub counted : (xs : List Stage) → AllByRecursion (IsCell names layers limit most) xs →
        length (unique_keys same_stage xs) ≡ summed (λ y. is_staged y xs)
    counted [] all = sym summed_none
    counted (x ∷ xs) all =
        elim (is_staged x xs) as (λ b. is_staged x xs ≡ b →
        length (cond b (unique_keys same_stage xs) (x ∷ unique_keys same_stage xs)) ≡ summed (λ y. same_stage y x || is_staged y xs)) [
          | true ↦ λ there. counted xs all.1 ∙ ap summed (λ i y. sym (staged_more y x xs there) i)
          | false ↦ λ off. ap suc (counted xs all.1) ∙ sym (summed_more x xs all.0 off)
        ] refl
