-- Lists that have each thing once, and at which places of a joined list its things are.
use Rattle.pua_jointly.proofs.Common.{◌≡◌, ◌⊎◌, ◌∷◌, ◌++◌, [], ℕ, zero, suc, List, length, map, refl, inl, inr, arith}
use Rattle.pua_jointly.proofs.Common.{Some, same_Some, None≢Some}
use Rattle.std.specs.Prelude.{slice_get, ◌+◌}
use Rattle.std.proofs.lemmas.List.{length-map}

-- what is at a place of mapped things
pub record Mapped {X Y : Type 0} (f : X → Y) (xs : List X) (i : ℕ) (y : Y) : Type 0 where
  pub at : X
  pub is : slice_get xs i ≡ Some at
  pub gives : f at ≡ y

pub mapped : {X Y : Type 0} (f : X → Y) (xs : List X) (i : ℕ) (y : Y) → slice_get (map f xs) i ≡ Some y → Mapped f xs i y
mapped f [] i y e = absurd (None≢Some y e)
mapped f (x ∷ xs) zero y e = record { at = x; is = refl; gives = same_Some (f x) y e }
mapped f (x ∷ xs) (suc i) y e = let m = mapped f xs i y e in record { at = m.at; is = m.is; gives = m.gives }

-- what is at a place of two lists together is in one of them
pub record Behind {X : Type 0} (before : ℕ) (xs : List X) (i : ℕ) (x : X) : Type 0 where
  pub at : ℕ
  pub place : i ≡ before + at
  pub is : slice_get xs at ≡ Some x

pub side : {X : Type 0} (xs ys : List X) (i : ℕ) (x : X) → slice_get (xs ++ ys) i ≡ Some x →
    (slice_get xs i ≡ Some x) ⊎ Behind (length xs) ys i x
side [] ys i x e = inr (record { at = i; place = omega arith; is = e })
side (z ∷ xs) ys zero x e = inl e
side (z ∷ xs) ys (suc i) x e = elim (side xs ys i x e) [
  | inl a ↦ inl a
  | inr b ↦ (let here = b.place in inr (record { at = b.at; place = omega (arith, here); is = b.is }))
]

pub mapped_or : {X Y : Type 0} (f : X → Y) (xs : List X) (ys : List Y) (many i : ℕ) (y : Y) → many ≡ length xs →
    slice_get (map f xs ++ ys) i ≡ Some y → Mapped f xs i y ⊎ Behind many ys i y
mapped_or f xs ys many i y as_many e = elim (side (map f xs) ys i y e) [
  | inl a ↦ inl (mapped f xs i y a)
  | inr b ↦
      (let here = b.place in
      let same = length-map xs f in
      inr (record { at = b.at; place = omega (arith, here, same, as_many); is = b.is }))
]
