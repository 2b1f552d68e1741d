-- Sets of bits, and what words and letters give one after another.
use Rattle.pua_calls.proofs.Common.{◌≡◌, ℕ, ◌<◌, ◌≤◌, List, ◌∷◌, length, get_or, drop, refl, sym, ap, ◌∙◌, arith, map, bit_at, bit_or}
use Rattle.pua_calls.proofs.Common.{Option, Some, None, Result, Ok, Err, union_of}
use Rattle.std.proofs.Common.{◌+◌, max}
use Rattle.std.proofs.lemmas.Nat.Bits.{bit_at_or, same_from_bits}
use Rattle.std.proofs.lemmas.List.{at_drop_more, at_drop_all}
use Rattle.std.specs.Int.Bits.{or_zero_r}
use Rattle.pua_calls.specs.Promises.{union_or_fault}
use Rattle.pua_path.specs.declared.errno.Errno.{Errno}
use Rattle.pua_path.specs.declared.errno.Errno.TheVariants.{EINVAL}

pub or_assoc : (a b c : ℕ) → bit_or (bit_or a b) c ≡ bit_or a (bit_or b c)
or_assoc a b c = same_from_bits _ _ (λ i.
    let turned : max (max (bit_at a i) (bit_at b i)) (bit_at c i) ≡ max (bit_at a i) (max (bit_at b i) (bit_at c i)) = omega arith in
    bit_at_or (bit_or a b) c i ∙ ap (λ x. max x (bit_at c i)) (bit_at_or a b i) ∙ turned
    ∙ ap (max (bit_at a i)) (sym (bit_at_or b c i)) ∙ sym (bit_at_or a (bit_or b c) i))

joined_assoc : (a b : ℕ) (more : Result ℕ Errno) → union_or_fault a (union_or_fault b more) ≡ union_or_fault (bit_or a b) more
joined_assoc a b (Ok more) = ap Ok (sym (or_assoc a b more))
joined_assoc a b (Err errno) = refl

module _ {A : Type 0} (member : A → Option ℕ) where
  -- a set and what the items give from a place on
  abbrev pub with_rest : List A → ℕ → ℕ → Result ℕ Errno
  with_rest items set n = union_or_fault set (union_of (map member (drop n items)))

  -- an item that is known is taken in
  pub with_rest-known : (items : List A) (set bits n : ℕ) (item default : A) → (n < length items) × (item ≡ get_or items n default) →
      member item ≡ Some bits →
      with_rest items set n ≡ with_rest items (bit_or set bits) (n + 1)
  with_rest-known items set bits n item default at e =
      at_drop_more (λ rest. union_or_fault set (union_of (map member rest))) items n default at.0
      ∙ ap (λ x. union_or_fault set (union_of (map member (x ∷ drop (n + 1) items)))) (sym at.1)
      ∙ ap (λ m. union_or_fault set (union_of (m ∷ map member (drop (n + 1) items)))) e
      ∙ joined_assoc set bits (union_of (map member (drop (n + 1) items)))

  -- one that is unknown refuses all
  pub with_rest-unknown : (items : List A) (set n : ℕ) (item default : A) → (n < length items) × (item ≡ get_or items n default) →
      member item ≡ None →
      with_rest items set n ≡ Err EINVAL
  with_rest-unknown items set n item default at e =
      at_drop_more (λ rest. union_or_fault set (union_of (map member rest))) items n default at.0
      ∙ ap (λ x. union_or_fault set (union_of (map member (x ∷ drop (n + 1) items)))) (sym at.1)
      ∙ ap (λ m. union_or_fault set (union_of (m ∷ map member (drop (n + 1) items)))) e

  -- behind the last there is nothing more
  pub with_rest-end : (items : List A) (set n : ℕ) → length items ≤ n → with_rest items set n ≡ Ok set
  with_rest-end items set n e = at_drop_all (λ rest. union_or_fault set (union_of (map member rest))) items n e ∙ ap Ok (or_zero_r set)
