-- Pairs by places of the alphabet and numbers of calls: they come in the order of their letters' bytes.
use Rattle.pua_audit.proofs.Common.{ℕ, ◌+◌, ◌<◌, ◌≡◌, List, [], ◌∷◌, Option, Some, None, Bool, true, false, cond, refl, ap, arith, sym, ◌∙◌}
use Rattle.pua_audit.proofs.Common.{length, map, get_or, option_map, inl, inr, IfSome, cases_lt, tied_itself, nat_list_cmp_total}
use Rattle.pua_audit.proofs.Common.{AllByRecursion, nat_cmp, is_lt, Less, Equal, Greater, name_cmp, bit_of, call_count, Call, Stat, pairs_at}
use Rattle.pua_audit.proofs.Common.{pair_in_numbers, pair_in_letters, Rises, Word, Pair, Scope, pair_cmp, reach, rest_after, word_of}
use Rattle.pua_audit.proofs.Common.{AreLetters, IsPair}
use Rattle.std.proofs.Common.{filter}
use Rattle.std.specs.Cmp.{nat_cmp_is}
use Rattle.std.specs.Cmp.Lexicographic.{slice_cmp}
use Rattle.std.specs.Ordering.{ordering_then}
use Rattle.pua_calls.specs.Calls.{call_number}
use Rattle.pua_calls.proofs.ForCallers.{call_at_bit, bit_of_call_at}
use Rattle.pua_audit.specs.Coming.{call_at, pair_at, pairs_resumed}
use Rattle.pua_audit.specs.Starting.{pair_in}
use Rattle.pua_audit.specs.declared.resume_text.Resumption.{Resumption}
use Rattle.pua_audit.proofs.Placing.{later, turned}
use Rattle.pua_steps.specs.Graph as graph
use Rattle.pua_steps.specs.Order as order

-- the numbers of calls

number_of : (c : Call) → call_number c ≡ bit_of c + 1
number_of Stat = refl
number_of _ = refl

-- numbers in the same order compare alike
nat_alike : (a b c d : ℕ) → (a < b → c < d) → (a ≡ b → c ≡ d) → (b < a → d < c) → nat_cmp a b ≡ nat_cmp c d
nat_alike a b c d less same more =
    elim (cases_lt a b) [
      | inl h ↦ sym (nat_cmp_is a b Less h) ∙ nat_cmp_is c d Less (less h)
      | inr h ↦ elim (cases_lt b a) [
        | inl k ↦ sym (nat_cmp_is a b Greater k) ∙ nat_cmp_is c d Greater (more k)
        | inr k ↦ let e : a ≡ b = omega (arith, h, k) in sym (nat_cmp_is a b Equal e) ∙ nat_cmp_is c d Equal (same e)
      ]
    ]

calls_alike : (c : Call) (n : ℕ) → n < call_count → nat_cmp (call_number c) (call_number (call_at n)) ≡ nat_cmp (bit_of c) n
calls_alike c n low =
    let first : call_number c ≡ bit_of c + 1 = number_of c in
    let second : call_number (call_at n) ≡ n + 1 = number_of (call_at n) ∙ ap (λ m. m + 1) (bit_of_call_at n low) in
    nat_alike (call_number c) (call_number (call_at n)) (bit_of c) n (λ h. omega (arith, h, first, second)) (λ e. omega (
      arith,
      e,
      first,
      second,
    )) (λ h. omega (arith, h, first, second))

module _ (letters : List (List ℕ)) (rises : Rises name_cmp letters) where
  pub letters_alike : (i j : ℕ) → i < length letters → j < length letters →
      name_cmp (get_or letters i []) (get_or letters j []) ≡ nat_cmp i j
  letters_alike i j here there =
      elim (cases_lt i j) [
        | inl h ↦ later letters rises i j h there ∙ nat_cmp_is i j Less h
        | inr h ↦ elim (cases_lt j i) [
          | inl k ↦ turned (get_or letters j []) (get_or letters i []) Less (later letters rises j i k here) ∙ nat_cmp_is i j Greater k
          | inr k ↦
              let e : j ≡ i = omega (arith, h, k) in
              ap (λ n. name_cmp (get_or letters i []) (get_or letters n [])) e ∙ tied_itself nat_list_cmp_total (get_or letters i []) ∙
              nat_cmp_is i j Equal (sym e)
        ]
      ]

  words_alike : (v w : List ℕ) → AllByRecursion (λ i. i < length letters) v → AllByRecursion (λ i. i < length letters) w →
      slice_cmp name_cmp (word_of letters v) (word_of letters w) ≡ slice_cmp nat_cmp v w
  unfolding word_of
  words_alike [] [] here there = refl
  words_alike [] (j ∷ w) here there = refl
  words_alike (i ∷ v) [] here there = refl
  words_alike (i ∷ v) (j ∷ w) here there = (λ k. ordering_then (letters_alike i j here.0 there.0 k) (words_alike v w here.1 there.1 k))

  comes_alike : (r : Resumption) (p : graph.Pair) → AllByRecursion (λ i. i < length letters) r.word.items → IsPair (length letters) p
      → is_lt (pair_cmp (pair_in letters r) (pair_at letters p)) ≡ order.comes_after (r.word.items, bit_of r.call) p
  comes_alike r p here is = (λ k. is_lt (ordering_then (words_alike r.word.items p.0 here is.word k) (calls_alike r.call p.1 is.call k)))

  after_alike : (r : Resumption) (ps : List graph.Pair) → AllByRecursion (λ i. i < length letters) r.word.items →
      AllByRecursion (λ p. IsPair (length letters) p) ps
      → filter (λ other. is_lt (pair_cmp (pair_in letters r) other)) (pairs_at letters ps)
      ≡ pairs_at letters (order.pairs_after (r.word.items, bit_of r.call) ps)
  after_alike r [] here all = refl
  after_alike r (p ∷ ps) here all =
      (λ k. cond (comes_alike r p here all.0 k) (pair_at letters p ∷ after_alike r ps here all.1 k) (after_alike r ps here all.1 k))
      ∙ elim (order.comes_after (r.word.items, bit_of r.call) p)
      as (λ b. cond b (pair_at letters p ∷ pairs_at letters (order.pairs_after (r.word.items, bit_of r.call) ps))
      (pairs_at letters (order.pairs_after (r.word.items, bit_of r.call) ps))
      ≡ pairs_at letters (cond b (p ∷ order.pairs_after (r.word.items, bit_of r.call) ps) (order.pairs_after (
        r.word.items,
        bit_of r.call,
      ) ps))) [ true ↦ refl | false ↦ refl ]

-- pairs with the same numbers are the same
numbered_again : (letters : List (List ℕ)) (qs : List Pair) (ps : List graph.Pair) →
    map pair_in_numbers qs ≡ map (pair_in_letters letters) ps → qs ≡ pairs_at letters ps
unfolding word_of
numbered_again letters qs ps same = sym (named_again qs) ∙ ap (map named) same ∙ spelled_named ps
  where
    named : Word × ℕ → Pair
    named q = (q.0, call_at q.1)

    named_again : (qs : List Pair) → map named (map pair_in_numbers qs) ≡ qs
    named_again [] = refl
    named_again (q ∷ qs) = (λ i. (q.0, call_at_bit q.1 i) ∷ named_again qs i)

    spelled_named : (ps : List graph.Pair) → map named (map (pair_in_letters letters) ps) ≡ pairs_at letters ps
    spelled_named [] = refl
    spelled_named (p ∷ ps) = ap (λ qs. pair_at letters p ∷ qs) (spelled_named ps)

-- the pairs of a scope that come after one, or all of them
pub scope_after : (s : Scope) (after : Option Resumption) (ps : List graph.Pair) → Rises name_cmp s.alphabet →
    IfSome after (λ r. AreLetters s.alphabet s.limit r.word.items) → AllByRecursion (λ p. IsPair (length s.alphabet) p) ps
    → map pair_in_numbers (reach s) ≡ map (pair_in_letters s.alphabet) ps →
    rest_after s (option_map (pair_in s.alphabet) after) ≡ pairs_at s.alphabet (pairs_resumed after ps)
scope_after s None ps rises there all same = numbered_again s.alphabet (reach s) ps same
scope_after s (Some r) ps rises there all same =
    ap (filter (λ other. is_lt (pair_cmp (pair_in s.alphabet r) other))) (numbered_again s.alphabet (reach s) ps same) ∙
    after_alike s.alphabet rises r ps there.there all

kept_pairs : (n : ℕ) (test : graph.Pair → Bool) (ps : List graph.Pair) → AllByRecursion (λ p. IsPair n p) ps →
    AllByRecursion (λ p. IsPair n p) (filter test ps)
kept_pairs n test [] all = tt
kept_pairs n test (p ∷ ps) all =
    elim (test p) as (λ b. AllByRecursion (λ p. IsPair n p) (cond b (p ∷ filter test ps) (filter test ps))) [
      | true ↦ (all.0, kept_pairs n test ps all.1)
      | false ↦ kept_pairs n test ps all.1
    ]

pub pairs_stay : (n : ℕ) (after : Option Resumption) (ps : List graph.Pair) → AllByRecursion (λ p. IsPair n p) ps →
    AllByRecursion (λ p. IsPair n p) (pairs_resumed after ps)
pairs_stay n None ps all = all
pairs_stay n (Some r) ps all = kept_pairs n _ ps all
