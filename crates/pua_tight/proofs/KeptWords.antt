-- What words of a list are left name what is left of their set, and what joined words are cut into.
use Rattle.std.proofs.Common.{◌≡◌, ℕ, zero, suc, List, [], ◌∷◌, ◌++◌, refl, sym, ap, ◌∙◌, subst, Bool, true, false, cond, not, ◌&&◌, ◌||◌, map}
use Rattle.std.proofs.Common.{min, max, ◌*◌, ◌^◌, ◌<◌, ◌==◌, arith}
use Rattle.std.proofs.lemmas.Bool.{true≢false, false≢true, eqb-true, eq-eqb, ne_eqb, and_parts, and_from}
use Rattle.std.proofs.lemmas.Nat.{pow_pos, and_comm}
use Rattle.std.proofs.lemmas.Nat.Bits.{and_pow, bit_at_and, bit_at_or, bit_at-lt, same_from_bits}
use Rattle.std.proofs.Math.Nat.{pow-suc}
use Rattle.std.specs.Int.{bit_at}
use Rattle.std.specs.Int.Bits.{or_zero_l, and_zero_l, and_zero_r}
use Rattle.std.specs.List.{list_all, list_any, slice_split, join_with_byte, onto_first}
use Rattle.std.specs.Prelude.{Option, Some, None, Result, Ok, Err, filter, find, option_map, bit_and, bit_or}
use Rattle.pua_tree.specs.Names.{same_bytes}
use Rattle.pua_tree.proofs.ForCallers.{same_Some, None≢Some, Err≢Ok, same_Ok, mapped}
use Rattle.pua_path.specs.declared.errno.Errno.{Errno}
use Rattle.pua_path.specs.declared.errno.Errno.TheVariants.{EINVAL}
use Rattle.pua_calls.specs.Promises.{holds, keywords, rows_from, promise_of, letter_of, union_of, union_or_fault}
use Rattle.pua_tight.specs.Texts.{stays_in}
use Rattle.pua_tight.specs.Left.{stays_as_read}
use Rattle.pua_calls.specs.Promises.{promises_of}
use Rattle.std.proofs.lemmas.Bool.{not_from_false}
use Rattle.std.proofs.Common.{append_assoc, take, get_or, ◌+◌, length}
use Rattle.std.proofs.lemmas.List.{take-map, map-append}
use Rattle.std.proofs.Math.Seq.{take-suc}
use Rattle.std.specs.Int.Bits.{or_zero_r}

-- one member alone
abbrev pub IsSingle : ℕ → Type 0
IsSingle bit = (k : ℕ) × (bit ≡ 2 ^ k)

-- of a single member a set has all or nothing
one_or_none : (x p n : ℕ) → x < 2 → 0 < p → n ≡ x * p → n ≡ cond (n == p) p 0
one_or_none zero p n few some is =
    let nothing : n ≡ 0 = omega (arith, is) in
    nothing ∙ ap (λ b. cond b p 0) (sym (ne_eqb n p (λ e. omega (arith, is, e, some))))
one_or_none (suc zero) p n few some is = let e : n ≡ p = omega (arith, is) in e ∙ ap (λ b. cond b p 0) (sym (eq-eqb n p e))
one_or_none (suc (suc x)) p n few some is = absurd (omega (arith, few))

single_in : (set bit : ℕ) → IsSingle bit → bit_and set bit ≡ cond (holds set bit) bit 0
single_in set bit single = subst (λ b. bit_and set b ≡ cond (holds set b) b 0) (sym single.1)
    (one_or_none (bit_at set single.0) (2 ^ single.0) (bit_and set (2 ^ single.0)) (bit_at-lt set single.0) (pow_pos single.0)
    (and_pow set single.0))

spread : (s a b : ℕ) → s < 2 → a < 2 → b < 2 → min s (max a b) ≡ max (min s a) (min s b)
spread s a b p q r = omega arith

and_or : (s a b : ℕ) → bit_and s (bit_or a b) ≡ bit_or (bit_and s a) (bit_and s b)
and_or s a b = same_from_bits _ _ (λ i.
    bit_at_and s (bit_or a b) i ∙ ap (min (bit_at s i)) (bit_at_or a b i)
    ∙ spread (bit_at s i) (bit_at a i) (bit_at b i) (bit_at-lt s i) (bit_at-lt a i) (bit_at-lt b i)
    ∙ ap (λ x. max x (min (bit_at s i) (bit_at b i))) (sym (bit_at_and s a i))
    ∙ ap (max (bit_at (bit_and s a) i)) (sym (bit_at_and s b i)) ∙ sym (bit_at_or (bit_and s a) (bit_and s b) i))

found_single : (names : List (List ℕ)) (word : List ℕ) (k bit : ℕ) →
    option_map (λ row. row.1) (find (λ row. same_bytes row.0 word) (rows_from (2 ^ k) names)) ≡ Some bit → IsSingle bit
found_single [] word k bit e = absurd (None≢Some bit e)
found_single (name ∷ names) word k bit e = by (same_bytes name word) (found_single names word (suc k) bit) e
  where
    by : (b : Bool) → (option_map (λ row. row.1) (find (λ row. same_bytes row.0 word) (rows_from (2 ^ suc k) names)) ≡ Some bit → IsSingle bit)
        → option_map (λ row. row.1) (cond b (Some (name, 2 ^ k)) (find (λ row. same_bytes row.0 word) (rows_from (2 ^ k * 2) names)))
        ≡ Some bit → IsSingle bit
    by true rest e = (k, sym (same_Some (2 ^ k) bit e))
    by false rest e =
        rest (ap (λ n. option_map (λ row. row.1) (find (λ row. same_bytes row.0 word) (rows_from n names))) (pow-suc 2 k) ∙ e)

pub promise_single : (word : List ℕ) (bit : ℕ) → promise_of word ≡ Some bit → IsSingle bit
promise_single word bit e = found_single keywords word 0 bit e

pub letter_single : (b bit : ℕ) → letter_of b ≡ Some bit → IsSingle bit
letter_single b bit e = let place = mapped (λ place. 2 ^ place) _ bit e in (place.0, sym place.2)

-- the words that stay name what both the set and the words have
module _ {W : Type 0} (f : W → Option ℕ) (single : (w : W) (bit : ℕ) → f w ≡ Some bit → IsSingle bit) (set : ℕ) where
  abbrev pub left : List W → List W
  left words = filter (λ w. stays_in set (f w)) words

  pub left_named : (words : List W) (u : ℕ) → union_of (map f words) ≡ Ok u → union_of (map f (left words)) ≡ Ok (bit_and set u)
  left_named [] u e = ap Ok (sym (ap (bit_and set) (sym (same_Ok 0 u e)) ∙ and_zero_r set))
  left_named (w ∷ words) u e = by (f w) refl (left_named words) e
    where
      joined : (b : ℕ) (r : Result ℕ Errno) → union_or_fault b r ≡ Ok u → (v : ℕ) × (r ≡ Ok v) × (bit_or b v ≡ u)
      joined b (Ok v) e = (v, refl, same_Ok (bit_or b v) u e)
      joined b (Err errno) e = absurd (Err≢Ok errno u e)

      stays : (b v : ℕ) (x : Bool) → holds set b ≡ x → f w ≡ Some b → bit_or b v ≡ u → union_of (map f (left words)) ≡ Ok (bit_and set v) →
          union_of (map f (cond x (w ∷ left words) (left words))) ≡ Ok (bit_and set u)
      stays b v true has is or rest =
          ap (λ o. union_of (o ∷ map f (left words))) is ∙ ap (union_or_fault b) rest
          ∙ ap Ok (ap (λ n. bit_or n (bit_and set v)) (sym (single_in set b (single w b is) ∙ ap (λ x. cond x b 0) has))
          ∙ sym (and_or set b v) ∙ ap (bit_and set) or)
      stays b v false has is or rest =
          rest ∙ ap Ok (sym (or_zero_l (bit_and set v))
          ∙ ap (λ n. bit_or n (bit_and set v)) (sym (single_in set b (single w b is) ∙ ap (λ x. cond x b 0) has))
          ∙ sym (and_or set b v) ∙ ap (bit_and set) or)

      by : (o : Option ℕ) → f w ≡ o →
          ((v : ℕ) → union_of (map f words) ≡ Ok v → union_of (map f (left words)) ≡ Ok (bit_and set v)) → union_of (o ∷ map f words) ≡ Ok u →
          union_of (map f (cond (stays_in set o) (w ∷ left words) (left words))) ≡ Ok (bit_and set u)
      by None is rest e = absurd (Err≢Ok EINVAL u e)
      by (Some b) is rest e =
          let parts = joined b (union_of (map f words)) e in
          stays b parts.0 (holds set b) refl is parts.2 (rest parts.0 parts.1)

-- what is within a set that words name is named by those that stay
pub left_within : (set u : ℕ) → holds u set ≡ true → bit_and set u ≡ set
left_within set u less = and_comm set u ∙ eqb-true _ _ less

pub none_within : (set : ℕ) → holds 0 set ≡ true → set ≡ 0
none_within set less = sym (sym (and_zero_l set) ∙ eqb-true _ _ less)

-- tests of what is left
pub all_left : {X : Type 0} (p q : X → Bool) (xs : List X) → list_all q xs ≡ true → list_all q (filter p xs) ≡ true
all_left p q [] e = refl
all_left p q (x ∷ xs) e =
    let both = and_parts (q x) (list_all q xs) e in by (p x) both.0 (all_left p q xs both.1)
  where
    by : (b : Bool) → q x ≡ true → list_all q (filter p xs) ≡ true → list_all q (cond b (x ∷ filter p xs) (filter p xs)) ≡ true
    by true first rest = and_from (q x) (list_all q (filter p xs)) first rest
    by false first rest = rest

pub none_left : {X : Type 0} (p q : X → Bool) (xs : List X) → list_any q xs ≡ false → list_any q (filter p xs) ≡ false
none_left p q [] e = refl
none_left p q (x ∷ xs) e = by (p x) (q x) refl (none_left p q xs) e
  where
    by : (b c : Bool) → q x ≡ c → (list_any q xs ≡ false → list_any q (filter p xs) ≡ false) → (c || list_any q xs) ≡ false →
        list_any q (cond b (x ∷ filter p xs) (filter p xs)) ≡ false
    by b true is rest e = absurd (true≢false e)
    by true false is rest e = ap (λ c. c || list_any q (filter p xs)) is ∙ rest e
    by false false is rest e = rest e

-- each piece between two cuts passes what the bytes pass that are no cut
module _ (c : ℕ) where
  abbrev pub cut : List ℕ → List (List ℕ)
  cut xs = slice_split (λ b. b == c) xs

  abbrev pub free : List ℕ → Bool
  free xs = list_all (λ b. not (b == c)) xs

  pub pieces_pass : (p q : ℕ → Bool) → ((x : ℕ) → p x ≡ true → (x == c) ≡ false → q x ≡ true) → (xs : List ℕ) → list_all p xs ≡ true →
      list_all (list_all q) (cut xs) ≡ true
  pieces_pass p q more [] e = refl
  pieces_pass p q more (x ∷ xs) e =
      let both = and_parts (p x) (list_all p xs) e in by (x == c) refl both.0 (pieces_pass p q more xs both.1)
    where
      front : (ps : List (List ℕ)) → q x ≡ true → list_all (list_all q) ps ≡ true → list_all (list_all q) (onto_first x ps) ≡ true
      front [] first rest = ap (λ b. (b && true) && true) first
      front (y ∷ ps) first rest =
          let both = and_parts (list_all q y) (list_all (list_all q) ps) rest in
          and_from (q x && list_all q y) (list_all (list_all q) ps) (and_from (q x) (list_all q y) first both.0) both.1

      by : (b : Bool) → (x == c) ≡ b → p x ≡ true → list_all (list_all q) (cut xs) ≡ true →
          list_all (list_all q) (cond b ([] ∷ cut xs) (onto_first x (cut xs))) ≡ true
      by true is first rest = rest
      by false is first rest = front (cut xs) (more x first is) rest

  pub joined_pass : (q : ℕ → Bool) → q c ≡ true → (ws : List (List ℕ)) → list_all (list_all q) ws ≡ true →
      list_all q (join_with_byte c ws) ≡ true
  joined_pass q at [] e = refl
  joined_pass q at (w ∷ []) e = (and_parts (list_all q w) true e).0
  joined_pass q at (w ∷ v ∷ ws) e =
      let both = and_parts (list_all q w) (list_all (list_all q) (v ∷ ws)) e in
      appended w (c ∷ join_with_byte c (v ∷ ws)) both.0 (and_from (q c) (list_all q (join_with_byte c (v ∷ ws))) at (joined_pass q at (v ∷ ws) both.1))
    where
      appended : (xs ys : List ℕ) → list_all q xs ≡ true → list_all q ys ≡ true → list_all q (xs ++ ys) ≡ true
      appended [] ys e f = f
      appended (x ∷ xs) ys e f =
          let both = and_parts (q x) (list_all q xs) e in and_from (q x) (list_all q (xs ++ ys)) both.0 (appended xs ys both.1 f)

  cut_no : (x : ℕ) (xs : List ℕ) → not (x == c) ≡ true → cut (x ∷ xs) ≡ onto_first x (cut xs)
  cut_no x xs e = by (x == c) e
    where
      by : (b : Bool) → not b ≡ true → cond b ([] ∷ cut xs) (onto_first x (cut xs)) ≡ onto_first x (cut xs)
      by true e = absurd (false≢true e)
      by false e = refl

  pub cut_alone : (xs : List ℕ) → free xs ≡ true → cut xs ≡ xs ∷ []
  cut_alone [] e = refl
  cut_alone (x ∷ xs) e =
      let both = and_parts (not (x == c)) (free xs) e in cut_no x xs both.0 ∙ ap (onto_first x) (cut_alone xs both.1)

  pub cut_first : (xs ys : List ℕ) → free xs ≡ true → cut (xs ++ c ∷ ys) ≡ xs ∷ cut ys
  cut_first [] ys e = ap (λ b. cond b ([] ∷ cut ys) (onto_first c (cut ys))) (eq-eqb c c refl)
  cut_first (x ∷ xs) ys e =
      let both = and_parts (not (x == c)) (free xs) e in
      cut_no x (xs ++ c ∷ ys) both.0 ∙ ap (onto_first x) (cut_first xs ys both.1)

  -- joined words are cut into themselves
  pub cut_joined : (w : List ℕ) (ws : List (List ℕ)) → list_all free (w ∷ ws) ≡ true → cut (join_with_byte c (w ∷ ws)) ≡ w ∷ ws
  cut_joined w [] e = cut_alone w (and_parts (free w) true e).0
  cut_joined w (v ∷ ws) e =
      let both = and_parts (free w) (list_all free (v ∷ ws)) e in
      cut_first w (join_with_byte c (v ∷ ws)) both.0 ∙ ap (λ l. w ∷ l) (cut_joined v ws both.1)

-- a word without a comma stays as it would as a list of its own
stays_same : (set : ℕ) (word : List ℕ) → free 44 word ≡ true → stays_as_read set (promises_of word) ≡ stays_in set (promise_of word)
stays_same set [] e = eq-eqb _ _ (and_zero_r set)
stays_same set (b ∷ more) e =
    ap (λ ws. stays_as_read set (union_of (map promise_of ws))) (cut_alone 44 (b ∷ more) e) ∙ by (promise_of (b ∷ more))
  where
    by : (o : Option ℕ) → stays_as_read set (union_of (o ∷ [])) ≡ stays_in set o
    by None = refl
    by (Some bit) = ap (holds set) (or_zero_r bit)

pub same_left : (set : ℕ) (words : List (List ℕ)) → list_all (free 44) words ≡ true →
    filter (λ word. stays_as_read set (promises_of word)) words ≡ filter (λ word. stays_in set (promise_of word)) words
same_left set [] e = refl
same_left set (w ∷ words) e =
    let both = and_parts (free 44 w) (list_all (free 44) words) e in
    ap (λ b. cond b (w ∷ filter (λ word. stays_as_read set (promises_of word)) words)
    (filter (λ word. stays_as_read set (promises_of word)) words)) (stays_same set w both.0)
    ∙ ap (λ ws. cond (stays_in set (promise_of w)) (w ∷ ws) ws) (same_left set words both.1)

-- no piece between commas has one
pub pieces_free : (c : ℕ) (xs : List ℕ) → list_all (free c) (cut c xs) ≡ true
pieces_free c xs = pieces_pass c (λ x. true) (λ x. not (x == c)) (λ x any apart. not_from_false (x == c) apart) xs (any_byte xs)
  where
    any_byte : (xs : List ℕ) → list_all (λ x. true) xs ≡ true
    any_byte [] = refl
    any_byte (x ∷ xs) = any_byte xs

-- one word more, joined to those before it
pub joined_more : (c : ℕ) (w : List ℕ) (ws : List (List ℕ)) (v : List ℕ) →
    join_with_byte c (w ∷ ws ++ v ∷ []) ≡ join_with_byte c (w ∷ ws) ++ c ∷ v
joined_more c w [] v = refl
joined_more c w (x ∷ ws) v =
    ap (λ l. w ++ c ∷ l) (joined_more c x ws v) ∙ sym (append_assoc w (c ∷ join_with_byte c (x ∷ ws)) (c ∷ v))

pub joined_next : {X : Type 0} (f : X → List ℕ) (c i : ℕ) (words : List X) (first : X) (more : List X) (d : X) (old pushed new : List ℕ) →
    words ≡ first ∷ more → i < length more → old ≡ join_with_byte c (take (i + 1) (map f words)) → pushed ≡ old ++ c ∷ [] →
    new ≡ pushed ++ f (get_or more i d) → new ≡ join_with_byte c (take (i + 1 + 1) (map f words))
joined_next f c i words first more d old pushed new are less was push is =
    let one : i + 1 ≡ suc i = omega arith in
    let two : i + 1 + 1 ≡ suc (suc i) = omega arith in
    is ∙ ap (λ l. l ++ f (get_or more i d)) (push ∙ ap (λ l. l ++ c ∷ []) (was ∙ (λ j. join_with_byte c (take (one j) (map f (are j))))))
    ∙ append_assoc (join_with_byte c (f first ∷ take i (map f more))) (c ∷ []) (f (get_or more i d))
    ∙ sym (joined_more c (f first) (take i (map f more)) (f (get_or more i d)))
    ∙ ap (λ l. join_with_byte c (f first ∷ l)) (ap (λ l. l ++ f (get_or more i d) ∷ []) (take-map f i more)
    ∙ sym (map-append f (take i more) (get_or more i d ∷ [])) ∙ ap (map f) (sym (take-suc more i d less)) ∙ sym (take-map f (suc i) more))
    ∙ sym (λ j. join_with_byte c (take (two j) (map f (are j))))
