-- The lines of a byte string without their ends are those of a text.
use Rattle.pua_tree.proofs.Common.{◌≡◌, ℕ, zero, suc, ◌+◌, ◌-◌, ◌≤◌, Bool, true, false, cond, eqb, ltb, ◌&&◌, List, [], ◌∷◌, ◌++◌, map}
use Rattle.pua_tree.proofs.Common.{length, take, drop, get_or, refl, sym, ap, ◌∙◌, inl, inr, arith, slice_split, onto_first, eqb-false}
use Rattle.pua_tree.proofs.Common.{ne_eqb, lt-ltb, take_at, length-append, take_all}
use Rattle.std.specs.Prelude.{◌≢◌, ◌⊎◌}
use Rattle.std.specs.Str.Lines.{lines, lines_of_parts, strip_carriage_return}
use Rattle.std.proofs.lemmas.Bool.{eqb-true}
use Rattle.std.proofs.lemmas.List.{drop_at, get_or_at, drop_all, append_assoc}
use Rattle.std.proofs.lemmas.List.Splits.{length-slice_split}
use Rattle.bstr.specs.Text.{line_len, lines_from, lines_of, no_cr, without_terminator}

abbrev parts : List ℕ → List (List ℕ)
parts bs = slice_split (λ b. eqb b 10) bs

-- no byte is a line feed
abbrev Last : List ℕ → Type 0
Last bs = (line_len bs ≡ length bs) × (parts bs ≡ bs ∷ []) × ((k : ℕ) → get_or bs k 0 ≢ 10)

-- the bytes before the first line feed, and those after it
abbrev Cut : List ℕ → Type 0
Cut bs = (xs : List ℕ) × (ys : List ℕ) × (bs ≡ xs ++ 10 ∷ ys) × (line_len bs ≡ length xs + 1) × (parts bs ≡ xs ∷ parts ys)

no_break : (b : ℕ) (rest : List ℕ) → b ≢ 10 → ((k : ℕ) → get_or rest k 0 ≢ 10) → (k : ℕ) → get_or (b ∷ rest) k 0 ≢ 10
no_break b rest first more zero = first
no_break b rest first more (suc k) = more k

view : (bs : List ℕ) → Last bs ⊎ Cut bs
unfolding line_len
view [] = inl (refl, refl, λ k e. omega arith)
view (b ∷ rest) = go (eqb b 10) refl (view rest)
  where
    go : (t : Bool) → eqb b 10 ≡ t → Last rest ⊎ Cut rest → Last (b ∷ rest) ⊎ Cut (b ∷ rest)
    go true e _ = inr (
      [],
      rest,
      ap (λ x. x ∷ rest) (eqb-true b 10 e),
      ap (λ t. cond t 1 (suc (line_len rest))) e,
      ap (λ t. cond t ([] ∷ parts rest) (onto_first b (parts rest))) e,
    )
    go false e (inl last) = inl (
      ap (λ t. cond t 1 (suc (line_len rest))) e ∙ ap suc last.0,
      ap (λ t. cond t ([] ∷ parts rest) (onto_first b (parts rest))) e ∙ ap (onto_first b) last.1,
      no_break b rest (eqb-false b 10 e) last.2,
    )
    go false e (inr cut) = inr (
      b ∷ cut.0,
      cut.1,
      ap (λ r. b ∷ r) cut.2,
      ap (λ t. cond t 1 (suc (line_len rest))) e ∙ ap suc cut.3 ∙ omega arith,
      ap (λ t. cond t ([] ∷ parts rest) (onto_first b (parts rest))) e ∙ ap (onto_first b) cut.4,
    )

kept : (bs : List ℕ) → ((k : ℕ) → get_or bs k 0 ≢ 10) → without_terminator bs ≡ bs
kept bs none = go (eqb (get_or bs (length bs - 1) 0) 10) refl (ltb 0 (length bs))
  where
    go : (t : Bool) → eqb (get_or bs (length bs - 1) 0) 10 ≡ t → (s : Bool) →
        cond (s && eqb (get_or bs (length bs - 1) 0) 10) (no_cr (take (length bs - 1) bs)) bs ≡ bs
    go true e s = absurd (none (length bs - 1) (eqb-true _ _ e))
    go false e true = ap (λ t. cond t (no_cr (take (length bs - 1) bs)) bs) e
    go false e false = refl

stripped : (xs : List ℕ) → no_cr xs ≡ strip_carriage_return xs
stripped [] = refl
stripped (x ∷ xs) = ap (λ t. cond (t && eqb (get_or (x ∷ xs) (suc (length xs) - 1) 0) 13) (take (suc (length xs) - 1) (x ∷ xs)) (x ∷ xs))
    (lt-ltb 0 (suc (length xs)) (omega arith))

ended : (xs : List ℕ) → without_terminator (xs ++ 10 ∷ []) ≡ strip_carriage_return xs
ended xs =
    let long : length (xs ++ 10 ∷ []) ≡ suc (length xs) = length-append xs (10 ∷ []) ∙ omega arith in
    let less : length (xs ++ 10 ∷ []) - 1 ≡ length xs = omega arith in
    ap (λ n. cond (ltb 0 n && eqb (get_or (xs ++ 10 ∷ []) (length (xs ++ 10 ∷ []) - 1) 0) 10)
    (no_cr (take (length (xs ++ 10 ∷ []) - 1) (xs ++ 10 ∷ []))) (xs ++ 10 ∷ [])) long
    ∙ ap (λ n. cond (ltb 0 (suc (length xs)) && eqb (get_or (xs ++ 10 ∷ []) n 0) 10) (no_cr (take n (xs ++ 10 ∷ []))) (xs ++ 10 ∷ [])) less
    ∙ ap (λ b. cond (ltb 0 (suc (length xs)) && eqb b 10) (no_cr (take (length xs) (xs ++ 10 ∷ []))) (xs ++ 10 ∷ []))
    (get_or_at xs 10 [] 0 (length xs) refl)
    ∙ ap (λ b. cond (b && true) (no_cr (take (length xs) (xs ++ 10 ∷ []))) (xs ++ 10 ∷ [])) (lt-ltb 0 (suc (length xs)) (omega arith))
    ∙ ap no_cr (take_at xs (10 ∷ []) (length xs) refl)
    ∙ stripped xs

after : (x : List ℕ) (ys : List ℕ) → lines_of_parts (x ∷ parts ys) ≡ strip_carriage_return x ∷ lines ys
after x ys = go (parts ys) refl
  where
    go : (ps : List (List ℕ)) → parts ys ≡ ps → lines_of_parts (x ∷ ps) ≡ strip_carriage_return x ∷ lines_of_parts ps
    go [] e = absurd (omega (arith, ap length e, length-slice_split (λ b. eqb b 10) ys))
    go (p ∷ ps) e = refl

no_lines : (fuel : ℕ) → lines_from fuel [] ≡ []
unfolding lines_from
no_lines zero = refl
no_lines (suc fuel) = refl

last_line : (fuel b : ℕ) (rest : List ℕ) → Last (b ∷ rest) → map without_terminator (lines_from (suc fuel) (b ∷ rest)) ≡ lines (b ∷ rest)
unfolding lines_from
last_line fuel b rest last =
    let bs : List ℕ = b ∷ rest in
    ap (λ n. without_terminator (take n bs) ∷ map without_terminator (lines_from fuel (drop n bs))) last.0
    ∙ ap (λ l. without_terminator l ∷ map without_terminator (lines_from fuel (drop (length bs) bs)))
    (take_all (length bs) bs (omega arith))
    ∙ ap (λ l. without_terminator bs ∷ map without_terminator (lines_from fuel l)) (drop_all (length bs) bs (omega arith))
    ∙ ap (λ l. without_terminator bs ∷ map without_terminator l) (no_lines fuel)
    ∙ ap (λ l. l ∷ []) (kept bs last.2)
    ∙ sym (ap lines_of_parts last.1 ∙ ap (λ t. cond t [] (bs ∷ [])) (ne_eqb (length bs) 0 (λ z. omega arith)))

agree : (fuel : ℕ) (bs : List ℕ) → length bs ≤ fuel → map without_terminator (lines_from fuel bs) ≡ lines bs
unfolding lines_from
agree zero [] h = refl
agree zero (b ∷ bs) h = absurd (omega arith)
agree (suc fuel) [] h = refl
agree (suc fuel) (b ∷ rest) h = go (view (b ∷ rest)) (agree fuel)
  where
    go : Last (b ∷ rest) ⊎ Cut (b ∷ rest) → ((bs : List ℕ) → length bs ≤ fuel → map without_terminator (lines_from fuel bs) ≡ lines bs) →
        map without_terminator (lines_from (suc fuel) (b ∷ rest)) ≡ lines (b ∷ rest)
    go (inl last) _ = last_line fuel b rest last
    go (inr cut) shorter =
        let xs : List ℕ = cut.0 in
        let ys : List ℕ = cut.1 in
        let whole : b ∷ rest ≡ (xs ++ 10 ∷ []) ++ ys = cut.2 ∙ sym (append_assoc xs (10 ∷ []) ys) in
        let n : length (xs ++ 10 ∷ []) ≡ line_len (b ∷ rest) = length-append xs (10 ∷ []) ∙ sym cut.3 in
        let front : take (line_len (b ∷ rest)) (b ∷ rest) ≡ xs ++ 10 ∷ [] = ap (take (line_len (b ∷ rest))) whole ∙
        take_at (xs ++ 10 ∷ []) ys (line_len (b ∷ rest)) n in
        let back : drop (line_len (b ∷ rest)) (b ∷ rest) ≡ ys = ap (drop (line_len (b ∷ rest))) whole ∙
        drop_at (xs ++ 10 ∷ []) ys (line_len (b ∷ rest)) n in
        let short : length ys ≤ fuel = omega (arith, ap length whole, length-append (xs ++ 10 ∷ []) ys, length-append xs (10 ∷ [])) in
        (λ i. without_terminator (front i) ∷ map without_terminator (lines_from fuel (back i)))
        ∙ (λ i. ended xs i ∷ shorter ys short i)
        ∙ sym (ap lines_of_parts cut.4 ∙ after xs ys)

pub lines_agree : (bytes : List ℕ) → map without_terminator (lines_of bytes) ≡ lines bytes
lines_agree bytes = agree (length bytes) bytes (omega arith)
