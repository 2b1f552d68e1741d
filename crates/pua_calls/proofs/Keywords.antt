-- The keywords' flags are the rows of the definition.
use Rattle.pua_calls.proofs.Common.{◌≡◌, ℕ, ◌<◌, ◌^◌, List, [], ◌∷◌, Bool, true, false, map, refl, sym, ap, ◌∙◌, arith, Option, Some, None}
use Rattle.pua_calls.proofs.Common.{same_bytes, holds, promise_of}
use Rattle.std.proofs.Common.{cond, ◌++◌, rules, tests}
use Rattle.std.proofs.lemmas.Bool.{and_parts}
use Rattle.std.proofs.lemmas.Bool.Decides.{nat_tests}
use Rattle.std.proofs.lemmas.List.Folds.{find-append, list_all-append, list_all-map}
use Rattle.std.specs.List.{find, filter, list_all}
use Rattle.std.specs.Option.{option_map_or, option_or}
use Rattle.std.specs.Prelude.{◌≤◌, ◌==◌, length, option_map, nat_lt, slice_get}
use Rattle.std.proofs.lemmas.Option.{slice_get-map, slice_get_past}
use Rattle.pua_calls.specs.Promises.{keyword_at, keyword_if, keyword_rows, keywords_of}
use Rattle.pua_path.proofs.ForCallers.{find_passes}
use Rattle.pua_tree.proofs.ForCallers.{find-map, first_passes, same_word}

-- a keyword found among flags is that of the rows
pub promise_of-find : {F : Type 0} (row : F → (List ℕ × ℕ)) (flags : List F) (word : List ℕ) → map row flags ≡ keyword_rows →
    promise_of word ≡ option_map (λ flag. (row flag).1) (find (λ flag. same_bytes (row flag).0 word) flags)
promise_of-find {F = F} row flags word e =
    ap (λ rows. option_map (λ row. row.1) (find (λ row. same_bytes row.0 word) rows)) (sym e)
    ∙ ap (option_map (λ row. row.1)) (find-map row (λ row. same_bytes row.0 word) flags)
    ∙ twice (find (λ flag. same_bytes (row flag).0 word) flags)
  where
    twice : (o : Option F) → option_map (λ row. row.1) (option_map row o) ≡ option_map (λ flag. (row flag).1) o
    twice None = refl
    twice (Some flag) = refl

-- the name of a row finds that row
is_own : (List ℕ × ℕ) → Bool
is_own row = option_map_or (λ bits. bits == row.1) (promise_of row.0) false

all_own : list_all is_own keyword_rows ≡ true
unfolding is_own
all_own = refl

own_found : (row : List ℕ × ℕ) → is_own row ≡ true → promise_of row.0 ≡ Some row.1
unfolding is_own
own_found row = by (promise_of row.0)
  where
    by : (o : Option ℕ) → option_map_or (λ bits. bits == row.1) o false ≡ true → o ≡ Some row.1
    by None h = cc
    by (Some bits) h = search (rules, tests)

-- a keyword found among the last flags is that of the rows
pub promise_of-late : {F : Type 0} (row : F → (List ℕ × ℕ)) (early late : List F) (word : List ℕ) (flag : F) →
    map row (early ++ late) ≡ keyword_rows → find (λ flag. same_bytes (row flag).0 word) late ≡ Some flag →
    promise_of word ≡ Some (row flag).1
promise_of-late row early late word flag e is =
    let whole : list_all is_own (map row (early ++ late)) ≡ true = ap (list_all is_own) e ∙ all_own in
    let each = sym (list_all-map is_own row (early ++ late)) ∙ whole in
    let own = (and_parts _ _ (sym (list_all-append (λ flag. is_own (row flag)) early late) ∙ each)).1 in
    let named : (row flag).0 ≡ word = same_word (row flag).0 word (first_passes (λ flag. same_bytes (row flag).0 word) late flag is) in
    ap promise_of (sym named)
    ∙ own_found (row flag) (find_passes (λ flag. is_own (row flag)) (λ flag. same_bytes (row flag).0 word) late flag own is)

-- a keyword found among the last flags, or else among the first, is that of the rows
pub promise_of-turned : {F : Type 0} (row : F → (List ℕ × ℕ)) (early late : List F) (word : List ℕ) →
    map row (early ++ late) ≡ keyword_rows → promise_of word ≡
    option_or (option_map (λ flag. (row flag).1) (find (λ flag. same_bytes (row flag).0 word) late))
    (option_map (λ flag. (row flag).1) (find (λ flag. same_bytes (row flag).0 word) early))
promise_of-turned {F = F} row early late word e = by (find (λ flag. same_bytes (row flag).0 word) late) refl
  where
    last : (o : Option F) → option_map (λ flag. (row flag).1) (option_or o None) ≡ option_map (λ flag. (row flag).1) o
    last None = refl
    last (Some flag) = refl

    by : (o : Option F) → find (λ flag. same_bytes (row flag).0 word) late ≡ o →
        promise_of word ≡ option_or (option_map (λ flag. (row flag).1) o)
        (option_map (λ flag. (row flag).1) (find (λ flag. same_bytes (row flag).0 word) early))
    by None is =
        promise_of-find row (early ++ late) word e
        ∙ ap (option_map (λ flag. (row flag).1)) (find-append (λ flag. same_bytes (row flag).0 word) early late
        ∙ ap (option_or (find (λ flag. same_bytes (row flag).0 word) early)) is)
        ∙ last (find (λ flag. same_bytes (row flag).0 word) early)
    by (Some flag) is = promise_of-late row early late word flag e is

-- the same, where it is found among the last flags, and where it isn't
pub promise_of-first : {F : Type 0} (row : F → (List ℕ × ℕ)) (flags early late : List F) (word : List ℕ) (bits : ℕ) →
    flags ≡ early ++ late → map row flags ≡ keyword_rows →
    Some bits ≡ option_map (λ flag. (row flag).1) (find (λ flag. same_bytes (row flag).0 word) late) →
    Some bits ≡ promise_of word
promise_of-first row flags early late word bits cut rows is =
    sym (promise_of-turned row early late word (ap (map row) (sym cut) ∙ rows)
    ∙ ap (λ o. option_or o (option_map (λ flag. (row flag).1) (find (λ flag. same_bytes (row flag).0 word) early))) (sym is))

pub promise_of-then : {F : Type 0} (row : F → (List ℕ × ℕ)) (flags early late : List F) (word : List ℕ) (o : Option ℕ) →
    flags ≡ early ++ late → map row flags ≡ keyword_rows →
    None ≡ option_map (λ flag. (row flag).1) (find (λ flag. same_bytes (row flag).0 word) late) →
    o ≡ option_map (λ flag. (row flag).1) (find (λ flag. same_bytes (row flag).0 word) early) → o ≡ promise_of word
promise_of-then row flags early late word o cut rows is found =
    sym (promise_of-turned row early late word (ap (map row) (sym cut) ∙ rows)
    ∙ ap (λ o. option_or o (option_map (λ flag. (row flag).1) (find (λ flag. same_bytes (row flag).0 word) early))) (sym is) ∙ sym found)

-- no keyword has a bit above the last
pub promise_of-below : (word : List ℕ) (bits : ℕ) → promise_of word ≡ Some bits → bits < 2 ^ 36
promise_of-below word bits e = by (find (λ row. same_bytes row.0 word) keyword_rows) refl e
  where
    by : (o : Option (List ℕ × ℕ)) → find (λ row. same_bytes row.0 word) keyword_rows ≡ o → option_map (λ row. row.1) o ≡ Some bits →
        bits < 2 ^ 36
    by None found is = cc
    by (Some row) found is =
        let low : nat_lt row.1 (2 ^ 36) ≡ true =
        find_passes (λ row. nat_lt row.1 (2 ^ 36)) (λ row. same_bytes row.0 word) keyword_rows row refl found in
        let same : row.1 ≡ bits = cc in
        grind (arith, nat_tests)

-- what a map gives of the elements that pass, which are told by what it gives of them
filter-map : {X Y Z : Type 0} (f : X → Y) (g : Y → Z) (p : Y → Bool) (xs : List X) →
    map g (filter p (map f xs)) ≡ map (λ x. g (f x)) (filter (λ x. p (f x)) xs)
filter-map f g p [] = refl
filter-map f g p (x ∷ xs) =
    elim (p (f x)) as (λ b. map g (cond b (f x ∷ filter p (map f xs)) (filter p (map f xs)))
    ≡ map (λ x. g (f x)) (cond b (x ∷ filter (λ x. p (f x)) xs) (filter (λ x. p (f x)) xs))) [
      | true ↦ ap (λ t. g (f x) ∷ t) (filter-map f g p xs)
      | false ↦ filter-map f g p xs
    ]

-- the keywords of a set are those of its flags
pub keywords_of-filter : {F : Type 0} (row : F → (List ℕ × ℕ)) (flags : List F) (set : ℕ) → map row flags ≡ keyword_rows →
    keywords_of set ≡ map (λ flag. (row flag).0) (filter (λ flag. holds set (row flag).1) flags)
keywords_of-filter row flags set e =
    ap (λ rows. map (λ row. row.0) (filter (λ row. holds set row.1) rows)) (sym e) ∙
    filter-map row (λ row. row.0) (λ row. holds set row.1) flags

-- the keyword at an index is that of the flag there
keyword_found : {F : Type 0} (row : F → (List ℕ × ℕ)) (flags : List F) (set index : ℕ) (found : Option F) → map row flags ≡ keyword_rows →
    slice_get flags index ≡ found →
    keyword_at set index ≡ keyword_if set (option_map row found)
keyword_found row flags set index found e is =
    ap (λ rows. keyword_if set (slice_get rows index)) (sym e) ∙ ap (keyword_if set) (slice_get-map row flags index ∙
    ap (option_map row) is)

pub keyword_past : {F : Type 0} (row : F → (List ℕ × ℕ)) (flags : List F) (set index : ℕ) → map row flags ≡ keyword_rows →
    length flags ≤ index → keyword_at set index ≡ None
keyword_past row flags set index e past = keyword_found row flags set index None e (slice_get_past flags index past)

pub keyword_there : {F : Type 0} (row : F → (List ℕ × ℕ)) (flags : List F) (set index : ℕ) (flag : F) → map row flags ≡ keyword_rows →
    slice_get flags index ≡ Some flag →
    keyword_at set index ≡ keyword_if set (Some (row flag))
keyword_there row flags set index flag e is = keyword_found row flags set index (Some flag) e is
