-- The parts of lines: paths, calls, and what is between them.
use Rattle.pua_texts.proofs.Common.{◌≡◌, ℕ, ◌+◌, List, [], ◌∷◌, ◌++◌, ◌<◌, ◌≤◌, ◌∙◌, slice_index_or, get_or, refl, sym, ap, map}
use Rattle.pua_texts.proofs.Common.{drop, length, append_assoc, append-nil, Bool, true, false, cond, filter, ◌==◌, drop_more}
use Rattle.pua_texts.proofs.Common.{drop_of_length-le, spelling, call_name, calls, has, Call, Stat, Word, from_root, printed_path, Root}
use Rattle.pua_texts.proofs.Common.{with_commas, Bor, with_end}
use Rattle.std.proofs.lemmas.Grind.{flat_map-append}
use Rattle.std.proofs.lemmas.Bool.{true≢false}
use Rattle.pua_tree.specs.Spelling.{byte_spelling}

-- a path from the root goes on with a slash and a spelled name
pub name_next : (name : List ℕ) (word : Word) → spelling (from_root (name ∷ word)) ≡ (47 ∷ spelling name) ++ spelling (from_root word)
name_next name word = ap (λ t. 47 ∷ t) (flat_map-append byte_spelling name (from_root word))

-- what a path has still to come from a place among its names on, and a blank
abbrev pub path_left : List (Bor (List ℕ)) → ℕ → List ℕ
path_left names i = spelling (from_root (map (λ name. name.now) (drop i names))) ++ 32 ∷ []

pub path_more : (names : List (Bor (List ℕ))) (name : Bor (List ℕ)) (i : ℕ) → i < length names → name ≡ slice_index_or names i name →
    path_left names i ≡ (47 ∷ spelling name.now) ++ path_left names (i + 1)
path_more names name i within is =
    ap (λ ns. spelling (from_root (map (λ n. n.now) ns)) ++ 32 ∷ []) (drop_more names i name within ∙
    ap (λ n. n ∷ drop (i + 1) names) (sym is))
    ∙ ap (λ t. t ++ 32 ∷ []) (name_next name.now (map (λ n. n.now) (drop (i + 1) names)))
    ∙ append_assoc (47 ∷ spelling name.now) (spelling (from_root (map (λ n. n.now) (drop (i + 1) names)))) (32 ∷ [])

pub path_done : (names : List (Bor (List ℕ))) (i : ℕ) → length names ≤ i → path_left names i ≡ 32 ∷ []
path_done names i past = ap (λ ns. spelling (from_root (map (λ n. n.now) ns)) ++ 32 ∷ []) (drop_of_length-le names past)

-- a path with names is printed as they are spelled, behind a slash each
pub word_printed : (word : Word) → (length word == 0) ≡ false → spelling (from_root word) ++ 32 ∷ [] ≡ printed_path Root word ++ 32 ∷ []
word_printed [] some = absurd (true≢false some)
word_printed (name ∷ word) some = refl

pub path_printed : (names : List (Bor (List ℕ))) → (length names == 0) ≡ false →
    path_left names 0 ≡ printed_path Root (map (λ name. name.now) names) ++ 32 ∷ []
path_printed [] some = absurd (true≢false some)
path_printed (name ∷ names) some = refl

-- the kind, the path and the calls stand before what ends the line
pub parts_before : (kind path names end : List ℕ) →
    (kind ++ 32 ∷ []) ++ ((path ++ 32 ∷ []) ++ (names ++ end)) ≡ (kind ++ 32 ∷ path ++ 32 ∷ names) ++ end
parts_before kind path names end =
    append_assoc kind (32 ∷ []) ((path ++ 32 ∷ []) ++ (names ++ end))
    ∙ ap (λ t. kind ++ 32 ∷ t) (append_assoc path (32 ∷ []) (names ++ end))
    ∙ sym (append_assoc kind (32 ∷ path) (32 ∷ (names ++ end)))
    ∙ sym (append_assoc (kind ++ 32 ∷ path) (32 ∷ names) end)

-- and make the line with its end
pub line_parts : (kind path names : List ℕ) →
    (kind ++ 32 ∷ []) ++ ((path ++ 32 ∷ []) ++ (names ++ 10 ∷ [])) ≡ with_end (kind ++ 32 ∷ path ++ 32 ∷ names)
line_parts kind path names = parts_before kind path names (10 ∷ [])

-- names with a separator before the first, and commas before the others
abbrev pub joined : List ℕ → List (List ℕ) → List ℕ
joined before [] = []
joined before (name ∷ more) = before ++ name ++ joined (44 ∷ []) more

pub joined_is : (names : List (List ℕ)) → with_commas names ≡ joined [] names
joined_is [] = refl
joined_is (name ∷ more) = after name more
  where
    after : (name : List ℕ) (more : List (List ℕ)) → with_commas (name ∷ more) ≡ name ++ joined (44 ∷ []) more
    after name [] = sym (append-nil name)
    after name (other ∷ more) = ap (λ t. name ++ 44 ∷ t) (after other more)

-- what the names of a set's calls have still to come from a place among all calls on
abbrev pub calls_left : ℕ → List ℕ → ℕ → List ℕ
calls_left set before i = joined before (map call_name (filter (has set) (drop i calls)))

pub calls_all : (set : ℕ) → calls_left set [] 0 ≡ with_commas (map call_name (filter (has set) calls))
calls_all set = sym (joined_is (map call_name (filter (has set) calls)))

kept_or_not : (set : ℕ) (before : List ℕ) (call : Call) (more : List Call) (own : Bool) → has set call ≡ own →
    joined before (map call_name (filter (has set) (call ∷ more)))
    ≡ cond own (before ++ call_name call ++ joined (44 ∷ []) (map call_name (filter (has set) more)))
    (joined before (map call_name (filter (has set) more)))
kept_or_not set before call more true is =
    ap (λ b. joined before (map call_name (cond b (call ∷ filter (has set) more) (filter (has set) more)))) is
kept_or_not set before call more false is =
    ap (λ b. joined before (map call_name (cond b (call ∷ filter (has set) more) (filter (has set) more)))) is

-- a call of the set comes next
pub call_taken : (set : ℕ) (before : List ℕ) (i : ℕ) → i < length calls → has set (get_or calls i Stat) ≡ true →
    calls_left set before i ≡ (before ++ call_name (get_or calls i Stat)) ++ calls_left set (44 ∷ []) (i + 1)
call_taken set before i within own =
    ap (λ cs. joined before (map call_name (filter (has set) cs))) (drop_more calls i Stat within)
    ∙ kept_or_not set before (get_or calls i Stat) (drop (i + 1) calls) true own

-- another one adds nothing
pub call_left : (set : ℕ) (before : List ℕ) (i : ℕ) → i < length calls → has set (get_or calls i Stat) ≡ false →
    calls_left set before i ≡ calls_left set before (i + 1)
call_left set before i within own =
    ap (λ cs. joined before (map call_name (filter (has set) cs))) (drop_more calls i Stat within)
    ∙ kept_or_not set before (get_or calls i Stat) (drop (i + 1) calls) false own

pub calls_done : (set : ℕ) (before : List ℕ) (i : ℕ) → length calls ≤ i → calls_left set before i ≡ []
calls_done set before i past = ap (λ cs. joined before (map call_name (filter (has set) cs))) (drop_of_length-le calls past)
