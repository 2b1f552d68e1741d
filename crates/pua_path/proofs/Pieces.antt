-- Pieces of texts: components, a slash at the end, and whether a text can be read, along a cut.
use Rattle.pua_path.proofs.Common.{◌≡◌, ℕ, zero, suc, Bool, true, false, List, [], ◌∷◌, ◌++◌, length, refl, sym, ap, ◌∙◌, arith, take, ◌<◌}
use Rattle.pua_path.proofs.Common.{◌≤◌, Some, None, ◌==◌, if◌then◌else◌, nat_lt, option_map, list_all, and_parts, has_byte, part_of}
use Rattle.pua_path.proofs.Common.{parts_of, rest_parts, is_readable, has_no_part, after_slashes, Part}
use Rattle.std.proofs.Common.{not, ◌&&◌, ◌||◌, cond, map}
use Rattle.std.proofs.Common.{append-nil, lt-ltb, get_or, drop, position, drop-cons}
use Rattle.std.proofs.Common.{ltb-false, take_all, ne_eqb, eqb-true, Fits, w8}
use Rattle.std.specs.Prelude.{nat_le}
use Rattle.std.specs.List.{All, filter, slice_split, onto_first, list_any}
use Rattle.std.proofs.lemmas.List.Splits.{slice_split_none, slice_split_at}
use Rattle.std.proofs.lemmas.List.Folds.{list_any-append, list_all-append}
use Rattle.std.proofs.lemmas.List.Elements.{filter-append, All-cons}
use Rattle.std.proofs.lemmas.List.{take-append-drop}
use Rattle.std.specs.List.{position_or_len}
use Rattle.std.proofs.lemmas.List.Sums.{fails_before_first}
use Rattle.std.proofs.lemmas.List.Quantifiers.{position-Some}
use Rattle.std.proofs.lemmas.Bool.{or_parts}
use Rattle.std.proofs.lemmas.Bool.Decides.{nat_tests}
use Rattle.std.proofs.Math.Bool.{or-false}
use Rattle.pua_tree.specs.Names.{is_name_byte, components, has_short_components}
use Rattle.pua_path.specs.Paths.{ends_in_slash, ending_parts, path_fault, text_errno}
use Rattle.pua_path.specs.Limits.{most_path}
use Rattle.pua_path.specs.Pieces.{begins_slash, are_bytes, IsCutAtSlash}
use Rattle.pua_path.specs.Remaining.{slash_part, is_piece}
use Rattle.pua_path.specs.declared.traced.PathTextFault.TheVariants.{LongText, LongComponent, NulInText}
use Rattle.pua_path.specs.declared.text.Ending.TheVariants as ending
use Rattle.pua_path.specs.declared.found.Part.TheVariants.{Dot}

abbrev pub slash : ℕ → Bool
slash b = b == 47

-- a list with an element is not empty
pub some : {A : Type 0} (x : A) (xs : List A) → nat_lt 0 (length (x ∷ xs)) ≡ true
some x xs = lt-ltb 0 (length (x ∷ xs)) (omega arith)

-- slashes before a text add no component
pub components-after_slashes : (xs : List ℕ) → components (after_slashes xs) ≡ components xs
components-after_slashes [] = refl
components-after_slashes (b ∷ bs) = by (components-after_slashes bs) (b == 47) refl
  where
    by : components (after_slashes bs) ≡ components bs → (v : Bool) → (b == 47) ≡ v →
        components (if v then after_slashes bs else (b ∷ bs)) ≡ components (b ∷ bs)
    by more true e = more ∙ (rw e refl)
    by more false e = refl

-- what comes after slashes begins with another byte
pub head-after_slashes : (xs : List ℕ) (y : ℕ) (ys : List ℕ) → after_slashes xs ≡ y ∷ ys → (y == 47) ≡ false
head-after_slashes [] y ys h = cc
head-after_slashes (b ∷ bs) y ys h = by (λ k. head-after_slashes bs y ys k) (b == 47) refl h
  where
    by : (after_slashes bs ≡ y ∷ ys → (y == 47) ≡ false) → (v : Bool) → (b == 47) ≡ v →
        (if v then after_slashes bs else (b ∷ bs)) ≡ y ∷ ys → (y == 47) ≡ false
    by more true e h = more h
    by more false e h = let same : b ≡ y = cc in rw same at e

-- slashes before a byte say nothing of the end
pub ends_in_slash-after_slashes : (xs : List ℕ) (y : ℕ) (ys : List ℕ) → after_slashes xs ≡ y ∷ ys →
    ends_in_slash xs ≡ ends_in_slash (y ∷ ys)
ends_in_slash-after_slashes [] y ys h = cc
ends_in_slash-after_slashes (b ∷ []) y ys h = by (b == 47) refl h
  where
    by : (v : Bool) → (b == 47) ≡ v → (if v then [] else (b ∷ [])) ≡ y ∷ ys → ends_in_slash (b ∷ []) ≡ ends_in_slash (y ∷ ys)
    by true e h = cc
    by false e h = ap ends_in_slash h
ends_in_slash-after_slashes (b ∷ c ∷ bs) y ys h = by (λ k. ends_in_slash-after_slashes (c ∷ bs) y ys k) (b == 47) refl h
  where
    by : (after_slashes (c ∷ bs) ≡ y ∷ ys → ends_in_slash (c ∷ bs) ≡ ends_in_slash (y ∷ ys)) → (v : Bool) → (b == 47) ≡ v →
        (if v then after_slashes (c ∷ bs) else (b ∷ c ∷ bs)) ≡ y ∷ ys → ends_in_slash (b ∷ c ∷ bs) ≡ ends_in_slash (y ∷ ys)
    by more true e h = more h
    by more false e h = ap ends_in_slash h

-- a text of slashes ends in one
pub all_slashes-end : (x : ℕ) (xs : List ℕ) → after_slashes (x ∷ xs) ≡ [] → ends_in_slash (x ∷ xs) ≡ true
all_slashes-end x [] h = by (x == 47) refl h
  where
    by : (v : Bool) → (x == 47) ≡ v → (if v then [] else (x ∷ [])) ≡ [] → (x == 47) ≡ true
    by true e h = e
    by false e h = cc
all_slashes-end x (c ∷ xs) h = by (λ k. all_slashes-end c xs k) (x == 47) refl h
  where
    by : (after_slashes (c ∷ xs) ≡ [] → ends_in_slash (c ∷ xs) ≡ true) → (v : Bool) → (x == 47) ≡ v →
        (if v then after_slashes (c ∷ xs) else (x ∷ c ∷ xs)) ≡ [] → ends_in_slash (c ∷ xs) ≡ true
    by more true e h = more h
    by more false e h = cc

-- a slash is no NUL
pub has_nul-after_slashes : (xs : List ℕ) → has_byte 0 (after_slashes xs) ≡ has_byte 0 xs
has_nul-after_slashes [] = refl
has_nul-after_slashes (b ∷ bs) = by (has_nul-after_slashes bs) (b == 47) refl
  where
    by : has_byte 0 (after_slashes bs) ≡ has_byte 0 bs → (v : Bool) → (b == 47) ≡ v →
        has_byte 0 (if v then after_slashes bs else (b ∷ bs)) ≡ has_byte 0 (b ∷ bs)
    by more true e = let other : (b == 0) ≡ false = grind (arith, nat_tests) in more ∙ rw other refl
    by more false e = refl

pub is_readable-after_slashes : (xs : List ℕ) → is_readable (after_slashes xs) ≡ is_readable xs
is_readable-after_slashes xs =
    ap (λ nul. not nul && has_short_components (after_slashes xs)) (has_nul-after_slashes xs)
    ∙ ap (λ pieces. not (has_byte 0 xs) && list_all (λ piece. nat_le (length piece) 255) pieces) (components-after_slashes xs)

-- no slash among bytes, byte by byte
pub no_slash_all : (xs : List ℕ) → list_any slash xs ≡ false → All (λ b. slash b ≡ false) xs
no_slash_all [] h = λ k d l. absurd (omega (arith, l))
no_slash_all (b ∷ bs) h = by (λ k. no_slash_all bs k) (b == 47) refl h
  where
    by : (list_any slash bs ≡ false → All (λ b. slash b ≡ false) bs) → (v : Bool) → (b == 47) ≡ v → (v || list_any slash bs) ≡ false →
        All (λ b. slash b ≡ false) (b ∷ bs)
    by more true e h = cc
    by more false e h = All-cons (λ b. slash b ≡ false) b bs e (more h)

-- a piece before a slash is the first component
pub components-cut : (piece rest : List ℕ) → nat_lt 0 (length piece) ≡ true → list_any slash piece ≡ false → begins_slash rest ≡ true →
    components (piece ++ rest) ≡ piece ∷ components rest
components-cut piece [] n h k = rw (append-nil piece, slice_split_none slash piece (no_slash_all piece h), n) refl
components-cut piece (c ∷ rest) n h k = rw (slice_split_at slash piece c rest (no_slash_all piece h) k, k, n) refl

pub ends_in_slash-cut : (piece rest : List ℕ) → list_any slash piece ≡ false → begins_slash rest ≡ true →
    ends_in_slash (piece ++ rest) ≡ ends_in_slash rest
ends_in_slash-cut [] rest h k = refl
ends_in_slash-cut (b ∷ []) [] h k = by (b == 47) h
  where
    by : (v : Bool) → (v || false) ≡ false → v ≡ false
    by true h = cc
    by false h = refl
ends_in_slash-cut (b ∷ []) (c ∷ rest) h k = refl
ends_in_slash-cut (b ∷ d ∷ piece) rest h k = ends_in_slash-cut (d ∷ piece) rest (by (b == 47) h) k
  where
    by : (v : Bool) → (v || list_any slash (d ∷ piece)) ≡ false → list_any slash (d ∷ piece) ≡ false
    by true h = cc
    by false h = h

-- a text that begins with another byte has a component
ending_parts-some : (y : ℕ) (ys : List ℕ) (at_end : Bool) → (y == 47) ≡ false →
    ending_parts ending.Dot (components (y ∷ ys)) at_end ≡ slash_part at_end
ending_parts-some y ys at_end e =
    rw e (elim (slice_split slash ys) as (λ s. ending_parts ending.Dot (filter (λ piece. nat_lt 0 (length piece)) (onto_first y s)) at_end
    ≡ slash_part at_end) [ [] ↦ refl | piece ∷ pieces ↦ rw (some y piece) refl ])

-- it has a part
some_component : (y : ℕ) (ys : List ℕ) (more : List Part) → (y == 47) ≡ false →
    has_no_part (map part_of (components (y ∷ ys)) ++ more) ≡ false
some_component y ys more e =
    rw e (elim (slice_split slash ys)
    as (λ s. has_no_part (map part_of (filter (λ piece. nat_lt 0 (length piece)) (onto_first y s)) ++ more) ≡ false) [
      | [] ↦ refl
      | piece ∷ pieces ↦ rw (some y piece) refl
    ])

-- a text's parts are those behind its first slashes
pub parts_of-begin : (text : List ℕ) → parts_of ending.Dot text ≡ rest_parts (after_slashes text)
parts_of-begin text = by (after_slashes text) refl
  where
    by : (s : List ℕ) → after_slashes text ≡ s → parts_of ending.Dot text ≡ rest_parts (after_slashes text)
    by [] e = let none : components text ≡ [] = sym (components-after_slashes text) ∙ ap components e in rw (none, e) refl
    by (y ∷ ys) e =
        let pieces : components text ≡ components (y ∷ ys) = sym (components-after_slashes text) ∙ ap components e in
        let at_end : ends_in_slash text ≡ ends_in_slash (y ∷ ys) = ends_in_slash-after_slashes text y ys e in
        ap (λ p. map part_of p ++ ending_parts ending.Dot p (ends_in_slash text)) pieces
        ∙ ap (λ s. map part_of (components (y ∷ ys)) ++ ending_parts ending.Dot (components (y ∷ ys)) s) at_end
        ∙ ap (λ q. map part_of (components (y ∷ ys)) ++ q)
        (ending_parts-some y ys (ends_in_slash (y ∷ ys)) (head-after_slashes text y ys e))
        ∙ sym (ap rest_parts e)

no_ending : (pieces : List (List ℕ)) → ending_parts ending.Dot pieces false ≡ []
no_ending [] = refl
no_ending (piece ∷ pieces) = refl

-- without the slashes at its end nothing is added
pub parts_of-trimmed : (text trimmed : List ℕ) → components trimmed ≡ components text → ends_in_slash trimmed ≡ false →
    parts_of ending.Dropped text ≡ rest_parts (after_slashes trimmed)
parts_of-trimmed text trimmed same at_end =
    ap (λ p. map part_of p ++ []) (sym same)
    ∙ ap (λ q. map part_of (components trimmed) ++ q) (sym (ap (ending_parts ending.Dot (components trimmed)) at_end ∙
    no_ending (components trimmed)))
    ∙ parts_of-begin trimmed

-- slashes alone, behind a part, are a dot
pub rest_parts-slashes : (x : ℕ) (xs : List ℕ) → after_slashes (x ∷ xs) ≡ [] → rest_parts (x ∷ xs) ≡ Dot ∷ []
rest_parts-slashes x xs e =
    let none : components (x ∷ xs) ≡ [] = sym (components-after_slashes (x ∷ xs)) ∙ ap components e in
    ap (λ p. map part_of p ++ slash_part (ends_in_slash (x ∷ xs))) none ∙ ap slash_part (all_slashes-end x xs e)

-- a piece that is cut off is not empty
pub some_piece : (text piece rest : List ℕ) (y : ℕ) (ys : List ℕ) → after_slashes text ≡ y ∷ ys → IsCutAtSlash (y ∷ ys) piece rest →
    nat_lt 0 (length piece) ≡ true
some_piece text (b ∷ piece) rest y ys e h = some b piece
some_piece text [] [] y ys e h = cc (h.whole)
some_piece text [] (c ∷ rest) y ys e h = let same : y ≡ c = cc (h.whole) in let other : (y == 47) ≡ false =
    head-after_slashes text y ys e in let here : (c == 47) ≡ true = h.at_slash in let there : (c == 47) ≡ false = rw same at other in
    cc (there, here)

-- the first part of what is left
pub rest_parts-cut : (text s piece rest : List ℕ) → after_slashes text ≡ s → nat_lt 0 (length s) ≡ true → IsCutAtSlash s piece rest →
    rest_parts text ≡ part_of piece ∷ rest_parts rest
rest_parts-cut text [] piece rest e n h = cc
rest_parts-cut text (y ∷ ys) piece rest e n h =
    let full : nat_lt 0 (length piece) ≡ true = some_piece text piece rest y ys e h in
    let pieces : components text ≡ piece ∷ components rest = sym (components-after_slashes text) ∙ ap components (e ∙ h.whole) ∙
    components-cut piece rest full h.no_slash h.at_slash in
    let at_end : ends_in_slash text ≡ ends_in_slash rest = ends_in_slash-after_slashes text y ys e ∙ ap ends_in_slash h.whole ∙
    ends_in_slash-cut piece rest h.no_slash h.at_slash in
    ap (λ p. map part_of p ++ slash_part (ends_in_slash text)) pieces ∙
    ap (λ s. part_of piece ∷ (map part_of (components rest) ++ slash_part s)) at_end

all_four : (a b l s : Bool) → (not (a || b) && (l && s)) ≡ true → (a ≡ false) × (b ≡ false) × (l ≡ true) × (s ≡ true)
all_four true b l s h = cc
all_four false true l s h = cc
all_four false false false s h = cc
all_four false false true false h = cc
all_four false false true true h = (refl, refl, refl, refl)

above_zero : (n : ℕ) → (n == 0) ≡ false → 0 < n
above_zero zero h = cc
above_zero (suc n) h = omega arith

abbrev small : ℕ → Bool
small b = nat_lt b 256

pub all_small : (bs : List ℕ) → ((i : ℕ) → Fits w8 (get_or bs i 0)) → are_bytes bs ≡ true
all_small [] f = refl
all_small (b ∷ bs) f = let low : small b ≡ true = lt-ltb b 256 (omega (arith, f 0)) in rw (low, all_small bs (λ i. f (suc i))) refl

pub front_bytes : (text front back : List ℕ) → IsCutAtSlash text front back → are_bytes text ≡ true → are_bytes front ≡ true
front_bytes text front back cut h =
    (and_parts (are_bytes front) (are_bytes back) (sym (list_all-append small front back) ∙ sym (ap are_bytes cut.whole) ∙ h)).0

name_bytes : (bs : List ℕ) → has_byte 0 bs ≡ false → has_byte 47 bs ≡ false → are_bytes bs ≡ true → list_all is_name_byte bs ≡ true
name_bytes [] z s f = refl
name_bytes (b ∷ bs) z s f =
    let zs = or_parts (b == 0) (has_byte 0 bs) z in
    let ss = or_parts (b == 47) (has_byte 47 bs) s in
    let fs = and_parts (small b) (are_bytes bs) f in
    let low : nat_lt 0 b ≡ true = lt-ltb 0 b (above_zero b zs.0) in
    rw (low, fs.0, ss.0, name_bytes bs zs.1 ss.1 fs.1) refl

-- a piece of a text that can be read is a part, and what is left can be read
pub readable-cut : (text s piece rest : List ℕ) → are_bytes piece ≡ true → is_readable text ≡ true → after_slashes text ≡ s →
    nat_lt 0 (length s) ≡ true → IsCutAtSlash s piece rest → (is_piece piece ≡ true) × (is_readable rest ≡ true)
readable-cut text [] piece rest f r e n h = cc
readable-cut text (y ∷ ys) piece rest f r e n h =
    let full : nat_lt 0 (length piece) ≡ true = some_piece text piece rest y ys e h in
    let whole : is_readable (piece ++ rest) ≡ true = sym (ap is_readable (e ∙ h.whole)) ∙ is_readable-after_slashes text ∙ r in
    let apart : (not (has_byte 0 piece || has_byte 0 rest) && (nat_le (length piece) 255 && has_short_components rest)) ≡ true =
    sym (ap (λ nul. not nul && has_short_components (piece ++ rest)) (list_any-append (λ b. b == 0) piece rest)
    ∙ ap (λ pieces. not (has_byte 0 piece || has_byte 0 rest) && list_all (λ piece. nat_le (length piece) 255) pieces)
    (components-cut piece rest full h.no_slash h.at_slash)) ∙ whole in
    let four = all_four (has_byte 0 piece) (has_byte 0 rest) (nat_le (length piece) 255) (has_short_components rest) apart in
    let names : list_all is_name_byte piece ≡ true = name_bytes piece four.0 h.no_slash f in
    (rw (full, four.2, names) refl, rw (four.1, four.3) refl)

split_some : (xs : List ℕ) → nat_lt 0 (length (slice_split slash xs)) ≡ true
split_some [] = refl
split_some (b ∷ bs) = by (b == 47) (slice_split slash bs)
  where
    by : (v : Bool) (s : List (List ℕ)) → nat_lt 0 (length (cond v ([] ∷ s) (onto_first b s))) ≡ true
    by true s = some [] s
    by false [] = refl
    by false (p ∷ ps) = some (b ∷ p) ps

onto_first-more : (b : ℕ) (parts : List (List ℕ)) → nat_lt 0 (length parts) ≡ true →
    onto_first b (parts ++ [] ∷ []) ≡ onto_first b parts ++ [] ∷ []
onto_first-more b [] h = cc
onto_first-more b (p ∷ ps) h = refl

slice_split-last : (xs : List ℕ) → slice_split slash (xs ++ 47 ∷ []) ≡ slice_split slash xs ++ [] ∷ []
slice_split-last [] = refl
slice_split-last (b ∷ bs) = by (slice_split-last bs) (b == 47)
  where
    by : slice_split slash (bs ++ 47 ∷ []) ≡ slice_split slash bs ++ [] ∷ [] → (v : Bool) →
        cond v ([] ∷ slice_split slash (bs ++ 47 ∷ [])) (onto_first b (slice_split slash (bs ++ 47 ∷ [])))
        ≡ cond v ([] ∷ slice_split slash bs) (onto_first b (slice_split slash bs)) ++ [] ∷ []
    by more true = ap (λ s. [] ∷ s) more
    by more false = ap (onto_first b) more ∙ onto_first-more b (slice_split slash bs) (split_some bs)

pub components-last : (xs : List ℕ) → components (xs ++ 47 ∷ []) ≡ components xs
components-last xs =
    ap (filter (λ piece. nat_lt 0 (length piece))) (slice_split-last xs)
    ∙ filter-append (λ piece. nat_lt 0 (length piece)) (slice_split slash xs) ([] ∷ [])
    ∙ append-nil (components xs)

-- the last byte says whether a text ends in a slash
pub ends_in_slash-last : (xs : List ℕ) (b : ℕ) → ends_in_slash (xs ++ b ∷ []) ≡ (b == 47)
ends_in_slash-last [] b = refl
ends_in_slash-last (x ∷ []) b = refl
ends_in_slash-last (x ∷ y ∷ xs) b = ends_in_slash-last (y ∷ xs) b

pub has_nul-last : (xs : List ℕ) → has_byte 0 (xs ++ 47 ∷ []) ≡ has_byte 0 xs
has_nul-last xs = list_any-append (λ b. b == 0) xs (47 ∷ []) ∙ or-false (has_byte 0 xs)

-- no slash before the first one
no_slash_before : (xs : List ℕ) (i : ℕ) → ((k : ℕ) → k < i → slash (get_or xs k 0) ≡ false) → list_any slash (take i xs) ≡ false
no_slash_before xs zero h = refl
no_slash_before [] (suc i) h = refl
no_slash_before (x ∷ xs) (suc i) h = rw (h 0 (omega arith)) (no_slash_before xs i (λ k l. h (suc k) (omega (arith, l))))

begins_slash-at : (xs : List ℕ) (i : ℕ) → i < length xs → slash (get_or xs i 0) ≡ true → begins_slash (drop i xs) ≡ true
begins_slash-at xs i l h = rw (drop-cons xs i 0) h

pub cut_at_first : (xs : List ℕ) (i : ℕ) → position slash xs ≡ Some i → IsCutAtSlash xs (take i xs) (drop i xs)
cut_at_first xs i e = let at = position-Some slash xs i 0 e in record {
  whole = sym (take-append-drop i xs);
  no_slash = no_slash_before xs i at.2;
  at_slash = begins_slash-at xs i at.0 at.1;
}

no_slash_nowhere : (xs : List ℕ) → position slash xs ≡ None → list_any slash xs ≡ false
no_slash_nowhere xs e = by (nat_lt (position_or_len slash xs) (length xs)) refl e
  where
    by : (v : Bool) → nat_lt (position_or_len slash xs) (length xs) ≡ v → cond v (Some (position_or_len slash xs)) None ≡ None →
        list_any slash xs ≡ false
    by true l e = cc
    by false l e =
        let all : length xs ≤ position_or_len slash xs = omega (arith, ltb-false (position_or_len slash xs) (length xs) l) in
        let same : take (length xs) xs ≡ xs = take_all (length xs) xs (omega arith) in
        rw same at (no_slash_before xs (length xs) (λ k h. fails_before_first slash xs k 0 (omega (arith, h))))

pub cut_nowhere : (xs : List ℕ) → position slash xs ≡ None → IsCutAtSlash xs xs []
cut_nowhere xs e = record { whole = sym (append-nil xs); no_slash = no_slash_nowhere xs e; at_slash = refl }

-- a slash less at the end
pub components-shorter : (text more : List ℕ) (b : ℕ) → text ≡ more ++ b ∷ [] → b ≡ 47 → components more ≡ components text
components-shorter text more b e h = sym (components-last more) ∙ ap components (ap (λ c. more ++ c ∷ []) (sym h) ∙ sym e)

pub has_nul-shorter : (text more : List ℕ) (b : ℕ) → text ≡ more ++ b ∷ [] → b ≡ 47 → has_byte 0 more ≡ has_byte 0 text
has_nul-shorter text more b e h = sym (has_nul-last more) ∙ ap (has_byte 0) (ap (λ c. more ++ c ∷ []) (sym h) ∙ sym e)

pub no_slash_last : (text more : List ℕ) (b : ℕ) → text ≡ more ++ b ∷ [] → (b ≡ 47 → ⊥) → ends_in_slash text ≡ false
no_slash_last text more b e h = ap ends_in_slash e ∙ ends_in_slash-last more b ∙ ne_eqb b 47 h

pub not_empty : (s : List ℕ) → (length s == 0) ≡ false → nat_lt 0 (length s) ≡ true
not_empty [] n = cc
not_empty (y ∷ ys) n = some y ys

-- the first part of a text that has one, and what is left behind it
pub first_part : (text s piece rest : List ℕ) → s ≡ after_slashes text → (length s == 0) ≡ false → IsCutAtSlash s piece rest →
    rest_parts text ≡ part_of piece ∷ rest_parts rest
first_part text s piece rest e n h = rest_parts-cut text s piece rest (sym e) (not_empty s n) h

pub first_readable : (text s piece rest : List ℕ) → are_bytes piece ≡ true → is_readable text ≡ true →
    s ≡ after_slashes text → (length s == 0) ≡ false → IsCutAtSlash s piece rest → (is_piece piece ≡ true) × (is_readable rest ≡ true)
first_readable text s piece rest f r e n h = readable-cut text s piece rest f r (sym e) (not_empty s n) h

-- slashes alone
pub only_dot : (text s : List ℕ) → 0 < length text → s ≡ after_slashes text → (length s == 0) ≡ true → rest_parts text ≡ Dot ∷ rest_parts s
only_dot [] s l e n = absurd (omega (arith, l))
only_dot (x ∷ xs) [] l e n = rest_parts-slashes x xs (sym e)
only_dot (x ∷ xs) (y ∷ ys) l e n = absurd (omega (arith, eqb-true (length (y ∷ ys)) 0 n))

-- what is left of a text has a part, unless it is empty
pub rest_parts-some : (x : ℕ) (xs : List ℕ) → has_no_part (rest_parts (x ∷ xs)) ≡ false
rest_parts-some x xs = by (after_slashes (x ∷ xs)) refl
  where
    by : (s : List ℕ) → after_slashes (x ∷ xs) ≡ s → has_no_part (rest_parts (x ∷ xs)) ≡ false
    by [] e = ap has_no_part (rest_parts-slashes x xs e)
    by (y ∷ ys) e =
        let pieces : components (x ∷ xs) ≡ components (y ∷ ys) = sym (components-after_slashes (x ∷ xs)) ∙ ap components e in
        ap (λ p. has_no_part (map part_of p ++ slash_part (ends_in_slash (x ∷ xs)))) pieces
        ∙ some_component y ys (slash_part (ends_in_slash (x ∷ xs))) (head-after_slashes (x ∷ xs) y ys e)

-- no part is left exactly where nothing of the text is
pub no_part_left : (text : List ℕ) → (length text == 0) ≡ has_no_part (rest_parts text)
no_part_left [] = refl
no_part_left (x ∷ xs) = ne_eqb (length (x ∷ xs)) 0 (λ e. omega (arith, e)) ∙ sym (rest_parts-some x xs)

-- a target of slashes alone has no parts
pub no_parts : (target text : List ℕ) → text ≡ after_slashes target → (length text == 0) ≡ true → parts_of ending.Dot target ≡ []
no_parts target [] e n = parts_of-begin target ∙ ap rest_parts (sym e)
no_parts target (x ∷ xs) e n = absurd (omega (arith, eqb-true (length (x ∷ xs)) 0 n))

-- the parts of a path without fault can be read
fault_free : (long short nul : Bool) →
    option_map text_errno
    (if long then Some LongText else (if not short then Some LongComponent else (if nul then Some NulInText else None))) ≡ None →
    (not nul && short) ≡ true
fault_free true short nul h = cc
fault_free false false nul h = cc
fault_free false true true h = cc
fault_free false true false h = refl

pub path_readable : (text : List ℕ) → path_fault text ≡ None → is_readable text ≡ true
path_readable [] h = cc
path_readable (b ∷ more) h = fault_free (nat_lt most_path (length (b ∷ more))) (has_short_components (b ∷ more)) (has_byte 0 (b ∷ more)) h

pub begin_readable : (path text : List ℕ) → path_fault path ≡ None → text ≡ after_slashes path → is_readable text ≡ true
begin_readable path text h e = ap is_readable e ∙ is_readable-after_slashes path ∙ path_readable path h

pub trimmed_readable : (path trimmed text : List ℕ) → path_fault path ≡ None → components trimmed ≡ components path →
    has_byte 0 trimmed ≡ has_byte 0 path → text ≡ after_slashes trimmed → is_readable text ≡ true
trimmed_readable path trimmed text h same nul e =
    ap is_readable e ∙ is_readable-after_slashes trimmed
    ∙ ap (λ v. not v && has_short_components trimmed) nul
    ∙ ap (λ pieces. not (has_byte 0 path) && list_all (λ piece. nat_le (length piece) 255) pieces) same
    ∙ path_readable path h

pub text_readable : (target text : List ℕ) → is_readable target ≡ true → text ≡ after_slashes target → is_readable text ≡ true
text_readable target text r e = ap is_readable e ∙ is_readable-after_slashes target ∙ r
