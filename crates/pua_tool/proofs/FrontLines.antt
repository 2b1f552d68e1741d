-- The first lines of a text are the first of its lines.
use Rattle.std.proofs.Common.{◌≡◌, ◌∙◌, ◌+◌, ◌<◌, ◌≤◌, ◌⊎◌, ◌==◌, ℕ, zero, suc, Bool, true, false, List, [], ◌∷◌, ◌++◌, Option, Some, None, ap, append_assoc, arith, drop, get_or, inl, inr, length, nat_lt, option_map, refl, sym, take}
use Rattle.std.specs.Prelude.{if◌then◌else◌, unwrap_or}
use Rattle.std.specs.List.{All, position_or_len, before_first, after_first, slice_split}
use Rattle.std.specs.Str.Lines.{lines, lines_of_parts, strip_carriage_return}
use Rattle.std.proofs.Math.Seq.{drop-length, take-add, take-append-add, take-length, take-nil}
use Rattle.std.proofs.lemmas.Bool.{le-ltb, lt-ltb, ltb-false, ltb-true, ne_eqb}
use Rattle.std.proofs.lemmas.List.{append-nil, get_or-take, length-take-le, take-append-drop}
use Rattle.std.proofs.lemmas.List.Elements.{All-from_get_or}
use Rattle.std.proofs.lemmas.List.Splits.{length-slice_split, slice_split_at, slice_split_none}
use Rattle.std.proofs.lemmas.List.Sums.{fails_before_first, passes_at_first, split_at_first}
use Rattle.pua_tool.specs.FrontLaws.{AreFirst}
use Rattle.pua_tool.specs.Fronts.{first_lines, line_size, lines_size}

abbrev is_end : ℕ → Bool
is_end b = b == 10

more_parts : (part : List ℕ) (parts : List (List ℕ)) → 0 < length parts
    → lines_of_parts (part ∷ parts) ≡ strip_carriage_return part ∷ lines_of_parts parts
more_parts part [] some = absurd (omega (arith, some))
more_parts part (other ∷ more) some = refl

-- a line that has its end is the first, whatever follows
ended : (before : List ℕ) (b : ℕ) (rest : List ℕ) → All (λ x. is_end x ≡ false) before → is_end b ≡ true
    → lines ((before ++ b ∷ []) ++ rest) ≡ strip_carriage_return before ∷ lines rest
ended before b rest none is =
    ap lines (append_assoc before (b ∷ []) rest) ∙ ap lines_of_parts (slice_split_at is_end before b rest none is)
    ∙ more_parts before (slice_split is_end rest) (omega (arith, length-slice_split is_end rest))

-- the first line, and the lines behind it, or those of them that stand first
record Cut (bytes : List ℕ) : Type 0 where
  line : List ℕ
  all : lines bytes ≡ line ∷ lines (drop (line_size bytes) bytes)
  front : (size : ℕ) → lines (take (line_size bytes + size) bytes) ≡ line ∷ lines (take size (drop (line_size bytes) bytes))

-- the line is cut behind its end
module _ (bytes : List ℕ) (within : position_or_len is_end bytes < length bytes) where
  abbrev at : ℕ
  at = position_or_len is_end bytes

  abbrev before : List ℕ
  before = before_first is_end bytes

  abbrev last : ℕ
  last = get_or bytes at 0

  is_last : is_end last ≡ true
  is_last = passes_at_first is_end bytes 0 within

  before_size : length before ≡ at
  before_size = length-take-le at bytes (omega (arith, within))

  none_before : All (λ x. is_end x ≡ false) before
  none_before = All-from_get_or (λ x. is_end x ≡ false) before 0
      (λ i below. let in_front : i < at = omega (arith, below, before_size) in
      ap is_end (get_or-take at bytes i 0 in_front) ∙ fails_before_first is_end bytes i 0 in_front)

  cut_size : line_size bytes ≡ at + 1
  cut_size = ap size_by (lt-ltb at (length bytes) within)
    where
      size_by : Bool → ℕ
      size_by t = unwrap_or (option_map (λ before. before + 1) (if t then Some at else None)) (length bytes)

  first : take (at + 1) bytes ≡ before ++ last ∷ []
  first =
      ap (take (at + 1)) (split_at_first is_end bytes 0 within)
      ∙ ap (λ (n : ℕ). take (n + 1) (before ++ (last ∷ after_first is_end bytes))) (sym before_size)
      ∙ take-append-add before (last ∷ after_first is_end bytes) 1

  cut_front : (rest : List ℕ) → lines (take (line_size bytes) bytes ++ rest) ≡ strip_carriage_return before ∷ lines rest
  cut_front rest =
      ap (λ (n : ℕ). lines (take n bytes ++ rest)) cut_size ∙ ap (λ (l : List ℕ). lines (l ++ rest)) first
      ∙ ended before last rest none_before is_last

-- the line is the last, and has no end
module _ (bytes : List ℕ) (some : 0 < length bytes) (without : length bytes ≤ position_or_len is_end bytes) where
  whole_size : line_size bytes ≡ length bytes
  whole_size = ap size_by (le-ltb (position_or_len is_end bytes) (length bytes) without)
    where
      size_by : Bool → ℕ
      size_by t =
          unwrap_or (option_map (λ before. before + 1) (if t then Some (position_or_len is_end bytes) else None)) (length bytes)

  one_line : lines bytes ≡ bytes ∷ []
  one_line =
      ap lines_of_parts (slice_split_none is_end bytes
      (All-from_get_or (λ x. is_end x ≡ false) bytes 0 (λ i below. fails_before_first is_end bytes i 0 (omega (arith, below, without)))))
      ∙ one bytes some
    where
      one : (l : List ℕ) → 0 < length l → lines_of_parts (l ∷ []) ≡ l ∷ []
      one l some = ap (λ (t : Bool). if t then [] else (l ∷ [])) (ne_eqb (length l) 0 (λ (none : length l ≡ 0). omega (arith, some, none)))

  nothing_behind : drop (line_size bytes) bytes ≡ []
  nothing_behind = ap (λ (n : ℕ). drop n bytes) whole_size ∙ drop-length bytes

-- the front of a text that begins with its first line
with_first : (size k : ℕ) (bytes : List ℕ) → take (k + size) bytes ≡ take k bytes ++ take size (drop k bytes)
with_first size k bytes = take-add k size bytes

test : (a b : ℕ) (t : Bool) → nat_lt a b ≡ t → (a < b) ⊎ (b ≤ a)
test a b true is = inl (ltb-true a b is)
test a b false is = inr (ltb-false a b is)

cut : (bytes : List ℕ) → 0 < length bytes → Cut bytes
cut bytes some = by (test (position_or_len is_end bytes) (length bytes) (nat_lt (position_or_len is_end bytes) (length bytes)) refl)
  where
    by : (position_or_len is_end bytes < length bytes) ⊎ (length bytes ≤ position_or_len is_end bytes) → Cut bytes
    by (inl within) = record {
      line = strip_carriage_return (before_first is_end bytes);
      all = ap lines (sym (take-append-drop (line_size bytes) bytes)) ∙ cut_front bytes within (drop (line_size bytes) bytes);
      front = λ size. ap lines (with_first size (line_size bytes) bytes) ∙ cut_front bytes within (take size (drop (line_size bytes) bytes));
    }
    by (inr without) =
        let none = nothing_behind bytes some without in
        let one = one_line bytes some without in
        record {
          line = bytes;
          all = one ∙ ap (λ (l : List ℕ). bytes ∷ lines l) (sym none);
          front = λ size.
              ap lines (with_first size (line_size bytes) bytes)
              ∙ ap (λ (n : ℕ). lines (take n bytes ++ take size (drop (line_size bytes) bytes))) (whole_size bytes some without)
              ∙ ap (λ (l : List ℕ). lines (l ++ take size (drop (line_size bytes) bytes))) (take-length bytes)
              ∙ ap (λ (l : List ℕ). lines (bytes ++ take size l)) none ∙ ap (λ (l : List ℕ). lines (bytes ++ l)) (take-nil size)
              ∙ ap lines (append-nil bytes) ∙ one ∙ ap (λ (l : List ℕ). bytes ∷ lines l) (sym (take-nil size))
              ∙ ap (λ (l : List ℕ). bytes ∷ lines (take size l)) (sym none);
        }

-- by how many bytes the first lines have
abbrev AreIn : ℕ → List ℕ → Option ℕ → Type 0
AreIn n bytes None = length (lines bytes) < n
AreIn n bytes (Some size) = (n ≤ length (lines bytes)) × (lines (take size bytes) ≡ take n (lines bytes))

one_more : (n : ℕ) (bytes : List ℕ) (c : Cut bytes) (o : Option ℕ) → AreIn n (drop (line_size bytes) bytes) o
    → AreIn (suc n) bytes (option_map (λ size. line_size bytes + size) o)
one_more n bytes c None fewer = omega (arith, fewer, ap length c.all)
one_more n bytes c (Some size) are = (
  omega (arith, are.0, ap length c.all),
  c.front size ∙ ap (λ (l : List (List ℕ)). c.line ∷ l) are.1 ∙ ap (take (suc n)) (sym c.all),
)

sizes_are : (n : ℕ) (bytes : List ℕ) → AreIn n bytes (lines_size n bytes)
sizes_are zero bytes = (omega arith, refl)
sizes_are (suc n) [] = omega arith
sizes_are (suc n) (b ∷ more) =
    one_more n (b ∷ more) (cut (b ∷ more) (omega arith)) (lines_size n (drop (line_size (b ∷ more)) (b ∷ more)))
    (sizes_are n (drop (line_size (b ∷ more)) (b ∷ more)))

pub front_is : (n : ℕ) (bytes : List ℕ) → AreFirst n bytes (first_lines n bytes)
front_is n bytes = by (lines_size n bytes) (sizes_are n bytes)
  where
    by : (o : Option ℕ) → AreIn n bytes o → AreFirst n bytes (option_map (λ size. take size bytes) o)
    by None are = are
    by (Some size) are = are
