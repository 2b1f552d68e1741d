-- What is found among the rows of openings.
use Rattle.pua_script.proofs.Common.{◌≡◌, ℕ, refl, sym, ap, ◌∙◌, Bool, true, false, ◌&&◌, List, [], ◌∷◌, Option, Some, None, option_map, cond}
use Rattle.pua_script.proofs.Common.{Result, Ok, Err, Errno, ◌==◌, eqb-true, false≢true, and_parts, list_all, Call, holds}
use Rattle.std.specs.Prelude.{map}
use Rattle.std.specs.List.{find}
use Rattle.std.specs.Borrow.{Bor}
use Rattle.pua_calls.specs.Promises.{promises_of}
use Rattle.pua_script.specs.Openings.{holds_named, is_opening, opening_seen, opens_call}
use Rattle.pua_script.specs.declared.opening.Opening.{Opening as Row}

-- what is found of rows that are lent
pub seen_twice : {A B : Type 0} (seen : A → B) (o : Option (Bor A)) →
    option_map (λ row. seen row.now) o ≡ option_map seen (option_map (λ row. row.now) o)
seen_twice seen None = refl
seen_twice seen (Some row) = refl

-- what is found among rows stands for what is found among those that they stand for
pub find_seen : {A B : Type 0} (seen : A → B) (test : B → Bool) (rows : List A) →
    option_map seen (find (λ row. test (seen row)) rows) ≡ find test (map seen rows)
find_seen seen test [] = refl
find_seen seen test (row ∷ rows) = by (test (seen row)) (find_seen seen test rows)
  where
    by : (b : Bool) → option_map seen (find (λ r. test (seen r)) rows) ≡ find test (map seen rows) →
        option_map seen (cond b (Some row) (find (λ r. test (seen r)) rows)) ≡ cond b (Some (seen row)) (find test (map seen rows))
    by true same = refl
    by false same = same

-- the bits of a row are those of its keyword
abbrev are_bits : ℕ → Result ℕ Errno → Bool
are_bits bits (Ok wanted) = wanted == bits
are_bits bits (Err errno) = false

abbrev pub has_bits : Row → Bool
has_bits row = are_bits row.bits (promises_of row.promise.now)

held_alike : (set bits : ℕ) (wanted : Result ℕ Errno) → are_bits bits wanted ≡ true → holds set bits ≡ holds_named set wanted
held_alike set bits (Ok wanted) e = ap (holds set) (sym (eqb-true wanted bits e))
held_alike set bits (Err errno) e = absurd (false≢true e)

-- so it does not matter whether the promise is asked first
pub held_first : (set : ℕ) (call : Call) (text : List ℕ) (rows : List Row) → list_all has_bits rows ≡ true →
    find (λ row. holds set row.bits && opens_call call text (opening_seen row)) rows
    ≡ find (λ row. is_opening set call text (opening_seen row)) rows
held_first set call text [] have = refl
held_first set call text (row ∷ rows) have = λ i. cond (by_keyword i) (Some row) (held_first set call text rows two.1 i)
  where
    two : (has_bits row ≡ true) × (list_all has_bits rows ≡ true)
    two = and_parts (has_bits row) (list_all has_bits rows) have

    swapped : (a b : Bool) → (a && b) ≡ (b && a)
    swapped true true = refl
    swapped true false = refl
    swapped false true = refl
    swapped false false = refl

    by_keyword : (holds set row.bits && opens_call call text (opening_seen row)) ≡ is_opening set call text (opening_seen row)
    by_keyword = swapped (holds set row.bits) (opens_call call text (opening_seen row))
        ∙ ap (λ held. opens_call call text (opening_seen row) && held) (held_alike set row.bits (promises_of row.promise.now) two.0)
