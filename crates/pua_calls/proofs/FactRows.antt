-- The rows of the table as they are kept, and what is said of each call.
use Rattle.pua_calls.proofs.Common.{◌≡◌, ◌∙◌, ◌<◌, ap, refl, sym, map, get_or, length, arith, subst, Call, calls, List, ℕ, Stat}
use Rattle.std.specs.Prelude.{◌+◌, ◌≤◌, ◌-◌, ◌++◌, ◌∷◌, ◌^◌, [], take, Option, Some, option_map}
use Rattle.std.proofs.lemmas.List.{get_or-map, length-map}
use Rattle.pua_calls.specs.declared.call.Facts.{Facts}
use Rattle.pua_calls.specs.Facts.{seen_facts}
use Rattle.pua_calls.specs.declared.promises.Keywords.{Keywords}
use Rattle.pua_calls.specs.Calls.{about, listed, call_count, call_name, call_number}

-- each call has its place
below : (call : Call) → call_number call - 1 < call_count
below Stat = search arith
below _ = search arith

placed : {A : Type 0} (said : Call → A) (e : A) (call : Call) → get_or (map said calls) (call_number call - 1) e ≡ said call
placed said e Stat = refl
placed said e _ = refl

-- so a row that is seen as what is said of the call at its place is seen as what is said of the call
pub row_of : {A : Type 0} {B : Type 0} (seen : A → B) (said : Call → B) (rows : List A) (e : A) (call : Call) (n : ℕ) → n ≡ call_number call →
    map seen rows ≡ map said calls → seen (get_or rows (n - 1) e) ≡ said call
row_of seen said rows e call n number is =
    let long : length rows ≡ call_count = sym (length-map rows seen) ∙ ap length is in
    let within : n - 1 < length rows = omega (arith, below call, long, number) in
    sym (get_or-map seen rows (n - 1) e (seen e) within)
    ∙ ap (λ all. get_or all (n - 1) (seen e)) is
    ∙ ap (λ k. get_or (map said calls) (k - 1) (seen e)) number
    ∙ placed said (seen e) call

-- and its line is that of the call's name
pub line_of : (rows : List Facts) (e : Facts) (call : Call) (n : ℕ) → n ≡ call_number call → map seen_facts rows ≡ map about calls →
    map (λ row. take (length row.name.now + 2) row.line.now) rows ≡ map (λ call. 32 ∷ call_name call ++ 10 ∷ []) calls →
    take (length (about call).name + 2) (get_or rows (n - 1) e).line.now ≡ 32 ∷ call_name call ++ 10 ∷ []
line_of rows e call n number seen lines =
    ap (λ name. take (length name + 2) (get_or rows (n - 1) e).line.now)
    (sym (ap (λ said. said.name) (row_of seen_facts about rows e call n number seen)))
    ∙ row_of (λ row. take (length row.name.now + 2) row.line.now) (λ call. 32 ∷ call_name call ++ 10 ∷ []) rows e call n number lines

-- what is said of a call are promises and permissions
standard_small : (call : Call) → get_or (about call).standard 0 0 < 2 ^ 36
standard_small Stat = search arith
standard_small _ = search arith

openbsd_small : (call : Call) → get_or (about call).openbsd 0 0 < 2 ^ 36
openbsd_small Stat = search arith
openbsd_small _ = search arith

other_small : (call : Call) → get_or (about call).openbsd 1 0 < 2 ^ 36
other_small Stat = search arith
other_small _ = search arith

perms_small : (call : Call) → (about call).perms < 16
perms_small Stat = search arith
perms_small _ = search arith

pub standard_below : (call : Call) (sets : Option Keywords) → (about call).standard ≡ listed (option_map (λ set. set.0) sets) →
    (set : Keywords) → sets ≡ Some set → set.0 < 2 ^ 36
standard_below call sets is set has =
    subst (λ n. n < 2 ^ 36) (ap (λ all. get_or all 0 0) (is ∙ ap (λ o. listed (option_map (λ set. set.0) o)) has)) (standard_small call)

pub openbsd_below : (call : Call) (n : ℕ) (others : List ℕ) → (about call).openbsd ≡ n ∷ others → n < 2 ^ 36
openbsd_below call n others is = subst (λ n. n < 2 ^ 36) (ap (λ all. get_or all 0 0) is) (openbsd_small call)

pub other_below : (call : Call) (n : ℕ) (sets : Option Keywords) → (about call).openbsd ≡ n ∷ listed (option_map (λ set. set.0) sets) →
    (set : Keywords) → sets ≡ Some set → set.0 < 2 ^ 36
other_below call n sets is set has =
    subst (λ n. n < 2 ^ 36) (ap (λ all. get_or all 1 0) (is ∙ ap (λ o. n ∷ listed (option_map (λ set. set.0) o)) has)) (other_small call)

pub perms_below : (call : Call) (n : ℕ) → n ≡ (about call).perms → n < 16
perms_below call n is = subst (λ n. n < 16) (sym is) (perms_small call)

-- a blank, a name and LF are within the width of a line
pub short : (call : Call) → length (call_name call) + 2 ≤ 16
short Stat = search arith
short _ = search arith
