-- What a set lacks of another, and what is told of promises.
use Rattle.pua_policy.proofs.Common.{◌≡◌, ℕ, ◌+◌, Bool, true, false, List, [], ◌∷◌, map, refl, sym, ap, ◌∙◌, arith, if◌then◌else◌, ◌||◌}
use Rattle.pua_policy.proofs.Common.{list_any, eqb-true, eq-eqb, holds, ProcessState}
use Rattle.std.proofs.Common.{◌%◌, ◌<◌, Some, None, Option}
use Rattle.std.proofs.Common.{min, max}
use Rattle.std.specs.Prelude.{bit_and, bit_or, is_some, find}
use Rattle.std.specs.Int.{bit_at}
use Rattle.std.proofs.lemmas.Nat.Bits.{bit_at_and, bit_at_or, bit_at_xor, bit_at-lt, same_from_bits}
use Rattle.pua_calls.specs.Promises.{lacking, error}
use Rattle.pua_policy.specs.States.{held_set}
use Rattle.pua_policy.specs.Reasons.{HasEnded, Lacks, holds_or, may_of}
use Rattle.pua_policy.specs.ReasonLaws.{LackingsHold, LackSome, PromisingHolds, PromisingsHold, PromisingsAnswer}
use Rattle.pua_policy.specs.declared.answer.May.TheVariants as may

lacking_bit : (set wanted i : ℕ) → bit_at (lacking set wanted) i ≡ (bit_at wanted i + min (bit_at wanted i) (bit_at set i)) % 2
lacking_bit set wanted i = bit_at_xor wanted (bit_and wanted set) i ∙ ap (λ b. (bit_at wanted i + b) % 2) (bit_at_and wanted set i)

with_lacking : (g w : ℕ) → g < 2 → w < 2 → min (max g ((w + min w g) % 2)) w ≡ w
with_lacking g w a b = omega arith

no_less : (g w x : ℕ) → g < 2 → w < 2 → x < 2 → min (max g x) w ≡ w → min x ((w + min w g) % 2) ≡ (w + min w g) % 2
no_less g w x a b c e = omega arith

pub suffices : (set wanted : ℕ) → bit_and (bit_or set (lacking set wanted)) wanted ≡ wanted
suffices set wanted = same_from_bits _ _ (λ i.
    bit_at_and (bit_or set (lacking set wanted)) wanted i
    ∙ ap (λ b. min b (bit_at wanted i)) (bit_at_or set (lacking set wanted) i ∙ ap (max (bit_at set i)) (lacking_bit set wanted i))
    ∙ with_lacking (bit_at set i) (bit_at wanted i) (bit_at-lt set i) (bit_at-lt wanted i))

pub least : (set wanted more : ℕ) → bit_and (bit_or set more) wanted ≡ wanted → bit_and more (lacking set wanted) ≡ lacking set wanted
least set wanted more e = same_from_bits _ _ (λ i.
    let at : min (max (bit_at set i) (bit_at more i)) (bit_at wanted i) ≡ bit_at wanted i =
    ap (λ b. min b (bit_at wanted i)) (sym (bit_at_or set more i)) ∙ sym (bit_at_and (bit_or set more) wanted i) ∙ ap (λ n. bit_at n i) e in
    bit_at_and more (lacking set wanted) i
    ∙ ap (min (bit_at more i)) (lacking_bit set wanted i)
    ∙ no_less (bit_at set i) (bit_at wanted i) (bit_at more i) (bit_at-lt set i) (bit_at-lt wanted i) (bit_at-lt more i) at
    ∙ sym (lacking_bit set wanted i))

pub lackings_hold : LackingsHold
lackings_hold set wanted = record {
  suffices = eq-eqb _ _ (suffices set wanted);
  least = λ more e. eq-eqb _ _ (least set wanted more (eqb-true _ _ e));
}

-- where no set is found, none is held
none_found : (h : ProcessState) (sets : List ℕ) → find (holds (held_set h)) sets ≡ None → LackSome h sets (map (lacking (held_set h)) sets)
none_found h [] e = tt
none_found h (set ∷ sets) e = by (holds (held_set h) set) refl e (none_found h sets)
  where
    by : (v : Bool) → holds (held_set h) set ≡ v → (if v then Some set else find (holds (held_set h)) sets) ≡ None →
        (find (holds (held_set h)) sets ≡ None → LackSome h sets (map (lacking (held_set h)) sets)) →
        LackSome h (set ∷ sets) (lacking (held_set h) set ∷ map (lacking (held_set h)) sets)
    by true is e more = cc
    by false is e more = (record { not_held = is; were_held = eq-eqb _ _ (suffices (held_set h) set); of_it = refl }, more e)

some_found : (test : ℕ → Bool) (sets : List ℕ) (set : ℕ) → find test sets ≡ Some set → test set ≡ true
some_found test [] set e = cc
some_found test (x ∷ sets) set e = by (test x) refl e (some_found test sets set)
  where
    by : (v : Bool) → test x ≡ v → (if v then Some x else find test sets) ≡ Some set → (find test sets ≡ Some set → test set ≡ true) →
        test set ≡ true
    by true is e more = let same : x ≡ set = cc in ap test (sym same) ∙ is
    by false is e more = more e

pub promisings_hold : PromisingsHold
promisings_hold h sets = by (h.ended) refl (find (holds (held_set h)) sets) refl
  where
    by : (v : Bool) → h.ended ≡ v → (o : Option ℕ) → find (holds (held_set h)) sets ≡ o →
        PromisingHolds h sets (if v then HasEnded else holds_or o (Lacks (holds (held_set h) error) (map (lacking (held_set h)) sets)))
    by true ended o e = ended
    by false living (Some set) e = (some_found (holds (held_set h)) sets set e, living)
    by false living None e = none_found h sets e

-- a test finds something exactly where something passes it
any_found : (test : ℕ → Bool) (sets : List ℕ) → is_some (find test sets) ≡ list_any test sets
any_found test [] = refl
any_found test (set ∷ sets) = by (test set) (any_found test sets)
  where
    by : (v : Bool) → is_some (find test sets) ≡ list_any test sets →
        is_some (if v then Some set else find test sets) ≡ (v || list_any test sets)
    by true h = refl
    by false h = h

pub promisings_answer : PromisingsAnswer
promisings_answer h sets =
    by (h.ended) (find (holds (held_set h)) sets) (list_any (holds (held_set h)) sets) (holds (held_set h) error)
    (any_found (holds (held_set h)) sets)
  where
    by : (ended : Bool) (found : Option ℕ) (any error : Bool) → is_some found ≡ any →
        may_of (if ended then HasEnded else holds_or found (Lacks error (map (lacking (held_set h)) sets)))
        ≡ (if ended then may.Death else (if any then may.Yes else (if error then may.Enosys else may.Death)))
    by true found any error e = refl
    by false (Some set) true error e = refl
    by false (Some set) false error e = cc
    by false None true error e = cc
    by false None false true e = refl
    by false None false false e = refl
