-- How many letters at the front of a word have only bytes that stand for themselves.
use Rattle.pua_audit.proofs.Common.{◌≡◌, ◌<◌, ◌≤◌, ℕ, zero, suc, true, false, List, [], ◌∷◌, ◌++◌, length, take, min, nat_eq, inl, inr}
use Rattle.pua_audit.proofs.Common.{refl, sym, ap, ◌∙◌, arith, if◌then◌else◌, list_all, is_plain, Word, from_root, lent_path, Base, Root}
use Rattle.pua_audit.proofs.Common.{Cwd}
use Rattle.std.specs.Prelude.{◌&&◌}
use Rattle.std.proofs.lemmas.Bool.Decides.{eqb_tells}
use Rattle.std.proofs.lemmas.List.Folds.{list_all-append}
use Rattle.pua_audit.specs.WordPaths.{plain_front}

-- of the first letters it is as many, or all that there are
pub front-take : (k : ℕ) (word : Word) → plain_front (take k word) ≡ min (plain_front word) k
front-take zero [] = omega arith
front-take zero (a ∷ word) = omega arith
front-take (suc k) [] = omega arith
front-take (suc k) (a ∷ word) =
    elim (list_all is_plain a) as (λ b. (if b then suc (plain_front (take k word)) else 0) ≡ min (if b then suc (plain_front word) else 0)
    (suc k)) [
      | true ↦ omega (arith, front-take k word)
      | false ↦ omega arith
    ]

-- after a letter that isn't plain no letter counts
pub push_after : (word : Word) (a : List ℕ) → plain_front word < length word → plain_front (word ++ a ∷ []) ≡ plain_front word
push_after [] a low = absurd (omega (arith, low))
push_after (b ∷ word) a low =
    elim (list_all is_plain b) as (λ v. (if v then suc (plain_front word) else 0) < suc (length word) →
    (if v then suc (plain_front (word ++ a ∷ [])) else 0) ≡ (if v then suc (plain_front word) else 0)) [
      | true ↦ λ fewer. ap suc (push_after word a (omega (arith, fewer)))
      | false ↦ λ fewer. refl
    ] low

-- nor does one that isn't plain
pub push_escaped : (word : Word) (a : List ℕ) → list_all is_plain a ≡ false → plain_front (word ++ a ∷ []) ≡ plain_front word
push_escaped [] a escaped = rw escaped refl
push_escaped (b ∷ word) a escaped =
    elim (list_all is_plain b) as (λ v. (if v then suc (plain_front (word ++ a ∷ [])) else 0) ≡ (if v then suc (plain_front word) else 0)) [
      | true ↦ ap suc (push_escaped word a escaped)
      | false ↦ refl
    ]

-- a plain letter after plain ones counts
pub push_plain : (word : Word) (a : List ℕ) → list_all is_plain a ≡ true → length word ≤ plain_front word →
    plain_front (word ++ a ∷ []) ≡ suc (length word)
push_plain [] a plain all = rw plain refl
push_plain (b ∷ word) a plain all =
    elim (list_all is_plain b) as (λ v. suc (length word) ≤ (if v then suc (plain_front word) else 0) →
    (if v then suc (plain_front (word ++ a ∷ [])) else 0) ≡ suc (suc (length word))) [
      | true ↦ λ each. ap suc (push_plain word a plain (omega (arith, each)))
      | false ↦ λ each. absurd (omega (arith, each))
    ] all

root_split : (a : List ℕ) (word : Word) →
    list_all is_plain (from_root (a ∷ word)) ≡ (list_all is_plain a && list_all is_plain (from_root word))
root_split a word = list_all-append is_plain a (from_root word)

-- the path is plain where all letters are
pub whole_plain : (word : Word) → length word ≤ plain_front word → list_all is_plain (from_root word) ≡ true
whole_plain [] all = refl
whole_plain (b ∷ word) all =
    root_split b word
    ∙ (elim (list_all is_plain b) as (λ v. suc (length word) ≤ (if v then suc (plain_front word) else 0) →
    (v && list_all is_plain (from_root word)) ≡ true) [
      | true ↦ λ each. whole_plain word (omega (arith, each))
      | false ↦ λ each. absurd (omega (arith, each))
    ] all)

-- and only there
pub not_plain : (word : Word) → plain_front word < length word → list_all is_plain (from_root word) ≡ false
not_plain [] low = absurd (omega (arith, low))
not_plain (b ∷ word) low =
    root_split b word
    ∙ (elim (list_all is_plain b) as (λ v. (if v then suc (plain_front word) else 0) < suc (length word) →
    (v && list_all is_plain (from_root word)) ≡ false) [
      | true ↦ λ fewer. not_plain word (omega (arith, fewer))
      | false ↦ λ fewer. refl
    ] low)

front_few : (word : Word) → plain_front word ≤ length word
front_few [] = omega arith
front_few (b ∷ word) =
    elim (list_all is_plain b) as (λ v. (if v then suc (plain_front word) else 0) ≤ suc (length word)) [
      | true ↦ omega (arith, front_few word)
      | false ↦ omega arith
    ]

-- so the two numbers tell
pub front_whole : (word : Word) (front all : ℕ) → front ≡ plain_front word → all ≡ length word →
    nat_eq front all ≡ list_all is_plain (from_root word)
front_whole word front all is many =
    elim (eqb_tells front all) [
      | inl same ↦ same.0 ∙ sym (whole_plain word (omega (arith, same.1, is, many)))
      | inr other ↦ other.0 ∙ sym (not_plain word (omega (arith, other.1, is, many, front_few word)))
    ]

-- the path that is lent has no other bytes
pub lent_plain : (base : Base) (word : Word) → list_all is_plain (lent_path base (from_root word)) ≡ list_all is_plain (from_root word)
lent_plain Root [] = refl
lent_plain Root (a ∷ word) = refl
lent_plain Cwd [] = refl
lent_plain Cwd (a ∷ word) = refl
