-- Two processes that keep each other's veils, in any order, have the same veils: what `--process 1,2` tests.
use Rattle.pua_script.proofs.Common.{◌≡◌, ℕ, Bool, true, false, ◌&&◌, cond, List, [], ◌∷◌, Option, Some, None, refl, sym, ap, ◌∙◌, ProcessState, and_parts, None≢Some}
use Rattle.std.proofs.Common.{eqb}
use Rattle.std.proofs.lemmas.Bool.{eqb-true, true≢false}
use Rattle.pua_policy.specs.States.{SameVeils, veil_at, has_veil, same_place}
use Rattle.pua_policy.specs.declared.place.Place.{Place}
use Rattle.pua_policy.proofs.ForCallers.{same_place_is}

abbrev pub is_kept : Option ℕ → ℕ → Bool
is_kept None perms = false
is_kept (Some kept) perms = eqb kept perms

abbrev pub veils_kept : List (Place × ℕ) → List (Place × ℕ) → Bool
veils_kept vs [] = true
veils_kept vs (veil ∷ more) = is_kept (veil_at vs veil.0) veil.1 && veils_kept vs more

kept_so : (o : Option ℕ) (perms : ℕ) → is_kept o perms ≡ true → o ≡ Some perms
kept_so None perms e = absurd (true≢false (sym e))
kept_so (Some kept) perms e = ap Some (eqb-true kept perms e)

-- what one has at a place the other has
has_so : (vs us : List (Place × ℕ)) → veils_kept vs us ≡ true → (place : Place) (perms : ℕ) → veil_at us place ≡ Some perms →
    veil_at vs place ≡ Some perms
has_so vs [] all place perms at = absurd (None≢Some perms at)
has_so vs (v ∷ us) all place perms at =
    let parts = and_parts (is_kept (veil_at vs v.0) v.1) (veils_kept vs us) all in
    by (same_place place v.0) refl (kept_so (veil_at vs v.0) v.1 parts.0) (has_so vs us parts.1 place perms) at
  where
    by : (b : Bool) → same_place place v.0 ≡ b → veil_at vs v.0 ≡ Some v.1 → (veil_at us place ≡ Some perms → veil_at vs place ≡ Some perms) →
        cond b (Some v.1) (veil_at us place) ≡ Some perms → veil_at vs place ≡ Some perms
    by true is here rest at = ap (veil_at vs) (same_place_is place v.0 is) ∙ here ∙ at
    by false is here rest at = rest at

same_option : (o p : Option ℕ) → ((n : ℕ) → o ≡ Some n → p ≡ Some n) → ((n : ℕ) → p ≡ Some n → o ≡ Some n) → o ≡ p
same_option None None to from = refl
same_option (Some n) p to from = sym (to n refl)
same_option None (Some n) to from = from n refl

any_so : (vs us : List (Place × ℕ)) → veils_kept vs us ≡ true → has_veil us ≡ true → has_veil vs ≡ true
any_so [] [] all any = any
any_so [] (v ∷ us) all any = absurd (true≢false (sym all))
any_so (w ∷ vs) us all any = refl

same_truth : (x y : Bool) → (x ≡ true → y ≡ true) → (y ≡ true → x ≡ true) → x ≡ y
same_truth true true p q = refl
same_truth false false p q = refl
same_truth true false p q = sym (p refl)
same_truth false true p q = q refl

pub veils_alike : (a b : ProcessState) → veils_kept b.veils a.veils ≡ true → veils_kept a.veils b.veils ≡ true → SameVeils a b
veils_alike a b to from = record {
  any = same_truth _ _ (any_so b.veils a.veils to) (any_so a.veils b.veils from);
  kept = λ place. same_option _ _ (has_so b.veils a.veils to place) (has_so a.veils b.veils from place);
}
