-- Each veil in a list is what is kept at its place, where no place stands twice.
use Rattle.pua_ever.proofs.Common.{◌≡◌, ℕ, List, [], ◌∷◌, Bool, true, false, cond, refl, sym, ap, ◌∙◌, inl, inr, Some, Some≢None}
use Rattle.pua_ever.proofs.Common.{same_place, Place, same_place_is, Among}
use Rattle.pua_policy.specs.States.{EachOnce, veil_at}
use Rattle.pua_policy.proofs.ForCallers.{same_place_refl}

pub among_kept_at : (vs : List (Place × ℕ)) → EachOnce vs → (at : Place) (perms : ℕ) → Among vs (at, perms) → veil_at vs at ≡ Some perms
among_kept_at [] once at perms a = absurd a
among_kept_at (v ∷ vs) once at perms (inl e) = ap (λ (w : Place × ℕ). cond (same_place at w.0) (Some w.1) (veil_at vs at)) e ∙
    ap (λ b. cond b (Some perms) (veil_at vs at)) (same_place_refl at)
among_kept_at (v ∷ vs) once at perms (inr a) = by (same_place at v.0) refl (among_kept_at vs once.1 at perms a)
  where
    by : (s : Bool) → same_place at v.0 ≡ s → veil_at vs at ≡ Some perms → veil_at (v ∷ vs) at ≡ Some perms
    by true is rest = absurd (Some≢None perms (sym rest ∙ ap (veil_at vs) (same_place_is at v.0 is) ∙ once.0))
    by false is rest = ap (λ b. cond b (Some v.1) (veil_at vs at)) is ∙ rest
