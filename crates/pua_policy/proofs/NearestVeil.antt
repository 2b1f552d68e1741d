-- What is told of a cover is so.
use Rattle.pua_policy.proofs.Common.{◌≡◌, ℕ, Bool, true, false, List, [], ◌∷◌, refl, sym, ap, ◌∙◌, subst, if◌then◌else◌, Tree}
use Rattle.pua_policy.proofs.Common.{Errno, Found, holds, ProcessState, Unveiled, state_after, veil_at, has_veil, with_veil, same_place, places_over, cover, cover_fault}
use Rattle.pua_policy.proofs.Common.{Place, Only}
use Rattle.std.proofs.Common.{◌++◌, Some, None, append_assoc, append-nil}
use Rattle.std.proofs.Common.{Option}
use Rattle.std.specs.Prelude.{◌&&◌, ◌↔◌, is_none}
use Rattle.std.specs.List.{list_all}
use Rattle.std.proofs.lemmas.List.Folds.{list_all-append}
use Rattle.pua_path.specs.declared.errno.Errno.TheVariants.{EACCES}
use Rattle.pua_policy.proofs.Veils.{same_place_is, same_place_refl, nearest_counts, veil_at-with_veil}
use Rattle.pua_policy.specs.declared.reason.Covering.{Covering}
use Rattle.pua_policy.specs.declared.reason.Covering.TheVariants.{InView, NoneOver, By}
use Rattle.pua_policy.specs.Reasons.{kept_or, first_kept}
use Rattle.pua_policy.specs.ReasonLaws.{NoneKept, DecidesBy, CoveringHolds, CoveringsHold}
use Rattle.pua_policy.proofs.Coverings.{coverings_cover}

-- the first place with a veil, behind places without one
record IsFirst (h : ProcessState) (places : List Place) (place : Place) (given : ℕ) : Type 0 where
  near : List Place
  far : List Place
  split : places ≡ near ++ place ∷ far
  none_nearer : NoneKept h near
  kept_here : veil_at h.veils place ≡ Some given

abbrev FirstHolds : ProcessState → List Place → Covering → Type 0
FirstHolds h places InView = ⊥
FirstHolds h places NoneOver = NoneKept h places
FirstHolds h places (By place given) = IsFirst h places place given

one_more : (h : ProcessState) (near : List Place) (place : Place) → NoneKept h near → veil_at h.veils place ≡ None → NoneKept h (near ++ place ∷ [])
one_more h near place none e = list_all-append (λ p. is_none (veil_at h.veils p)) near (place ∷ []) ∙
    ap (λ v. v && (is_none (veil_at h.veils place) && true)) none ∙ ap (λ o. is_none o && true) e

first_holds : (h : ProcessState) (near places : List Place) → NoneKept h near → FirstHolds h (near ++ places) (first_kept (veil_at h.veils) places)
first_holds h near [] none = ap (list_all (λ p. is_none (veil_at h.veils p))) (append-nil near) ∙ none
first_holds h near (place ∷ places) none =
    by (veil_at h.veils place) refl (λ e. first_holds h (near ++ place ∷ []) places (one_more h near place none e))
  where
    by : (o : Option ℕ) → veil_at h.veils place ≡ o →
        (veil_at h.veils place ≡ None → FirstHolds h ((near ++ place ∷ []) ++ places) (first_kept (veil_at h.veils) places)) →
        FirstHolds h (near ++ place ∷ places) (kept_or place o (first_kept (veil_at h.veils) places))
    by (Some given) e more = record { near = near; far = places; split = refl; none_nearer = none; kept_here = e }
    by None e more = subst (λ ps. FirstHolds h ps (first_kept (veil_at h.veils) places)) (append_assoc near (place ∷ []) places) (more e)

-- a veil put anew at a place leaves the others as they are
none_anew : (h : ProcessState) (place : Place) (given letters : ℕ) → veil_at h.veils place ≡ Some given → (near : List Place) →
    NoneKept h near → NoneKept (state_after (Unveiled place letters) h) near
none_anew h place given letters here [] none = refl
none_anew h place given letters here (p ∷ near) none =
    ap (λ o. is_none o && list_all (λ q. is_none (veil_at (with_veil place letters h.veils) q)) near) (veil_at-with_veil place letters h.veils p)
    ∙ by (same_place p place) refl (veil_at h.veils p) refl none (none_anew h place given letters here near)
  where
    by : (v : Bool) → same_place p place ≡ v → (o : Option ℕ) → veil_at h.veils p ≡ o →
        (is_none o && list_all (λ q. is_none (veil_at h.veils q)) near) ≡ true →
        (NoneKept h near → NoneKept (state_after (Unveiled place letters) h) near) →
        (is_none (if v then Some letters else o) && list_all (λ q. is_none (veil_at (with_veil place letters h.veils) q)) near) ≡ true
    by true same o e none more =
        let one : p ≡ place = same_place_is p place same in
        let some : o ≡ Some given = sym e ∙ ap (veil_at h.veils) one ∙ here in
        let bad : false ≡ true = ap (λ o. is_none o && list_all (λ q. is_none (veil_at h.veils q)) near) (sym some) ∙ none in cc
    by false same None e none more = more none
    by false same (Some x) e none more = cc

fault_none : (v : Bool) → (◌≡◌ {A = Option Errno} (if v then None else Some EACCES) None) ↔ (v ≡ true)
fault_none true = (λ e. refl, λ e. refl)
fault_none false = (λ e. cc, λ e. cc)

decides : (t : Tree) (h : ProcessState) (object : Found) (place : Place) (given : ℕ) → IsFirst h (places_over t object) place given →
    DecidesBy t h object place given
decides t h object place given f = record {
  near = f.near;
  far = f.far;
  split = f.split;
  none_nearer = f.none_nearer;
  kept_here = f.kept_here;
  were = λ letters wanted.
      let is : cover t (state_after (Unveiled place letters) h) object ≡ Only letters =
      nearest_counts t (state_after (Unveiled place letters) h) object f.near f.far place letters f.split
      (none_anew h place given letters f.kept_here f.near f.none_nearer)
      (veil_at-with_veil place letters h.veils place
      ∙ ap (λ v. if v then Some letters else veil_at h.veils place) (same_place_refl place)) in
      subst (λ c. (cover_fault c wanted ≡ None) ↔ (holds letters wanted ≡ true)) (sym is) (fault_none (holds letters wanted));
}

pub coverings_hold : CoveringsHold
coverings_hold t h object = (coverings_cover t h object, by (has_veil h.veils) refl)
  where
    first : (c : Covering) → FirstHolds h (places_over t object) c → CoveringHolds t h object c
    first InView f = absurd f
    first NoneOver f = f
    first (By place given) f = decides t h object place given f

    by : (v : Bool) → has_veil h.veils ≡ v →
        CoveringHolds t h object (if v then first_kept (veil_at h.veils) (places_over t object) else InView)
    by true e = first (first_kept (veil_at h.veils) (places_over t object)) (first_holds h [] (places_over t object) refl)
    by false e = e
