-- The veils are the places kept, and only an unveil changes a cover.
use Rattle.pua_policy.proofs.Common.{◌≡◌, ℕ, List, [], ◌∷◌, map, length, Bool, true, false, refl, sym, ap, ◌∙◌, eqb-true, eq-eqb, Option}
use Rattle.pua_policy.proofs.Common.{Some, None, Place, Dir, ProcessState, Pledged, Unveiled, Locked, Moved, Ended, Filed, has_veil, with_veil}
use Rattle.pua_policy.proofs.Common.{state_after}
use Rattle.pua_policy.proofs.Common.{veil_at, same_place, and_parts, Tree, Found, Errno, All, Only, holds, cover, cover_fault}
use Rattle.pua_policy.proofs.Common.{nearest, places_over}
use Rattle.std.proofs.Common.{◌++◌, cond}
use Rattle.std.specs.Prelude.{◌==◌, ◌&&◌, IfSome, is_none}
use lib.Pointwise.{bytes_decides}
use Rattle.std.specs.Map.{lookup, lookup_key}
use Rattle.indexmap.specs.IndexMap.{insert_entry}
use Rattle.pua_tree.specs.Names.{same_bytes}
use Rattle.pua_policy.specs.declared.place.Place.TheVariants.{Slot}
use Rattle.pua_policy.specs.States.{place_fault, EachOnce}
use Rattle.pua_policy.specs.History.{veils}
use Rattle.std.proofs.lemmas.List.{map-append}
use Rattle.std.proofs.lemmas.List.Folds.{list_all-map}
use Rattle.std.proofs.lemmas.Nat.{and_comm}
use Rattle.std.specs.List.{list_all}
use Rattle.pua_path.specs.declared.errno.Errno.TheVariants.{EACCES}
use Rattle.pua_policy.specs.declared.answer.UnveilFault.TheVariants.{NotPermitted}
use Rattle.pua_policy.specs.Verdict.{place_of, directories_over}
use Rattle.pua_policy.proofs.PromisesGoAway.{second_holds}
use Rattle.pua_policy.specs.Laws.{VeilsAreKept, CoverNeedsUnveil, NearestCounts, KeptPlacesNarrow}
use Rattle.pua_tree.proofs.ForCallers.{Some≢None}

-- places that test alike are one
pub same_place_is : (a b : Place) → same_place a b ≡ true → a ≡ b
same_place_is (Dir a) (Dir b) e = ap Dir (eqb-true a b e)
same_place_is (Slot a n) (Slot b m) e =
    let parts = and_parts (a == b) (same_bytes n m) e in
    λ i. Slot (eqb-true a b parts.0 i) ((bytes_decides n m).0 parts.1 i)
same_place_is (Dir a) (Slot b m) e = cc
same_place_is (Slot a n) (Dir b) e = cc

pub same_place_refl : (a : Place) → same_place a a ≡ true
same_place_refl (Dir a) = eq-eqb a a refl
same_place_refl (Slot a n) = ap (λ b. b && same_bytes n n) (eq-eqb a a refl) ∙ (bytes_decides n n).1 refl

-- and the test is the same from both sides
pub same_place_turned : (a b : Place) → same_place a b ≡ same_place b a
same_place_turned a b = by (same_place a b) (same_place b a) refl refl
  where
    by : (p q : Bool) → same_place a b ≡ p → same_place b a ≡ q → p ≡ q
    by true true e f = refl
    by false false e f = refl
    by true false e f = let g = sym f ∙ ap (same_place b) (same_place_is a b e) ∙ same_place_refl b in cc
    by false true e f = let g = sym e ∙ ap (same_place a) (same_place_is b a f) ∙ same_place_refl a in cc

-- a veil on another place leaves a place without one
pub still_unveiled : (at : Place) (perms : ℕ) (vs : List (Place × ℕ)) (other : Place) → same_place other at ≡ false →
    veil_at vs other ≡ None → veil_at (with_veil at perms vs) other ≡ None
still_unveiled at perms [] other differ none = ap (λ b. cond b (Some perms) None) differ
still_unveiled at perms (v ∷ vs) other differ none =
    by (same_place at v.0) (same_place other v.0) refl none (still_unveiled at perms vs other differ)
  where
    by : (s o : Bool) → same_place other v.0 ≡ o → cond o (Some v.1) (veil_at vs other) ≡ None →
        (veil_at vs other ≡ None → veil_at (with_veil at perms vs) other ≡ None)
        → veil_at (cond s ((v.0, perms) ∷ vs) (v ∷ with_veil at perms vs)) other ≡ None
    by s true is none rest = absurd (Some≢None v.1 none)
    by true false is none rest = ap (λ b. cond b (Some perms) (veil_at vs other)) is ∙ none
    by false false is none rest = ap (λ b. cond b (Some v.1) (veil_at (with_veil at perms vs) other)) is ∙ rest none

-- what a new veil leaves at a place
pub veil_at-with_veil : (place : Place) (perms : ℕ) (vs : List (Place × ℕ)) (at : Place) →
    veil_at (with_veil place perms vs) at ≡ cond (same_place at place) (Some perms) (veil_at vs at)
veil_at-with_veil place perms [] at = refl
veil_at-with_veil place perms (v ∷ vs) at =
    elim (same_place place v.0) as (λ b. same_place place v.0 ≡ b →
    veil_at (cond b ((v.0, perms) ∷ vs) (v ∷ with_veil place perms vs)) at ≡ cond (same_place at place) (Some perms)
    (veil_at (v ∷ vs) at)) [
      | true ↦ λ e. rw (same_place_is place v.0 e) (shadowed (same_place at v.0))
      | false ↦ λ e. ap (cond (same_place at v.0) (Some v.1)) (veil_at-with_veil place perms vs at)
          ∙ swapped (same_place at v.0) (same_place at place) (λ s r. clash e s (same_place_is at place r))
    ] refl
  where
    shadowed : (b : Bool) → cond b (Some perms) (veil_at vs at) ≡ cond b (Some perms) (cond b (Some v.1) (veil_at vs at))
    shadowed true = refl
    shadowed false = refl

    swapped : (a b : Bool) → (a ≡ true → b ≡ true → ⊥) →
        cond a (Some v.1) (cond b (Some perms) (veil_at vs at)) ≡ cond b (Some perms) (cond a (Some v.1) (veil_at vs at))
    swapped true true never = absurd (never refl refl)
    swapped true false never = refl
    swapped false b never = refl

    clash : same_place place v.0 ≡ false → same_place at v.0 ≡ true → at ≡ place → ⊥
    clash e s r = let f = sym e ∙ ap (λ x. same_place x v.0) (sym r) ∙ s in cc

pub veils_are_kept : VeilsAreKept
veils_are_kept [] at = refl
veils_are_kept (Unveiled place perms ∷ h) at =
    veil_at-with_veil place perms (veils h) at
    ∙ ap (λ b. cond b (Some perms) (veil_at (veils h) at)) (same_place_turned at place)
    ∙ ap (cond (same_place place at) (Some perms)) (veils_are_kept h at)
veils_are_kept (Pledged p e ∷ h) at = veils_are_kept h at
veils_are_kept (Locked ∷ h) at = veils_are_kept h at
veils_are_kept (Moved d ∷ h) at = veils_are_kept h at
veils_are_kept (Ended ∷ h) at = veils_are_kept h at
veils_are_kept (Filed n f ∷ h) at = veils_are_kept h at

pub cover_needs_unveil : CoverNeedsUnveil
cover_needs_unveil (Pledged p e) other t h found = refl
cover_needs_unveil (Unveiled place perms) other t h found = cc other
cover_needs_unveil Locked other t h found = refl
cover_needs_unveil (Moved d) other t h found = refl
cover_needs_unveil Ended other t h found = refl
cover_needs_unveil (Filed n f) other t h found = refl

-- looking up by any test that is the definition's gives the permissions at a place
pub veil_at-lookup : (eq : Place → Place → Bool) → ((a b : Place) → eq a b ≡ same_place a b) → (place : Place) (vs : List (Place × ℕ)) →
    lookup (eq place) vs ≡ veil_at vs place
veil_at-lookup eq same place [] = refl
veil_at-lookup eq same place (v ∷ vs) = λ i. cond (same place v.0 i) (Some v.1) (veil_at-lookup eq same place vs i)

-- a key that is found so is the place
pub lookup_key-same : (eq : Place → Place → Bool) → ((a b : Place) → eq a b ≡ same_place a b) → (place : Place) (vs : List (Place × ℕ)) →
    IfSome (lookup_key (eq place) vs) (λ key. key ≡ place)
lookup_key-same eq same place [] = tt
lookup_key-same eq same place (v ∷ vs) =
    elim (eq place v.0) as (λ b. eq place v.0 ≡ b → IfSome (cond b (Some v.0) (lookup_key (eq place) vs)) (λ key. key ≡ place)) [
      | true ↦ λ e. sym (same_place_is place v.0 (sym (same place v.0) ∙ e))
      | false ↦ λ e. lookup_key-same eq same place vs
    ] refl

-- and inserting by it puts a veil
pub with_veil-insert_entry : (eq : Place → Place → Bool) → ((a b : Place) → eq a b ≡ same_place a b) →
    (place : Place) (perms : ℕ) (vs : List (Place × ℕ)) → insert_entry eq vs place perms ≡ with_veil place perms vs
with_veil-insert_entry eq same place perms [] = refl
with_veil-insert_entry eq same place perms (v ∷ vs) =
    λ i. cond (same place v.0 i) ((v.0, perms) ∷ vs) (v ∷ with_veil-insert_entry eq same place perms vs i)

nearest-append : (near far : List (Option ℕ)) (perms : ℕ) → list_all is_none near ≡ true → nearest (near ++ Some perms ∷ far) ≡ Only perms
nearest-append [] far perms e = refl
nearest-append (None ∷ near) far perms e = nearest-append near far perms e
nearest-append (Some other ∷ near) far perms e = cc

-- a veil is kept where some place keeps permissions
pub veiled_where_kept : (vs : List (Place × ℕ)) (place : Place) (perms : ℕ) → veil_at vs place ≡ Some perms → has_veil vs ≡ true
veiled_where_kept [] place perms e = cc
veiled_where_kept (v ∷ vs) place perms e = refl

-- and where one is put
pub veiled_with : (place : Place) (perms : ℕ) (vs : List (Place × ℕ)) → has_veil (with_veil place perms vs) ≡ true
veiled_with place perms [] = refl
veiled_with place perms (v ∷ vs) =
    elim (same_place place v.0) as (λ b. has_veil (cond b ((v.0, perms) ∷ vs) (v ∷ with_veil place perms vs)) ≡ true) [
      | true ↦ refl
      | false ↦ refl
    ]

-- a veil leaves each place once among the veils
pub once_more : (at : Place) (perms : ℕ) (vs : List (Place × ℕ)) → EachOnce vs → EachOnce (with_veil at perms vs)
once_more at perms [] once = (refl, tt)
once_more at perms (v ∷ vs) once = by (same_place at v.0) refl (once_more at perms vs once.1)
  where
    by : (s : Bool) → same_place at v.0 ≡ s → EachOnce (with_veil at perms vs) →
        EachOnce (cond s ((v.0, perms) ∷ vs) (v ∷ with_veil at perms vs))
    by true is rest = once
    by false is rest = (still_unveiled at perms vs v.0 (same_place_turned v.0 at ∙ is) once.0, rest)

-- a cover where a veil is kept, by the places where it is looked for
cover-places : (t : Tree) (p : ProcessState) (object : Found) → has_veil p.veils ≡ true →
    cover t p object ≡ nearest (map (veil_at p.veils) (places_over t object))
cover-places t p object e =
    ap (λ b. cond b (nearest (veil_at p.veils (place_of object) ∷ map (λ dir. veil_at p.veils (Dir dir)) (directories_over t object))) All) e
    ∙ ap (λ more. nearest (veil_at p.veils (place_of object) ∷ more)) (at_dirs (directories_over t object))
  where
    at_dirs : (ds : List ℕ) → map (λ dir. veil_at p.veils (Dir dir)) ds ≡ map (veil_at p.veils) (map Dir ds)
    at_dirs [] = refl
    at_dirs (d ∷ ds) = ap (λ more. veil_at p.veils (Dir d) ∷ more) (at_dirs ds)

pub nearest_counts : NearestCounts
nearest_counts t p object near far place perms split none here =
    cover-places t p object (veiled_where_kept p.veils place perms here)
    ∙ ap (λ places. nearest (map (veil_at p.veils) places)) split
    ∙ ap nearest (map-append (veil_at p.veils) near (place ∷ far) ∙ ap (λ o. map (veil_at p.veils) near ++ o ∷ map (veil_at p.veils) far) here)
    ∙ nearest-append (map (veil_at p.veils) near) (map (veil_at p.veils) far) perms (list_all-map is_none (veil_at p.veils) near ∙ none)

-- what a set holds, a set that holds it holds
pub holds_through : (old perms wanted : ℕ) → holds old perms ≡ true → holds perms wanted ≡ true → holds old wanted ≡ true
holds_through old perms wanted a b =
    second_holds perms old wanted (ap (λ s. holds s wanted) (and_comm perms old ∙ eqb-true _ _ a) ∙ b)

if_none : (b : Bool) (fault : Errno) → cond b None (Some fault) ≡ None → b ≡ true
if_none true fault e = refl
if_none false fault e = cc

nearest_narrows : (vs : List (Place × ℕ)) (place : Place) (old perms wanted : ℕ) → veil_at vs place ≡ Some old → holds old perms ≡ true →
    (places : List Place) →
    cover_fault (nearest (map (veil_at (with_veil place perms vs)) places)) wanted ≡ None →
    cover_fault (nearest (map (veil_at vs) places)) wanted ≡ None
nearest_narrows vs place old perms wanted is less [] e = e
nearest_narrows vs place old perms wanted is less (p ∷ ps) e =
    elim (same_place p place) as (λ b. same_place p place ≡ b →
    cover_fault (nearest (cond b (Some perms) (veil_at vs p) ∷ map (veil_at (with_veil place perms vs)) ps)) wanted ≡ None →
    cover_fault (nearest (veil_at vs p ∷ map (veil_at vs) ps)) wanted ≡ None) [
      | true ↦ λ same fits.
          let here : veil_at vs p ≡ Some old = ap (veil_at vs) (same_place_is p place same) ∙ is in
          ap (λ o. cover_fault (nearest (o ∷ map (veil_at vs) ps)) wanted) here
          ∙ ap (λ b. cond b None (Some EACCES)) (holds_through old perms wanted less (if_none (holds perms wanted) EACCES fits))
      | false ↦ λ other fits. elim (veil_at vs p) as (λ o.
          cover_fault (nearest (o ∷ map (veil_at (with_veil place perms vs)) ps)) wanted ≡ None →
          cover_fault (nearest (o ∷ map (veil_at vs) ps)) wanted ≡ None) [
            | None ↦ nearest_narrows vs place old perms wanted is less ps
            | Some kept_there ↦ λ same. same
          ] fits
    ] refl (ap (λ o. cover_fault (nearest (o ∷ map (veil_at (with_veil place perms vs)) ps)) wanted)
    (sym (veil_at-with_veil place perms vs p)) ∙ e)

pub kept_places_narrow : KeptPlacesNarrow
kept_places_narrow p place old perms is accepted t object wanted e =
    let after : ProcessState = state_after (Unveiled place perms) p in
    ap (λ c. cover_fault c wanted) (cover-places t p object (veiled_where_kept p.veils place old is))
    ∙ nearest_narrows p.veils place old perms wanted is (less p.locked accepted) (places_over t object)
    (ap (λ c. cover_fault c wanted) (sym (cover-places t after object (veiled_with place perms p.veils))) ∙ e)
  where
    less : (locked : Bool) → cond locked (Some NotPermitted) (place_fault (veil_at p.veils place) (length p.veils) perms) ≡ None →
        holds old perms ≡ true
    less true e = cc
    less false fits = unless (holds old perms) (ap (λ o. place_fault o (length p.veils) perms) (sym is) ∙ fits)
      where
        unless : (b : Bool) → cond b None (Some NotPermitted) ≡ None → b ≡ true
        unless true e = refl
        unless false e = cc
