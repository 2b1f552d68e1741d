-- In each directory there is a name at which nothing stands and that two processes have no veil at.
use Rattle.pua_jointly.proofs.Common.{◌≡◌, ◌<◌, ◌∙◌, ◌∷◌, ℕ, suc, [], List, Bool, true, false, length, refl, sym, ap, arith, Option, Some}
use Rattle.pua_jointly.proofs.Common.{None, if◌then◌else◌, false≢true, and_parts, Tree, WellFormed, look, row_says, sound_from, ProcessState}
use Rattle.pua_jointly.proofs.Common.{perms_kept, same_place, same_place_is}
use Rattle.std.specs.Prelude.{nat_le, nat_lt}
use Rattle.std.proofs.Common.{max, replicate}
use Rattle.std.proofs.lemmas.Bool.{lt-leb}
use Rattle.std.proofs.lemmas.List.{length-replicate}
use Rattle.pua_policy.specs.States.{veil_at}
use Rattle.pua_policy.specs.declared.place.Place.{Place}
use Rattle.pua_policy.specs.declared.place.Place.TheVariants as place

-- the length of the name of a place
abbrev name_length : Place → ℕ
name_length (place.Dir dir) = 0
name_length (place.Slot dir name) = length name

abbrev longest : List (Place × ℕ) → ℕ
longest [] = 0
longest (veil ∷ more) = max (name_length veil.0) (longest more)

no_veil : (veils : List (Place × ℕ)) (dir : ℕ) (name : List ℕ) → longest veils < length name → veil_at veils (place.Slot dir name) ≡ None
no_veil [] dir name long = refl
no_veil (veil ∷ more) dir name long =
    by (same_place (place.Slot dir name) veil.0) refl (no_veil more dir name (omega (arith, long)))
  where
    by : (b : Bool) → same_place (place.Slot dir name) veil.0 ≡ b → veil_at more (place.Slot dir name) ≡ None →
        veil_at (veil ∷ more) (place.Slot dir name) ≡ None
    by true same rest =
        let one : length name ≡ name_length veil.0 = ap name_length (same_place_is (place.Slot dir name) veil.0 same) in
        absurd (omega (arith, one, long))
    by false other rest = ap (λ b. if b then Some veil.1 else veil_at more (place.Slot dir name)) other ∙ rest

module _ (t : Tree) (well : WellFormed t) where
  -- what is longer than a name can be has no row
  no_row : (dir : ℕ) (name : List ℕ) → 255 < length name → look t dir name ≡ None
  no_row dir name long = by (look t dir name) refl
    where
      by : (o : Option ℕ) → look t dir name ≡ o → look t dir name ≡ None
      by None e = e
      by (Some x) e =
          let named = (row_says t (sound_from t well) (dir, name) x e).1 in
          let short = (and_parts (nat_le (length name) 255) _ (and_parts (nat_lt 0 (length name)) _ named).1).0 in
          absurd (false≢true (sym (lt-leb (length name) 255 long) ∙ short))

  pub record Unnamed (dir : ℕ) (a b : ProcessState) : Type 0 where
    pub name : List ℕ
    pub free : look t dir name ≡ None
    pub first : perms_kept a (place.Slot dir name) ≡ None
    pub second : perms_kept b (place.Slot dir name) ≡ None

  pub unnamed : (dir : ℕ) (a b : ProcessState) → Unnamed dir a b
  unnamed dir a b =
      let many : ℕ = suc (max 255 (max (longest a.veils) (longest b.veils))) in
      let name : List ℕ = replicate many 47 in
      let long : length name ≡ many = length-replicate many 47 in
      record {
        name = name;
        free = no_row dir name (omega (arith, long));
        first = no_veil a.veils dir name (omega (arith, long));
        second = no_veil b.veils dir name (omega (arith, long));
      }
