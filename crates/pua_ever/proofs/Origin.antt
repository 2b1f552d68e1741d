-- What has `c` has it by a veil, on a directory that it is below.
use Rattle.pua_ever.proofs.Common.{◌≡◌, ◌≢◌, ℕ, zero, suc, Bool, true, false, refl, sym, ap, subst, ◌∙◌, arith, Option, Some, None, ◌==◌}
use Rattle.pua_ever.proofs.Common.{if◌then◌else◌, list_any, false≢true, eq-eqb, eqb-true, or_right, Tree, WellFormed, is_dir, above}
use Rattle.pua_ever.proofs.Common.{Reaches, sound_from, row_of, ProcessState, has_veil, perms_kept, All, Only, has_c, own_or, cover_in}
use Rattle.pua_ever.proofs.Common.{covers_descend, is_below, ◌⊎◌, and_from, inl, inr, is_mount, is_none}
use Rattle.pua_tree.specs.Tree.{device}
use Rattle.pua_ever.specs.Ever.{goes_along}
use Rattle.pua_ever.proofs.Devices.{device_at, device_over_row}
use Rattle.pua_tree.proofs.ForCallers.{above_dir}
use Rattle.pua_policy.specs.declared.answer.Cover.TheVariants.{Nothing}
use Rattle.pua_policy.specs.declared.place.Place.TheVariants as place
use Rattle.pua_policy.proofs.ForCallers.{climb_step}
use Rattle.pua_ever.proofs.Covers.{own_dir, under_dir}
use Rattle.pua_ever.proofs.Quiet.{below_self, below_up, root_below, way_up}

module _ (t : Tree) (well : WellFormed t) where
  -- what is above a directory is above what is below it
  pub below_over : (y d : ℕ) → is_dir t d ≡ true → d ≢ 0 → is_below t y (above t d) ≡ true → is_below t y d ≡ true
  below_over y d is n below = ap (list_any (λ e. e == y)) (climb_step t well d n is) ∙ or_right (d == y) _ below

  below_steps : (y x steps d : ℕ) → Reaches t steps d → is_dir t d ≡ true → is_below t x d ≡ true → is_below t y x ≡ true →
      is_below t y d ≡ true
  below_steps y x zero d root is inner outer = by (d == x) refl
    where
      by : (b : Bool) → (d == x) ≡ b → is_below t y d ≡ true
      by true same = subst (λ z. is_below t y z ≡ true) (sym (eqb-true d x same)) outer
      by false differs =
          let other : x ≢ 0 = λ e. false≢true (sym differs ∙ eq-eqb d x (root ∙ sym e)) in
          absurd (false≢true (sym (ap (is_below t x) root ∙ root_below t well x other) ∙ inner))
  below_steps y x (suc steps) d up is inner outer =
      by (d == x) refl (below_steps y x steps (above t d) up.1 (above_dir t (sound_from t well) d is up.0))
    where
      by : (b : Bool) → (d == x) ≡ b → (is_below t x (above t d) ≡ true → is_below t y x ≡ true → is_below t y (above t d) ≡ true) →
          is_below t y d ≡ true
      by true same rest = subst (λ z. is_below t y z ≡ true) (sym (eqb-true d x same)) outer
      by false differs rest = below_over y d is up.0 (rest (sym (below_up t well x d differs up.0 is) ∙ inner) outer)

  pub below_both : (y x d : ℕ) → is_dir t d ≡ true → is_below t x d ≡ true → is_below t y x ≡ true → is_below t y d ≡ true
  below_both y x d is = let up = way_up t well 0 d is in below_steps y x up.0 d up.1 is

  module _ (h : ProcessState) where
    -- the cover of a directory with a veil of its own
    pub own_cover : (d perms : ℕ) → is_dir t d ≡ true → perms_kept h (place.Dir d) ≡ Some perms → cover_in t h d ≡ Only perms
    own_cover zero perms is e = (covers_descend t h well).root ∙ ap (λ o. own_or o (if has_veil h.veils then Nothing else All)) e
    own_cover (suc d) perms is e = own_dir t h well (suc d) perms is (λ z. omega (arith, z)) e

    -- the directory by whose veil a directory has `c`
    pub record Origin (d : ℕ) : Type 0 where
      pub dir : ℕ
      pub living : is_dir t dir ≡ true
      pub perms : ℕ
      pub veil : perms_kept h (place.Dir dir) ≡ Some perms
      pub cover : cover_in t h d ≡ Only perms
      pub below : is_below t dir d ≡ true
      pub near : (device t dir ≡ device t d) ⊎ (goes_along t h (device t d) ≡ true)

    here : (d perms : ℕ) → is_dir t d ≡ true → perms_kept h (place.Dir d) ≡ Some perms → Origin d
    here d perms is e = record {
      dir = d;
      living = is;
      perms = perms;
      veil = e;
      cover = own_cover d perms is e;
      below = below_self t well d d (eq-eqb d d refl) is;
      near = inl refl;
    }

    origin_in : has_veil h.veils ≡ true → (steps d : ℕ) → Reaches t steps d → is_dir t d ≡ true → has_c (cover_in t h d) ≡ true →
        Origin d
    origin_in veiled zero d root is has = by (perms_kept h (place.Dir d)) refl
      where
        by : (o : Option ℕ) → perms_kept h (place.Dir d) ≡ o → Origin d
        by (Some perms) e = here d perms is e
        by None e =
            let none : cover_in t h d ≡ Nothing =
            ap (cover_in t h) root ∙ (covers_descend t h well).root
            ∙ (λ i. own_or ((ap (λ z. perms_kept h (place.Dir z)) (sym root) ∙ e) i) (if veiled i then Nothing else All)) in
            absurd (false≢true (ap has_c (sym none) ∙ has))
    origin_in veiled (suc steps) d up is has =
        by (perms_kept h (place.Dir d)) refl (origin_in veiled steps (above t d) up.1 (above_dir t (sound_from t well) d is up.0))
      where
        by : (o : Option ℕ) → perms_kept h (place.Dir d) ≡ o → (has_c (cover_in t h (above t d)) ≡ true → Origin (above t d)) → Origin d
        by (Some perms) e more = here d perms is e
        by None e more =
            let row = row_of t (sound_from t well) d is up.0 in
            let same : cover_in t h d ≡ cover_in t h (above t d) = under_dir t h well row.0 d is row.1 e ∙ ap (cover_in t h) (sym row.2) in
            let from = more (ap has_c (sym same) ∙ has) in
            let goes : is_mount t d ≡ true → goes_along t h (device t d) ≡ true =
            λ mount. ap (goes_along t h) (device_at t well d is mount) ∙
            and_from (is_none (perms_kept h (place.Dir d))) _ (ap is_none e) has in
            let over : is_mount t d ≡ false → device t d ≡ device t (above t d) =
            λ plain. device_over_row t well row.0 d row.1 is plain ∙ ap (device t) (sym row.2) in
            record {
              dir = from.dir;
              living = from.living;
              perms = from.perms;
              veil = from.veil;
              cover = same ∙ from.cover;
              below = below_over from.dir d is up.0 from.below;
              near = elim (is_mount t d) as (λ b. is_mount t d ≡ b →
                  (device t from.dir ≡ device t d) ⊎ (goes_along t h (device t d) ≡ true)) [
                    | true ↦ λ mount. inr (goes mount)
                    | false ↦ λ plain. elim from.near [
                      | inl near ↦ inl (near ∙ sym (over plain))
                      | inr along ↦ inr (ap (goes_along t h) (over plain) ∙ along)
                    ]
                  ] refl;
            }

    pub origin : has_veil h.veils ≡ true → (d : ℕ) → is_dir t d ≡ true → has_c (cover_in t h d) ≡ true → Origin d
    origin veiled d is = let up = way_up t well 0 d is in origin_in veiled up.0 d up.1 is
