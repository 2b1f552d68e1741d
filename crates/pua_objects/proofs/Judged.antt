-- A verdict depends on what was found alone, and on the way for rmdir.
use Rattle.pua_objects.proofs.Common.{◌≡◌, ◌≢◌, ℕ, zero, suc, List, ◌∷◌, true, false, refl, sym, ap, ◌∙◌, Option, Some, None, not, ◌&&◌}
use Rattle.pua_objects.proofs.Common.{◌||◌, is_some, if◌then◌else◌, Tree, Spot, is_dir, spot_cmp, exact_spots, Sound, row_says}
use Rattle.pua_objects.proofs.Common.{eq-eqb, Last, Followed, Kept, Way, Named, Top, Found, Whole, Slot, CallTable, rule_of, last_of}
use Rattle.pua_objects.proofs.Common.{ProcessState, perms_kept, if_promised, verdict, is_allowed, is_link, Call, Cover, All, Allowed, Subject}
use Rattle.pua_objects.proofs.Common.{At, Others, subject_of, cover_in, subject_verdict, is_named_by}
use Rattle.std.specs.Prelude.{◌==◌, map}
use Rattle.pua_tree.specs.Tree.{climb}
use Rattle.pua_tree.proofs.ForCallers.{spots_total, only_key, InRow}
use Rattle.pua_path.specs.Fits.{StandsAsNamed}
use Rattle.pua_path.specs.declared.errno.Errno.{Errno}
use Rattle.pua_path.specs.declared.found.Way.TheVariants.{Dot, DotDot}
use Rattle.pua_calls.specs.CallSets.{is_kept}
use Rattle.pua_policy.specs.States.{may_any}
use Rattle.pua_policy.specs.Verdict.{IsMissing, object_fault, or_fault, cover, cover_fault, nearest, allowed_unless}
use Rattle.pua_policy.specs.States.{has_veil}
use Rattle.pua_calls.specs.declared.call.Call.TheVariants.{Rmdir}
use Rattle.pua_policy.specs.declared.answer.May.{May}
use Rattle.pua_policy.specs.declared.answer.May.TheVariants as may
use Rattle.pua_policy.specs.declared.answer.Verdict.{Verdict}
use Rattle.pua_policy.specs.declared.place.Place.TheVariants as place
use Rattle.pua_objects.specs.Objects.{own_way, way_of_spot}
use Rattle.std.proofs.Math.Bool.{or-true}

-- nothing is allowed where there is a fault
never : (m : May) (first : Option Errno) (errno : Errno) → if_promised m (allowed_unless (or_fault first (Some errno))) ≡ Allowed → ⊥
never may.Yes None errno e = cc
never may.Yes (Some other) errno e = cc
never may.Enosys first errno e = cc
never may.Death first errno e = cc

module _ (t : Tree) (sound : Sound t) where
  -- a directory but the root stands in one row, and is named by it
  pub named_by_row : (d : ℕ) (s : Spot) → is_dir t d ≡ true → d ≢ 0 → InRow t s d → own_way t d ≡ Named s.0 s.1
  named_by_row zero s living other row = absurd (other refl)
  named_by_row (suc d) s living other row =
      ap way_of_spot (only_key spot_cmp spots_total exact_spots (λ y. y == suc d) s (suc d) t.rows (sound.once (suc d) living other) row
      (eq-eqb (suc d) (suc d) refl))

  module _ (table : CallTable) (h : ProcessState) where
    abbrev whole_verdict : Call → ℕ → Way → Verdict
    whole_verdict call dir way = verdict t table h call (Whole dir way)

    -- a directory that is removed has its own way
    removed : (dir : ℕ) (way : Way) → is_dir t dir ≡ true → StandsAsNamed t (Whole dir way) → whole_verdict Rmdir dir way ≡ Allowed →
        whole_verdict Rmdir dir (own_way t dir) ≡ Allowed
    removed dir Dot living fits e =
        absurd (never (may_any h (rule_of table Rmdir).alternatives) (cover_fault (cover t h (Whole dir Dot)) (rule_of table Rmdir).perms) _
        e)
    removed dir DotDot living fits e =
        absurd (never (may_any h (rule_of table Rmdir).alternatives)
        (cover_fault (cover t h (Whole dir DotDot)) (rule_of table Rmdir).perms) _ e)
    removed dir Top living fits e =
        absurd (never (may_any h (rule_of table Rmdir).alternatives) (cover_fault (cover t h (Whole dir Top)) (rule_of table Rmdir).perms) _
        e)
    removed dir (Named over name) living fits e =
        let row = row_says t sound (over, name) dir fits.1 in
        let way = named_by_row dir (over, name) living row.3 fits.1 in
        rw way e

    -- however a directory was named, what is allowed on it is allowed on it by its own name
    pub by_own_way : (call : Call) (dir : ℕ) (way : Way) → is_dir t dir ≡ true → StandsAsNamed t (Whole dir way) →
        whole_verdict call dir way ≡ Allowed → whole_verdict call dir (own_way t dir) ≡ Allowed
    by_own_way Rmdir dir way living fits e = removed dir way living fits e
    by_own_way _ dir way living fits e = e

    -- a missing name without a veil of its own has the cover of the further names
    pub cover_of_others : (dir : ℕ) (name : List ℕ) → perms_kept h (place.Slot dir name) ≡ None →
        cover t h (Slot dir name None) ≡ cover_in t h dir
    cover_of_others dir name none =
        ap (λ (o : Option ℕ). if has_veil h.veils then nearest (o ∷ map (λ over. perms_kept h (place.Dir over)) (climb t dir)) else All)
        none

    pub others_verdict : (call : Call) (dir : ℕ) (name : List ℕ) → perms_kept h (place.Slot dir name) ≡ None →
        verdict t table h call (Slot dir name None) ≡ subject_verdict t table h call (Others dir)
    others_verdict call dir name none =
        ap (λ (c : Cover). if_promised (may_any h (rule_of table call).alternatives)
        (allowed_unless (or_fault (cover_fault c (rule_of table call).perms) (object_fault table.whose t call IsMissing))))
        (cover_of_others dir name none)

    abbrev Told : Call → Subject → Type 0
    Told call subject = (is_named_by t call subject && is_allowed (subject_verdict t table h call subject)) ≡ true

    told_at : (call : Call) (subject : Subject) → is_named_by t call subject ≡ true → subject_verdict t table h call subject ≡ Allowed →
        Told call subject
    told_at call subject named e = (λ i. named i && is_allowed (e i))

    slot_told : (call : Call) (dir : ℕ) (name : List ℕ) (o : Option ℕ) (mode : Last) → last_of call ≡ mode →
        (mode ≡ Followed → is_link t (Slot dir name o) ≡ false)
        → verdict t table h call (Slot dir name o) ≡ Allowed → Told call (At (Slot dir name o))
    slot_told call dir name o Kept is followed e =
        told_at call (At (Slot dir name o)) (ap (λ m. is_kept m || not (is_link t (Slot dir name o))) is) e
    slot_told call dir name o Followed is followed e =
        told_at call (At (Slot dir name o)) (ap (λ m. is_kept m || not (is_link t (Slot dir name o))) is ∙ ap not (followed refl)) e

    missing_told : (call : Call) (dir : ℕ) (name : List ℕ) (o : Option ℕ) → perms_kept h (place.Slot dir name) ≡ o →
        verdict t table h call (Slot dir name None) ≡ Allowed
        → Told call (if is_some o then At (Slot dir name None) else Others dir)
    missing_told call dir name (Some perms) is e = slot_told call dir name None (last_of call) refl (λ _. refl) e
    missing_told call dir name None is e = told_at call (Others dir) refl (sym (others_verdict call dir name is) ∙ e)

    -- what is allowed on what was found is allowed on what its line is about
    pub told : (call : Call) (object : Found) → (last_of call ≡ Followed → is_link t object ≡ false) → StandsAsNamed t object →
        ((dir : ℕ) (way : Way) → object ≡ Whole dir way → is_dir t dir ≡ true)
        → verdict t table h call object ≡ Allowed → Told call (subject_of t h object)
    told call (Whole dir way) followed fits living e =
        told_at call (At (Whole dir (own_way t dir))) (or-true (is_kept (last_of call))) (by_own_way call dir way (living dir way refl) fits
        e)
    told call (Slot dir name (Some x)) followed fits living e = slot_told call dir name (Some x) (last_of call) refl followed e
    told call (Slot dir name None) followed fits living e = missing_told call dir name (perms_kept h (place.Slot dir name)) refl e
