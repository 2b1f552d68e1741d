-- What stands at a name, and the name once that is taken away.
use Rattle.pua_ever.proofs.Common.{◌≡◌, ℕ, List, [], ◌∷◌, Bool, true, false, refl, sym, ap, subst, ◌∙◌, Option, Some, None, not, ◌&&◌, ◌||◌}
use Rattle.pua_ever.proofs.Common.{if◌then◌else◌, is_some, option_map, and_parts, not-true, Tree, Node, WellFormed, Spot, is_dir, look}
use Rattle.pua_ever.proofs.Common.{node_at, kind_at, empty_tree, Kind, sound_from, row_says, same_Some, Some≢None, None≢Some, is_link_kind}
use Rattle.pua_ever.proofs.Common.{Named, Top, Dot, DotDot, Whole, Slot, CallTable, has, keeps_link, ProcessState, perms_kept, object_seen}
use Rattle.pua_ever.proofs.Common.{IsMissing, object_of_kind, cover, covered_verdict, is_allowed, Call, Cover, Only, has_c, SubjectFits}
use Rattle.pua_ever.proofs.Common.{subject_given, own_or, Subject, At, Others, cover_in, covers_descend, may_edit, is_allowed_under}
use Rattle.pua_ever.proofs.Common.{is_ever_allowed, is_free, own_spot, AreOnFreed}
use Rattle.pua_policy.specs.Verdict.{object_of}
use Rattle.pua_policy.specs.declared.place.Place.TheVariants as place
use Rattle.pua_policy.specs.declared.object.Object as seen
use Rattle.pua_objects.specs.Items.{IsItemOn, object_on, cover_on}
use Rattle.pua_objects.specs.declared.item.Item as given
use Rattle.pua_objects.specs.declared.item.Subject as about
use Rattle.pua_objects.specs.declared.item.Subject.TheVariants as subject
use Rattle.pua_ever.specs.Ever.{can_allow, named_covers, can_be_freed, is_turned_there, stays_on}
use Rattle.pua_ever.specs.Prospects.{is_mount_given, kind_allowed, own_given}
use Rattle.pua_ever.proofs.Common.{is_mount}
use Rattle.pua_ever.proofs.Mounts.{no_mount}
use Rattle.pua_ever.proofs.Prospected.{last}
use Rattle.std.proofs.Math.Bool.{or-true}
use Rattle.pua_calls.proofs.ForCallers.{has_none}

-- what stands at a name is seen alike in each tree
seen_alike : (t : Tree) (k : Option Kind) → object_seen t (object_of_kind k) ≡ object_seen empty_tree (object_of_kind k)
seen_alike t None = refl
seen_alike t (Some kind) = refl

module _ (t : Tree) (well : WellFormed t) (table : CallTable) (h : ProcessState) where
  -- what stands at a name has a kind
  has_kind : (dir : ℕ) (name : List ℕ) (x : ℕ) → look t dir name ≡ Some x → is_some (kind_at t x) ≡ true
  has_kind dir name x row = by (node_at t x) (row_says t (sound_from t well) (dir, name) x row).2
    where
      by : (o : Option Node) → is_some o ≡ true → is_some (option_map (λ n. n.kind) o) ≡ true
      by None e = e
      by (Some n) e = refl

  pub name_calls : (dir : ℕ) (name : List ℕ) (o : Option ℕ) → SubjectFits t (At (Slot dir name o)) →
      (object : seen.Object) (turned : Bool) (left : Cover) (set : ℕ)
      → object ≡ object_seen t (object_of t (Slot dir name o)) → turned ≡ is_turned_there h o → left ≡ cover t h (Slot dir name o)
      → ((kind : Option Kind) → object ≡ object_seen empty_tree (object_of_kind kind) → (call : Call) →
      has set call ≡ kind_allowed t table h (stays_on t h dir) turned left kind call)
      → (call : Call) → has set call ≡ is_ever_allowed t table h (At (Slot dir name o)) call
  name_calls dir name None fits object turned left set is turns covered all call =
      all None (is ∙ refl) call
      ∙ ap (λ c. (keeps_link call || true) && is_allowed_under table h (c ∷ []) IsMissing call) covered
  name_calls dir name (Some x) fits object turned left set is turns covered all call =
      all (kind_at t x) (is ∙ seen_alike t (kind_at t x)) call
      ∙ (λ i. (keeps_link call || not (is_link_kind (kind_at t x)))
      && can_allow table h (turns i) (if has_kind dir name x fits.1.1 i then named_covers t table h (stays_on t h dir) (kind_at t x) (covered i) else covered i
      ∷ []) (object_of_kind (kind_at t x)) call)

  -- a thing is a mount point
  abbrev is_mounted : Subject → Bool
  is_mounted (At (Whole dir way)) = is_mount t dir
  is_mounted _ = false

  -- whether the name of a thing can come to be free, by the thing's own cover
  free_by : (about : Subject) (spot : Spot) → SubjectFits t about → own_spot about ≡ Some spot →
      is_free t h spot ≡ (has_c (cover_on t h about) && not (is_mounted about))
  free_by (At (Slot dir name (Some x))) spot fits own =
      let plain : is_dir t x ≡ false = not-true (is_dir t x) (and_parts _ _ (and_parts (is_dir t dir) _ fits.0).1).1 in
      let here : is_free t h (dir, name) ≡ (has_c (cover t h (Slot dir name (Some x))) && true) =
      rw (fits.1.1, plain) (ap (λ b. has_c (cover t h (Slot dir name (Some x))) && not b) (no_mount t well x plain)) in
      subst (λ s. is_free t h s ≡ (has_c (cover t h (Slot dir name (Some x))) && true)) (same_Some _ _ own) here
  free_by (At (Whole dir (Named parent name))) spot fits own =
      let here : is_free t h (parent, name) ≡ (has_c (cover t h (Whole dir (Named parent name))) && not (is_mount t dir)) =
      rw (fits.1.1, fits.0) refl in
      subst (λ s. is_free t h s ≡ (has_c (cover t h (Whole dir (Named parent name))) && not (is_mount t dir))) (same_Some _ _ own) here
  free_by (At (Slot dir name None)) spot fits own = absurd (None≢Some spot own)
  free_by (At (Whole dir Top)) spot fits own = absurd (None≢Some spot own)
  free_by (At (Whole dir Dot)) spot fits own = absurd (None≢Some spot own)
  free_by (At (Whole dir DotDot)) spot fits own = absurd (None≢Some spot own)
  free_by (Others dir) spot fits own = absurd (None≢Some spot own)

  -- no name
  pub no_name : (o : Option Spot) → None ≡ o → AreOnFreed t table h o 0
  no_name o none = record {
    none = λ _ call. has_none call;
    some = λ spot own. absurd (None≢Some spot (none ∙ own));
  }

  module _ (about : Subject) (spot : Spot) (fits : SubjectFits t about) (own : Some spot ≡ own_spot about) where
    -- a name that can't come to be free, or has no veil of its own
    pub not_freed : can_be_freed t table h spot ≡ false → AreOnFreed t table h (own_spot about) 0
    not_freed none = record {
      none = λ e. absurd (Some≢None spot (own ∙ e));
      some = λ other is call.
          has_none call
          ∙ (λ i. sym none i && is_ever_allowed t table h (At (Slot spot.0 spot.1 None)) call)
          ∙ ap (λ s. can_be_freed t table h s && is_ever_allowed t table h (At (Slot s.0 s.1 None)) call) (same_Some _ _ (own ∙ is));
    }

    -- and one that can
    pub freed : (left : Cover) (perms : ℕ) (set : ℕ) → left ≡ cover_on t h about → perms_kept h (place.Slot spot.0 spot.1) ≡ Some perms →
        (may_edit table h && (has_c left && not (is_mounted about))) ≡ true
        → ((call : Call) → has set call ≡ is_allowed (covered_verdict empty_tree table h call (Only perms) IsMissing)) →
        AreOnFreed t table h (own_spot about) set
    freed left perms set covered kept_here can all = record {
      none = λ e. absurd (Some≢None spot (own ∙ e));
      some = λ other is call.
          all call
          ∙ ap (λ c. is_allowed (covered_verdict empty_tree table h call c IsMissing)) (sym under)
          ∙ last _
          ∙ (λ i. sym (or-true (keeps_link call)) i && is_allowed_under table h (cover t h (Slot spot.0 spot.1 None) ∷ []) IsMissing call)
          ∙ (λ i. sym test i && is_ever_allowed t table h (At (Slot spot.0 spot.1 None)) call)
          ∙ ap (λ s. can_be_freed t table h s && is_ever_allowed t table h (At (Slot s.0 s.1 None)) call) (same_Some _ _ (own ∙ is));
    }
      where
        under : cover t h (Slot spot.0 spot.1 None) ≡ Only perms
        under = (covers_descend t h well).at_name spot.0 spot.1 None ∙ ap (λ o. own_or o (cover_in t h spot.0)) kept_here

        test : can_be_freed t table h spot ≡ true
        test =
            (λ i. is_some (kept_here i) && (may_edit table h && free_by about spot fits (sym own) i))
            ∙ ap (λ c. may_edit table h && (has_c c && not (is_mounted about))) (sym covered) ∙ can

  -- the name at which an item stands is that of its thing
  own_by : (s : about.Subject) (object : seen.Object) → SubjectFits t (subject_given t s) → object ≡ object_on t (subject_given t s) →
      own_given s object ≡ own_spot (subject_given t s)
  own_by subject.Root object fits is = refl
  own_by (subject.Dir id dir name) object fits is = refl
  own_by (subject.Others dir) object fits is = refl
  own_by (subject.Name dir name) object fits is = by (look t dir name.now) refl fits is
    where
      plain : (x : ℕ) (k : Option Kind) → is_some k ≡ true → object ≡ object_seen t (object_of_kind k) →
          own_given (subject.Name dir name) object ≡ Some (dir, name.now)
      plain x None some is = cc
      plain x (Some kind) some is = ap (own_given (subject.Name dir name)) is

      by : (o : Option ℕ) → look t dir name.now ≡ o → SubjectFits t (At (Slot dir name.now o)) →
          object ≡ object_on t (At (Slot dir name.now o)) → own_given (subject.Name dir name) object ≡ own_spot (At (Slot dir name.now o))
      by None row fits is = ap (own_given (subject.Name dir name)) is
      by (Some x) row fits is = plain x (kind_at t x) (has_kind dir name.now x row) is

  -- and it is told of the item whether that is a mount point
  mounted_by : (s : about.Subject) (object : seen.Object) (spot : Spot) → Some spot ≡ own_given s object →
      is_mount_given t s ≡ is_mounted (subject_given t s)
  mounted_by subject.Root object spot own = absurd (Some≢None spot own)
  mounted_by (subject.Dir id dir name) object spot own = refl
  mounted_by (subject.Others dir) object spot own = refl
  mounted_by (subject.Name dir name) object spot own = refl

  pub mounted_is : (about : Subject) (item : given.Item) (spot : Spot) → IsItemOn t h about item → Some spot ≡ own_given item.subject item.object →
      is_mount_given t item.subject ≡ is_mounted about
  mounted_is about item spot on own = mounted_by item.subject item.object spot own ∙ ap is_mounted on.subject

  pub own_name_is : (about : Subject) (item : given.Item) → SubjectFits t about → IsItemOn t h about item →
      own_given item.subject item.object ≡ own_spot about
  own_name_is about item fits on =
      let same = on.subject in
      own_by item.subject item.object (subst (SubjectFits t) (sym same) fits) (on.object ∙ ap (object_on t) (sym same)) ∙ ap own_spot same
