-- The list of the objects of now lies within the list for ever.
use Rattle.pua_ever.proofs.Common.{◌≡◌, ℕ, zero, suc, List, [], ◌∷◌, ◌++◌, Bool, true, false, map, refl, sym, ap, subst, ◌∙◌, inl}
use Rattle.pua_ever.proofs.Common.{inr, Option, Some, None, not, ◌&&◌, ◌||◌, is_none, if◌then◌else◌, flat_map, nat_lt}
use Rattle.pua_ever.proofs.Common.{and_parts, and_from, or_right, Tree, WellFormed, is_dir, look, kind_at, is_empty, has_no_row}
use Rattle.pua_ever.proofs.Common.{sound_from, row_says, Way, Named, Top, Dot, DotDot, Whole, Slot, CallTable}
use Rattle.pua_ever.proofs.Common.{calls, rule_of, ProcessState, perms_kept, veils, may_any, IsDir, IsMissing, object_of_kind, object_fault}
use Rattle.pua_ever.proofs.Common.{cover, cover_fault, is_allowed, Call, Cover, Only, has_c, Word, Subject, At, Others, Item, items}
use Rattle.pua_ever.proofs.Common.{cover_in, own_or, Among, among_left, among_map, map_among, among_filter, filter_among, contained}
use Rattle.pua_ever.proofs.Common.{among_contained, covers_descend, allowed_is, is_free, can_empty, dir_covers, file_covers, may_edit, can_move}
use Rattle.pua_ever.proofs.Common.{is_named_way, is_allowed_under, ever_line, EverLine, subjects_of, all_new, new_line, has_ever_calls}
use Rattle.pua_ever.proofs.Common.{ever, filter, May, Ok, allowed_unless, if_promised, or_fault, is_mount, row_cover}
use Rattle.std.specs.List.{Contains}
use Rattle.std.specs.Prelude.{length}
use Rattle.pua_calls.specs.TmpTable.{tmp_table}
use Rattle.pua_policy.specs.Verdict.{rmdir_fault}
use Rattle.pua_policy.specs.declared.answer.May.TheVariants.{Yes, Enosys, Death}
use Rattle.pua_policy.specs.declared.answer.Verdict.{Verdict}
use Rattle.pua_script.proofs.ForCallers.{tmp_may, tmp_perms, tmp_table_allows}
use Rattle.pua_calls.specs.declared.call.Call.TheVariants as call
use Rattle.pua_policy.specs.declared.place.Place.TheVariants as place
use Rattle.pua_objects.specs.Objects.{Line, items_at, items_below, entries, line_of, calls_on}
use Rattle.pua_objects.specs.Objects.{is_named_by, subject_verdict}
use Rattle.pua_objects.specs.Objects as now
use Rattle.pua_objects.proofs.ForCallers.{among_flat, flat_among}
use Rattle.pua_objects.proofs.ForCallers.{some_of}
use Rattle.pua_ever.specs.Ever.{covers_of, covers_of_dir, ever_object, stays_on}
use Rattle.pua_ever.specs.Ever.{ever_calls}
use Rattle.pua_ever.specs.Laws.{IsWithinEver, IsWithinLines, NowWithinEver}
use Rattle.pua_ever.proofs.Covers.{slot_row}
use Rattle.pua_ever.proofs.Ways.{on_own, way_by_c, name_by_veil, open_by, file_by_name, file_by_open}
use Rattle.pua_ever.proofs.Grown.{moved_has_c}
use Rattle.pua_ever.proofs.KindFaults.{plain_alike, dir_as, dir_alike, emptied}
use Rattle.pua_ever.proofs.Ending.{parts_of, ever_first, named_first, calls_among, under_one}
use Rattle.pua_ever.proofs.Mounts.{no_mount}
use Rattle.pua_ever.proofs.Prospected.{empty_can}

module _ (t : Tree) (h : ProcessState) where
  -- what an item is about stands in the tree
  abbrev pub StandsNow : Subject → Type 0
  StandsNow (At (Whole dir way)) = is_dir t dir ≡ true
  StandsNow (At (Slot dir name (Some x))) = (look t dir name ≡ Some x) × (is_dir t x ≡ false)
  StandsNow (At (Slot dir name None)) = Unit {0}
  StandsNow (Others dir) = is_dir t dir ≡ true

  abbrev ItemStands : Item → Type 0
  ItemStands item = StandsNow item.subject

  pub items_stand : (depth dir : ℕ) (way : Way) (word : Word) → is_dir t dir ≡ true → (item : Item) →
      Among (items_below depth t (veils h) dir way word) item → ItemStands item
  items_stand zero dir way word living item a = absurd a
  items_stand (suc depth) dir way word living item (inl e) = subst ItemStands e living
  items_stand (suc depth) dir way word living item (inr (inl e)) = subst ItemStands e living
  items_stand (suc depth) dir way word living item (inr (inr a)) =
      let entry = flat_among (λ name. items_at t (items_below depth t (veils h)) dir word name (look t dir name)) (entries t (veils h) dir)
      item a in
      by (λ x other longer is b. items_stand depth x other longer is item b) entry.0 (look t dir entry.0) refl entry.2
    where
      Below : Type 0
      Below = (x : ℕ) (other : Way) (longer : Word) → is_dir t x ≡ true → Among (items_below depth t (veils h) x other longer) item →
          ItemStands item

      at : Below → (name : List ℕ) (x : ℕ) → look t dir name ≡ Some x → (b : Bool) → is_dir t x ≡ b →
          Among (if b then items_below depth t (veils h) x (Named dir name) (word ++ name ∷ []) else record
          { word = word ++ name ∷ []; subject = At (Slot dir name (Some x)) } ∷ []) item → ItemStands item
      at more name x row true is a = more x (Named dir name) (word ++ name ∷ []) is a
      at more name x row false other (inl e) = subst ItemStands e (row, other)
      at more name x row false other (inr a) = absurd a

      by : Below → (name : List ℕ) (o : Option ℕ) → look t dir name ≡ o →
          Among (items_at t (items_below depth t (veils h)) dir word name o) item → ItemStands item
      by more name None row (inl e) = subst ItemStands e tt
      by more name None row (inr a) = absurd a
      by more name (Some x) row a = at more name x row (is_dir t x) refl a

  module _ (well : WellFormed t) (table : CallTable) where
    -- what covers a thing now is among its covers
    pub dir_cover : (dir : ℕ) → is_dir t dir ≡ true → Among (covers_of_dir t table h dir) (cover_in t h dir)
    dir_cover dir is = ever_first (is_none (perms_kept h (place.Dir dir)) && can_move table h (cover_in t h dir)) (cover_in t h dir)
        (dir_covers t h (stays_on t h dir))
        (λ both. way_by_c t h (stays_on t h dir) dir is (on_own t h dir) (moved_has_c table h (cover_in t h dir) (and_parts (is_none (perms_kept h (place.Dir dir))) _ both).1))

    pub file_cover : (dir : ℕ) (name : List ℕ) (x : ℕ) → look t dir name ≡ Some x → is_dir t x ≡ false →
        Among (covers_of t table h (At (Slot dir name (Some x)))) (cover t h (Slot dir name (Some x)))
    file_cover dir name x row other =
        named_first t table h (stays_on t h dir) (kind_at t x) left (λ can. by (perms_kept h (place.Slot dir name)) refl (moved_has_c table h left can))
      where
        left : Cover
        left = cover t h (Slot dir name (Some x))

        living : is_dir t dir ≡ true
        living = (row_says t (sound_from t well) (dir, name) x row).0

        over : left ≡ own_or (perms_kept h (place.Slot dir name)) (cover_in t h dir)
        over = (covers_descend t h well).at_name dir name (Some x)

        free : has_c left ≡ true → is_free t h (dir, name) ≡ true
        free has = rw row (and_from (has_c (row_cover t h (dir, name) x)) _ (ap has_c (slot_row t h well (dir, name) x other ∙ sym over) ∙ has)
            (ap not (no_mount t well x other)))

        by : (o : Option ℕ) → perms_kept h (place.Slot dir name) ≡ o → has_c left ≡ true → Among (file_covers t table h (stays_on t h dir)) left
        by (Some perms) own has =
            let same : left ≡ Only perms = over ∙ ap (λ o. own_or o (cover_in t h dir)) own in
            subst (Among (file_covers t table h (stays_on t h dir))) (sym same)
            (file_by_name t h (stays_on t h dir) table (Only perms)
            (name_by_veil t h (stays_on t h dir) dir name perms living (on_own t h dir) own (ap has_c (sym same) ∙ has) (free has)))
        by None own has =
            let same : left ≡ cover_in t h dir = over ∙ ap (λ o. own_or o (cover_in t h dir)) own in
            let with_c : has_c (cover_in t h dir) ≡ true = ap has_c (sym same) ∙ has in
            subst (Among (file_covers t table h (stays_on t h dir))) (sym same)
            (file_by_open t h (stays_on t h dir) table (cover_in t h dir) (open_by t h (stays_on t h dir) dir living (on_own t h dir) with_c))

  module _ (well : WellFormed t) (table : CallTable) (c : Call) where
    -- a directory that can be removed now is empty now
    abbrev empties : ℕ → Way → Bool
    empties dir way = is_named_way way && (not (is_mount t dir) && (can_empty t h dir && (may_edit table h || has_no_row t dir)))

    removed : (dir : ℕ) (way : Way) → rmdir_fault table.whose t dir way ≡ None → empties dir way ≡ true
    removed dir Dot e = cc
    removed dir DotDot e = cc
    removed dir Top e = cc
    removed dir (Named over name) e =
        let bare = emptied (is_mount t dir) (is_empty t dir) e in
        let none : has_no_row t dir ≡ true = (and_parts (is_dir t dir) (has_no_row t dir) bare.1).1 in
        and_from (not (is_mount t dir)) _ (ap not bare.0)
        (and_from (can_empty t h dir) _ (empty_can t h dir none) (or_right (may_edit table h) _ none))

    -- what is allowed now is allowed under them
    allowed_still : (subject : Subject) → StandsNow subject → is_allowed (subject_verdict t table h c subject) ≡ true →
        is_allowed_under table h (covers_of t table h subject) (ever_object t table h subject) c ≡ true
    allowed_still (At (Whole dir way)) is e =
        let parts = parts_of (may_any h (rule_of table c).alternatives) (cover_fault (cover t h (Whole dir way)) (rule_of table c).perms)
        (object_fault table.whose t c (IsDir dir way)) (allowed_is _ e) in
        let covered = ap (λ left. cover_fault left (rule_of table c).perms) (sym ((covers_descend t h well).directory dir way is)) ∙
        parts.covered in
        let empty : c ≡ call.Rmdir → empties dir way ≡ true =
        λ rmdir. removed dir way (ap (λ x. object_fault table.whose t x (IsDir dir way)) (sym rmdir) ∙ parts.kind) in
        under_one table t h (covers_of_dir t table h dir) (dir_as (empties dir way)) c (cover_in t h dir) (dir_cover well table dir is) parts.may
        covered (dir_alike table.whose t c dir way (empties dir way) empty parts.kind)
    allowed_still (At (Slot dir name (Some x))) found e =
        let left = cover t h (Slot dir name (Some x)) in
        let parts = parts_of (may_any h (rule_of table c).alternatives) (cover_fault left (rule_of table c).perms)
        (object_fault table.whose t c (object_of_kind (kind_at t x))) (allowed_is _ e) in
        under_one table t h (covers_of t table h (At (Slot dir name (Some x)))) (object_of_kind (kind_at t x)) c left
        (file_cover well table dir name x found.0 found.1) parts.may parts.covered (sym (plain_alike table.whose t c (kind_at t x)) ∙ parts.kind)
    allowed_still (At (Slot dir name None)) found e =
        let left = cover t h (Slot dir name None) in
        let parts = parts_of (may_any h (rule_of table c).alternatives) (cover_fault left (rule_of table c).perms)
        (object_fault table.whose t c IsMissing) (allowed_is _ e) in
        under_one table t h (left ∷ []) IsMissing c left (inl refl) parts.may parts.covered (sym (plain_alike table.whose t c None) ∙ parts.kind)
    allowed_still (Others dir) is e =
        let parts = parts_of (may_any h (rule_of table c).alternatives) (cover_fault (cover_in t h dir) (rule_of table c).perms)
        (object_fault table.whose t c IsMissing) (allowed_is _ e) in
        under_one table t h (covers_of_dir t table h dir) IsMissing c (cover_in t h dir) (dir_cover well table dir is) parts.may parts.covered
        (sym (plain_alike table.whose t c None) ∙ parts.kind)

    -- so a call of now is one for ever
    call_stays : (subject : Subject) → StandsNow subject → Among (calls_on t table h subject) c → Among (ever_calls t table h subject) c
    call_stays subject found a =
        let test = filter_among (λ c. is_named_by t c subject && is_allowed (subject_verdict t table h c subject)) calls c a in
        let parts = and_parts (is_named_by t c subject) (is_allowed (subject_verdict t table h c subject)) test.1 in
        calls_among table t h subject c parts.0 (allowed_still subject found parts.1)

  module _ (well : WellFormed t) (table : CallTable) where
    item_within : (item : Item) → Among (items t (veils h)) item → now.has_calls (line_of t table h item) ≡ true →
        IsWithinEver t table h (line_of t table h item)
    item_within item a some =
        let line : EverLine = ever_line t table h (item.word, item.subject) in
        let here : Among (flat_map (subjects_of t table h) (items t (veils h))) (item.word, item.subject) =
        among_flat (subjects_of t table h) (items t (veils h)) item (item.word, item.subject) a (inl refl) in
        let standing = map (ever_line t table h) (flat_map (subjects_of t table h) (items t (veils h))) in
        let coming = map (new_line t table h) all_new in
        record {
          later = line;
          listed = contained (ever t table h) line
              (among_filter has_ever_calls (standing ++ coming) line (still (calls_on t table h item.subject) some (λ c b. stays c b))
              (among_left standing coming line (among_map (ever_line t table h) (flat_map (subjects_of t table h) (items t (veils h)))
              (item.word, item.subject) here)));
          word = refl;
          about = refl;
          allows = λ c b. contained (ever_calls t table h item.subject) c (stays c (among_contained (calls_on t table h item.subject) c b));
        }
      where
        stays : (c : Call) → Among (calls_on t table h item.subject) c → Among (ever_calls t table h item.subject) c
        stays c b = call_stays well table c item.subject (items_stand (length t.nodes) 0 Top [] well.root item a) b

        still : (cs : List Call) → nat_lt 0 (length cs) ≡ true → ((c : Call) → Among cs c → Among (ever_calls t table h item.subject) c) →
            nat_lt 0 (length (ever_calls t table h item.subject)) ≡ true
        still [] some all = cc
        still (c ∷ cs) some all = some_of (ever_calls t table h item.subject) c (all c (inl refl))

-- of the objects by a table, in the list by this very table
pub within_ever : (t : Tree) (table : CallTable) (h : ProcessState) → WellFormed t → (line : Line) → Contains (now.objects t table h) line →
    IsWithinEver t table h line
within_ever t table h well line there =
    let a = filter_among now.has_calls (map (line_of t table h) (items t (veils h))) line (among_contained _ line there) in
    let from = map_among (line_of t table h) (items t (veils h)) line a.0 in
    let P : Line → Type 0 = λ line. now.has_calls line ≡ true → IsWithinEver t table h line in
    subst P from.2 (item_within t h well table from.0 from.1) a.1

allowed_if : (m n : May) (v : Verdict) → (m ≡ Yes → n ≡ Yes) → is_allowed (if_promised m v) ≡ true → is_allowed (if_promised n v) ≡ true
allowed_if Yes n v more e = ap (λ m. is_allowed (if_promised m v)) (more refl) ∙ e
allowed_if Enosys n v more e = cc
allowed_if Death n v more e = cc

-- what is allowed now is allowed by the table with one more set of some calls
module _ (t : Tree) (table : CallTable) (h : ProcessState) where
  allowed_too : (c : Call) (subject : Subject) → is_allowed (subject_verdict t table h c subject) ≡ true →
      is_allowed (subject_verdict t (tmp_table table) h c subject) ≡ true
  allowed_too c (At object) e = tmp_table_allows table t h c (Ok object) e
  allowed_too c (Others dir) e =
      let m = may_any h (rule_of table c).alternatives in
      allowed_if m (may_any h (rule_of (tmp_table table) c).alternatives)
      (allowed_unless (or_fault (cover_fault (cover_in t h dir) (rule_of (tmp_table table) c).perms) (object_fault table.whose t c IsMissing)))
      (tmp_may table h c)
      (ap (λ perms. is_allowed (if_promised m
      (allowed_unless (or_fault (cover_fault (cover_in t h dir) perms) (object_fault table.whose t c IsMissing))))) (tmp_perms table c) ∙ e)

  calls_too : (subject : Subject) (c : Call) → Among (calls_on t table h subject) c → Among (calls_on t (tmp_table table) h subject) c
  calls_too subject c a =
      let test = filter_among (λ c. is_named_by t c subject && is_allowed (subject_verdict t table h c subject)) calls c a in
      let parts = and_parts (is_named_by t c subject) (is_allowed (subject_verdict t table h c subject)) test.1 in
      among_filter (λ c. is_named_by t c subject && is_allowed (subject_verdict t (tmp_table table) h c subject)) calls c
      (and_from (is_named_by t c subject) _ parts.0 (allowed_too c subject parts.1)) test.0

  module _ (lines : List EverLine) (all : (line : Line) → Contains (now.objects t (tmp_table table) h) line → IsWithinLines lines line) where
    item_too : (item : Item) → Among (items t (veils h)) item → now.has_calls (line_of t table h item) ≡ true →
        IsWithinLines lines (line_of t table h item)
    item_too item a some =
        let more : Line = line_of t (tmp_table table) h item in
        let is = among_filter now.has_calls (map (line_of t (tmp_table table) h) (items t (veils h))) more
        (some_too (calls_on t table h item.subject) some (λ c b. calls_too item.subject c b))
        (among_map (line_of t (tmp_table table) h) (items t (veils h)) item a) in
        let within = all more (contained (filter now.has_calls (map (line_of t (tmp_table table) h) (items t (veils h)))) more is) in
        record {
          later = within.later;
          listed = within.listed;
          word = within.word;
          about = within.about;
          allows = λ c b. within.allows c (contained (calls_on t (tmp_table table) h item.subject) c
              (calls_too item.subject c (among_contained (calls_on t table h item.subject) c b)));
        }
      where
        some_too : (cs : List Call) → nat_lt 0 (length cs) ≡ true →
            ((c : Call) → Among cs c → Among (calls_on t (tmp_table table) h item.subject) c) →
            nat_lt 0 (length (calls_on t (tmp_table table) h item.subject)) ≡ true
        some_too [] some all = cc
        some_too (c ∷ cs) some all = some_of (calls_on t (tmp_table table) h item.subject) c (all c (inl refl))

    -- so a list in which the objects by that table lie has the objects of now
    pub within_too : (line : Line) → Contains (now.objects t table h) line → IsWithinLines lines line
    within_too line there =
        let a = filter_among now.has_calls (map (line_of t table h) (items t (veils h))) line (among_contained _ line there) in
        let from = map_among (line_of t table h) (items t (veils h)) line a.0 in
        let P : Line → Type 0 = λ line. now.has_calls line ≡ true → IsWithinLines lines line in
        subst P from.2 (item_too from.0 from.1) a.1

pub now_within_ever : NowWithinEver
now_within_ever t table h well line there =
    within_too t table h (ever t (tmp_table table) h) (λ more here. within_ever t (tmp_table table) h well more here) line there
