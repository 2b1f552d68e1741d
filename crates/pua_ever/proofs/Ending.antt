-- What is allowed later has a line now.
use Rattle.pua_ever.proofs.Common.{◌≡◌, ◌⊎◌, ◌≤◌, ◌<◌, ℕ, List, [], ◌++◌, Bool, true, false, cond, map, refl, sym, ap, subst, ◌∙◌, inl, inr}
use Rattle.pua_ever.proofs.Common.{arith, Option, Some, None, Result, Ok, Err, not, ◌&&◌, ◌||◌, ◌==◌, is_some, is_none, option_map, filter}
use Rattle.pua_ever.proofs.Common.{flat_map, option_eq, list_any, false≢true, and_parts, and_from, eq-eqb, or_left, or_right, not-true}
use Rattle.pua_ever.proofs.Common.{Tree, WellFormed, Spot, is_dir, is_dir_kind, is_living, look, node_at, kind_at, is_empty, has_no_row}
use Rattle.pua_ever.proofs.Common.{empty_tree, Kind, sound_from, row_says, row_of, Some≢None, same_dir, is_link_kind, is_mount}
use Rattle.pua_ever.proofs.Common.{Followed, Way, Named, Top, Dot, DotDot, Found, Whole, Slot, resolutions_fit, CallTable}
use Rattle.pua_ever.proofs.Common.{calls, rule_of, keeps_link, is_kept, ProcessState, perms_kept, veils, may_any, Object, IsDir, IsMissing}
use Rattle.pua_ever.proofs.Common.{object_of_kind, object_fault, cover, cover_fault, or_fault, allowed_unless, if_promised, covered_verdict}
use Rattle.pua_ever.proofs.Common.{verdict_of, is_allowed, Call, Cover, May, Word, Subject, At, Others, Item, items, cover_in}
use Rattle.pua_ever.proofs.Common.{own_or, Among, among_left, among_right, among_map, among_filter, contained, covers_descend}
use Rattle.pua_ever.proofs.Common.{named_within_text, row_cover, is_free, can_empty, dir_covers, file_covers, may_edit, can_link, can_move}
use Rattle.pua_ever.proofs.Common.{removable_dir, is_named_way, is_allowed_under, ever_line, New, NewDir, NewOthers, NewFile, NewLink, NewSock, NewFifo}
use Rattle.pua_ever.proofs.Common.{same_Some, eqb-true, can_make, Stands, Comes, EverLine, subjects_of, all_new, new_line, has_ever_calls, ever, VeilsStand}
use Rattle.std.proofs.Math.Bool.{or-true}
use Rattle.std.specs.Prelude.{◌∷◌, unwrap_or}
use Rattle.pua_ever.proofs.Common.{Node}
use Rattle.pua_tree.specs.declared.node.Kind.TheVariants as kind
use Rattle.pua_tree.proofs.ForCallers.{Sound}
use Rattle.pua_path.specs.Resolution.{resolution_of_text}
use Rattle.pua_path.specs.Fits.{FoundFits, IsOf, StandsAsNamed, is_link}
use Rattle.pua_path.specs.declared.errno.Errno.{Errno}
use Rattle.pua_path.specs.declared.found.Last.{Last}
use Rattle.pua_path.specs.declared.found.Last.TheVariants.{Kept}
use Rattle.pua_calls.specs.Calls.{ending_of, last_of}
use Rattle.pua_policy.specs.Verdict.{Is, rmdir_fault}
use Rattle.pua_policy.specs.Verdict.{verdict}
use Rattle.pua_calls.specs.declared.call.Call.TheVariants as call
use Rattle.pua_policy.specs.declared.place.Place.TheVariants as place
use Rattle.pua_policy.specs.declared.answer.May.TheVariants as may
use Rattle.pua_policy.specs.declared.answer.Verdict.TheVariants.{Allowed}
use Rattle.pua_objects.specs.Objects.{own_way, is_named_by}
use Rattle.pua_objects.proofs.ForCallers.{among_flat}
use Rattle.pua_objects.proofs.ForCallers.{named_by_row}
use Rattle.pua_objects.proofs.ForCallers.{has_item, found_dir}
use Rattle.pua_objects.proofs.ForCallers.{one_of_calls, some_of, failed}
use Rattle.pua_tree.specs.Tree.{device}
use Rattle.pua_ever.specs.Ever.{ever_covers, kept_on, named_covers, stays_on}
use Rattle.pua_ever.specs.Ever.{can_allow, can_allow_new, covers_of, covers_of_dir, ever_object, ever_calls, is_ever_allowed, is_turned}
use Rattle.pua_ever.specs.Ever.{may_start, may_start_at, new_covers, new_object, is_new_named, new_calls, starts_under, Thing, turning_calls}
use Rattle.pua_ever.specs.Ever.{names_to_free}
use Rattle.pua_ever.specs.Laws.{IsLineOf, of_dir, of_new_dir, of_row, of_new_file, of_new_link, of_new_sock, of_new_fifo, of_name, of_others}
use Rattle.pua_tree.specs.declared.node.FileType.TheVariants.{Sock, Fifo}
use Rattle.pua_ever.proofs.MadeKinds.{file_starts, file_no_dir}
use Rattle.pua_ever.specs.Laws.{of_new_others, IsForeseen}
use Rattle.pua_ever.proofs.Grown.{new_kind, moved_has_c}
use Rattle.pua_ever.proofs.Ways.{all_within, any_among, files_all, on_own, way_by_c}
use Rattle.pua_ever.proofs.Covers.{given_or_new, living_dir, below_next}
use Rattle.pua_ever.proofs.KindFaults.{plain_alike, dir_as, dir_alike, emptied}
use Rattle.pua_ever.proofs.Origins.{Origin, stood, linked, since, Known, Stays, DirUnder, at_rest, come, old_dir, dir_under, file_under}
use Rattle.pua_ever.proofs.Origins.{could_empty, fixed_covered, free_then, kept_in}
use Rattle.pua_path.specs.declared.found.Start.{Start}
use Rattle.pua_path.specs.Resolution.{rooted}

pub one_new : (made : New) → Among all_new made
one_new NewDir = inl refl
one_new NewOthers = inr (inl refl)
one_new NewFile = inr (inr (inl refl))
one_new NewLink = inr (inr (inr (inl refl)))
one_new NewSock = inr (inr (inr (inr (inl refl))))
one_new NewFifo = inr (inr (inr (inr (inr (inl refl)))))

-- a link is named by the calls alone that keep it
pub named_link : (c : Call) (mode : Last) (b : Bool) → last_of c ≡ mode → (mode ≡ Followed → b ≡ false) → (keeps_link c || not b) ≡ true
named_link c Kept b is followed = ap (λ m. is_kept m || not b) is
named_link c Followed b is followed = ap (λ m. is_kept m || not b) is ∙ ap not (followed refl)

-- a verdict that allows, in its parts
pub record Parts (m : May) (a b : Option Errno) : Type 0 where
  pub may : m ≡ may.Yes
  pub covered : a ≡ None
  pub kind : b ≡ None

pub parts_of : (m : May) (a b : Option Errno) → if_promised m (allowed_unless (or_fault a b)) ≡ Allowed → Parts m a b
parts_of may.Yes None None e = record { may = refl; covered = refl; kind = refl }
parts_of may.Yes None (Some errno) e = cc
parts_of may.Yes (Some errno) b e = cc
parts_of may.Enosys a b e = cc
parts_of may.Death a b e = cc

-- a cover that stays, or is among those that a thing can come under
pub ever_first : (b : Bool) (now : Cover) (others : List Cover) → (b ≡ true → Among others now) → Among (ever_covers b now others) now
ever_first false now others some = inl refl
ever_first true now others some = some refl

ever_other : (b : Bool) (now : Cover) (others : List Cover) (c : Cover) → b ≡ true → Among others c → Among (ever_covers b now others) c
ever_other b now others c moves a = rw moves a

-- the same of a file, program or link, which link can give a further name
module _ (t : Tree) (table : CallTable) (h : ProcessState) (on : Option ℕ) (what : Option Kind) (now : Cover) where
  abbrev further : List Cover
  further = cond (can_link table h what now) (file_covers t table h on) []

  pub named_first : (can_move table h now ≡ true → Among (file_covers t table h on) now) → Among (named_covers t table h on what now) now
  named_first some = by (can_move table h now) refl
    where
      by : (b : Bool) → can_move table h now ≡ b → Among (cond b (file_covers t table h on) (now ∷ further)) now
      by true can = some can
      by false stays = inl refl

  pub named_moved : (c : Cover) → can_move table h now ≡ true → Among (file_covers t table h on) c →
      Among (named_covers t table h on what now) c
  named_moved c can a = rw can a

  pub named_linked : (c : Cover) → can_link table h what now ≡ true → Among (file_covers t table h on) c →
      Among (named_covers t table h on what now) c
  named_linked c can a = by (can_move table h now)
    where
      by : (b : Bool) → Among (cond b (file_covers t table h on) (now ∷ further)) c
      by true = a
      by false = inr (subst (λ (b : Bool). Among (cond b (file_covers t table h on) []) c) (sym can) a)

-- what is allowed on a thing as it is can be allowed on it
pub can_from : (table : CallTable) (h : ProcessState) (turned : Bool) (covers : List Cover) (object : Object) (c : Call) →
    is_allowed_under table h covers object c ≡ true → can_allow table h turned covers object c ≡ true
can_from table h turned covers (Is kind) c e = by (may_start kind)
  where
    by : (b : Bool) → cond b (is_allowed_under table h covers (Is kind) c
        || ((turned || list_any (is_allowed_under table h covers (Is kind)) turning_calls) && starts_under table h covers c))
        (is_allowed_under table h covers (Is kind) c) ≡ true
    by true = or_left (is_allowed_under table h covers (Is kind) c) _ e
    by false = e
can_from table h turned covers (IsDir dir way) c e = e
can_from table h turned covers IsMissing c e = e

can_new : (t : Tree) (table : CallTable) (h : ProcessState) (made : New) (c : Call) →
    is_allowed_under table h (new_covers t table h made) (new_object table made) c ≡ true → can_allow_new t table h made c ≡ true
can_new t table h NewDir c e = e
can_new t table h NewOthers c e = e
can_new t table h NewFile c e = or_left (is_allowed_under table h (file_covers t table h None) (new_object table NewFile) c) _ e
can_new t table h NewLink c e = e
can_new t table h NewSock c e = e
can_new t table h NewFifo c e = e

module _ (table : CallTable) (t0 : Tree) (h : ProcessState) where
  -- the calls of a line
  pub calls_among : (subject : Subject) (c : Call) → is_named_by t0 c subject ≡ true →
      is_allowed_under table h (covers_of t0 table h subject) (ever_object t0 table h subject) c ≡ true →
      Among (ever_calls t0 table h subject) c
  calls_among subject c named allowed =
      among_filter (is_ever_allowed t0 table h subject) calls c
      (and_from (is_named_by t0 c subject) _ named
      (can_from table h (is_turned h subject) (covers_of t0 table h subject) (ever_object t0 table h subject) c allowed)) (one_of_calls c)

  -- a call is allowed under one of the covers
  pub under_one : (covers : List Cover) (object : Object) (c : Call) (left : Cover) → Among covers left →
      may_any h (rule_of table c).alternatives ≡ may.Yes
      → cover_fault left (rule_of table c).perms ≡ None → object_fault table.whose empty_tree c object ≡ None →
      is_allowed_under table h covers object c ≡ true
  under_one covers object c left a granted covered fine =
      any_among (λ left. is_allowed (covered_verdict empty_tree table h c left object)) covers left a
      (λ i. is_allowed (if_promised (granted i) (allowed_unless (or_fault (covered i) (fine i)))))

module _ (table : CallTable) (t0 : Tree) (h : ProcessState) (well0 : WellFormed t0) (stand : VeilsStand t0 h) where
  s0 : Sound t0
  s0 = sound_from t0 well0

  -- a line has the call
  pub record Listed (thing : Thing) (c : Call) : Type 0 where
    pub line : EverLine
    pub among : Among (ever t0 table h) line
    pub about : line.thing ≡ thing
    pub allows : Among line.calls c

  abbrev standing_lines : List EverLine
  standing_lines = map (ever_line t0 table h) (flat_map (subjects_of t0 table h) (items t0 (veils h)))

  abbrev new_lines : List EverLine
  new_lines = map (new_line t0 table h) all_new

  listed_stands : (word : Word) (subject : Subject) (c : Call) → Among (flat_map (subjects_of t0 table h) (items t0 (veils h))) (
    word,
    subject,
  ) → Among (ever_calls t0 table h subject) c → Listed (Stands subject) c
  listed_stands word subject c here a =
      let line : EverLine = record { word = word; thing = Stands subject; calls = ever_calls t0 table h subject } in
      record {
        line = line;
        among = among_filter has_ever_calls (standing_lines ++ new_lines) line (some_of (ever_calls t0 table h subject) c a)
            (among_left standing_lines new_lines line
            (among_map (ever_line t0 table h) (flat_map (subjects_of t0 table h) (items t0 (veils h))) (word, subject) here));
        about = refl;
        allows = a;
      }

  listed_new : (made : New) (c : Call) → Among (new_calls t0 table h made) c → Listed (Comes made) c
  listed_new made c a =
      let line = new_line t0 table h made in
      record {
        line = line;
        among = among_filter has_ever_calls (standing_lines ++ new_lines) line (some_of (new_calls t0 table h made) c a)
            (among_right standing_lines new_lines line (among_map (new_line t0 table h) all_new made (one_new made)));
        about = refl;
        allows = a;
      }

  -- an item's own subject, and the name that is freed at it
  item_subject : (item : Item) → Among (items t0 (veils h)) item →
      Among (flat_map (subjects_of t0 table h) (items t0 (veils h))) (item.word, item.subject)
  item_subject item a = among_flat (subjects_of t0 table h) (items t0 (veils h)) item (item.word, item.subject) a (inl refl)

  -- a row's line has each call that can ever be allowed on what stands there
  pub row_listed : (r : Spot) (x : ℕ) → look t0 r.0 r.1 ≡ Some x → is_dir t0 x ≡ false → (c : Call) →
      Among (ever_calls t0 table h (At (Slot r.0 r.1 (Some x)))) c → Listed (Stands (At (Slot r.0 r.1 (Some x)))) c
  row_listed r x at other c a =
      let fits : FoundFits t0 (Slot r.0 r.1 (Some x)) =
      and_from (is_dir t0 r.0) _ (row_says t0 s0 r x at).0 (and_from (option_eq ◌==◌ (look t0 r.0 r.1) (Some x)) _
      (ap (λ o. option_eq ◌==◌ o (Some x)) at ∙ eq-eqb x x refl) (ap not other)) in
      let item = has_item t0 s0 h (Slot r.0 r.1 (Some x)) fits in
      listed_stands item.0 (At (Slot r.0 r.1 (Some x))) c (item_subject _ item.1) a

  item_to_free : (item : Item) (subject : Subject) → Among (items t0 (veils h)) item →
      Among (names_to_free t0 table h item.subject) subject → Among (flat_map (subjects_of t0 table h) (items t0 (veils h))) (
        item.word,
        subject,
      )
  item_to_free item subject a b =
      among_flat (subjects_of t0 table h) (items t0 (veils h)) item (
        item.word,
        subject,
      ) a (inr (among_map (λ s. (item.word, s)) (names_to_free t0 table h item.subject) subject b))

  new_among : (made : New) (c : Call) → may_edit table h ≡ true → can_make t0 table h made ≡ true → is_new_named made c ≡ true →
      is_allowed_under table h (new_covers t0 table h made) (new_object table made) c ≡ true
      → Among (new_calls t0 table h made) c
  new_among made c edits can named allowed =
      let P : Bool → Type 0 =
      λ b. Among (cond b (filter (λ call. is_new_named made call && can_allow_new t0 table h made call) calls) []) c in
      subst P (sym (and_from (may_edit table h) _ edits can))
      (among_filter (λ call. is_new_named made call && can_allow_new t0 table h made call) calls c
      (and_from (is_new_named made c) _ named (can_new t0 table h made c allowed)) (one_of_calls c))

  module _ (u : Tree) (k : Stays table t0 h well0 stand u) (edit : (may_edit table h ≡ true) ⊎ (u ≡ t0)) (c : Call) where
    su : Sound u
    su = sound_from u k.well

    -- what is made is made by an edit
    pub edits_if_young : (x : ℕ) → t0.next ≤ x → is_living u x ≡ true → may_edit table h ≡ true
    edits_if_young x from lives = elim edit [
      | inl yes_edits ↦ yes_edits
      | inr same ↦ (let below = below_next t0 h well0 x (ap (λ v. is_living v x) (sym same) ∙ lives) in absurd (omega arith))
    ]

    -- the cover of a directory of the beginning
    dir_cover : (d : ℕ) → is_dir u d ≡ true → is_dir t0 d ≡ true → Among (covers_of_dir t0 table h d) (cover_in u h d)
    dir_cover d is was = elim edit [
      | inl edits ↦ by edits (dir_under table t0 h well0 stand u k d is)
      | inr same ↦ subst (Among (covers_of_dir t0 table h d)) (ap (λ v. cover_in v h d) (sym same)) at_first
    ]
      where
        at_first : Among (covers_of_dir t0 table h d) (cover_in t0 h d)
        at_first = ever_first (is_none (perms_kept h (place.Dir d)) && can_move table h (cover_in t0 h d)) (cover_in t0 h d)
            (dir_covers t0 h (stays_on t0 h d))
            (λ both. way_by_c t0 h (stays_on t0 h d) d was (on_own t0 h d) (moved_has_c table h (cover_in t0 h d) (and_parts (is_none (perms_kept h (place.Dir d))) _ both).1))

        by : may_edit table h ≡ true → DirUnder table t0 h well0 stand u d → Among (covers_of_dir t0 table h d) (cover_in u h d)
        by edits (at_rest _ same) = subst (Among (covers_of_dir t0 table h d)) (sym same) at_first
        by edits (come a none had) =
            ever_other (is_none (perms_kept h (place.Dir d)) && can_move table h (cover_in t0 h d)) (cover_in t0 h d)
            (dir_covers t0 h (stays_on t0 h d)) (cover_in u h d) (and_from (is_none (perms_kept h (place.Dir d))) _ (ap is_none none) (had was))
            (subst (λ n. Among (dir_covers t0 h (kept_on t0 h n)) (cover_in u h d)) (k.devices d was is) a)

    young_cover : (d : ℕ) → is_dir u d ≡ true → t0.next ≤ d → Among (dir_covers t0 h None) (cover_in u h d)
    young_cover d is from = by (dir_under table t0 h well0 stand u k d is)
      where
        by : DirUnder table t0 h well0 stand u d → Among (dir_covers t0 h None) (cover_in u h d)
        by (at_rest was same) = let below = below_next t0 h well0 d (living_dir t0 h well0 d was) in absurd (omega arith)
        by (come a none had) = all_within t0 h (kept_in table t0 h well0 stand u d) (cover_in u h d) a

    pub record Hit (object : Found) : Type 0 where
      pub thing : Thing
      pub listed : Listed thing c
      pub about : IsLineOf t0 u h thing object

    -- a directory that can be removed now has a name, and can come to be empty
    is_removed : (d : ℕ) (w : Way) → is_dir u d ≡ true → StandsAsNamed u (Whole d w) → is_dir t0 d ≡ true → rmdir_fault table.whose u d w ≡ None →
        (is_named_way (own_way t0 d) && (not (is_mount t0 d) && (can_empty t0 h d && (may_edit table h || has_no_row t0 d)))) ≡ true
    is_removed d Dot is named was e = cc
    is_removed d DotDot is named was e = cc
    is_removed d Top is named was e = cc
    is_removed d (Named over name) is named was e =
        let other = (row_says u su (over, name) d named.1).3 in
        let row = row_of t0 s0 d was other in
        let own : own_way t0 d ≡ Named row.0.0 row.0.1 = named_by_row t0 s0 d row.0 was other row.1 in
        let bare = emptied (is_mount u d) (is_empty u d) e in
        let below = below_next t0 h well0 d (living_dir t0 h well0 d was) in
        let plain : is_mount t0 d ≡ false =
        ap (λ o. unwrap_or (option_map (λ (n : Node). n.mount) o) false) (sym (k.old d below (living_dir u h k.well d is))) ∙ bare.0 in
        and_from (is_named_way (own_way t0 d)) _ (ap is_named_way own)
        (and_from (not (is_mount t0 d)) _ (ap not plain)
        (and_from (can_empty t0 h d) _ (could_empty table t0 h well0 stand u k d bare.1) (by bare.1 edit)))
      where
        by : is_empty u d ≡ true → (may_edit table h ≡ true) ⊎ (u ≡ t0) → (may_edit table h || has_no_row t0 d) ≡ true
        by empty (inl edits) = or_left (may_edit table h) _ edits
        by empty (inr same) = or_right (may_edit table h) _ (ap (λ v. has_no_row v d) (sym same) ∙
            (and_parts (is_dir u d) (has_no_row u d) empty).1)

    is_rmdir : (w : Way) (d : ℕ) (b : Bool) → (rmdir_fault table.whose u d w ≡ None → b ≡ true) → object_fault table.whose u c (IsDir d w) ≡ None → c ≡ call.Rmdir →
        b ≡ true
    is_rmdir w d b sure e is = sure (ap (λ x. object_fault table.whose u x (IsDir d w)) (sym is) ∙ e)

    hit_dir : (d : ℕ) (w : Way) → is_dir u d ≡ true → StandsAsNamed u (Whole d w) → verdict u table h c (Whole d w) ≡ Allowed →
        Hit (Whole d w)
    hit_dir d w is named e =
        let parts = parts_of (may_any h (rule_of table c).alternatives) (cover_fault (cover u h (Whole d w)) (rule_of table c).perms)
        (object_fault table.whose u c (IsDir d w)) e in
        let covered = ap (λ left. cover_fault left (rule_of table c).perms) (sym ((covers_descend u h k.well).directory d w is)) ∙
        parts.covered in
        elim (given_or_new t0 d) [
          | inl below ↦ (let was = old_dir table t0 h well0 stand u k d below is in
              let item = has_item t0 s0 h (Whole d Top) was in
              let subject : Subject = At (Whole d (own_way t0 d)) in
              let test : Bool = is_named_way (own_way t0 d)
              && (not (is_mount t0 d) && (can_empty t0 h d && (may_edit table h || has_no_row t0 d))) in
              record {
                thing = Stands subject;
                listed = listed_stands item.0 subject c (item_subject _ item.1)
                    (calls_among table t0 h subject c (or-true (keeps_link c))
                    (under_one table t0 h (covers_of_dir t0 table h d) (dir_as test) c (cover_in u h d) (dir_cover d is was) parts.may
                    covered
                    (dir_alike table.whose u c d w test (is_rmdir w d test (is_removed d w is named was) parts.kind) parts.kind)));
                about = of_dir below;
              })
          | inr from ↦ (let lives = living_dir u h k.well d is in
              record {
                thing = Comes NewDir;
                listed = listed_new NewDir c (new_among NewDir c (edits_if_young d from lives) (made_dir d from is lives) refl
                    (under_one table t0 h (dir_covers t0 h None) removable_dir c (cover_in u h d) (young_cover d is from) parts.may covered
                    (dir_alike table.whose u c d w true (λ _. refl) parts.kind)));
                about = of_new_dir from;
              })
        ]
      where
        made_dir : (d : ℕ) → t0.next ≤ d → is_dir u d ≡ true → is_living u d ≡ true → can_make t0 table h NewDir ≡ true
        made_dir d from is lives = let known = k.young d from lives in by known.made (sym (ap is_dir_kind known.kinds) ∙ is) known.can
          where
            by : (made : New) → is_dir_kind (Some (new_kind table made)) ≡ true → can_make t0 table h made ≡ true →
                can_make t0 table h NewDir ≡ true
            by NewDir is can = can
            by NewOthers is can = can
            by NewFile is can = absurd (false≢true (sym (file_no_dir table.whose) ∙ is))
            by NewLink is can = absurd (false≢true is)
            by NewSock is can = absurd (false≢true is)
            by NewFifo is can = absurd (false≢true is)

    pub slot_of : (s : Spot) (x : ℕ) → is_dir u x ≡ false → row_cover u h s x ≡ cover u h (Slot s.0 s.1 (Some x))
    slot_of s x other = ap (λ b. cover u h (cond b (Whole x (Named s.0 s.1)) (Slot s.0 s.1 (Some x)))) other

    pub slot_then : (s : Spot) (x : ℕ) → is_dir t0 x ≡ false → row_cover t0 h s x ≡ cover t0 h (Slot s.0 s.1 (Some x))
    slot_then s x other = ap (λ b. cover t0 h (cond b (Whole x (Named s.0 s.1)) (Slot s.0 s.1 (Some x)))) other

    -- the line of a row of the beginning has the call, under a cover that its thing can come under
    pub row_has : (r : Spot) (s : Spot) (x : ℕ) → look t0 r.0 r.1 ≡ Some x → node_at u x ≡ node_at t0 x → is_dir u x ≡ false →
        (last_of c ≡ Followed → is_link u (Slot s.0 s.1 (Some x)) ≡ false)
        → may_any h (rule_of table c).alternatives ≡ may.Yes →
        cover_fault (cover u h (Slot s.0 s.1 (Some x))) (rule_of table c).perms ≡ None →
        object_fault table.whose u c (object_of_kind (kind_at u x)) ≡ None
        → Among (named_covers t0 table h (stays_on t0 h r.0) (kind_at t0 x) (cover t0 h (Slot r.0 r.1 (Some x)))) (cover u h (Slot s.0 s.1 (Some x))) →
        Listed (Stands (At (Slot r.0 r.1 (Some x)))) c
    row_has r s x at same other followed granted covered fine a =
        let same_kind : kind_at u x ≡ kind_at t0 x = ap (option_map (λ n. n.kind)) same in
        let other_then : is_dir t0 x ≡ false = sym (same_dir t0 u x same) ∙ other in
        let subject : Subject = At (Slot r.0 r.1 (Some x)) in
        row_listed r x at other_then c
        (calls_among table t0 h subject c (named_link c (last_of c) (is_link t0 (Slot r.0 r.1 (Some x))) refl
        (λ e. ap is_link_kind (sym same_kind) ∙ followed e))
        (under_one table t0 h (covers_of t0 table h subject) (ever_object t0 table h subject) c (cover u h (Slot s.0 s.1 (Some x))) a
        granted covered
        (ap (λ o. object_fault table.whose empty_tree c (object_of_kind o)) (sym same_kind) ∙ sym (plain_alike table.whose u c (kind_at u x)) ∙ fine)))

    hit_row : (r : Spot) (s : Spot) (x : ℕ) → look t0 r.0 r.1 ≡ Some x → (look t0 s.0 s.1 ≡ Some x → r ≡ s) →
        Listed (Stands (At (Slot r.0 r.1 (Some x)))) c → Hit (Slot s.0 s.1 (Some x))
    hit_row r s x at own has = record { thing = Stands (At (Slot r.0 r.1 (Some x))); listed = has; about = of_row r at own }

    -- the row of the beginning whose line a file, program or link has, and that its cover of now is one that it can come under
    pub record HomeOf (s : Spot) (x : ℕ) : Type 0 where
      pub row : Spot
      pub at : look t0 row.0 row.1 ≡ Some x
      pub own : look t0 s.0 s.1 ≡ Some x → row ≡ s
      pub under : Among (named_covers t0 table h (stays_on t0 h row.0) (kind_at t0 x) (cover t0 h (Slot row.0 row.1 (Some x)))) (cover u h (Slot s.0 s.1 (Some x)))

    pub home_of : (s : Spot) (x : ℕ) → look u s.0 s.1 ≡ Some x → is_dir u x ≡ false → x < t0.next → HomeOf s x
    home_of s x e other below = by (look t0 s.0 s.1) refl
      where
        lives : is_living u x ≡ true
        lives = (row_says u su s x e).2

        same : node_at u x ≡ node_at t0 x
        same = k.old x below lives

        then : is_dir t0 x ≡ false
        then = sym (same_dir t0 u x same) ∙ other

        here : (r : Spot) → look t0 r.0 r.1 ≡ Some x → (look t0 s.0 s.1 ≡ Some x → r ≡ s) →
            Among (named_covers t0 table h (stays_on t0 h r.0) (kind_at t0 x) (cover t0 h (Slot r.0 r.1 (Some x)))) (cover u h (Slot s.0 s.1 (Some x))) → HomeOf s x
        here r at own a = record { row = r; at = at; own = own; under = a }

        -- the covers there are those of the device of the row
        at_near : (r : Spot) → device t0 r.0 ≡ device u s.0 → Among (file_covers t0 table h (kept_in table t0 h well0 stand u s.0)) (row_cover u h s x) →
            Among (file_covers t0 table h (stays_on t0 h r.0)) (row_cover u h s x)
        at_near r near a = subst (λ n. Among (file_covers t0 table h (kept_on t0 h n)) (row_cover u h s x)) (sym near) a

        by_move : (r : Spot) → look t0 r.0 r.1 ≡ Some x → (look t0 s.0 s.1 ≡ Some x → r ≡ s) →
            can_move table h (row_cover t0 h r x) ≡ true → device t0 r.0 ≡ device u s.0 →
            Among (file_covers t0 table h (kept_in table t0 h well0 stand u s.0)) (row_cover u h s x) → HomeOf s x
        by_move r at own can near a =
            here r at own (named_moved t0 table h (stays_on t0 h r.0) (kind_at t0 x) (cover t0 h (Slot r.0 r.1 (Some x))) (cover u h (Slot s.0 s.1 (Some x)))
            (ap (can_move table h) (sym (slot_then r x then)) ∙ can) (subst (Among (file_covers t0 table h (stays_on t0 h r.0))) (slot_of s x other) (at_near r near a)))

        -- it stands in a row in which it stood then
        at_home : look t0 s.0 s.1 ≡ Some x → HomeOf s x
        at_home at = by_cover (can_move table h (row_cover t0 h s x)) refl
          where
            by_cover : (b : Bool) → can_move table h (row_cover t0 h s x) ≡ b → HomeOf s x
            by_cover true can = elim (file_under table t0 h well0 stand u k s x e other) [
              | inl fixed ↦ absurd (false≢true (sym fixed.1 ∙ can))
              | inr came ↦ by_move s at (λ _. refl) can (sym (k.devices s.0 (row_says t0 s0 s x at).0 (row_says u su s x e).0)) came.1
            ]
            by_cover false stays =
                let covers : cover u h (Slot s.0 s.1 (Some x)) ≡ cover t0 h (Slot s.0 s.1 (Some x)) = sym (slot_of s x other) ∙ fixed_covered table t0 h well0 stand u k s x e (at, stays) ∙
                slot_then s x then in
                here s at (λ _. refl) (subst (Among (named_covers t0 table h (stays_on t0 h s.0) (kind_at t0 x) (cover t0 h (Slot s.0 s.1 (Some x))))) (sym covers)
                (named_first t0 table h (stays_on t0 h s.0) (kind_at t0 x) (cover t0 h (Slot s.0 s.1 (Some x)))
                (λ can. absurd (false≢true (sym stays ∙ ap (can_move table h) (slot_then s x then) ∙ can)))))

        -- it came there
        away : (look t0 s.0 s.1 ≡ Some x → ⊥) → HomeOf s x
        away never = elim (file_under table t0 h well0 stand u k s x e other) [
          | inl fixed ↦ absurd (never fixed.0)
          | inr came ↦ from came.1 came.0.origin
        ]
          where
            from : Among (file_covers t0 table h (kept_in table t0 h well0 stand u s.0)) (row_cover u h s x) →
                Origin table t0 h well0 stand (device u s.0) x → HomeOf s x
            from a (stood r at can near) = by_move r at (λ e. absurd (never e)) can (near then) a
            from a (linked r at plain can near) =
                here r at (λ e. absurd (never e)) (named_linked t0 table h (stays_on t0 h r.0) (kind_at t0 x) (cover t0 h (Slot r.0 r.1 (Some x))) (cover u h (Slot s.0 s.1 (Some x)))
                (ap (can_link table h (kind_at t0 x)) (sym (slot_then r x plain)) ∙ can)
                (subst (Among (file_covers t0 table h (stays_on t0 h r.0))) (slot_of s x other) (at_near r near a)))
            from a (since after) = absurd (omega (arith, below, after))

        by : (o : Option ℕ) → look t0 s.0 s.1 ≡ o → HomeOf s x
        by None is = away (λ e. Some≢None x (sym e ∙ is))
        by (Some y) is = elim (y == x) as (λ b. (y == x) ≡ b → HomeOf s x) [
          | true ↦ λ same. at_home (is ∙ ap Some (eqb-true y x same))
          | false ↦ λ differs. away (λ e. false≢true (sym differs ∙ eq-eqb y x (same_Some y x (sym is ∙ e))))
        ] refl

    -- and the cover of a new one
    pub young_cover_at : (s : Spot) (x : ℕ) → look u s.0 s.1 ≡ Some x → is_dir u x ≡ false → t0.next ≤ x →
        Among (file_covers t0 table h None) (cover u h (Slot s.0 s.1 (Some x)))
    young_cover_at s x e other from = elim (file_under table t0 h well0 stand u k s x e other) [
      | inl fixed ↦ (let below = below_next t0 h well0 x (row_says t0 s0 s x fixed.0).2 in absurd (omega arith))
      | inr came ↦ subst (Among (file_covers t0 table h None)) (slot_of s x other)
          (files_all t0 h (kept_in table t0 h well0 stand u s.0) table (row_cover u h s x) came.1)
    ]

    hit_file : (s : Spot) (x : ℕ) → look u s.0 s.1 ≡ Some x → is_dir u x ≡ false →
        (last_of c ≡ Followed → is_link u (Slot s.0 s.1 (Some x)) ≡ false)
        → verdict u table h c (Slot s.0 s.1 (Some x)) ≡ Allowed → Hit (Slot s.0 s.1 (Some x))
    hit_file s x e other followed allowed = elim (given_or_new t0 x) [
      | inl below ↦ hit_old below
      | inr from ↦ hit_young from (k.young x from lives)
    ]
      where
        parts : Parts (may_any h (rule_of table c).alternatives) (cover_fault (cover u h (Slot s.0 s.1 (Some x))) (rule_of table c).perms)
            (object_fault table.whose u c (object_of_kind (kind_at u x)))
        parts = parts_of (may_any h (rule_of table c).alternatives)
            (cover_fault (cover u h (Slot s.0 s.1 (Some x))) (rule_of table c).perms) (object_fault table.whose u c (object_of_kind (kind_at u x)))
            allowed

        lives : is_living u x ≡ true
        lives = (row_says u su s x e).2

        hit_old : x < t0.next → Hit (Slot s.0 s.1 (Some x))
        hit_old below =
            let home = home_of s x e other below in
            hit_row home.row s x home.at home.own
            (row_has home.row s x home.at (k.old x below lives) other followed parts.may parts.covered parts.kind home.under)

        hit_young : t0.next ≤ x → Known table t0 h well0 stand u x → Hit (Slot s.0 s.1 (Some x))
        hit_young from known = by known.made known.kinds known.can
          where
            a : Among (file_covers t0 table h None) (cover u h (Slot s.0 s.1 (Some x)))
            a = young_cover_at s x e other from

            edits : may_edit table h ≡ true
            edits = edits_if_young x from lives

            kept_link : (mode : Last) → last_of c ≡ mode → (mode ≡ Followed → is_link u (Slot s.0 s.1 (Some x)) ≡ false) →
                kind_at u x ≡ Some kind.Link → keeps_link c ≡ true
            kept_link Kept is unlinked kinds = ap is_kept is
            kept_link Followed is unlinked kinds = absurd (false≢true (sym (unlinked refl) ∙ ap is_link_kind kinds))

            -- what was made as such a kind is allowed where it can come
            as_made : (made : Kind) → kind_at u x ≡ Some made → is_allowed_under table h (file_covers t0 table h None) (Is made) c ≡ true
            as_made made kinds =
                under_one table t0 h (file_covers t0 table h None) (Is made) c (cover u h (Slot s.0 s.1 (Some x))) a parts.may parts.covered
                (sym (plain_alike table.whose u c (Some made)) ∙ ap (λ o. object_fault table.whose u c (object_of_kind o)) (sym kinds)
                ∙ parts.kind)

            by : (made : New) → kind_at u x ≡ Some (new_kind table made) → can_make t0 table h made ≡ true → Hit (Slot s.0 s.1 (Some x))
            by NewDir kinds can = absurd (false≢true (sym other ∙ ap is_dir_kind kinds))
            by NewOthers kinds can = absurd (false≢true (sym other ∙ ap is_dir_kind kinds))
            by NewFile kinds can = record {
              thing = Comes NewFile;
              listed = listed_new NewFile c (new_among NewFile c edits can refl (as_made (new_kind table NewFile) kinds));
              about = of_new_file from (ap may_start_at kinds ∙ file_starts table.whose);
            }
            by NewLink kinds can = record {
              thing = Comes NewLink;
              listed = listed_new NewLink c (new_among NewLink c edits can (kept_link (last_of c) refl followed kinds)
                  (as_made kind.Link kinds));
              about = of_new_link from kinds;
            }
            by NewSock kinds can = record {
              thing = Comes NewSock;
              listed = listed_new NewSock c (new_among NewSock c edits can refl (as_made (kind.Known Sock) kinds));
              about = of_new_sock from kinds;
            }
            by NewFifo kinds can = record {
              thing = Comes NewFifo;
              listed = listed_new NewFifo c (new_among NewFifo c edits can refl (as_made (kind.Known Fifo) kinds));
              about = of_new_fifo from kinds;
            }

    hit_missing : (dir : ℕ) (name : List ℕ) → is_dir u dir ≡ true → look u dir name ≡ None →
        verdict u table h c (Slot dir name None) ≡ Allowed → Hit (Slot dir name None)
    hit_missing dir name is none allowed = by (perms_kept h (place.Slot dir name)) refl
      where
        parts : Parts (may_any h (rule_of table c).alternatives) (cover_fault (cover u h (Slot dir name None)) (rule_of table c).perms)
            (object_fault table.whose u c IsMissing)
        parts = parts_of (may_any h (rule_of table c).alternatives) (cover_fault (cover u h (Slot dir name None)) (rule_of table c).perms)
            (object_fault table.whose u c IsMissing) allowed

        fine : object_fault table.whose empty_tree c IsMissing ≡ None
        fine = sym (plain_alike table.whose u c None) ∙ parts.kind

        here : Subject
        here = At (Slot dir name None)

        -- the name has its line, whatever stood there
        name_line : (perms : ℕ) → perms_kept h (place.Slot dir name) ≡ Some perms → is_dir t0 dir ≡ true → (o : Option ℕ) →
            look t0 dir name ≡ o
            → (word : Word) × Among (flat_map (subjects_of t0 table h) (items t0 (veils h))) (word, At (Slot dir name None))
        name_line perms own was None at =
            let item = has_item t0 s0 h (Slot dir name None) (and_from (is_dir t0 dir) _ was (ap is_none at)) in
            let subject : Subject = cond (is_some (perms_kept h (place.Slot dir name))) (At (Slot dir name None)) (Others dir) in
            let this : subject ≡ At (Slot dir name None) = ap (λ o. cond (is_some o) (At (Slot dir name None)) (Others dir)) own in
            (item.0, subst (λ s. Among (flat_map (subjects_of t0 table h) (items t0 (veils h))) (item.0, s)) this (item_subject _ item.1))
        name_line perms own was (Some y) at =
            elim (is_dir t0 y) as (λ b. is_dir t0 y ≡ b →
            (word : Word) × Among (flat_map (subjects_of t0 table h) (items t0 (veils h))) (word, At (Slot dir name None))) [
              | true ↦ λ dir_there.
                  let item = has_item t0 s0 h (Whole y Top) dir_there in
                  let own_name : own_way t0 y ≡ Named dir name =
                  named_by_row t0 s0 y (dir, name) dir_there (row_says t0 s0 (dir, name) y at).3 at in (
                    item.0,
                    item_to_free _ (At (Slot dir name None)) item.1
                        (subst (λ w. Among (names_to_free t0 table h (At (Whole y w))) (At (Slot dir name None))) (sym own_name)
                        (rw test (inl refl))),
                  )
              | false ↦ λ other.
                  let fits : FoundFits t0 (Slot dir name (Some y)) =
                  and_from (is_dir t0 dir) _ was (and_from (option_eq ◌==◌ (look t0 dir name) (Some y)) _
                  (ap (λ o. option_eq ◌==◌ o (Some y)) at ∙ eq-eqb y y refl) (ap not other)) in
                  let item = has_item t0 s0 h (Slot dir name (Some y)) fits in
                  (item.0, item_to_free _ (At (Slot dir name None)) item.1 (rw test (inl refl)))
            ] refl
          where
            edits : may_edit table h ≡ true
            edits = elim edit [ inl e ↦ e | inr same ↦ absurd (Some≢None y (sym at ∙ ap (λ v. look v dir name) (sym same) ∙ none)) ]

            test : (is_some (perms_kept h (place.Slot dir name)) && (may_edit table h && is_free t0 h (dir, name))) ≡ true
            test = and_from (is_some (perms_kept h (place.Slot dir name))) _ (ap is_some own)
                (and_from (may_edit table h) _ edits (free_then table t0 h well0 stand u k (dir, name) none))

        by : (o : Option ℕ) → perms_kept h (place.Slot dir name) ≡ o → Hit (Slot dir name None)
        by (Some perms) own =
            let was = old_dir table t0 h well0 stand u k dir (stand (place.Slot dir name) perms own) is in
            let line = name_line perms own was (look t0 dir name) refl in
            let covers : cover t0 h (Slot dir name None) ≡ cover u h (Slot dir name None) =
            (covers_descend t0 h well0).at_name dir name None ∙ ap (λ o. own_or o (cover_in t0 h dir)) own ∙
            sym (ap (λ o. own_or o (cover_in u h dir)) own) ∙ sym ((covers_descend u h k.well).at_name dir name None) in
            record {
              thing = Stands (At (Slot dir name None));
              listed = listed_stands line.0 (At (Slot dir name None)) c line.1
                  (calls_among table t0 h (At (Slot dir name None)) c (or-true (keeps_link c))
                  (under_one table t0 h (covers_of t0 table h (At (Slot dir name None))) IsMissing c (cover u h (Slot dir name None))
                  (inl covers) parts.may parts.covered fine));
              about = of_name perms own;
            }
        by None own =
            let over : cover u h (Slot dir name None) ≡ cover_in u h dir = (covers_descend u h k.well).at_name dir name None ∙
            ap (λ o. own_or o (cover_in u h dir)) own in
            let covered = ap (λ left. cover_fault left (rule_of table c).perms) (sym over) ∙ parts.covered in
            elim (given_or_new t0 dir) [
              | inl below ↦ (let was = old_dir table t0 h well0 stand u k dir below is in
                  let at = found_dir t0 s0 h dir was in
                  record {
                    thing = Stands (Others dir);
                    listed = listed_stands at.1.0 (Others dir) c (item_subject _ (at.1.1 _ (inr (inl refl))))
                        (calls_among table t0 h (Others dir) c refl (under_one table t0 h (covers_of_dir t0 table h dir) IsMissing c
                        (cover_in u h dir) (dir_cover dir is was) parts.may covered fine));
                    about = of_others below own;
                  })
              | inr from ↦ (let lives = living_dir u h k.well dir is in
                  let known = k.young dir from lives in
                  record {
                    thing = Comes NewOthers;
                    listed = listed_new NewOthers c (new_among NewOthers c (edits_if_young dir from lives)
                        (made_other known.made (sym (ap is_dir_kind known.kinds) ∙ is) known.can) refl
                        (under_one table t0 h (dir_covers t0 h None) IsMissing c (cover_in u h dir) (young_cover dir is from) parts.may covered
                        fine));
                    about = of_new_others from;
                  })
            ]
          where
            made_other : (made : New) → is_dir_kind (Some (new_kind table made)) ≡ true → can_make t0 table h made ≡ true →
                can_make t0 table h NewOthers ≡ true
            made_other NewDir is can = can
            made_other NewOthers is can = can
            made_other NewFile is can = absurd (false≢true (sym (file_no_dir table.whose) ∙ is))
            made_other NewLink is can = absurd (false≢true is)
            made_other NewSock is can = absurd (false≢true is)
            made_other NewFifo is can = absurd (false≢true is)

    -- whatever was found
    pub hit : (object : Found) → IsOf u (last_of c) object → verdict u table h c object ≡ Allowed → Hit object
    hit (Whole d w) is allowed = hit_dir d w is.fits is.named allowed
    hit (Slot dir name (Some x)) is allowed =
        hit_file (dir, name) x is.named.1 (not-true (is_dir u x) (and_parts _ _ (and_parts (is_dir u dir) _ is.fits).1).1) is.followed
        allowed
    hit (Slot dir name None) is allowed = hit_missing dir name (and_parts (is_dir u dir) _ is.fits).0 is.named.1 allowed

    pub foreseen : (from : Start) (text : List ℕ) → let named = resolution_of_text u from (ending_of c) text (last_of c) in
        verdict_of u table h c named ≡ Allowed → IsForeseen t0 table h u c named
    foreseen from text = by (resolution_of_text u from (ending_of c) text (last_of c)) refl
      where
        by : (named : Result Found Errno) → resolution_of_text u from (ending_of c) text (last_of c) ≡ named →
            verdict_of u table h c named ≡ Allowed → IsForeseen t0 table h u c named
        by (Err errno) is e = absurd (failed (may_any h (rule_of table c).alternatives) errno e)
        by (Ok object) is e =
            let named = named_within_text u from (ending_of c) text (last_of c) object is in
            let one = hit object ((resolutions_fit (rooted u 0) k.well k.well.root).whole from (ending_of c) text (last_of c) object named) e in
            record {
              object = object;
              names = refl;
              line = one.listed.line;
              listed = contained (ever t0 table h) one.listed.line one.listed.among;
              about = subst (λ thing. IsLineOf t0 u h thing object) (sym one.listed.about) one.about;
              allows = contained one.listed.line.calls c one.listed.allows;
            }
