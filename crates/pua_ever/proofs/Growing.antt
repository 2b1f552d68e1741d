-- What a request makes of the rows and nodes of a tree.
use Rattle.pua_ever.proofs.Common.{◌≡◌, ◌≤◌, ◌⊎◌, ℕ, Bool, true, false, cond, refl, sym, ap, subst, ◌∙◌, inl, inr, arith, Option, Some}
use Rattle.pua_ever.proofs.Common.{None, is_some, is_none, ◌&&◌, ◌||◌, ◌==◌, nat_le, option_eq, false≢true, and_parts, and_from, or_left}
use Rattle.pua_ever.proofs.Common.{or_right, Tree, Node, WellFormed, Spot, is_dir, look, kind_at, is_empty, empty_tree, same_Some}
use Rattle.pua_ever.proofs.Common.{None≢Some, is_link_kind, Followed, resolutions_fit, EAGAIN, Found, Whole, Slot, CallTable, rule_of}
use Rattle.pua_ever.proofs.Common.{is_kept, ProcessState, may_any, start, IsMissing, cover, cover_fault, covered_verdict, or_fault}
use Rattle.pua_ever.proofs.Common.{object_fault, allowed_unless, if_promised, is_allowed, Call, Asked, most_processes, World, Fails, Copies}
use Rattle.pua_ever.proofs.Common.{change_effect, kept_at, apply, tree_left, Action, OnPath, Symlink, Rename, Link, Pledge, Unveil, Lock}
use Rattle.pua_ever.proofs.Common.{Fork, Exit, Uses, Hold, Close, Fchdir, Take, Comment, has_c, Change, CopyAs, change_by, by_going, covers_descend, named_within_text}
use Rattle.pua_ever.proofs.Common.{row_cover, is_yes, can_link, can_move, may_rename, New, NewDir, NewFile, NewLink, NewSock, NewFifo, EditsNeedC, List, FoundFits}
use Rattle.std.proofs.Common.{not}
use Rattle.std.specs.Prelude.{length}
use Rattle.std.proofs.lemmas.Bool.{not-false}
use Rattle.pua_tree.specs.declared.node.Kind.{Kind}
use Rattle.pua_tree.specs.declared.node.Kind.TheVariants as kind
use Rattle.pua_path.specs.Fits.{IsOf, is_link, spot_named, node_named}
use Rattle.pua_path.specs.declared.found.Last.{Last}
use Rattle.pua_path.specs.declared.found.Last.TheVariants.{Kept}
use Rattle.pua_path.specs.declared.errno.Errno.TheVariants.{EINVAL, EISDIR, ENOTEMPTY, EXDEV}
use Rattle.pua_path.specs.declared.text.Ending.TheVariants.{Dot, Dropped}
use Rattle.pua_path.specs.declared.found.Way.TheVariants as way
use Rattle.pua_calls.specs.Promises.{holds, creating}
use Rattle.pua_calls.specs.declared.call.Call.TheVariants as call
use Rattle.pua_policy.specs.declared.answer.May.TheVariants as may
use Rattle.pua_script.specs.Judged.{NameFits}
use Rattle.pua_script.specs.Confinement.{TakingNeedsC, changes_names}
use Rattle.pua_tree.specs.declared.node.FileType.TheVariants.{Sock, Fifo}
use Rattle.pua_calls.specs.Calls.{file_by_rules}
use Rattle.pua_script.specs.Decide.{NoChange, AddNode, CutRow, ShiftRow, TieRow, adding, making, made_by, shifting, fault_if}
use Rattle.pua_script.specs.Decide.{device_of, device_over, is_elsewhere, is_whole, plain_node, link_node, inside_fault, kinds_fault}
use Rattle.pua_tree.specs.Edits.{is_inside}
use Rattle.pua_tree.specs.Tree.{device}
use Rattle.pua_tree.proofs.ForCallers.{row_says, sound_from}
use Rattle.pua_ever.proofs.Common.{eqb-true, is_mount, Some≢None}
use Rattle.pua_ever.proofs.Covers.{below_next}
use Rattle.pua_ever.proofs.KindFaults.{emptied}
use Rattle.pua_ever.proofs.Mounts.{moves_none, no_mount, turns_none}
use Rattle.pua_script.specs.Guards.{IsGranted, IsShift}
use Rattle.pua_script.proofs.ForCallers.{name_fits, c_from_cover, covered_by_c, by_tree, by_own_tree, by_cutting}
use Rattle.pua_script.proofs.ForCallers.{by_tying, changes_granted, first_none, second_none, not_faulty, tmp_perms}
use Rattle.pua_calls.specs.Calls.{calls, ending_of, last_of}
use Rattle.pua_calls.specs.TmpTable.{tmp_table}
use Rattle.pua_objects.proofs.ForCallers.{one_of_calls}
use Rattle.pua_ever.specs.Ever.{may_link, is_some_file, file_makers}
use Rattle.pua_ever.proofs.Common.{among_filter}
use Rattle.pua_ever.proofs.Ways.{any_among}
use Rattle.pua_ever.proofs.Grown.{Grown, IsPlain, Written, by_name, by_turn, From, IsMaker, IsNear, TurnsNear, Put, row_device, is_moved, is_linked, new_kind, name_cover, grown_all, grown_add}
use Rattle.pua_ever.proofs.Grown.{grown_tie, grown_cut, grown_shift}
use Rattle.pua_path.specs.declared.errno.Errno.{Errno}
use Rattle.pua_policy.specs.States.{is_pledged}
use Rattle.pua_policy.specs.Verdict.{object_of}
use Rattle.pua_policy.specs.declared.open_file.OpenFile.{OpenFile}
use Rattle.pua_script.specs.Decide.{TakeFile, file_opened}
use Rattle.pua_script.specs.Replay.{sent_by, take_effect}
use Rattle.pua_script.proofs.ForCallers.{by_filing}
use Rattle.std.specs.Prelude.{Result, Ok, Err}
use Rattle.pua_script.specs.declared.request.Action.TheVariants.{Chroot}
use Rattle.pua_script.proofs.ForCallers.{by_rooting}
use Rattle.pua_path.specs.Resolution.{rooted}

pub takes : (table : CallTable) → EditsNeedC table → TakingNeedsC table
takes table needs = record {
  rmdir = needs.calls call.Rmdir refl;
  unlink = needs.calls call.Unlink refl;
  rename_old = needs.rename_old;
  rename_new = needs.rename_new;
}

none_is : {X : Type 0} (o : Option X) → is_none o ≡ true → o ≡ None
none_is None e = refl
none_is (Some x) e = cc

module _ (table : CallTable) (needs : EditsNeedC table) (t : Tree) (h : ProcessState) (well : WellFormed t) where
  abbrev IsMade : New → Spot → Type 0
  IsMade new s = (maker : Call) × IsMaker new maker ×
      (is_allowed (covered_verdict empty_tree table h maker (name_cover table t h s) IsMissing) ≡ true) ×
      (has_c (name_cover table t h s) ≡ true)

  -- what is asked of a change, so that what it leaves has grown so
  abbrev Grows : Change → Type 0
  Grows (AddNode s node) = (new : New) × (node.kind ≡ new_kind table new) × (node.mount ≡ false) × IsMade new s
  Grows (CutRow s) = IsPlain table t h s
  Grows (ShiftRow s r) = (x : ℕ) × (look t s.0 s.1 ≡ Some x) × Put table t h r x × (is_mount t x ≡ false) × IsPlain table t h r
  Grows (TieRow s x) = Put table t h s x
  Grows _ = Unit {0}

  by_added : (new : New) (maker : Call) → IsMaker new maker → (node : Node) → node.kind ≡ new_kind table new → node.mount ≡ false →
      object_fault table.whose empty_tree maker IsMissing ≡ None → holds (rule_of table maker).perms creating ≡ true
      → (x : Found) → may_any h (rule_of table maker).alternatives ≡ may.Yes →
      cover_fault (cover t h x) (rule_of table maker).perms ≡ None → Grows (adding node x)
  by_added new maker makes node is plain fine has (Slot dir name None) granted covered = (
    new,
    is,
    plain,
    (
      maker,
      makes,
      λ i. is_allowed (if_promised (granted i) (allowed_unless (or_fault (covered i) (fine i)))),
      c_from_cover (cover t h (Slot dir name None)) (rule_of table maker).perms has covered,
    ),
  )
  by_added new maker makes node is plain fine has (Slot dir name (Some y)) granted covered = tt
  by_added new maker makes node is plain fine has (Whole dir (way.Named parent name)) granted covered = tt
  by_added new maker makes node is plain fine has (Whole dir way.Dot) granted covered = tt
  by_added new maker makes node is plain fine has (Whole dir way.DotDot) granted covered = tt
  by_added new maker makes node is plain fine has (Whole dir way.Top) granted covered = tt

  -- a call that makes a file, if it makes what it may, makes it where nothing stands
  abbrev makes_well : Call → Option Kind → Bool
  makes_well c None = true
  makes_well c (Some kind.File) = is_none (object_fault table.whose empty_tree c IsMissing) && (is_some_file (made_by c) && changes_names c)
  makes_well c (Some _) = false

  by_made : (c : Call) (x : Found) → may_any h (rule_of table c).alternatives ≡ may.Yes →
      cover_fault (cover t h x) (rule_of table c).perms ≡ None → (made : Option Kind) → makes_well c made ≡ true →
      Grows (making table.whose made (spot_named x) (node_named x))
  by_made c x granted covered None is = tt
  by_made c x granted covered (Some kind.File) is =
      let parts = and_parts (is_none (object_fault table.whose empty_tree c IsMissing)) (is_some_file (made_by c) && changes_names c) is in
      let more = and_parts (is_some_file (made_by c)) (changes_names c) parts.1 in
      let among = among_filter (λ maker. is_some_file (made_by maker)) calls c more.0 (one_of_calls c) in
      by_added NewFile c (λ passes e. any_among passes file_makers c among e) (plain_node (file_by_rules table.whose)) refl refl
      (none_is (object_fault table.whose empty_tree c IsMissing) parts.0) (needs.calls c more.1) x granted covered
  by_made c x granted covered (Some kind.Dir) is = absurd (false≢true is)
  by_made c x granted covered (Some kind.Prog) is = absurd (false≢true is)
  by_made c x granted covered (Some kind.Link) is = absurd (false≢true is)
  by_made c x granted covered (Some (kind.Known type)) is = absurd (false≢true is)

  is_other : (b : Bool) → not b ≡ true → b ≡ false
  is_other true e = cc
  is_other false e = refl

  -- what stands at a name as no directory is none
  pub plain_at : (dir : ℕ) (name : List ℕ) (y : ℕ) → FoundFits t (Slot dir name (Some y)) → is_dir t y ≡ false
  plain_at dir name y fits =
      is_other (is_dir t y) (and_parts (option_eq ◌==◌ (look t dir name) (Some y)) (not (is_dir t y))
      (and_parts (is_dir t dir) (option_eq ◌==◌ (look t dir name) (Some y) && not (is_dir t y)) fits).1).1

  -- so no mount point stands there
  named_none : (dir : ℕ) (name : List ℕ) (o : Option ℕ) → NameFits t (Slot dir name o) → IsPlain table t h (dir, name)
  named_none dir name None fits y at = absurd (None≢Some y (sym fits.named.1 ∙ at))
  named_none dir name (Some z) fits y at =
      ap (is_mount t) (same_Some y z (sym at ∙ fits.named.1)) ∙ no_mount t well z (plain_at dir name z fits.fits)

  -- nor is what a call removes one
  removes_none : (x : Found) → NameFits t x → object_fault table.whose t call.Rmdir (object_of t x) ≡ None → (s : Spot) → spot_named x ≡ Some s →
      IsPlain table t h s
  removes_none (Whole dir (way.Named parent name)) fits kind s e =
      subst (IsPlain table t h) (same_Some (parent, name) s e)
      (λ y at. ap (is_mount t) (same_Some y dir (sym at ∙ fits.named.1)) ∙ (emptied (is_mount t dir) (is_empty t dir) kind).0)
  removes_none (Whole dir way.Dot) fits kind s e = cc
  removes_none (Whole dir way.DotDot) fits kind s e = cc
  removes_none (Whole dir way.Top) fits kind s e = cc
  removes_none (Slot dir name o) fits kind s e = subst (IsPlain table t h) (same_Some (dir, name) s e) (named_none dir name o fits)

  unlinks_none : (x : Found) → NameFits t x → object_fault table.whose t call.Unlink (object_of t x) ≡ None → (s : Spot) →
      spot_named x ≡ Some s → IsPlain table t h s
  unlinks_none (Whole dir w) fits kind s e = absurd (Some≢None _ kind)
  unlinks_none (Slot dir name o) fits kind s e = subst (IsPlain table t h) (same_Some (dir, name) s e) (named_none dir name o fits)

  by_call : (c : Call) (x : Found) → NameFits t x → may_any h (rule_of table c).alternatives ≡ may.Yes →
      cover_fault (cover t h x) (rule_of table c).perms ≡ None → object_fault table.whose t c (object_of t x) ≡ None →
      Grows (change_by table c x)
  by_call call.Mkdir x fits granted covered suits =
      by_added NewDir call.Mkdir (λ passes e. e) (plain_node kind.Dir) refl refl refl (needs.calls call.Mkdir refl) x granted covered
  by_call call.Rmdir x fits granted covered suits =
      by_cutting Grows tt (spot_named x) (node_named x) (λ s is. removes_none x fits suits s is)
  by_call call.Unlink x fits granted covered suits =
      by_cutting Grows tt (spot_named x) (node_named x) (λ s is. unlinks_none x fits suits s is)
  by_call call.Chdir x fits granted covered suits = by_going Grows tt x (λ dir. tt)
  by_call call.Exec x fits granted covered suits = tt
  by_call call.Bind x fits granted covered suits =
      by_added NewSock call.Bind (λ passes e. e) (plain_node (kind.Known Sock)) refl refl refl (needs.calls call.Bind refl) x granted covered
  by_call call.Mknod x fits granted covered suits =
      by_added NewFifo call.Mknod (λ passes e. e) (plain_node (kind.Known Fifo)) refl refl refl (needs.calls call.Mknod refl) x granted covered
  by_call c x fits granted covered suits = by_made c x granted covered (made_by c) refl

  -- what stands at the spot by whose name something was found
  pub standing : (a : Found) → NameFits t a → (s : Spot) → spot_named a ≡ Some s → (is_dir t s.0 ≡ true) × (look t s.0 s.1 ≡ node_named a)
  standing (Whole dir (way.Named parent name)) fits s e =
      let is : (parent, name) ≡ s = same_Some (parent, name) s e in
      (ap (λ (r : Spot). is_dir t r.0) (sym is) ∙ fits.named.0, ap (λ (r : Spot). look t r.0 r.1) (sym is) ∙ fits.named.1)
  standing (Whole dir way.Dot) fits s e = cc
  standing (Whole dir way.DotDot) fits s e = cc
  standing (Whole dir way.Top) fits s e = cc
  standing (Slot dir name o) fits s e =
      let is : (dir, name) ≡ s = same_Some (dir, name) s e in
      (ap (λ (r : Spot). is_dir t r.0) (sym is) ∙ fits.named.0, ap (λ (r : Spot). look t r.0 r.1) (sym is) ∙ fits.named.1)

  -- what covers the row by whose name something was found
  pub row_named : (a : Found) (x : ℕ) → NameFits t a → node_named a ≡ Some x → (s : Spot) → spot_named a ≡ Some s →
      row_cover t h s x ≡ cover t h a
  row_named (Whole dir (way.Named parent name)) x fits is s e =
      (λ i. row_cover t h (sym (same_Some (parent, name) s e) i) (sym (same_Some dir x is) i)) ∙
      ap (λ b. cover t h (cond b (Whole dir (way.Named parent name)) (Slot parent name (Some dir)))) fits.fits
  row_named (Whole dir way.Dot) x fits is s e = cc
  row_named (Whole dir way.DotDot) x fits is s e = cc
  row_named (Whole dir way.Top) x fits is s e = cc
  row_named (Slot dir name (Some y)) x fits is s e =
      (λ i. row_cover t h (sym (same_Some (dir, name) s e) i) (sym (same_Some y x is) i)) ∙
      ap (λ b. cover t h (cond b (Whole y (way.Named dir name)) (Slot dir name (Some y)))) (plain_at dir name y fits.fits)
  row_named (Slot dir name None) x fits is s e = absurd (None≢Some x is)

  -- what is named twice is on one device
  near_by : (a b : Found) → is_elsewhere t a b ≡ false → (device_of t a ≡ device_over t b) × (device_of t b ≡ device_over t b)
  near_by a b near =
      let both = and_parts (device_of t a == device_over t b) _ (not-false _ near) in
      (eqb-true (device_of t a) (device_over t b) both.0, eqb-true (device_of t b) (device_over t b) both.1)

  over_spot : (b : Found) (s : Spot) → spot_named b ≡ Some s → device_over t b ≡ device t s.0
  over_spot (Whole dir (way.Named parent name)) s e = ap (λ (r : Spot). device t r.0) (same_Some (parent, name) s e)
  over_spot (Whole dir way.Dot) s e = cc
  over_spot (Whole dir way.DotDot) s e = cc
  over_spot (Whole dir way.Top) s e = cc
  over_spot (Slot dir name o) s e = ap (λ (r : Spot). device t r.0) (same_Some (dir, name) s e)

  row_device_is : (a : Found) (x : ℕ) → NameFits t a → node_named a ≡ Some x → (s : Spot) → spot_named a ≡ Some s →
      row_device table t h s x ≡ device_of t a
  row_device_is (Whole dir w) x fits is s e =
      ap (λ b. cond b (device t x) (device t s.0)) (ap (is_dir t) (sym (same_Some dir x is)) ∙ fits.fits)
      ∙ ap (device t) (sym (same_Some dir x is))
  row_device_is (Slot dir name (Some y)) x fits is s e =
      ap (λ b. cond b (device t x) (device t s.0)) (ap (is_dir t) (sym (same_Some y x is)) ∙ plain_at dir name y fits.fits)
      ∙ ap (λ (r : Spot). device t r.0) (sym (same_Some (dir, name) s e))
  row_device_is (Slot dir name None) x fits is s e = absurd (None≢Some x is)

  -- the row of what is moved is one by which it can be
  comes : (a : Found) (x : ℕ) → NameFits t a → may_rename table h ≡ true → cover_fault (cover t h a) table.rename.old.needs.perms ≡ None →
      node_named a ≡ Some x → (s : Spot) → spot_named a ≡ Some s → (to : ℕ) → device_of t a ≡ device t to →
      (from : From table t h x) × IsNear table t h to x from
  comes a x fits held covered is s e to near =
      let under = row_named a x fits is s e in (
        is_moved s ((standing a fits s e).1 ∙ is)
            (ap (can_move table h) under ∙
            and_from (may_rename table h) _ held
            (and_from (has_c (cover t h a)) _ (c_from_cover (cover t h a) table.rename.old.needs.perms needs.rename_old covered)
            (ap is_none covered))),
        row_device_is a x fits is s e ∙ near,
      )

  whole_dir : (a : Found) (x : ℕ) → NameFits t a → node_named a ≡ Some x → is_whole a ≡ true → is_dir t x ≡ true
  whole_dir (Whole dir w) x fits is e = ap (is_dir t) (sym (same_Some dir x is)) ∙ fits.fits
  whole_dir (Slot dir name o) x fits is e = absurd (false≢true e)

  -- where it goes
  goes : (a b : Found) (x : ℕ) → NameFits t a → NameFits t b → has_c (cover t h b) ≡ true → node_named a ≡ Some x →
      kinds_fault t x a b ≡ None
      → (s : Spot) → spot_named b ≡ Some s → (written : Written table t h s x) × TurnsNear table t h s x written × IsPlain table t h s
  goes a (Slot dir name o) x fa fb has is kinds s e =
      subst (λ r. (written : Written table t h r x) × TurnsNear table t h r x written × IsPlain table t h r) (same_Some (dir, name) s e)
      (by_name has, tt, named_none dir name o fb)
  goes a (Whole y (way.Named parent name)) x fa fb has is kinds s e =
      let fits = second_none (fault_if (is_elsewhere t a (Whole y (way.Named parent name))) EXDEV) _ kinds in
      let whole = not-false (is_whole a) (not_faulty (not (is_whole a)) EISDIR (first_none (fault_if (not (is_whole a)) EISDIR) _ fits)) in
      let empty = not-false (is_empty t y)
      (not_faulty (not (is_empty t y)) ENOTEMPTY (second_none _ (fault_if (not (is_empty t y)) ENOTEMPTY) fits)) in
      let near = near_by a (Whole y (way.Named parent name)) (not_faulty _ EXDEV (first_none (fault_if (is_elsewhere t a (Whole y (way.Named parent name))) EXDEV) _ kinds)) in
      subst (λ r. (written : Written table t h r x) × TurnsNear table t h r x written × IsPlain table t h r) (same_Some (parent, name) s e) (
        by_turn y fb.named.1 empty (ap has_c (sym ((covers_descend t h well).directory y (way.Named parent name) fb.fits)) ∙
            has) (whole_dir a x fa is whole),
        near.1,
        λ z at. ap (is_mount t) (same_Some z y (sym at ∙ fb.named.1)) ∙ turns_none t well (parent, name) y fb.named.1 empty near.1,
      )
  goes a (Whole y way.Dot) x fa fb has is kinds s e = cc
  goes a (Whole y way.DotDot) x fa fb has is kinds s e = cc
  goes a (Whole y way.Top) x fa fb has is kinds s e = cc

  named_c : (a : Found) → cover_fault (cover t h a) creating ≡ None → has_c (cover t h a) ≡ true
  named_c a covered = c_from_cover (cover t h a) creating refl covered

  by_shifted : (a b : Found) (x : ℕ) → NameFits t a → NameFits t b → may_rename table h ≡ true →
      cover_fault (cover t h a) table.rename.old.needs.perms ≡ None →
      cover_fault (cover t h b) creating ≡ None → node_named a ≡ Some x → inside_fault t x (spot_named b) ≡ None → kinds_fault t x a b ≡ None
      → (oa ob : Option Spot) → spot_named a ≡ oa → spot_named b ≡ ob → Grows (shifting oa ob)
  by_shifted a b x fa fb held ca cb is inside kinds (Some sa) (Some sb) ea eb =
      let near = near_by a b (not_faulty _ EXDEV (first_none (fault_if (is_elsewhere t a b) EXDEV) _ kinds)) in
      let goes_to = goes a b x fa fb (named_c b cb) is kinds sb eb in
      let comes_from = comes a x fa held ca is sa ea sb.0 (near.0 ∙ over_spot b sb eb) in
      let outside = not_faulty (is_inside t x sb.0) EINVAL (subst (λ o. inside_fault t x o ≡ None) eb inside) in (
        x,
        (standing a fa sa ea).1 ∙ is,
        record {
          lives = (standing b fb sb eb).0;
          written = goes_to.0;
          from = comes_from.0;
          near = comes_from.1;
          turns = goes_to.1;
        },
        moves_none t well sa x sb.0 ((standing a fa sa ea).1 ∙ is) (standing b fb sb eb).0
            (row_device_is a x fa is sa ea ∙ near.0 ∙ over_spot b sb eb) outside,
        goes_to.2,
      )
  by_shifted a b x fa fb held ca cb is inside kinds (Some sa) None ea eb = tt
  by_shifted a b x fa fb held ca cb is inside kinds None ob ea eb = tt

  by_moved : (a b : Found) (x : ℕ) (c : Change) → NameFits t a → NameFits t b → may_rename table h ≡ true →
      cover_fault (cover t h a) table.rename.old.needs.perms ≡ None →
      cover_fault (cover t h b) creating ≡ None → node_named a ≡ Some x
      → (c ≡ NoChange) ⊎ IsShift t a b x c → Grows c
  by_moved a b x c fa fb held ca cb is (inl same) = subst Grows (sym same) tt
  by_moved a b x c fa fb held ca cb is (inr shifts) =
      subst Grows (sym shifts.is) (by_shifted a b x fa fb held ca cb is shifts.inside shifts.kinds (spot_named a) (spot_named b) refl refl)

  free_name : (b : Found) → is_some (node_named b) ≡ false → (s : Spot) → spot_named b ≡ Some s → has_c (cover t h b) ≡ true →
      has_c (name_cover table t h s) ≡ true
  free_name (Slot dir name o) free s e has = ap (λ (r : Spot). has_c (name_cover table t h r)) (sym (same_Some (dir, name) s e)) ∙ has
  free_name (Whole y w) free s e has = cc

  -- what gets a further name by link
  came : (a : Found) (x : ℕ) → IsOf t table.link.old.last a → may_link table h ≡ true →
      cover_fault (cover t h a) table.link.old.needs.perms ≡ None → node_named a ≡ Some x → is_whole a ≡ false → (to : ℕ) → device_of t a ≡ device t to →
      (from : From table t h x) × IsNear table t h to x from
  came (Slot dir name (Some y)) x of held covered is other to near =
      subst (λ z. (from : From table t h z) × IsNear table t h to z from) (same_Some y x is) (is_linked (dir, name) of.named.1 plain gives, near)
    where
      plain : is_dir t y ≡ false
      plain = plain_at dir name y of.fits

      under : row_cover t h (dir, name) y ≡ cover t h (Slot dir name (Some y))
      under = ap (λ b. cover t h (cond b (Whole y (way.Named dir name)) (Slot dir name (Some y)))) plain

      kept : (mode : Last) → (mode ≡ Followed → is_link t (Slot dir name (Some y)) ≡ false) →
          (not (is_link_kind (kind_at t y)) || is_kept mode) ≡ true
      kept Kept followed = or_right (not (is_link_kind (kind_at t y))) true refl
      kept Followed followed = or_left (not (is_link_kind (kind_at t y))) false (ap not (followed refl))

      gives : can_link table h (kind_at t y) (row_cover t h (dir, name) y) ≡ true
      gives =
          and_from (may_link table h) _ held
          (and_from (is_none (cover_fault (row_cover t h (dir, name) y) table.link.old.needs.perms)) _
          (ap (λ left. is_none (cover_fault left table.link.old.needs.perms)) under ∙ ap is_none covered)
          (kept table.link.old.last of.followed))
  came (Slot dir name None) x of held covered is other to near = absurd (None≢Some x is)
  came (Whole dir w) x of held covered is other to near = cc

  grows_by : (action : Action) (c : Change) → IsGranted table t h action c → Grows c
  grows_by (OnPath asked path) c (inl d) =
      let fits = name_fits t well (start h) (ending_of asked) path (last_of asked) d.0 d.1.found in
      subst Grows (sym d.2) (by_call asked d.0 fits d.1.promised d.1.covered d.1.fitting)
  grows_by (OnPath asked path) c (inr same) = subst Grows (sym same) tt
  grows_by (Symlink target path) c d =
      subst Grows (sym d.3) (by_added NewLink call.Symlink (λ passes e. e) (link_node target) refl refl refl (needs.calls call.Symlink refl) d.0 d.1.promised d.1.covered)
  grows_by (Rename old new) c d =
      by_moved d.old d.new d.node c (name_fits t well (start h) Dropped old table.rename.old.last d.old d.two.found_old)
      (name_fits t well (start h) Dropped new table.rename.new.last d.new d.two.found_new)
      (and_from (is_yes (may_any h table.rename.old.needs.alternatives)) _ (ap is_yes d.two.promised_old) (ap is_yes d.two.promised_new))
      d.two.covered_old (covered_by_c (cover t h d.new) _ needs.rename_new d.two.covered_new) d.two.named d.moves
  grows_by (Link old new) c d =
      let of_old = (resolutions_fit (rooted t 0) well well.root).whole (start h) Dot old table.link.old.last d.old
      (named_within_text t (start h) Dot old table.link.old.last d.old d.two.found_old) in
      let held : may_link table h ≡ true =
      and_from (is_yes (may_any h table.link.old.needs.alternatives)) _ (ap is_yes d.two.promised_old) (ap is_yes d.two.promised_new) in
      let fits_new = name_fits t well (start h) Dot new table.link.new.last d.new d.two.found_new in
      subst Grows (sym d.is)
      (by_tying Grows tt d.node (spot_named d.new)
      (λ s is. let came_from = came d.old d.node of_old held d.two.covered_old d.two.named d.no_dir s.0
      ((near_by d.old d.new d.near).0 ∙ over_spot d.new s is) in
      record {
        lives = (standing d.new fits_new s is).0;
        written = by_name (free_name d.new d.free s is (named_c d.new (covered_by_c (cover t h d.new) _ needs.link_new d.two.covered_new)));
        from = came_from.0;
        near = came_from.1;
        turns = tt;
      }))
  grows_by (Pledge p x) c d = subst Grows (sym d.is) tt
  grows_by (Unveil path perms) c d = subst Grows (sym d.is) tt
  grows_by Lock c d = subst Grows (sym d.1) tt
  grows_by (Fork new) c d = subst Grows (sym d.1) tt
  grows_by Exit c d = subst Grows (sym d) tt
  grows_by (Uses sets) c d = subst Grows (sym d.1) tt
  grows_by (Hold number asked path) c d = subst Grows (sym d.1) (by_filing Grows tt number (file_opened t asked (node_named d.0)) (λ file. tt))
  grows_by (Close number) c d = subst Grows (sym d.2) tt
  grows_by (Fchdir number) c d = subst Grows (sym d.is) tt
  grows_by (Chroot path) c d = subst Grows (sym d.is) (by_rooting Grows tt d.object (λ dir. tt))
  grows_by (Take number from theirs) c d = subst Grows (sym d.1) tt
  grows_by Comment c d = subst Grows (sym d) tt

grown_made : (table : CallTable) (needs : EditsNeedC table) (w : World) (h : ProcessState) (well : WellFormed w.tree) (c : Change) →
    Grows table needs w.tree h well c → Grown table w.tree h (tree_left w.tree (change_effect w h c))
grown_made table needs w h well (AddNode s node) grows =
    let made = grows.3 in
    grown_add table w.tree h grows.0 made.0 made.1 s.0 s.1 node grows.1 made.2 made.3 grows.2
    (λ r e. let below = below_next w.tree h well w.tree.next (row_says w.tree (sound_from w.tree well) r w.tree.next e).2 in absurd (omega (arith, below)))
grown_made table needs w h well (CutRow s) grows = grown_cut table w.tree h s.0 s.1 grows
grown_made table needs w h well (ShiftRow s r) grows =
    grown_shift table w.tree h s.0 r.0 s.1 r.1 grows.0 grows.1 grows.2 grows.3 grows.4
grown_made table needs w h well (TieRow s x) grows = grown_tie table w.tree h s.0 s.1 x grows
grown_made table needs w h well (CopyAs new) grows = by (is_some (kept_at w new) || nat_le most_processes (length w.processes))
  where
    by : (full : Bool) → Grown table w.tree h (tree_left w.tree (cond full (Fails EAGAIN) (Copies new)))
    by true = grown_all table w.tree h
    by false = grown_all table w.tree h
grown_made table needs w h well (TakeFile number from theirs) grows = by (sent_by (is_pledged h) (kept_at w from) theirs)
  where
    by : (r : Result OpenFile Errno) → Grown table w.tree h (tree_left w.tree (take_effect w h number r))
    by (Ok file) = grown_all table w.tree h
    by (Err errno) = grown_all table w.tree h
grown_made table needs w h well _ grows = grown_all table w.tree h

-- the table with one more set of some calls needs the same permissions
pub edits_too : (table : CallTable) → EditsNeedC table → EditsNeedC (tmp_table table)
edits_too table needs = record {
  calls = λ c changes. ap (λ perms. holds perms creating) (tmp_perms table c) ∙ needs.calls c changes;
  rename_old = needs.rename_old;
  rename_new = needs.rename_new;
  link_new = needs.link_new;
}

-- each row and each node that a request leaves was there, or came where the one that asks has `c`, by that table
pub requests_grow : (table : CallTable) → EditsNeedC table → (w : World) (ask : Asked) (h : ProcessState) →
    WellFormed w.tree → kept_at w ask.process ≡ Some h → Grown (tmp_table table) w.tree h (apply table w ask).1.tree
requests_grow table needs w ask h well here =
    let tmp = tmp_table table in
    by_own_tree table w ask h here (Grown tmp w.tree h) (grown_all tmp w.tree h)
    (λ c guards. grown_made tmp (edits_too table needs) w h well c
    (grows_by tmp (edits_too table needs) w.tree h well ask.action c (changes_granted table w.tree h ask.action c guards)))

-- and no number is taken back
pub numbers_grow : (table : CallTable) → EditsNeedC table → (w : World) (ask : Asked) → WellFormed w.tree →
    w.tree.next ≤ (apply table w ask).1.tree.next
numbers_grow table needs w ask well =
    by_tree table w ask (λ u. w.tree.next ≤ u.next) (omega arith)
    (λ h here c guards. (grown_made (tmp_table table) (edits_too table needs) w h well c
    (grows_by (tmp_table table) (edits_too table needs) w.tree h well ask.action c (changes_granted table w.tree h ask.action c guards))).next)
