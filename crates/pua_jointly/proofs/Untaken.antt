-- Who may take no name away leaves each row.
use Rattle.pua_jointly.proofs.Common.{◌≡◌, ℕ, List, Bool, true, false, cond, refl, sym, ap, subst, ◌∙◌, inl, inr, Option, Some, None}
use Rattle.pua_jointly.proofs.Common.{is_some, not, ◌||◌, length, false≢true, or_left, or_right, Tree, Spot, spot_cmp, spots_total}
use Rattle.pua_jointly.proofs.Common.{exact_spots, is_dir, look, Some≢None, CallTable, ProcessState}
use Rattle.pua_jointly.proofs.Common.{Call, Asked, World, apply}
use Rattle.pua_jointly.proofs.Common.{NoCallNeedsError}
use Rattle.pua_ever.specs.Ever.{is_yes}
use Rattle.pua_script.specs.declared.request.Action.TheVariants.{OnPath, Symlink, Rename, Link, Pledge, Unveil, Lock, Fork, Exit, Uses, Hold}
use Rattle.pua_script.specs.declared.request.Action.TheVariants.{Close, Fchdir, Chroot, Take, Comment}
use Rattle.pua_script.specs.Guards.{IsGranted}
use Rattle.pua_script.specs.Limits.{most_processes}
use Rattle.pua_path.specs.declared.errno.Errno.TheVariants.{EAGAIN}
use Rattle.pua_script.specs.Worlds.{tree_left}
use Rattle.pua_script.specs.declared.request.Action.{Action}
use Rattle.pua_path.specs.declared.found.Found.{Found}
use Rattle.pua_policy.specs.States.{is_pledged, may_any}
use Rattle.pua_calls.specs.Calls.{rule_of}
use Rattle.pua_calls.specs.TmpTable.{tmp_table}
use Rattle.pua_tree.specs.Tree.{is_living, Node}
use Rattle.std.specs.Prelude.{Ok, Err, Result, nat_le}
use Rattle.pua_path.specs.declared.errno.Errno.{Errno}
use Rattle.pua_policy.specs.declared.open_file.OpenFile.{OpenFile}
use Rattle.pua_tree.specs.Edits.{add, tie, with_new, with_row, has_room, has_name_room}
use Rattle.pua_tree.specs.declared.fault.TreeFault.TheVariants.{NotDir, Missing, IsDir as IsDirFault, Taken, Full}
use Rattle.pua_tree.proofs.ForCallers.{same_or_other, put_elsewhere}
use Rattle.pua_path.specs.Fits.{spot_named, node_named}
use Rattle.pua_calls.specs.declared.call.Call.TheVariants as call
use Rattle.pua_policy.specs.declared.answer.May.TheVariants.{Yes}
use Rattle.pua_script.specs.Decide.{made_by, made_as, plain_node, link_node, Change, change_by, CopyAs, TakeFile}
use Rattle.pua_script.specs.Replay.{edit_effect, edited_tree, kept_at, change_effect, Copies, Fails, sent_by, take_effect}
use Rattle.pua_script.proofs.ForCallers.{by_own_tree, by_filing, by_going, by_rooting, by_placing, by_tying, by_making, changes_granted, IsWithin}
use Rattle.pua_ever.proofs.ForCallers.{yes_before}
use Rattle.pua_jointly.specs.Jointly.{may_take}

-- each row of a tree is one of another
abbrev pub RowsStay : Tree → Tree → Type 0
RowsStay t u = (s : Spot) (y : ℕ) → look t s.0 s.1 ≡ Some y → look u s.0 s.1 ≡ Some y

rows_same : (t : Tree) → RowsStay t t
rows_same t s y e = e

-- a further row leaves the others
row_more : (t : Tree) (dir : ℕ) (name : List ℕ) (x : ℕ) → look t dir name ≡ None → RowsStay t (with_row t dir name x)
row_more t dir name x free s y e = elim (same_or_other spot_cmp spots_total exact_spots s (dir, name)) [
  | inl same ↦ absurd (Some≢None y (sym e ∙ ap (λ (r : Spot). look t r.0 r.1) same.0 ∙ free))
  | inr other ↦ put_elsewhere spot_cmp spots_total exact_spots s (dir, name) x t.rows other.0 ∙ e
]

add_stays : (t : Tree) (h : ProcessState) (dir : ℕ) (name : List ℕ) (node : Node) → RowsStay t (tree_left t (edit_effect h (add t dir name node)))
add_stays t h dir name node = by (is_dir t dir) (look t dir name) (has_room t) refl
  where
    by : (a : Bool) (o : Option ℕ) (room : Bool) → look t dir name ≡ o →
        RowsStay t (tree_left t (edit_effect h
        (cond (not a) (Err NotDir) (cond (is_some o) (Err Taken) (cond room (Ok (t.next, with_new t dir name node)) (Err Full))))))
    by false o room e = rows_same t
    by true (Some y) room e = rows_same t
    by true None false e = rows_same t
    by true None true e = row_more t dir name t.next e

tie_stays : (t : Tree) (h : ProcessState) (dir : ℕ) (name : List ℕ) (x : ℕ) → RowsStay t (tree_left t (edited_tree h (tie t dir name x)))
tie_stays t h dir name x = by (is_dir t dir) (is_living t x) (is_dir t x) (look t dir name) (has_name_room t) refl
  where
    by : (a b c : Bool) (o : Option ℕ) (room : Bool) → look t dir name ≡ o →
        RowsStay t (tree_left t (edited_tree h
        (cond (not a) (Err NotDir)
        (cond (not b) (Err Missing)
        (cond c (Err IsDirFault) (cond (is_some o) (Err Taken) (cond room (Ok (with_row t dir name x)) (Err Full))))))))
    by false b c o room e = rows_same t
    by true false c o room e = rows_same t
    by true true true o room e = rows_same t
    by true true false (Some y) room e = rows_same t
    by true true false None false e = rows_same t
    by true true false None true e = row_more t dir name x e

module _ (table : CallTable) (w : World) (h : ProcessState) (lacks : may_take table h ≡ false) where
  abbrev Keeps : Change → Type 0
  Keeps c = RowsStay w.tree (tree_left w.tree (change_effect w h c))

  no_rename : may_any h table.rename.new.needs.alternatives ≡ Yes → ⊥
  no_rename e = false≢true (sym lacks ∙ or_left (is_yes (may_any h table.rename.new.needs.alternatives)) _ (ap is_yes e))

  no_rmdir : may_any h (rule_of table call.Rmdir).alternatives ≡ Yes → ⊥
  no_rmdir e = false≢true (sym lacks ∙ or_right (is_yes (may_any h table.rename.new.needs.alternatives)) _
      (or_left (is_yes (may_any h (rule_of table call.Rmdir).alternatives)) _ (ap is_yes e)))

  no_unlink : may_any h (rule_of table call.Unlink).alternatives ≡ Yes → ⊥
  no_unlink e = false≢true (sym lacks ∙ or_right (is_yes (may_any h table.rename.new.needs.alternatives)) _
      (or_right (is_yes (may_any h (rule_of table call.Rmdir).alternatives)) _ (ap is_yes e)))

  keeps_call : (c : Call) (x : Found) → may_any h (rule_of table c).alternatives ≡ Yes → Keeps (change_by table c x)
  keeps_call call.Rmdir x is = absurd (no_rmdir is)
  keeps_call call.Unlink x is = absurd (no_unlink is)
  keeps_call call.Chdir x is = by_going Keeps (rows_same w.tree) x (λ dir. rows_same w.tree)
  keeps_call call.Exec x is = rows_same w.tree
  keeps_call c x is = by_making Keeps (rows_same w.tree) table.whose (made_by c) (spot_named x) (node_named x)
      (λ what s made at. add_stays w.tree h s.0 s.1 (plain_node (made_as table.whose what)))

  keeps_copy : (new : ℕ) → Keeps (CopyAs new)
  keeps_copy new = by (is_some (kept_at w new) || nat_le most_processes (length w.processes))
    where
      by : (full : Bool) → RowsStay w.tree (tree_left w.tree (cond full (Fails EAGAIN) (Copies new)))
      by true = rows_same w.tree
      by false = rows_same w.tree

  keeps_taken : (number from theirs : ℕ) → Keeps (TakeFile number from theirs)
  keeps_taken number from theirs = by (sent_by (is_pledged h) (kept_at w from) theirs)
    where
      by : (r : Result OpenFile Errno) → RowsStay w.tree (tree_left w.tree (take_effect w h number r))
      by (Ok file) = rows_same w.tree
      by (Err errno) = rows_same w.tree

  keeps_by : (action : Action) (c : Change) → IsGranted table w.tree h action c → Keeps c
  keeps_by (OnPath asked path) c (inl d) = subst Keeps (sym d.2) (keeps_call asked d.0 d.1.promised)
  keeps_by (OnPath asked path) c (inr same) = subst Keeps (sym same) (rows_same w.tree)
  keeps_by (Symlink target path) c d =
      subst Keeps (sym d.3) (by_placing Keeps (rows_same w.tree) (link_node target) (spot_named d.0) (node_named d.0)
      (λ s is. add_stays w.tree h s.0 s.1 (link_node target)))
  keeps_by (Rename old new) c d = absurd (no_rename d.two.promised_new)
  keeps_by (Link old new) c d =
      subst Keeps (sym d.is) (by_tying Keeps (rows_same w.tree) d.node (spot_named d.new) (λ s is. tie_stays w.tree h s.0 s.1 d.node))
  keeps_by (Pledge p x) c d = subst Keeps (sym d.is) (rows_same w.tree)
  keeps_by (Unveil path perms) c d = subst Keeps (sym d.is) (rows_same w.tree)
  keeps_by Lock c d = subst Keeps (sym d.1) (rows_same w.tree)
  keeps_by (Fork new) c d = subst Keeps (sym d.1) (keeps_copy new)
  keeps_by Exit c d = subst Keeps (sym d) (rows_same w.tree)
  keeps_by (Uses sets) c d = subst Keeps (sym d.1) (rows_same w.tree)
  keeps_by (Hold number asked path) c d =
      subst Keeps (sym d.1) (by_filing Keeps (rows_same w.tree) number _ (λ file. rows_same w.tree))
  keeps_by (Close number) c d = subst Keeps (sym d.2) (rows_same w.tree)
  keeps_by (Fchdir number) c d = subst Keeps (sym d.is) (rows_same w.tree)
  keeps_by (Chroot path) c d = subst Keeps (sym d.is) (by_rooting Keeps (rows_same w.tree) d.object (λ dir. rows_same w.tree))
  keeps_by (Take number from theirs) c d = subst Keeps (sym d.1) (keeps_taken number from theirs)
  keeps_by Comment c d = subst Keeps (sym d) (rows_same w.tree)

pub untaken : (table : CallTable) (w : World) (ask : Asked) (h : ProcessState) → kept_at w ask.process ≡ Some h →
    may_take (tmp_table table) h ≡ false → RowsStay w.tree (apply table w ask).1.tree
untaken table w ask h here lacks =
    by_own_tree table w ask h here (RowsStay w.tree) (rows_same w.tree)
    (λ c guards. keeps_by (tmp_table table) w h lacks ask.action c (changes_granted table w.tree h ask.action c guards))

-- who may take none by what it holds may take none by what is left of it
pub still_untaking : (table : CallTable) (sound : NoCallNeedsError table) (now h : ProcessState) → IsWithin now h → may_take table now ≡ false →
    may_take table h ≡ false
still_untaking table sound now h within lacks =
    by (is_yes (may_any h table.rename.new.needs.alternatives)) (is_yes (may_any h (rule_of table call.Rmdir).alternatives))
    (is_yes (may_any h (rule_of table call.Unlink).alternatives)) refl refl refl
  where
    by : (a b c : Bool) → is_yes (may_any h table.rename.new.needs.alternatives) ≡ a →
        is_yes (may_any h (rule_of table call.Rmdir).alternatives) ≡ b →
        is_yes (may_any h (rule_of table call.Unlink).alternatives) ≡ c → may_take table h ≡ false
    by true b c is f g = absurd (false≢true (sym lacks ∙
        or_left _ _ (yes_before table sound now h within table.rename.new.needs.alternatives sound.rename.1 is)))
    by false true c is f g = absurd (false≢true (sym lacks ∙
        or_right (is_yes (may_any now table.rename.new.needs.alternatives)) _
        (or_left _ _ (yes_before table sound now h within (rule_of table call.Rmdir).alternatives (sound.calls call.Rmdir) f))))
    by false false true is f g = absurd (false≢true (sym lacks ∙
        or_right (is_yes (may_any now table.rename.new.needs.alternatives)) _
        (or_right (is_yes (may_any now (rule_of table call.Rmdir).alternatives)) _
        (yes_before table sound now h within (rule_of table call.Unlink).alternatives (sound.calls call.Unlink) g))))
    by false false false is f g = λ i. is i || (f i || g i)
