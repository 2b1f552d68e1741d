-- Who holds what none of the edits needs leaves the tree.
use Rattle.pua_ever.proofs.Common.{◌≡◌, ◌⊎◌, ℕ, List, [], ◌∷◌, Bool, true, false, cond, refl, sym, ap, subst, ◌∙◌, inl, inr, list_any, Some}
use Rattle.pua_ever.proofs.Common.{is_some, nat_le, false≢true, or_left, or_right, EAGAIN, Found, ProcessState}
use Rattle.pua_ever.proofs.Common.{may_any, CallTable, rule_of, Call, May, most_processes, Asked, tree_left, is_member}
use Rattle.pua_ever.proofs.Common.{family_then, World, Fails, Copies, change_effect, kept_at, apply}
use Rattle.pua_ever.proofs.Common.{world_after, Change, CopyAs, change_by, Action, OnPath, Symlink, Rename, Link, Pledge, Unveil}
use Rattle.pua_ever.proofs.Common.{Lock, Fork, Exit, Uses, Hold, Close, Fchdir, Take, Comment, IsWithin, Members, Among, is_yes, may_edit}
use Rattle.std.proofs.Common.{◌||◌}
use Rattle.std.specs.List.{AllByRecursion}
use Rattle.std.specs.Prelude.{length}
use Rattle.pua_calls.specs.Tables.{NamesNoError, NoCallNeedsError}
use Rattle.pua_calls.specs.declared.call.Call.TheVariants as call
use Rattle.pua_policy.specs.declared.answer.May.TheVariants.{Yes, Enosys, Death}
use Rattle.pua_calls.specs.TmpTable.{tmp_table}
use Rattle.pua_calls.proofs.ForCallers.{tmp_table_needs_no_error}
use Rattle.pua_script.proofs.ForCallers.{by_own_tree, changes_granted}
use Rattle.pua_script.specs.Guards.{IsGranted}
use Rattle.pua_script.proofs.ForCallers.{may_yes}
use Rattle.pua_ever.specs.Ever.{edit_calls}
use Rattle.pua_ever.specs.Laws.{MembersEdit, NoExecLoosens}
use Rattle.pua_ever.proofs.Calling.{by_calling}
use Rattle.pua_ever.proofs.Execs.{members_still}
use Rattle.pua_ever.proofs.Ways.{any_among, any_found}
use Rattle.pua_path.specs.declared.errno.Errno.{Errno}
use Rattle.pua_policy.specs.States.{is_pledged}
use Rattle.pua_policy.specs.declared.open_file.OpenFile.{OpenFile}
use Rattle.pua_path.specs.Fits.{node_named}
use Rattle.pua_script.specs.Decide.{TakeFile, file_opened}
use Rattle.pua_script.specs.Replay.{sent_by, take_effect}
use Rattle.pua_script.proofs.ForCallers.{by_filing}
use Rattle.std.specs.Prelude.{Result, Ok, Err}
use Rattle.pua_script.specs.declared.request.Action.TheVariants.{Chroot}
use Rattle.pua_script.proofs.ForCallers.{by_rooting}

module _ (table : CallTable) (w : World) (h : ProcessState) (lacks : may_edit table h ≡ false) where
  -- a change that leaves the tree
  abbrev Keeps : Change → Type 0
  Keeps c = tree_left w.tree (change_effect w h c) ≡ w.tree

  -- no edit is promised
  unpromised : (edit : Call) → Among edit_calls edit → may_any h (rule_of table edit).alternatives ≡ Yes → ⊥
  unpromised edit a e =
      false≢true (sym lacks ∙
      or_right (is_yes (may_any h table.rename.new.needs.alternatives)) _
      (or_right (is_yes (may_any h table.link.new.needs.alternatives)) _
      (any_among (λ edit. is_yes (may_any h (rule_of table edit).alternatives)) edit_calls edit a (ap is_yes e))))

  no_rename : may_any h table.rename.new.needs.alternatives ≡ Yes → ⊥
  no_rename e = false≢true (sym lacks ∙ or_left (is_yes (may_any h table.rename.new.needs.alternatives)) _ (ap is_yes e))

  no_link : may_any h table.link.new.needs.alternatives ≡ Yes → ⊥
  no_link e = false≢true (sym lacks ∙
      or_right (is_yes (may_any h table.rename.new.needs.alternatives)) _ (or_left (is_yes (may_any h table.link.new.needs.alternatives)) _
      (ap is_yes e)))

  keeps_call : (c : Call) (x : Found) → may_any h (rule_of table c).alternatives ≡ Yes → Keeps (change_by table c x)
  keeps_call c x is =
      by_calling table Keeps refl c (λ edits s node. absurd (unpromised c edits is)) (λ edits s. absurd (unpromised c edits is)) (λ dir. refl)
      (λ starts. refl) x

  keeps_copy : (new : ℕ) → Keeps (CopyAs new)
  keeps_copy new = by (is_some (kept_at w new) || nat_le most_processes (length w.processes))
    where
      by : (full : Bool) → tree_left w.tree (cond full (Fails EAGAIN) (Copies new)) ≡ w.tree
      by true = refl
      by false = refl

  keeps_taken : (number from theirs : ℕ) → Keeps (TakeFile number from theirs)
  keeps_taken number from theirs = by (sent_by (is_pledged h) (kept_at w from) theirs)
    where
      by : (r : Result OpenFile Errno) → tree_left w.tree (take_effect w h number r) ≡ w.tree
      by (Ok file) = refl
      by (Err errno) = refl

  keeps_by : (action : Action) (c : Change) → IsGranted table w.tree h action c → Keeps c
  keeps_by (OnPath asked path) c (inl d) = subst Keeps (sym d.2) (keeps_call asked d.0 d.1.promised)
  keeps_by (OnPath asked path) c (inr same) = subst Keeps (sym same) refl
  keeps_by (Symlink target path) c d = absurd (unpromised call.Symlink (inr (inr (inr (inr (inl refl))))) d.1.promised)
  keeps_by (Rename old new) c d = absurd (no_rename d.two.promised_new)
  keeps_by (Link old new) c d = absurd (no_link d.two.promised_new)
  keeps_by (Pledge p x) c d = subst Keeps (sym d.is) refl
  keeps_by (Unveil path perms) c d = subst Keeps (sym d.is) refl
  keeps_by Lock c d = subst Keeps (sym d.1) refl
  keeps_by (Fork new) c d = subst Keeps (sym d.1) (keeps_copy new)
  keeps_by Exit c d = subst Keeps (sym d) refl
  keeps_by (Uses sets) c d = subst Keeps (sym d.1) refl
  keeps_by (Hold number asked path) c d = subst Keeps (sym d.1) (by_filing Keeps refl number (file_opened w.tree asked (node_named d.0)) (λ file. refl))
  keeps_by (Close number) c d = subst Keeps (sym d.2) refl
  keeps_by (Fchdir number) c d = subst Keeps (sym d.is) refl
  keeps_by (Chroot path) c d = subst Keeps (sym d.is) (by_rooting Keeps refl d.object (λ dir. refl))
  keeps_by (Take number from theirs) c d = subst Keeps (sym d.1) (keeps_taken number from theirs)
  keeps_by Comment c d = subst Keeps (sym d) refl

pub unedited : (table : CallTable) (w : World) (ask : Asked) (h : ProcessState) → kept_at w ask.process ≡ Some h →
    may_edit (tmp_table table) h ≡ false → (apply table w ask).1.tree ≡ w.tree
unedited table w ask h here lacks =
    by_own_tree table w ask h here (λ u. u ≡ w.tree) refl
    (λ c guards. keeps_by (tmp_table table) w h lacks ask.action c (changes_granted table w.tree h ask.action c guards))

-- who edits nothing by what it holds edits nothing by what is left of it
module _ (table : CallTable) (sound : NoCallNeedsError table) (now : ProcessState) where
  pub yes_before : (h : ProcessState) → IsWithin now h → (sets : List ℕ) → AllByRecursion NamesNoError sets → is_yes (may_any h sets) ≡ true →
      is_yes (may_any now sets) ≡ true
  yes_before h within sets fine e = by (may_any h sets) refl e
    where
      by : (m : May) → may_any h sets ≡ m → is_yes m ≡ true → is_yes (may_any now sets) ≡ true
      by Yes is e = ap is_yes (may_yes now h within sets fine is)
      by Enosys is e = absurd (false≢true e)
      by Death is e = absurd (false≢true e)

  pub still_unable : (h : ProcessState) → IsWithin now h → may_edit table now ≡ false → may_edit table h ≡ false
  still_unable h within lacks =
      by (is_yes (may_any h table.rename.new.needs.alternatives)) (is_yes (may_any h table.link.new.needs.alternatives))
      (list_any (λ edit. is_yes (may_any h (rule_of table edit).alternatives)) edit_calls) refl refl refl
    where
      by : (a b c : Bool) → is_yes (may_any h table.rename.new.needs.alternatives) ≡ a →
          is_yes (may_any h table.link.new.needs.alternatives) ≡ b
          → list_any (λ edit. is_yes (may_any h (rule_of table edit).alternatives)) edit_calls ≡ c → may_edit table h ≡ false
      by true b c is in_link e =
          absurd (false≢true (sym lacks ∙ or_left _ _ (yes_before h within table.rename.new.needs.alternatives sound.rename.1 is)))
      by false true c is in_link e =
          absurd (false≢true (sym lacks ∙ or_right (is_yes (may_any now table.rename.new.needs.alternatives)) _
          (or_left _ _ (yes_before h within table.link.new.needs.alternatives sound.link.1 in_link))))
      by false false true is in_link e =
          let found = any_found (λ edit. is_yes (may_any h (rule_of table edit).alternatives)) edit_calls e in
          absurd (false≢true (sym lacks ∙
          or_right (is_yes (may_any now table.rename.new.needs.alternatives)) _
          (or_right (is_yes (may_any now table.link.new.needs.alternatives)) _
          (any_among (λ edit. is_yes (may_any now (rule_of table edit).alternatives)) edit_calls found.0 found.1
          (yes_before h within (rule_of table found.0).alternatives (sound.calls found.0) found.2)))))
      by false false false is in_link e = λ i. is i || (in_link i || e i)

module _ (table : CallTable) (sound : NoCallNeedsError table) (now : ProcessState) where
  pub unedited_along : may_edit (tmp_table table) now ≡ false → (asks : List Asked) (w : World) (members : List ℕ) → Members w members now false
      → NoExecLoosens table now w asks members → MembersEdit table w asks members → (world_after table w asks).tree ≡ w.tree
  unedited_along lacks [] w members are none edit = refl
  unedited_along lacks (ask ∷ asks) w members are none edit =
      unedited_along lacks asks (apply table w ask).1 (family_then table w ask members)
      (members_still table now w ask members are none.0) none.1 edit.1
      ∙ step edit.0
    where
      step : (is_member members ask.process ≡ true) ⊎ ((apply table w ask).1.tree ≡ w.tree) → (apply table w ask).1.tree ≡ w.tree
      step (inl belongs) =
          let asker = are ask.process belongs in
          unedited table w ask asker.0 asker.1
          (still_unable (tmp_table table) (tmp_table_needs_no_error table sound) now asker.0 asker.2.within lacks)
      step (inr same) = same
