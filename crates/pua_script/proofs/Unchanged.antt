-- Who holds none of some promises may make no call whose alternatives each name one of them.
use Rattle.pua_script.proofs.Common.{◌≡◌, ℕ, List, [], ◌∷◌, Bool, true, false, cond, refl, sym, ap, ◌∙◌, ◌||◌, list_any, AllByRecursion}
use Rattle.pua_script.proofs.Common.{IsTrue, is_some, nat_le, false≢true, Tree, EAGAIN, holds, ProcessState, held_set, has_error, is_ended}
use Rattle.pua_script.proofs.Common.{may_any, CallTable, rule_of, Call, Yes, most_processes, tree_left, Change, AddNode, CutRow, ShiftRow}
use Rattle.pua_script.proofs.Common.{TieRow, CopyAs, TakeFile, World, Fails, Copies, kept_at, change_effect, Action, Errno, OpenFile, Result, Ok, Err}
use Rattle.pua_script.proofs.Common.{is_pledged, sent_by, take_effect}
use Rattle.std.specs.Prelude.{length}
use Rattle.std.proofs.lemmas.Bool.{or_right}
use Rattle.pua_script.proofs.Common.{◌++◌, ◌&&◌, and_parts, subst}
use Rattle.pua_calls.specs.Calls.{Rule, about_rules}
use Rattle.pua_calls.specs.Promises.{tmppath}
use Rattle.pua_calls.specs.TmpTable.{is_tmp_call, tmp_table, tmppath_suffices}
use Rattle.pua_calls.proofs.ForCallers.{tmp_rule_is}
use Rattle.pua_calls.specs.declared.call.Call.TheVariants as call
use Rattle.pua_policy.specs.declared.answer.May.TheVariants.{Enosys, Death}
use Rattle.pua_policy.proofs.ForCallers.{holds_through}
use Rattle.pua_script.specs.Confinement.{NamesOne, changes_names, ChangingNeeds, PromisesChange}
use Rattle.pua_script.specs.Laws.{adds_node}
use Rattle.pua_script.proofs.Guarding.{grounds}
use Rattle.pua_script.proofs.Grounds.{Grounds, makes, takes}
use Rattle.pua_script.proofs.Applied.{by_own_tree}

module _ (promises : List ℕ) (h : ProcessState) (lacks : list_any (holds (held_set h)) promises ≡ false) where
  -- what is held has a promise, so that is held
  through : (set : ℕ) → holds (held_set h) set ≡ true → (ps : List ℕ) → list_any (holds set) ps ≡ true →
      list_any (holds (held_set h)) ps ≡ true
  through set held [] e = e
  through set held (p ∷ ps) e = by (holds set p) refl (λ has. through set held ps has) e
    where
      by : (b : Bool) → holds set p ≡ b → (list_any (holds set) ps ≡ true → list_any (holds (held_set h)) ps ≡ true) →
          (b || list_any (holds set) ps) ≡ true → (holds (held_set h) p || list_any (holds (held_set h)) ps) ≡ true
      by true is rest e = ap (λ b. b || list_any (holds (held_set h)) ps) (holds_through (held_set h) set p held is)
      by false is rest e = or_right (holds (held_set h) p) (list_any (holds (held_set h)) ps) (rest e)

  none_held : (alternatives : List ℕ) → AllByRecursion (λ set. IsTrue (list_any (holds set) promises)) alternatives →
      list_any (holds (held_set h)) alternatives ≡ false
  none_held [] names = refl
  none_held (set ∷ sets) names = by (holds (held_set h) set) refl (none_held sets names.1)
    where
      by : (b : Bool) → holds (held_set h) set ≡ b → list_any (holds (held_set h)) sets ≡ false →
          (b || list_any (holds (held_set h)) sets) ≡ false
      by true is rest = absurd (false≢true (sym lacks ∙ through set is promises names.0))
      by false is rest = rest

  pub may_not : (alternatives : List ℕ) → AllByRecursion (λ set. IsTrue (list_any (holds set) promises)) alternatives →
      may_any h alternatives ≡ Yes → ⊥
  may_not alternatives names e =
      by (is_ended h) (has_error h) (ap (λ b. cond (is_ended h) Death (cond b Yes (cond (has_error h) Enosys Death)))
      (sym (none_held alternatives names)) ∙ e)
    where
      by : (a c : Bool) → cond a Death (cond c Enosys Death) ≡ Yes → ⊥
      by true c e = cc
      by false true e = cc
      by false false e = cc

-- a call with one more set needs one of the promises too, where tmppath is one
module _ (promises : List ℕ) (table : CallTable) (needs : ChangingNeeds promises table) where
  abbrev AllName : List ℕ → Type 0
  AllName sets = AllByRecursion (λ set. IsTrue (list_any (holds set) promises)) sets

  name_more : (sets : List ℕ) → AllName sets → list_any (holds tmppath) promises ≡ true → AllName (sets ++ tmppath ∷ [])
  name_more [] names named = (named, tt)
  name_more (set ∷ sets) names named = (names.0, name_more sets names.1 named)

  pub changing_needs_too : (c : Call) → changes_names c ≡ true → NamesOne promises (rule_of (tmp_table table) c)
  changing_needs_too c changes = subst (NamesOne promises) (sym (tmp_rule_is table c))
      (by (is_tmp_call c && (about_rules table.whose).has_openings) refl (tmppath_suffices (rule_of table c).alternatives))
    where
      sets : List ℕ
      sets = (rule_of table c).alternatives

      by : (more : Bool) → (is_tmp_call c && (about_rules table.whose).has_openings) ≡ more → (enough : Bool) →
          AllName (cond more (cond enough sets (sets ++ tmppath ∷ [])) sets)
      by false is enough = needs.calls c changes
      by true is true = needs.calls c changes
      by true is false =
          name_more sets (needs.calls c changes) (needs.opened (and_parts (is_tmp_call c) (about_rules table.whose).has_openings is).1)

-- a change of the tree
abbrev is_edit : Change → Bool
is_edit (AddNode spot node) = true
is_edit (CutRow spot) = true
is_edit (ShiftRow old new) = true
is_edit (TieRow spot x) = true
is_edit _ = false

-- any other leaves it
keeps : (w : World) (h : ProcessState) (c : Change) → is_edit c ≡ false → tree_left w.tree (change_effect w h c) ≡ w.tree
keeps w h (AddNode spot node) none = absurd (false≢true (sym none))
keeps w h (CutRow spot) none = absurd (false≢true (sym none))
keeps w h (ShiftRow old new) none = absurd (false≢true (sym none))
keeps w h (TieRow spot x) none = absurd (false≢true (sym none))
keeps w h (CopyAs new) none = by (is_some (kept_at w new) || nat_le most_processes (length w.processes))
  where
    by : (full : Bool) → tree_left w.tree (cond full (Fails EAGAIN) (Copies new)) ≡ w.tree
    by true = refl
    by false = refl
keeps w h (TakeFile number from theirs) none = by (sent_by (is_pledged h) (kept_at w from) theirs)
  where
    by : (r : Result OpenFile Errno) → tree_left w.tree (take_effect w h number r) ≡ w.tree
    by (Ok file) = refl
    by (Err errno) = refl
keeps w h _ none = refl

-- a call that makes a name or takes one away is one of those that change names
pub adding_changes : (c : Call) → adds_node c ≡ true → changes_names c ≡ true
adding_changes call.Symlink made = refl
adding_changes call.Rmdir made = refl
adding_changes call.Unlink made = refl
adding_changes _ made = made

making_changes : (c : Call) → makes c ≡ true → changes_names c ≡ true
making_changes call.Symlink made = refl
making_changes c made = adding_changes c made

taking_changes : (c : Call) → takes c ≡ true → changes_names c ≡ true
taking_changes call.Rmdir taken = refl
taking_changes call.Unlink taken = refl
taking_changes _ taken = cc

module _ (promises : List ℕ) (table : CallTable) (needs : ChangingNeeds promises table) (t : Tree) (h : ProcessState)
    (lacks : list_any (holds (held_set h)) promises ≡ false) where
  never : {A : Type 0} (rule : Rule) → NamesOne promises rule → may_any h rule.alternatives ≡ Yes → A
  never rule names may = absurd (may_not promises h lacks rule.alternatives names may)

  -- without them no edit is decided
  no_edit : (action : Action) (c : Change) → Grounds table t h action c → is_edit c ≡ false
  no_edit action (AddNode spot node) g =
      never (rule_of (tmp_table table) g.call) (changing_needs_too promises table needs g.call (making_changes g.call g.made)) g.on.promised
  no_edit action (CutRow spot) g =
      never (rule_of (tmp_table table) g.call) (changing_needs_too promises table needs g.call (taking_changes g.call g.taken)) g.on.promised
  no_edit action (ShiftRow from to) g = never table.rename.new.needs needs.rename g.two.promised_new
  no_edit action (TieRow spot x) g = never table.link.new.needs needs.link g.two.promised_new
  no_edit action _ g = refl

pub promises_change : PromisesChange
promises_change table promises needs w ask h here lacks =
    by_own_tree table w ask h here (λ t. t ≡ w.tree) refl
    (λ c guards. keeps w h c (no_edit promises table needs w.tree h lacks ask.action c (grounds table w.tree h ask.action c guards)))
