-- What a process may do is no harder to one that it lies within.
use Rattle.std.proofs.Common.{◌≡◌, ℕ, refl, ap, subst, Bool, true}
use Rattle.std.specs.List.{list_any}
use Rattle.std.specs.Prelude.{Option, Some, None, is_none}
use Rattle.pua_tree.specs.Tree.{empty_tree}
use Rattle.pua_tree.specs.declared.node.Kind.{Kind}
use Rattle.pua_path.specs.declared.errno.Errno.{Errno}
use Rattle.pua_calls.specs.Calls.{CallTable, rule_of}
use Rattle.pua_calls.specs.Promises.{creating, fattr, holds}
use Rattle.pua_calls.specs.declared.call.Call.{Call}
use Rattle.pua_calls.specs.declared.call.Call.TheVariants as call
use Rattle.pua_policy.specs.States.{ProcessState, held_set, may_any}
use Rattle.pua_policy.specs.Verdict.{Object, cover_fault, covered_verdict, is_allowed, object_fault, or_fault}
use Rattle.pua_policy.specs.declared.answer.Cover.{Cover}
use Rattle.pua_policy.specs.declared.answer.May.{May}
use Rattle.pua_policy.specs.declared.answer.May.TheVariants as may
use Rattle.pua_policy.proofs.ForCallers.{holds_through}
use Rattle.pua_script.specs.Confinement.{has_c}
use Rattle.pua_ever.specs.Ever.{New, NewDir, NewOthers, NewFile, NewLink, NewSock, NewFifo, can_link, can_move, file_makers, is_made_by, is_yes, may_link, may_rename}
use Rattle.pua_ever.specs.Ever.{is_turned_by, is_turned_held}
use Rattle.pua_ever.proofs.ForCallers.{yes_is}
use Rattle.pua_tight.specs.Narrower.{VeilsWithin, StateWithin}
use Rattle.pua_jointly.proofs.ForCallers.{open_more}
use Rattle.pua_tight.proofs.Sets.{and_more, any_more}
use Rattle.pua_tight.proofs.Within.{CoverWithin, all, nothing, only, fault_within, held_within, may_within}
use Rattle.pua_tight.proofs.Decided.{or_less}
use Rattle.pua_tight.proofs.Worlds.{parts, joined}

pub c_within : {c d : Cover} → CoverWithin c d → has_c c ≡ true → has_c d ≡ true
c_within all e = refl
c_within nothing e = e
c_within (only {a = a} {b = b} less) e = holds_through b a creating less e

none_is : (o : Option Errno) → is_none o ≡ true → o ≡ None
none_is None e = refl
none_is (Some errno) e = cc

pub uncovered_more : {c d : Cover} → CoverWithin c d → (perms : ℕ) → is_none (cover_fault c perms) ≡ true →
    is_none (cover_fault d perms) ≡ true
uncovered_more {c} less perms e = ap is_none (fault_within less perms (none_is (cover_fault c perms) e))

-- what a process holds open so that it can be written or its mode be set, another one holds so
pub turned_more : (h k : ProcessState) → (holds (held_set h) fattr ≡ true → holds (held_set k) fattr ≡ true) → h.files ≡ k.files →
    (node : ℕ) → is_turned_held h node ≡ true → is_turned_held k node ≡ true
turned_more h k sets same node e =
    subst (λ files. list_any (is_turned_by (holds (held_set k) fattr) node) files ≡ true) same
    (open_more (holds (held_set h) fattr) (holds (held_set k) fattr) sets h.files node e)

-- a process to which another one is no harder: its promises let through what those of the other do, its veils have the letters of
-- the other's, and it holds open what the other does
pub record Eases (table : CallTable) (h k : ProcessState) : Type 0 where
  pub calls : (call : Call) → may_any h (rule_of table call).alternatives ≡ may.Yes → may_any k (rule_of table call).alternatives ≡ may.Yes
  pub rename_old : may_any h table.rename.old.needs.alternatives ≡ may.Yes → may_any k table.rename.old.needs.alternatives ≡ may.Yes
  pub rename_new : may_any h table.rename.new.needs.alternatives ≡ may.Yes → may_any k table.rename.new.needs.alternatives ≡ may.Yes
  pub link_old : may_any h table.link.old.needs.alternatives ≡ may.Yes → may_any k table.link.old.needs.alternatives ≡ may.Yes
  pub link_new : may_any h table.link.new.needs.alternatives ≡ may.Yes → may_any k table.link.new.needs.alternatives ≡ may.Yes
  pub veiled : VeilsWithin h.veils k.veils
  pub turned : (node : ℕ) → is_turned_held h node ≡ true → is_turned_held k node ≡ true

pub eases : (table : CallTable) (h k : ProcessState) → StateWithin h k → Eases table h k
eases table h k w = record {
  calls = λ call. may_within h k w (rule_of table call).alternatives;
  rename_old = may_within h k w table.rename.old.needs.alternatives;
  rename_new = may_within h k w table.rename.new.needs.alternatives;
  link_old = may_within h k w table.link.old.needs.alternatives;
  link_new = may_within h k w table.link.new.needs.alternatives;
  veiled = w.veils;
  turned = turned_more h k (holds_through (held_set k) (held_set h) fattr (held_within w)) w.files;
}

pub yes_more : (m n : May) → (m ≡ may.Yes → n ≡ may.Yes) → is_yes m ≡ true → is_yes n ≡ true
yes_more m n more e = ap is_yes (more (yes_is m e))

-- a call that makes something passes another test too
pub made_by_more : (p q : Call → Bool) → ((c : Call) → p c ≡ true → q c ≡ true) → (new : New) → is_made_by p new ≡ true →
    is_made_by q new ≡ true
made_by_more p q more NewDir e = more call.Mkdir e
made_by_more p q more NewOthers e = more call.Mkdir e
made_by_more p q more NewFile e = any_more p q more file_makers e
made_by_more p q more NewLink e = more call.Symlink e
made_by_more p q more NewSock e = more call.Bind e
made_by_more p q more NewFifo e = more call.Mknod e

module _ (table : CallTable) (h k : ProcessState) (w : Eases table h k) where
  renames_more : may_rename table h ≡ true → may_rename table k ≡ true
  renames_more e = and_more _ _ _ _ (yes_more _ _ w.rename_old) (yes_more _ _ w.rename_new) e

  links_more : may_link table h ≡ true → may_link table k ≡ true
  links_more e = and_more _ _ _ _ (yes_more _ _ w.link_old) (yes_more _ _ w.link_new) e

  pub moves_more : {c d : Cover} → CoverWithin c d → can_move table h c ≡ true → can_move table k d ≡ true
  moves_more less e = and_more _ _ _ _ renames_more
      (and_more _ _ _ _ (c_within less) (uncovered_more less table.rename.old.needs.perms)) e

  pub linked_more : (kind : Option Kind) {c d : Cover} → CoverWithin c d → can_link table h kind c ≡ true → can_link table k kind d ≡ true
  linked_more kind less e = and_more _ _ _ _ links_more
      (and_more _ _ _ _ (uncovered_more less table.link.old.needs.perms) (λ here. here)) e

  -- what is allowed under a cover is allowed under one that has its letters
  pub allowed_more : {c d : Cover} → CoverWithin c d → (o : Object) (call : Call) →
      is_allowed (covered_verdict empty_tree table h call c o) ≡ true → is_allowed (covered_verdict empty_tree table k call d o) ≡ true
  allowed_more {c} {d} less o call e =
      let perms = (rule_of table call).perms in
      let sets = (rule_of table call).alternatives in
      let fault = object_fault table.whose empty_tree call o in
      let both = parts (may_any h sets) (or_fault (cover_fault c perms) fault) e in
      joined (may_any k sets) (or_fault (cover_fault d perms) fault) (w.calls call both.0)
      (or_less (cover_fault c perms) (cover_fault d perms) fault (fault_within less perms) both.1)
