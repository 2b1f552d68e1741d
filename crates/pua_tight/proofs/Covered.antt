-- Objects of three processes: their texts name the same, and a cover of the middle one fails where one of the first or the last one does.
use Rattle.std.proofs.Common.{◌≡◌, ℕ, List, refl, sym, ap, Bool, true, false, cond}
use Rattle.std.specs.Prelude.{Option, Some, None, Ok, option_map}
use Rattle.pua_tree.specs.Tree.{Tree}
use Rattle.pua_calls.specs.declared.rules.Rules.{Rules}
use Rattle.pua_path.specs.declared.errno.Errno.{Errno}
use Rattle.pua_path.specs.declared.errno.Errno.TheVariants.{EACCES, ENOENT}
use Rattle.pua_path.specs.declared.found.Found.{Found}
use Rattle.pua_path.specs.declared.found.Last.{Last}
use Rattle.pua_path.specs.declared.text.Ending.{Ending}
use Rattle.pua_calls.specs.Calls.{CallTable, PairRule, rule_of, last_of, ending_of}
use Rattle.pua_calls.specs.Promises.{holds}
use Rattle.pua_calls.specs.declared.call.Call.{Call}
use Rattle.pua_policy.specs.States.{ProcessState}
use Rattle.pua_policy.specs.Misfits.{misfit}
use Rattle.pua_policy.specs.Verdict.{or_fault, object_of, cover, cover_fault}
use Rattle.pua_policy.specs.declared.answer.Cover.{Cover}
use Rattle.pua_policy.proofs.ForCallers.{holds_through}
use Rattle.pua_script.specs.Decide.{Sole, Change, Decision, refusals, asker_of, object_by, objects_by, on_named, path_named}
use Rattle.pua_tight.specs.Narrower.{StateWithin}
use Rattle.pua_tight.proofs.Within.{CoverWithin, all, nothing, only, cover_within, fault_within}
use Rattle.pua_tight.proofs.MiddleDecision.{Agree, Misses, some_is, none_some, back_by, check, misses_or, named_check, two_covers}

pub cover_back : {c d : Cover} → CoverWithin c d → (perms : ℕ) (s : Errno) → cover_fault d perms ≡ Some s → cover_fault c perms ≡ Some s
cover_back all perms s e = e
cover_back nothing perms s e = e
cover_back (only {a = a} {b = b} less) perms s e =
    back_by (λ x. cond x None (Some EACCES)) refl (holds a perms) (holds b perms) (holds_through b a perms less) s e

pub cover_lack : {c d : Cover} → CoverWithin c d → (perms : ℕ) (s : Errno) → cover_fault c perms ≡ Some s → cover_fault d perms ≡ None → s ≡ EACCES
cover_lack all perms s e f = none_some s (sym e)
cover_lack nothing perms s e f = none_some ENOENT f
cover_lack (only {a = a} {b = b} less) perms s e f = by (holds a perms) e
  where
    by : (x : Bool) → cond x None (Some EACCES) ≡ Some s → s ≡ EACCES
    by true e = none_some s (sym e)
    by false e = sym (some_is EACCES s e)

pub record Covered (t : Tree) (l m s : ProcessState) : Type 0 where
  pub first : l.start ≡ m.start
  pub later : StateWithin m s
  pub misses : (x : Found) (perms : ℕ) →
      Misses (cover_fault (cover t l x) perms) (cover_fault (cover t m x) perms) (cover_fault (cover t s x) perms)
  pub outer : (x : Found) (perms : ℕ) (u : Errno) → cover_fault (cover t l x) perms ≡ Some u → cover_fault (cover t s x) perms ≡ None → u ≡ EACCES

module _ (t : Tree) (l m s : ProcessState) (c : Covered t l m s) where
  pub at_path : (whose : Rules) (end : Ending) (text : List ℕ) (last : Last) (f g h : Found → Decision) → ((x : Found) → Agree (f x) (g x) (h x)) →
      Agree (on_named refusals.failed (path_named whose t l.start end text last) f)
      (on_named refusals.failed (path_named whose t m.start end text last) g)
      (on_named refusals.failed (path_named whose t s.start end text last) h)
  at_path whose end text last f g h = named_check (path_named whose t l.start end text last) (path_named whose t m.start end text last)
      (path_named whose t s.start end text last) (ap (λ d. path_named whose t d end text last) c.first)
      (ap (λ d. path_named whose t d end text last) c.later.start) f g h

  abbrev fault : ProcessState → Found → ℕ → Option Errno
  fault z x perms = cover_fault (cover t z x) perms

  pub passes : (x : Found) (perms : ℕ) → fault m x perms ≡ None → fault s x perms ≡ None
  passes x = fault_within (cover_within c.later.veils t x)

  module _ (table : CallTable) (call : Call) (path : List ℕ) (f : Found → Change) where
    -- what is checked behind a path, by what is wrong with the object's cover
    abbrev checked : (Found → Option Errno) → Found → Decision
    checked fails x = check (or_fault (fails x) (option_map (refusals.misfit Sole x) (misfit table.whose t call (object_of t x)))) (Ok (f x))

    abbrev named : ProcessState → (Found → Option Errno) → Decision
    named z fails = on_named refusals.failed (path_named table.whose t z.start (ending_of call) path (last_of call)) (checked fails)

    pub named_agrees : (i j k : Found → Option Errno) → ((x : Found) → Misses (i x) (j x) (k x)) → ((x : Found) → j x ≡ None → k x ≡ None) →
        Agree (named l i) (named m j) (named s k)
    named_agrees i j k misses fine = at_path table.whose (ending_of call) path (last_of call) (checked i) (checked j) (checked k)
        (λ x. misses_or (i x) (j x) (k x) (option_map (refusals.misfit Sole x) (misfit table.whose t call (object_of t x))) (misses x) (fine x) (Ok (f x)))

    pub object_agrees : Agree (object_by refusals table t (asker_of l) call path (λ x. Ok (f x)))
        (object_by refusals table t (asker_of m) call path (λ x. Ok (f x))) (object_by refusals table t (asker_of s) call path (λ x. Ok (f x)))
    object_agrees = named_agrees (λ x. fault l x perms) (λ x. fault m x perms) (λ x. fault s x perms) (λ x. c.misses x perms) (λ x. passes x perms)
      where
        perms : ℕ
        perms = (rule_of table call).perms

  pub pair_agrees : (whose : Rules) (pair : PairRule) (end : Ending) (old new : List ℕ) (f : Found → Found → Decision) →
      Agree (objects_by refusals whose pair t (asker_of l) end old new f) (objects_by refusals whose pair t (asker_of m) end old new f)
      (objects_by refusals whose pair t (asker_of s) end old new f)
  pair_agrees whose pair end old new f = at_path whose end old pair.old.last (second l) (second m) (second s)
      (λ x. at_path whose end new pair.new.last (third l x) (third m x) (third s x)
      (λ y. two_covers (fault l x one) (fault m x one) (fault s x one) (fault l y two) (fault m y two) (fault s y two)
      (c.misses x one) (passes x one) (c.misses y two) (passes y two) (c.outer x one)
      (cover_lack (cover_within c.later.veils t y) two) (cover_back (cover_within c.later.veils t y) two) (f x y)))
    where
      one : ℕ
      one = pair.old.needs.perms

      two : ℕ
      two = pair.new.needs.perms

      third : ProcessState → Found → Found → Decision
      third z x y = check (or_fault (fault z x one) (fault z y two)) (f x y)

      second : ProcessState → Found → Decision
      second z x = on_named refusals.failed (path_named whose t z.start end new pair.new.last) (third z x)
