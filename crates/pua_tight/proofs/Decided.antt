-- What is granted to one that asks is granted to one that is refused less, and is the same change.
use Rattle.std.proofs.Common.{◌≡◌, ℕ, List, [], ◌∷◌, refl, sym, ap, ◌∙◌, Bool, true, false, cond, ◌||◌, ◌&&◌, subst, length}
use Rattle.std.specs.Prelude.{Option, Some, None, Result, Ok, Err, ok_or, option_map, nat_le, IsTrue}
use Rattle.pua_tree.specs.Tree.{Tree}
use Rattle.pua_path.specs.Paths.{path_fault}
use Rattle.pua_calls.specs.declared.rules.Rules.{Rules}
use Rattle.pua_path.specs.Fits.{node_named}
use Rattle.pua_path.specs.declared.errno.Errno.{Errno}
use Rattle.pua_path.specs.declared.errno.Errno.TheVariants.{EBADF, EPERM}
use Rattle.pua_path.specs.declared.found.Found.{Found}
use Rattle.pua_path.specs.declared.found.Last.{Last}
use Rattle.pua_path.specs.declared.found.Last.TheVariants.{Followed}
use Rattle.pua_path.specs.declared.text.Ending.{Ending}
use Rattle.pua_path.specs.declared.text.Ending.TheVariants as ending
use Rattle.pua_calls.specs.Calls.{CallTable, PairRule, rule_of, last_of, ending_of}
use Rattle.pua_calls.specs.Promises.{holds, proc, recvfd, unveil, error, id}
use Rattle.pua_calls.specs.declared.call.Call.{Call}
use Rattle.pua_calls.specs.declared.call.Call.TheVariants as call
use Rattle.pua_calls.specs.declared.rules.Rules.{Rules}
use Rattle.pua_calls.specs.declared.rules.Rules.TheVariants.{Standard, Openbsd}
use Rattle.pua_policy.specs.States.{ProcessState, Unveiled, Pledged, file_at, start, may_any, place_fault, error_frees_exec, has_error, veil_at}
use Rattle.pua_policy.specs.States.{is_within, unveil_fault, most_places, held_set}
use Rattle.pua_policy.specs.Misfits.{misfit}
use Rattle.pua_policy.specs.Verdict.{or_fault, object_of, place_of, refusal_of}
use Rattle.pua_policy.specs.declared.open_file.OpenFile.{OpenFile}
use Rattle.pua_policy.specs.declared.place.Place.{Place}
use Rattle.pua_policy.specs.declared.answer.May.{May}
use Rattle.pua_policy.specs.declared.answer.May.TheVariants as may
use Rattle.pua_policy.specs.declared.answer.Refusal.{Refusal}
use Rattle.pua_policy.specs.declared.answer.UnveilFault.TheVariants.{NotPermitted, TooManyPlaces}
use Rattle.pua_script.specs.Decide.{Change, AddEvent, Decision, Requester, Side, Sole, Old, New, refusals, asker_of, decide, decide_by, call_by}
use Rattle.pua_script.specs.Decide.{object_by, symlink_by, pair_by, objects_by, covers_by, rename_by, asks_directory, link_by, veil_by, veiling_by}
use Rattle.pua_script.specs.Decide.{pledge_by, pledging_by, unless_refused, unless_failed, on_named, change_by, adding, holding, link_node, fault_if}
use Rattle.pua_script.specs.Decide.{is_unknown, given_set, unveil_errno, path_named, asker_for, asker_past, past_promises, cover_past, rooting}
use Rattle.pua_script.specs.Openings.{Opening, opening_of}
use Rattle.pua_script.specs.declared.request.Given.{Given}
use Rattle.pua_script.specs.declared.request.Action.{Action}
use Rattle.pua_script.specs.declared.request.Action.TheVariants.{OnPath, Symlink, Rename, Link, Pledge, Unveil, Lock, Fork, Exit, Uses, Comment}
use Rattle.pua_script.specs.declared.request.Action.TheVariants.{Hold, Close, Fchdir, Take, Chroot}
use Rattle.pua_tight.specs.Narrower.{SetWithin, unset, within, StateWithin, GivenWithin, given_none, given_less, given_unknown}
use Rattle.pua_tight.specs.Narrower.{ActionWithin, as_given, less_pledged, less_unveiled}
use Rattle.pua_policy.proofs.ForCallers.{holds_through}
use Rattle.pua_tight.proofs.Sets.{or_more, and_more, two_bools, asked_within}
use Rattle.pua_tight.proofs.Openers.{opened_more}
use Rattle.pua_tight.proofs.Within.{held_within, kept_within, as_many, cover_within, fault_within, may_within}
use Rattle.pua_path.specs.declared.found.Start.{Start}

-- each check that the first passes the second passes, and paths name the same to both
pub record Easier (a b : Requester) : Type 0 where
  pub promises : (sets : List ℕ) → a.promises sets ≡ None → b.promises sets ≡ None
  pub path : (whose : Rules) (side : Side) (t : Tree) (end : Ending) (text : List ℕ) (last : Last) →
      a.path whose side t end text last ≡ b.path whose side t end text last
  pub cover : (side : Side) (t : Tree) (object : Found) (perms : ℕ) → a.cover side t object perms ≡ None → b.cover side t object perms ≡ None
  pub beyond : (whose : Rules) (p e : Option ℕ) → a.beyond whose p e ≡ None → b.beyond whose p e ≡ None
  pub locked : a.locked ≡ None → b.locked ≡ None
  pub place : (place : Place) (perms : ℕ) → a.place place perms ≡ None → b.place place perms ≡ None
  pub file : (number : ℕ) → a.file number ≡ b.file number

pub or_less : (a b m : Option Errno) → (a ≡ None → b ≡ None) → or_fault a m ≡ None → or_fault b m ≡ None
or_less None b m less e = ap (λ x. or_fault x m) (less refl) ∙ e
or_less (Some x) b m less e = cc

pub or_both : (a b c d : Option Errno) → (a ≡ None → b ≡ None) → (c ≡ None → d ≡ None) → or_fault a c ≡ None → or_fault b d ≡ None
or_both None b c d less other e = ap (λ x. or_fault x d) (less refl) ∙ other e
or_both (Some x) b c d less other e = cc

module _ (c : Change) where
  past_refused : (o p : Option Refusal) (f g : Decision) → (o ≡ None → p ≡ None) → (f ≡ Ok c → g ≡ Ok c) →
      unless_refused o f ≡ Ok c → unless_refused p g ≡ Ok c
  past_refused None p f g less further e = ap (λ x. unless_refused x g) (less refl) ∙ further e
  past_refused (Some r) p f g less further e = cc

  past_failed : (o p : Option Errno) (f g : Decision) → (o ≡ None → p ≡ None) → (f ≡ Ok c → g ≡ Ok c) →
      unless_failed refusals.failed o f ≡ Ok c → unless_failed refusals.failed p g ≡ Ok c
  past_failed None p f g less further e = ap (λ x. unless_failed refusals.failed x g) (less refl) ∙ further e
  past_failed (Some r) p f g less further e = cc

  past_named : {X : Type 0} (r s : Result X Errno) (f g : X → Decision) → r ≡ s → ((x : X) → f x ≡ Ok c → g x ≡ Ok c) →
      on_named refusals.failed r f ≡ Ok c → on_named refusals.failed s g ≡ Ok c
  past_named (Ok x) s f g same further e = ap (λ s. on_named refusals.failed s g) (sym same) ∙ further x e
  past_named (Err errno) s f g same further e = cc

module _ (table : CallTable) (t : Tree) (a b : Requester) (easier : Easier a b) (c : Change) where
  abbrev checked : Requester → Call → (Found → Decision) → Found → Decision
  checked asker call f object = unless_failed refusals.failed (or_fault (asker.cover Sole t object (rule_of table call).perms)
      (option_map (refusals.misfit Sole object) (misfit table.whose t call (object_of t object)))) (f object)

  object_more : (call : Call) (path : List ℕ) (f : Found → Decision) →
      object_by refusals table t a call path f ≡ Ok c → object_by refusals table t b call path f ≡ Ok c
  object_more call path f = past_named c (a.path table.whose Sole t (ending_of call) path (last_of call))
      (b.path table.whose Sole t (ending_of call) path (last_of call)) (checked a call f) (checked b call f)
      (easier.path table.whose Sole t (ending_of call) path (last_of call))
      (λ x. past_failed c (or_fault (a.cover Sole t x (rule_of table call).perms)
      (option_map (refusals.misfit Sole x) (misfit table.whose t call (object_of t x))))
      (or_fault (b.cover Sole t x (rule_of table call).perms) (option_map (refusals.misfit Sole x) (misfit table.whose t call (object_of t x))))
      (f x) (f x) (or_less _ _ (option_map (refusals.misfit Sole x) (misfit table.whose t call (object_of t x)))
      (easier.cover Sole t x (rule_of table call).perms)) (λ e. e))

  call_more : (call : Call) (path : List ℕ) → call_by refusals table t a call path ≡ Ok c → call_by refusals table t b call path ≡ Ok c
  call_more call path = past_refused c (a.promises (rule_of table call).alternatives) (b.promises (rule_of table call).alternatives)
      (object_by refusals table t a call path (λ object. Ok (change_by table call object)))
      (object_by refusals table t b call path (λ object. Ok (change_by table call object)))
      (easier.promises (rule_of table call).alternatives) (object_more call path (λ object. Ok (change_by table call object)))

  symlink_more : (target path : List ℕ) → symlink_by refusals table t a target path ≡ Ok c → symlink_by refusals table t b target path ≡ Ok c
  symlink_more target path = past_refused c (a.promises (rule_of table call.Symlink).alternatives)
      (b.promises (rule_of table call.Symlink).alternatives)
      (unless_failed refusals.failed (path_fault target) (object_by refusals table t a call.Symlink path (λ object. Ok (adding (link_node target) object))))
      (unless_failed refusals.failed (path_fault target) (object_by refusals table t b call.Symlink path (λ object. Ok (adding (link_node target) object))))
      (easier.promises (rule_of table call.Symlink).alternatives)
      (past_failed c (path_fault target) (path_fault target)
      (object_by refusals table t a call.Symlink path (λ object. Ok (adding (link_node target) object)))
      (object_by refusals table t b call.Symlink path (λ object. Ok (adding (link_node target) object)))
      (λ e. e) (object_more call.Symlink path (λ object. Ok (adding (link_node target) object))))

  pair_more : (pair : PairRule) (end : Ending) (old new : List ℕ) (f : Found → Found → Decision) →
      pair_by refusals table.whose pair t a end old new f ≡ Ok c → pair_by refusals table.whose pair t b end old new f ≡ Ok c
  pair_more pair end old new f =
      past_refused c (a.promises pair.old.needs.alternatives) (b.promises pair.old.needs.alternatives)
      (unless_refused (a.promises pair.new.needs.alternatives) (objects_by refusals table.whose pair t a end old new f))
      (unless_refused (b.promises pair.new.needs.alternatives) (objects_by refusals table.whose pair t b end old new f))
      (easier.promises pair.old.needs.alternatives)
      (past_refused c (a.promises pair.new.needs.alternatives) (b.promises pair.new.needs.alternatives)
      (objects_by refusals table.whose pair t a end old new f) (objects_by refusals table.whose pair t b end old new f)
      (easier.promises pair.new.needs.alternatives)
      (past_named c (a.path table.whose Old t end old pair.old.last) (b.path table.whose Old t end old pair.old.last) (second a) (second b)
      (easier.path table.whose Old t end old pair.old.last)
      (λ x. past_named c (a.path table.whose New t end new pair.new.last) (b.path table.whose New t end new pair.new.last) (third a x) (third b x)
      (easier.path table.whose New t end new pair.new.last)
      (λ y. past_failed c (covers_by pair t a x y) (covers_by pair t b x y) (f x y) (f x y)
      (or_both (a.cover Old t x pair.old.needs.perms) (b.cover Old t x pair.old.needs.perms)
      (a.cover New t y pair.new.needs.perms) (b.cover New t y pair.new.needs.perms)
      (easier.cover Old t x pair.old.needs.perms) (easier.cover New t y pair.new.needs.perms)) (λ e. e)))))
    where
      third : Requester → Found → Found → Decision
      third asker x y = unless_failed refusals.failed (covers_by pair t asker x y) (f x y)

      second : Requester → Found → Decision
      second asker x = on_named refusals.failed (asker.path table.whose New t end new pair.new.last) (third asker x)

  veil_more : (path : List ℕ) (perms : Option ℕ) → veil_by refusals table.whose t a path perms ≡ Ok c → veil_by refusals table.whose t b path perms ≡ Ok c
  veil_more path None e = e
  veil_more path (Some perms) e = past_named c (a.path table.whose Sole t ending.Dot path Followed) (b.path table.whose Sole t ending.Dot path Followed)
      (λ object. veiling_by refusals a (place_of object) perms) (λ object. veiling_by refusals b (place_of object) perms)
      (easier.path table.whose Sole t ending.Dot path Followed)
      (λ x. past_failed c (a.place (place_of x) perms) (b.place (place_of x) perms) (Ok (AddEvent (Unveiled (place_of x) perms)))
      (Ok (AddEvent (Unveiled (place_of x) perms))) (easier.place (place_of x) perms) (λ e. e)) e

  pub granted_more : (action : Action) → decide_by refusals table t a action ≡ Ok c → decide_by refusals table t b action ≡ Ok c
  granted_more (OnPath call path) = call_more call path
  granted_more (Symlink target path) = symlink_more target path
  granted_more (Rename old new) = pair_more table.rename ending.Dropped old new (λ x y. rename_by refusals t (asks_directory table.whose old new) x y (node_named x))
  granted_more (Link old new) = pair_more table.link ending.Dot old new (λ x y. link_by refusals t x y (node_named x))
  granted_more (Pledge p e) = past_failed c (fault_if (is_unknown p || is_unknown e) (refusals.unknown_promise (cond (is_unknown p) false true)))
      (fault_if (is_unknown p || is_unknown e) (refusals.unknown_promise (cond (is_unknown p) false true)))
      (pledging_by refusals a table.whose (given_set p) (given_set e)) (pledging_by refusals b table.whose (given_set p) (given_set e)) (λ e. e)
      (past_failed c (a.beyond table.whose (given_set p) (given_set e)) (b.beyond table.whose (given_set p) (given_set e))
      (Ok (AddEvent (Pledged (given_set p) (given_set e)))) (Ok (AddEvent (Pledged (given_set p) (given_set e))))
      (easier.beyond table.whose (given_set p) (given_set e)) (λ e. e))
  granted_more (Unveil path perms) = past_refused c (a.promises (unveil ∷ [])) (b.promises (unveil ∷ []))
      (unless_failed refusals.failed a.locked (veil_by refusals table.whose t a path perms))
      (unless_failed refusals.failed b.locked (veil_by refusals table.whose t b path perms)) (easier.promises (unveil ∷ []))
      (past_failed c a.locked b.locked (veil_by refusals table.whose t a path perms) (veil_by refusals table.whose t b path perms) easier.locked (veil_more path perms))
  granted_more Lock = past_refused c (a.promises (unveil ∷ [])) (b.promises (unveil ∷ [])) _ _ (easier.promises (unveil ∷ [])) (λ e. e)
  granted_more (Fork new) = past_refused c (a.promises (proc ∷ [])) (b.promises (proc ∷ [])) _ _ (easier.promises (proc ∷ [])) (λ e. e)
  granted_more Exit = λ e. e
  granted_more (Uses sets) = past_refused c (a.promises sets) (b.promises sets) _ _ (easier.promises sets) (λ e. e)
  granted_more (Hold number call path) = past_refused c (a.promises (rule_of table call).alternatives) (b.promises (rule_of table call).alternatives)
      (object_by refusals table t a call path (λ object. Ok (holding t number call object)))
      (object_by refusals table t b call path (λ object. Ok (holding t number call object)))
      (easier.promises (rule_of table call).alternatives) (object_more call path (λ object. Ok (holding t number call object)))
  granted_more (Close number) = past_named c (a.file number) (b.file number) _ _ (easier.file number) (λ file e. e)
  granted_more (Fchdir number) = past_named c (a.file number) (b.file number) _ _ (easier.file number) (λ file e. e)
  granted_more (Chroot path) = past_refused c (a.promises (id ∷ [])) (b.promises (id ∷ []))
      (object_by refusals table t a call.Chdir path (λ object. Ok (rooting object)))
      (object_by refusals table t b call.Chdir path (λ object. Ok (rooting object)))
      (easier.promises (id ∷ [])) (object_more call.Chdir path (λ object. Ok (rooting object)))
  granted_more (Take number from theirs) =
      past_refused c (a.promises (recvfd ∷ [])) (b.promises (recvfd ∷ [])) _ _ (easier.promises (recvfd ∷ [])) (λ e. e)
  granted_more Comment = λ e. e

-- one that passes every check, whose paths start so, with open files
abbrev pub free : Start → List (ℕ × OpenFile) → Requester
free dir files = record {
  promises = λ sets. None;
  path = λ whose side t end text last. path_named whose t dir end text last;
  cover = λ side t object perms. None;
  beyond = λ whose p e. None;
  locked = None;
  place = λ place perms. None;
  file = λ number. ok_or (file_at files number) EBADF;
}

-- whatever one checks whose paths name what they name there
freer : (a : Requester) (dir : Start) (files : List (ℕ × OpenFile)) →
    ((whose : Rules) (side : Side) (t : Tree) (end : Ending) (text : List ℕ) (last : Last) →
    a.path whose side t end text last ≡ path_named whose t dir end text last) →
    ((number : ℕ) → a.file number ≡ ok_or (file_at files number) EBADF) → Easier a (free dir files)
freer a dir files paths opens = record {
  promises = λ sets e. refl;
  path = paths;
  cover = λ side t object perms e. refl;
  beyond = λ whose p e is. refl;
  locked = λ e. refl;
  place = λ place perms e. refl;
  file = opens;
}

freer_past : (h : ProcessState) (o : Option Opening) → Easier (asker_past o (asker_of h)) (free (start h) h.files)
freer_past h None = freer (asker_of h) (start h) h.files (λ whose side t end text last. refl) (λ number. refl)
freer_past h (Some o) =
    freer (past_promises o.asks_veils (asker_of h)) (start h) h.files (λ whose side t end text last. refl) (λ number. refl)

freer_for : (table : CallTable) (h : ProcessState) (action : Action) → Easier (asker_for table h action (asker_of h)) (free (start h) h.files)
freer_for table h (OnPath call path) = freer_past h (opening_of table h call path)
freer_for table h (Hold number call path) = freer_past h (opening_of table h call path)
freer_for table h _ = freer_past h None

-- what is granted is what it would be without checks
pub freely : (table : CallTable) (t : Tree) (h : ProcessState) (action : Action) (c : Change) → decide table t h action ≡ Ok c →
    decide_by refusals table t (free (start h) h.files) action ≡ Ok c
freely table t h action c =
    granted_more table t (asker_for table h action (asker_of h)) (free (start h) h.files) (freer_for table h action) c action

may_from : (m : May) → refusal_of m ≡ None → m ≡ may.Yes
may_from may.Yes e = refl
may_from may.Enosys e = cc
may_from may.Death e = cc

none_if : (x : Bool) → cond {A = Option Errno} x None (Some EPERM) ≡ None → x ≡ true
none_if true e = refl
none_if false e = cc

placed : {p q : Option ℕ} → SetWithin p q → (n m perms : ℕ) → n ≡ m → unveil_errno (place_fault p n perms) ≡ None →
    unveil_errno (place_fault q m perms) ≡ None
placed unset n m perms same e = ap (λ n. unveil_errno (cond (nat_le most_places n) (Some TooManyPlaces) None)) (sym same) ∙ e
placed (within {a = a} {b = b} less) n m perms same e =
    ap (λ x. unveil_errno (cond x None (Some NotPermitted))) (holds_through b a perms less (held (holds a perms) e))
  where
    held : (x : Bool) → unveil_errno (cond x None (Some NotPermitted)) ≡ None → x ≡ true
    held true e = refl
    held false e = cc

-- past openings, of which the second one has each that the first one has
module _ (a b : Requester) (less : Easier a b) where
  past_cover : (veils : Bool) (side : Side) (t : Tree) (object : Found) (perms : ℕ) → a.cover side t object perms ≡ None →
      cover_past veils b.cover side t object perms ≡ None
  past_cover true = less.cover
  past_cover false = λ side t object perms e. refl

  both_past : (veils : Bool) (side : Side) (t : Tree) (object : Found) (perms : ℕ) → cover_past veils a.cover side t object perms ≡ None →
      cover_past veils b.cover side t object perms ≡ None
  both_past true = less.cover
  both_past false = λ side t object perms e. refl

  easier_past : (p q : Option Opening) → ((o : Opening) → p ≡ Some o → q ≡ Some o) → Easier (asker_past p a) (asker_past q b)
  easier_past None None more = less
  easier_past None (Some o) more = record {
    promises = λ sets e. refl;
    path = less.path;
    cover = past_cover o.asks_veils;
    beyond = less.beyond;
    locked = less.locked;
    place = less.place;
    file = less.file;
  }
  easier_past (Some o) q more = subst (λ q. Easier (past_promises o.asks_veils a) (asker_past q b)) (sym (more o refl)) (record {
    promises = λ sets e. refl;
    path = less.path;
    cover = both_past o.asks_veils;
    beyond = less.beyond;
    locked = less.locked;
    place = less.place;
    file = less.file;
  })

module _ (h k : ProcessState) (w : StateWithin h k) where
  abbrev pub may_give : Rules → ProcessState → Option ℕ → Option ℕ → Bool
  may_give whose g p e =
      (has_error g || is_within p g.promises) && (error_frees_exec whose (has_error g) || is_within e g.execpromises)

  error_more : has_error h ≡ true → has_error k ≡ true
  error_more = holds_through (held_set k) (held_set h) error (held_within w)

  frees_more : (whose : Rules) → error_frees_exec whose (has_error h) ≡ true → error_frees_exec whose (has_error k) ≡ true
  frees_more Standard = error_more
  frees_more Openbsd = λ e. e

  pub gives_more : (whose : Rules) (p e : Option ℕ) → may_give whose h p e ≡ true → may_give whose k p e ≡ true
  gives_more whose p e = and_more _ _ _ _ (or_more (has_error h) _ (has_error k) _ error_more (asked_within p w.promises))
      (or_more (error_frees_exec whose (has_error h)) _ (error_frees_exec whose (has_error k)) _ (frees_more whose)
      (asked_within e w.execpromises))

  place_less : (place : Place) (perms : ℕ) → unveil_errno (unveil_fault h place perms) ≡ None → unveil_errno (unveil_fault k place perms) ≡ None
  place_less place perms = two_bools
      (λ x y. unveil_errno (cond x (Some NotPermitted) (place_fault (veil_at h.veils place) (length h.veils) perms)) ≡ None →
      unveil_errno (cond y (Some NotPermitted) (place_fault (veil_at k.veils place) (length k.veils) perms)) ≡ None) (λ e. e)
      (placed (kept_within w.veils place) (length h.veils) (length k.veils) perms (as_many w.veils)) h.locked k.locked w.locked

  pub easier : Easier (asker_of h) (asker_of k)
  easier = record {
    promises = λ sets e. ap refusal_of (may_within h k w sets (may_from (may_any h sets) e));
    path = λ whose side t end text last. ap (λ d. path_named whose t d end text last) w.start;
    cover = λ side t object perms. fault_within (cover_within w.veils t object) perms;
    beyond = λ whose p e is. ap (λ x. cond x None (Some EPERM)) (gives_more whose p e (none_if (may_give whose h p e) is));
    locked = λ e. ap (λ x. fault_if x EPERM) (sym w.locked) ∙ e;
    place = place_less;
    file = λ number. ap (λ files. ok_or (file_at files number) EBADF) w.files;
  }

  -- also of what promises open: the second one has each opening of the first
  pub easier_for : (table : CallTable) (action : Action) →
      Easier (asker_for table h action (asker_of h)) (asker_for table k action (asker_of k))
  easier_for table (OnPath call path) = easier_past (asker_of h) (asker_of k) easier (opening_of table h call path) (opening_of table k call path)
      (opened_more h k w table call path)
  easier_for table (Hold number call path) =
      easier_past (asker_of h) (asker_of k) easier (opening_of table h call path) (opening_of table k call path) (opened_more h k w table call path)
  easier_for table _ = easier

-- one change, or events of which the first gives fewer words
pub data ChangeWithin : Change → Change → Type 0 where
  alike : {c : Change} → ChangeWithin c c
  pledges : {p q e f : Option ℕ} → SetWithin p q → SetWithin e f → ChangeWithin (AddEvent (Pledged p e)) (AddEvent (Pledged q f))
  unveils : {place : Place} {a b : ℕ} → IsTrue (holds b a) → ChangeWithin (AddEvent (Unveiled place a)) (AddEvent (Unveiled place b))

abbrev Granted : Change → Decision
Granted c = Ok c

is_ok : (c d : Change) → Granted c ≡ Granted d → c ≡ d
is_ok c d e = cc

by_ok : (x y c d : Change) → ChangeWithin x y → Granted x ≡ Granted c → Granted y ≡ Granted d → ChangeWithin c d
by_ok x y c d w e f = subst (λ z. ChangeWithin z d) (is_ok x c e) (subst (ChangeWithin x) (is_ok y d f) w)

module _ (table : CallTable) (t : Tree) (h k : ProcessState) (w : StateWithin h k) (c d : Change) where
  veil_within : (path : List ℕ) (a b : ℕ) → holds b a ≡ true → (r : Result Found Errno) →
      on_named refusals.failed r (λ object. Granted (AddEvent (Unveiled (place_of object) a))) ≡ Ok c →
      on_named refusals.failed r (λ object. Granted (AddEvent (Unveiled (place_of object) b))) ≡ Ok d → ChangeWithin c d
  veil_within path a b less (Ok object) e f =
      by_ok (AddEvent (Unveiled (place_of object) a)) (AddEvent (Unveiled (place_of object) b)) c d (unveils less) e f
  veil_within path a b less (Err errno) e f = cc

  pledge_within : {p q x y : Given} → GivenWithin p q → GivenWithin x y → pledge_by refusals (free (start h) h.files) table.whose p x ≡ Ok c →
      pledge_by refusals (free (start k) k.files) table.whose q y ≡ Ok d → ChangeWithin c d
  pledge_within given_none given_none e f = by_ok _ _ c d (pledges unset unset) e f
  pledge_within (given_less less) given_none e f = by_ok _ _ c d (pledges (within less) unset) e f
  pledge_within given_none (given_less less) e f = by_ok _ _ c d (pledges unset (within less)) e f
  pledge_within (given_less less) (given_less other) e f = by_ok _ _ c d (pledges (within less) (within other)) e f
  pledge_within given_unknown other e f = cc
  pledge_within given_none given_unknown e f = cc
  pledge_within (given_less less) given_unknown e f = cc

  pub change_within : {x y : Action} → ActionWithin x y → decide table t h x ≡ Ok c → decide table t k y ≡ Ok d → ChangeWithin c d
  change_within (as_given {action = action}) e f =
      let here : decide_by refusals table t (free (start h) h.files) action ≡ Ok c = freely table t h action c e in
      let there : decide_by refusals table t (free (start k) k.files) action ≡ Ok d = freely table t k action d f in
      subst (ChangeWithin c) (is_ok c d (sym here ∙ (λ i. decide_by refusals table t (free (w.start i) (w.files i)) action) ∙ there)) alike
  change_within (less_pledged {p = p} {q = q} {e = x} {f = y} first second) e f =
      pledge_within first second (freely table t h (Pledge p x) c e) (freely table t k (Pledge q y) d f)
  change_within (less_unveiled {path = path} {a = a} {b = b} less) e f =
      veil_within path a b less (path_named table.whose t (start k) ending.Dot path Followed)
      (ap (λ dir. on_named refusals.failed (path_named table.whose t dir ending.Dot path Followed)
      (λ object. Granted (AddEvent (Unveiled (place_of object) a)))) (sym w.start)
      ∙ freely table t h (Unveil path (Some a)) c e)
      (freely table t k (Unveil path (Some b)) d f)
