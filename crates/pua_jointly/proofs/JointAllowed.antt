-- The calls that the table of a crew gives one process are those that can ever be allowed to it.
use Rattle.pua_jointly.proofs.Common.{◌≡◌, ◌≢◌, ◌<◌, ◌⊎◌, ◌∙◌, ◌||◌, ◌&&◌, ℕ, Bool, true, false, List, refl, sym, ap, subst, inl, inr, not}
use Rattle.pua_jointly.proofs.Common.{Option, Some, None, ProcessState, Cover, Only, Tree, CallTable, Call, Object, At, Others, Whole, Slot, Way}
use Rattle.pua_jointly.proofs.Common.{Stands, Comes, NewDir, NewOthers, NewFile, NewLink, NewSock, NewFifo, Kind, covered_verdict, is_allowed, empty_tree, false≢true, has}
use Rattle.pua_jointly.proofs.Common.{IsMissing, is_dir, kind_at, keeps_link, list_any, look, object_of_kind, perms_kept, or_left, or_right, and_from, and_parts}
use Rattle.pua_jointly.proofs.Common.{lasting_dir, removable_dir}
use Rattle.pua_tree.specs.Tree.{is_mount}
use Rattle.pua_calls.specs.declared.call.Call.TheVariants as call
use Rattle.pua_policy.specs.Verdict.{Is, IsLink, IsProg}
use Rattle.pua_policy.specs.declared.place.Place.TheVariants as place
use Rattle.pua_ever.specs.Ever.{Thing, is_exec_call, may_start, new_object}
use Rattle.pua_jointly.specs.JointCalls.{AreAllowedOf, AreCallsOf, AreFreeCalls, free_allows}
use Rattle.pua_jointly.specs.JointCovers.{allows_under, numbered}
use Rattle.pua_jointly.specs.Jointly.{Hand, Seat, Old, Made, Source, Row, Maker, Can, DirCover, NameCover, Free, StandsAt, IsJointlyAllowed, Shows, is_link_thing}
use Rattle.pua_jointly.specs.Jointly.{shows_dir, shows_emptied, shows_others, shows_row, shows_name, shows_new_dir, shows_new_others, shows_new_file}
use Rattle.pua_jointly.specs.Jointly.{shows_new_link, shows_new_sock, shows_new_fifo, CanTurn, IsJointlyStarted}
use Rattle.pua_jointly.specs.Closing.{has_bit}
use Rattle.pua_jointly.specs.JointPlace.{cover_bit}
use Rattle.pua_ever.proofs.ForCallers.{exec_or_other}
use Rattle.pua_jointly.proofs.JointShown.{under_has, under_means}
use Rattle.pua_jointly.proofs.JointWords.{either_true}

module _ (t : Tree) (table : CallTable) (crew : List ProcessState) (a : ProcessState) where
  -- something comes under a cover somewhere
  pub record Comes_as (r : Source) (k : Cover) : Type 0 where
    pub dir : Seat
    pub name : List ℕ
    pub stands : Can t table crew (StandsAt r dir name)
    pub over : Can t table crew (NameCover a dir name k)

  abbrev pub IsEmptied : ℕ → Type 0
  IsEmptied d = (name : List ℕ) (x : ℕ) → look t d name ≡ Some x → Can t table crew (Free (Old d) name)

  -- how a thing shows itself
  abbrev pub ShownAs : Thing → Cover → Object → Type 0
  ShownAs (Stands (At (Whole d way))) k o =
      Can t table crew (DirCover a (Old d) k) × ((o ≡ lasting_dir) ⊎ ((o ≡ removable_dir) × (d ≢ 0) × (is_mount t d ≡ false) × IsEmptied d))
  ShownAs (Stands (At (Slot dir name (Some x)))) k o =
      (look t dir name ≡ Some x) × Comes_as (Row (dir, name)) k × (o ≡ object_of_kind (kind_at t x))
  ShownAs (Stands (At (Slot dir name None))) k o =
      (perms : ℕ) × (is_dir t dir ≡ true) × (perms_kept a (place.Slot dir name) ≡ Some perms) × Can t table crew (Free (Old dir) name)
      × (k ≡ Only perms) × (o ≡ IsMissing)
  ShownAs (Stands (Others d)) k o = Can t table crew (DirCover a (Old d) k) × (o ≡ IsMissing)
  ShownAs (Comes NewDir) k o = (m : Hand) × Can t table crew (DirCover a (Made m) k) × (o ≡ removable_dir)
  ShownAs (Comes NewOthers) k o = (m : Hand) × Can t table crew (DirCover a (Made m) k) × (o ≡ IsMissing)
  ShownAs (Comes NewFile) k o = (m : Hand) × Comes_as (Maker NewFile m) k × (o ≡ new_object table NewFile)
  ShownAs (Comes NewLink) k o = (m : Hand) × Comes_as (Maker NewLink m) k × (o ≡ IsLink)
  ShownAs (Comes NewSock) k o = (m : Hand) × Comes_as (Maker NewSock m) k × (o ≡ new_object table NewSock)
  ShownAs (Comes NewFifo) k o = (m : Hand) × Comes_as (Maker NewFifo m) k × (o ≡ new_object table NewFifo)

  pub shown : {thing : Thing} {k : Cover} {o : Object} → Shows t table crew a thing k o → ShownAs thing k o
  shown (shows_dir can) = (can, inl refl)
  shown (shows_emptied other none can free) = (can, inr (refl, other, none, free))
  shown (shows_others can) = (can, refl)
  shown (shows_row d other at stands over) = (at, record { dir = d; name = other; stands = stands; over = over }, refl)
  shown (shows_name {perms = perms} is own free) = (perms, is, own, free, refl, refl)
  shown (shows_new_dir m can) = (m, can, refl)
  shown (shows_new_others m can) = (m, can, refl)
  shown (shows_new_file m d name stands over) = (m, record { dir = d; name = name; stands = stands; over = over }, refl)
  shown (shows_new_link m d name stands over) = (m, record { dir = d; name = name; stands = stands; over = over }, refl)
  shown (shows_new_sock m d name stands over) = (m, record { dir = d; name = name; stands = stands; over = over }, refl)
  shown (shows_new_fifo m d name stands over) = (m, record { dir = d; name = name; stands = stands; over = over }, refl)

  -- calls on a thing that shows itself as an object, under some covers
  pub record TellsUnder (thing : Thing) (object : Object) (calls : ℕ) : Type 0 where
    pub all : (call : Call) (k : Cover) → Shows t table crew a thing k object →
        is_allowed (covered_verdict empty_tree table a call k object) ≡ true → has calls call ≡ true
    pub only : (call : Call) → has calls call ≡ true → (k : Cover) × Shows t table crew a thing k object
        × (is_allowed (covered_verdict empty_tree table a call k object) ≡ true)

  -- where it shows itself as one alone, and is no link
  pub one_object : (thing : Thing) (object : Object) (calls : ℕ) → is_link_thing t thing ≡ false →
      ((k : Cover) (o : Object) → Shows t table crew a thing k o → o ≡ object) → TellsUnder thing object calls →
      AreAllowedOf t table crew a thing calls
  one_object thing object calls plain alone tells = record {
    all = λ call is.
        let same = alone is.cover is.object is.shows in
        tells.all call is.cover (subst (Shows t table crew a thing is.cover) same is.shows)
        (ap (λ o. is_allowed (covered_verdict empty_tree table a call is.cover o)) (sym same) ∙ is.allowed);
    only = λ call e.
        let one = tells.only call e in
        record {
          cover = one.0;
          object = object;
          shows = one.1;
          named = or_right (keeps_link call) (not (is_link_thing t thing)) (ap not plain);
          allowed = one.2;
        };
  }

  -- a link's are those that keep it
  pub one_link : (thing : Thing) (object : Object) (calls kept : ℕ) → is_link_thing t thing ≡ true →
      ((k : Cover) (o : Object) → Shows t table crew a thing k o → o ≡ object) → TellsUnder thing object calls →
      ((call : Call) → has kept call ≡ (has calls call && keeps_link call)) → AreAllowedOf t table crew a thing kept
  one_link thing object calls kept link alone tells keeping = record {
    all = λ call is.
        let same = alone is.cover is.object is.shows in
        keeping call ∙ and_from (has calls call) (keeps_link call)
        (tells.all call is.cover (subst (Shows t table crew a thing is.cover) same is.shows)
        (ap (λ o. is_allowed (covered_verdict empty_tree table a call is.cover o)) (sym same) ∙ is.allowed))
        (keeps (keeps_link call) (ap (λ b. keeps_link call || not b) (sym link) ∙ is.named));
    only = λ call e.
        let both = and_parts (has calls call) (keeps_link call) (sym (keeping call) ∙ e) in
        let one = tells.only call both.0 in
        record {
          cover = one.0;
          object = object;
          shows = one.1;
          named = or_left (keeps_link call) (not (is_link_thing t thing)) both.1;
          allowed = one.2;
        };
  }
    where
      keeps : (b : Bool) → (b || false) ≡ true → b ≡ true
      keeps true e = refl
      keeps false e = absurd (false≢true e)

  -- none where it never shows itself
  pub no_calls : (thing : Thing) (calls : ℕ) → ((k : Cover) (o : Object) → Shows t table crew a thing k o → ⊥) →
      ((call : Call) → has calls call ≡ false) → AreAllowedOf t table crew a thing calls
  no_calls thing calls never none = record {
    all = λ call is. absurd (never is.cover is.object is.shows);
    only = λ call e. absurd (false≢true (sym (none call) ∙ e));
  }

  -- where it shows itself as one of two, and is no link
  pub two_objects : (thing : Thing) (one two : Object) (first second calls : ℕ) → is_link_thing t thing ≡ false →
      ((k : Cover) (o : Object) → Shows t table crew a thing k o → (o ≡ one) ⊎ (o ≡ two)) → TellsUnder thing one first → TellsUnder thing two second →
      ((call : Call) → has calls call ≡ (has first call || has second call)) → AreAllowedOf t table crew a thing calls
  two_objects thing one two first second calls plain either tells_one tells_two both = record {
    all = λ call is. both call ∙ elim (either is.cover is.object is.shows) [
      | inl same ↦
          or_left (has first call) (has second call) (tells_one.all call is.cover (subst (Shows t table crew a thing is.cover) same is.shows)
          (ap (λ o. is_allowed (covered_verdict empty_tree table a call is.cover o)) (sym same) ∙ is.allowed))
      | inr same ↦
          or_right (has first call) (has second call) (tells_two.all call is.cover (subst (Shows t table crew a thing is.cover) same is.shows)
          (ap (λ o. is_allowed (covered_verdict empty_tree table a call is.cover o)) (sym same) ∙ is.allowed))
    ];
    only = λ call e. elim (either_true (has first call) (has second call) (sym (both call) ∙ e)) [
      | inl e ↦ made call one (tells_one.only call e)
      | inr e ↦ made call two (tells_two.only call e)
    ];
  }
    where
      made : (call : Call) (object : Object) → (k : Cover) × Shows t table crew a thing k object
          × (is_allowed (covered_verdict empty_tree table a call k object) ≡ true) → IsJointlyAllowed t table crew a thing call
      made call object found = record {
        cover = found.0;
        object = object;
        shows = found.1;
        named = or_right (keeps_link call) (not (is_link_thing t thing)) (ap not plain);
        allowed = found.2;
      }

  -- calls under the covers of a word
  pub under_tells : (thing : Thing) (object : Object) (covers calls : ℕ) →
      ((call : Call) → has calls call ≡ list_any (allows_under table a covers object call) (numbered 18)) →
      ((k : Cover) → cover_bit k < 18 → has_bit covers (cover_bit k) → Shows t table crew a thing k object) →
      ((k : Cover) → Shows t table crew a thing k object → (cover_bit k < 18) × has_bit covers (cover_bit k)) → TellsUnder thing object calls
  under_tells thing object covers calls under means holds = record {
    all = λ call k shows allowed.
        let held = holds k shows in
        under call ∙ under_has table a covers object call (record { cover = k; small = held.0; has = held.1; allowed = allowed });
    only = λ call e.
        let one = under_means table a covers object call (sym (under call) ∙ e) in
        (one.cover, means one.cover one.small one.has, one.allowed);
  }

  -- of a directory, where it can't come to be empty and be removed, and where it can
  pub dir_lasts : (d : ℕ) (way : Way) (calls : ℕ) → (d ≢ 0 → is_mount t d ≡ false → IsEmptied d → ⊥) → TellsUnder (Stands (At (Whole d way))) lasting_dir calls →
      AreAllowedOf t table crew a (Stands (At (Whole d way))) calls
  dir_lasts d way calls never tells =
      one_object (Stands (At (Whole d way))) lasting_dir calls refl (λ k o shows. by o (shown shows).1) tells
    where
      by : (o : Object) → (o ≡ lasting_dir) ⊎ ((o ≡ removable_dir) × (d ≢ 0) × (is_mount t d ≡ false) × IsEmptied d) → o ≡ lasting_dir
      by o (inl e) = e
      by o (inr r) = absurd (never r.1 r.2 r.3)

  pub dir_emptied : (d : ℕ) (way : Way) (first second calls : ℕ) → TellsUnder (Stands (At (Whole d way))) lasting_dir first →
      TellsUnder (Stands (At (Whole d way))) removable_dir second → ((call : Call) → has calls call ≡ (has first call || has second call)) →
      AreAllowedOf t table crew a (Stands (At (Whole d way))) calls
  dir_emptied d way first second calls tells_one tells_two both =
      two_objects (Stands (At (Whole d way))) lasting_dir removable_dir first second calls refl (λ k o shows. by o (shown shows).1) tells_one tells_two both
    where
      by : (o : Object) → (o ≡ lasting_dir) ⊎ ((o ≡ removable_dir) × (d ≢ 0) × (is_mount t d ≡ false) × IsEmptied d) → (o ≡ lasting_dir) ⊎ (o ≡ removable_dir)
      by o (inl e) = inl e
      by o (inr r) = inr r.0

  -- of a name that can come to be free, by its own veil
  pub free_tells : (dir : ℕ) (name : List ℕ) (calls : ℕ) → is_dir t dir ≡ true → Can t table crew (Free (Old dir) name) →
      AreFreeCalls table a dir name calls → AreAllowedOf t table crew a (Stands (At (Slot dir name None))) calls
  free_tells dir name calls lives free are = record {
    all = λ call is.
        let s = shown is.shows in
        are call ∙ ap (λ o. free_allows table a o call) s.2
        ∙ ((λ z. is_allowed (covered_verdict empty_tree table a call (sym s.4 z) (sym s.5 z))) ∙ is.allowed);
    only = λ call e. by call (perms_kept a (place.Slot dir name)) refl (sym (are call) ∙ e);
  }
    where
      by : (call : Call) (o : Option ℕ) → perms_kept a (place.Slot dir name) ≡ o → free_allows table a (perms_kept a (place.Slot dir name)) call ≡ true →
          IsJointlyAllowed t table crew a (Stands (At (Slot dir name None))) call
      by call None own e = absurd (false≢true (sym (ap (λ o. free_allows table a o call) own) ∙ e))
      by call (Some perms) own e = record {
        cover = Only perms;
        object = IsMissing;
        shows = shows_name lives own free;
        named = or_right (keeps_link call) true refl;
        allowed = sym (ap (λ o. free_allows table a o call) own) ∙ e;
      }

  -- ---- exec on a file that can be made a program

  -- exec on a program, under the covers under which a file can come
  pub record TellsStarts (thing : Thing) (started : ℕ) : Type 0 where
    pub all : IsJointlyStarted t table crew a thing → has started call.Exec ≡ true
    pub only : has started call.Exec ≡ true → IsJointlyStarted t table crew a thing

  pub under_starts : (thing : Thing) (as_file : Kind) (covers started : ℕ) → may_start as_file ≡ true →
      ((call : Call) → has started call ≡ list_any (allows_under table a covers IsProg call) (numbered 18)) →
      ((k : Cover) → cover_bit k < 18 → has_bit covers (cover_bit k) → Shows t table crew a thing k (Is as_file)) →
      ((k : Cover) (is : Kind) → may_start is ≡ true → Shows t table crew a thing k (Is is) →
      (cover_bit k < 18) × has_bit covers (cover_bit k)) → TellsStarts thing started
  under_starts thing as_file covers started starts under means holds = record {
    all = λ is.
        let held = holds is.cover is.is is.starts is.shows in
        under call.Exec ∙ under_has table a covers IsProg call.Exec
        (record { cover = is.cover; small = held.0; has = held.1; allowed = is.allowed });
    only = λ e.
        let one = under_means table a covers IsProg call.Exec (sym (under call.Exec) ∙ e) in
        record { cover = one.cover; is = as_file; starts = starts; shows = means one.cover one.small one.has; allowed = one.allowed };
  }

  -- what can't be made a program has no more calls
  pub listed_plain : (thing : Thing) (calls : ℕ) → (CanTurn t table crew thing → ⊥) → AreAllowedOf t table crew a thing calls →
      AreCallsOf t table crew a thing calls
  listed_plain thing calls never are = record {
    all = λ call listed. elim listed [ inl can ↦ are.all call can | inr program ↦ absurd (never program.2) ];
    only = λ call e. inl (are.only call e);
  }

  -- and what can be, exec too
  pub listed_file : (thing : Thing) (as_file started calls : ℕ) → CanTurn t table crew thing → AreAllowedOf t table crew a thing as_file →
      TellsStarts thing started → ((call : Call) → has calls call ≡ (has as_file call || (is_exec_call call && has started call))) →
      AreCallsOf t table crew a thing calls
  listed_file thing as_file started calls turn are starts both = record {
    all = λ call listed. both call ∙ elim listed [
      | inl can ↦ or_left (has as_file call) _ (are.all call can)
      | inr program ↦ or_right (has as_file call) _
          (and_from (is_exec_call call) _ program.0 (exec_has call program.0 (starts.all program.1)))
    ];
    only = λ call e. elim (either_true (has as_file call) (is_exec_call call && has started call) (sym (both call) ∙ e)) [
      | inl can ↦ inl (are.only call can)
      | inr program ↦
          (let parts = and_parts (is_exec_call call) (has started call) program in
          inr (parts.0, starts.only (has_exec call parts.0 parts.1), turn))
    ];
  }
    where
      exec_has : (c : Call) → is_exec_call c ≡ true → has started call.Exec ≡ true → has started c ≡ true
      exec_has c is e = elim (exec_or_other c) [
        | inl same ↦ ap (has started) same ∙ e
        | inr other ↦ absurd (false≢true (sym other.1 ∙ is))
      ]

      has_exec : (c : Call) → is_exec_call c ≡ true → has started c ≡ true → has started call.Exec ≡ true
      has_exec c is e = elim (exec_or_other c) [
        | inl same ↦ ap (has started) (sym same) ∙ e
        | inr other ↦ absurd (false≢true (sym other.1 ∙ is))
      ]
