-- All that members of several groups are ever allowed has its line by the facts of the beginning.
use Rattle.pua_jointly.proofs.Common.{◌≡◌, ◌≢◌, ◌⊎◌, ◌<◌, ℕ, List, [], ◌∷◌, Bool, true, false, cond, map, refl, sym, ap, subst, ◌∙◌, inl, inr}
use Rattle.pua_jointly.proofs.Common.{Option, Some, None, ◌==◌, not, option_map, false≢true, and_parts, eq-eqb}
use Rattle.pua_jointly.proofs.Common.{Tree, WellFormed, Spot, is_dir, is_dir_kind, look, kind_at, empty_tree, sound_from, row_says}
use Rattle.pua_jointly.proofs.Common.{Way, Whole, Slot}
use Rattle.pua_jointly.proofs.Common.{CallTable, keeps_link, ProcessState, perms_kept}
use Rattle.pua_jointly.proofs.Common.{Only, Object, IsMissing, object_of_kind}
use Rattle.pua_jointly.proofs.Common.{covered_verdict, is_allowed, Call, Cover, At}
use Rattle.pua_jointly.proofs.Common.{Others, Among, among_map, among_contained, contained, map_among}
use Rattle.pua_jointly.proofs.Common.{lasting_dir, removable_dir, Stands, Comes, NewDir, NewOthers, NewFile, NewLink, NewSock, NewFifo, Kind, VeilsStand}
use Rattle.pua_jointly.proofs.Common.{Asked, World, apply, NoCallNeedsError}
use Rattle.pua_jointly.proofs.Common.{option_eq, is_some, ◌++◌, and_from}
use Rattle.pua_jointly.proofs.Common.{among_left, among_right, Subject, veils}
use Rattle.pua_audit.specs.Reach.{Word}
use Rattle.pua_script.proofs.ForCallers.{Members, first_tree, verdicts_within}
use Rattle.pua_script.specs.Confinement.{TreesAlong}
use Rattle.pua_objects.specs.Laws.{own_or}
use Rattle.pua_policy.specs.Verdict.{IsDir, object_fault, cover, cover_fault, or_fault, allowed_unless, if_promised, verdict_of}
use Rattle.pua_objects.proofs.ForCallers.{named_within_text, allowed_is, covers_descend, among_filter}
use Rattle.pua_path.proofs.ForCallers.{resolutions_fit}
use Rattle.pua_path.specs.declared.found.Found.{Found}
use Rattle.pua_path.specs.declared.found.Way.TheVariants.{Named, Top, Dot, DotDot}
use Rattle.pua_path.specs.declared.found.Last.TheVariants.{Followed}
use Rattle.pua_policy.specs.Misfits.{misfit_errno, named_misfit}
use Rattle.pua_tree.specs.Tree.{is_empty, is_mount}
use Rattle.std.proofs.lemmas.Bool.{not-true}
use Rattle.pua_ever.specs.Ever.{EverLine, all_new, has_ever_calls, own_spot, Thing, is_yes}
use Rattle.pua_ever.specs.Laws.{IsForeseenIn, ActsWithin, NoExecLoosens, IsLineOf, of_dir, of_new_dir, of_row, of_new_file, of_new_link, of_new_sock, of_new_fifo, EditsNeedC}
use Rattle.pua_ever.specs.Laws.{of_name, of_others, of_new_others, PlacesStand}
use Rattle.pua_jointly.specs.Jointly.{Source, kind_of_source, TellsJointly, named_too, joint_subjects, joint_line, joint_lines, Old, Fact}
use Rattle.pua_jointly.specs.Jointly.{DirCover, NameCover, Free, StandsAt, Can, Shows, shows_dir, shows_emptied, shows_others, shows_row}
use Rattle.pua_jointly.specs.Jointly.{shows_name, shows_new_dir, shows_new_others, shows_new_file, shows_new_link, shows_new_sock, shows_new_fifo, IsJointlyAllowed}
use Rattle.pua_jointly.specs.Jointly.{groups_then, ByMember, GroupsEdit, IsJointlyForeseen, JointlyComplete, JointlyWithin, JointlyThrough}
use Rattle.pua_jointly.specs.Jointly.{JointlyAfterRead, ForeseenByOne, IsJointlyStarted, IsWithinOne, AreWithinOne, StayWithinOne, as_started}
use Rattle.pua_jointly.specs.Jointly.{both_agents, crew_through, may_take}
use Rattle.pua_path.specs.Fits.{FoundFits, IsOf, StandsAsNamed, is_link, is_link_kind}
use Rattle.pua_objects.proofs.ForCallers.{has_item, found_dir, named_by_row, one_of_calls, some_of, failed, among_flat, flat_among}
use Rattle.std.specs.List.{AllByRecursion, Contains}
use Rattle.std.proofs.Math.Bool.{or-true}
use Rattle.std.proofs.lemmas.List.Elements.{All-contains, All-from_recursion}
use Rattle.pua_tree.specs.declared.node.Kind.{Kind}
use Rattle.pua_tree.specs.declared.node.Kind.TheVariants as kind
use Rattle.pua_tree.specs.declared.node.FileType.TheVariants.{Sock, Fifo}
use Rattle.pua_ever.specs.Ever.{may_start, may_start_at, new_kind, new_object}
use Rattle.pua_ever.proofs.ForCallers.{startable, start_no_dir, file_starts}
use Rattle.pua_tree.proofs.ForCallers.{Sound, is_living_dir, same_dir}
use Rattle.pua_path.specs.Resolution.{resolution_of_text, rooted}
use Rattle.pua_path.specs.declared.errno.Errno.{Errno}
use Rattle.pua_calls.specs.Calls.{ending_of, last_of, rule_of, calls}
use Rattle.pua_calls.specs.TmpTable.{tmp_table}
use Rattle.pua_calls.proofs.ForCallers.{tmp_table_needs_no_error}
use Rattle.pua_calls.specs.declared.call.Call.TheVariants as call
use Rattle.pua_policy.specs.Verdict.{IsLink, IsProg, rmdir_fault, verdict}
use Rattle.pua_policy.specs.declared.place.Place.TheVariants as place
use Rattle.pua_policy.specs.declared.answer.May.TheVariants as may
use Rattle.pua_policy.specs.declared.answer.Verdict.TheVariants.{Allowed}
use Rattle.pua_script.specs.Family.{family, HasKept, family_then, is_member}
use Rattle.pua_script.proofs.ForCallers.{each_spares, by_other, same_cover, IsWithin, replays_keep_trees, replays_keep_byte_trees}
use Rattle.pua_script.proofs.ForCallers.{listings_list_byte_trees, scripts_ask_in_bytes}
use Rattle.pua_script.specs.Bytes.{are_in_bytes, IsByteTree}
use Rattle.pua_script.specs.Replay.{new_world, kept_at, world_after}
use Rattle.pua_objects.specs.Objects.{own_way, cover_in, Item, items}
use Rattle.pua_ever.proofs.ForCallers.{given_or_new}
use Rattle.pua_ever.proofs.ForCallers.{plain_alike, dir_alike}
use Rattle.pua_ever.proofs.ForCallers.{takes, requests_grow}
use Rattle.pua_ever.proofs.ForCallers.{members_still}
use Rattle.pua_ever.proofs.ForCallers.{grown_within}
use Rattle.pua_ever.proofs.ForCallers.{yes_before}
use Rattle.pua_jointly.proofs.Untaken.{RowsStay, untaken, still_untaking}
use Rattle.pua_ever.proofs.ForCallers.{named_link, one_new, parts_of, Parts}
use Rattle.pua_ever.proofs.ForCallers.{all_within, yes_is}
use Rattle.pua_ever.proofs.ForCallers.{lacks_unveil, along_then}
use Rattle.pua_ever.proofs.ForCallers.{new_places, replays_keep_places}
use Rattle.pua_ever.specs.Through.{is_bounded, AreWithin, GoesAlong, GoAlong}
use Rattle.std.specs.Prelude.{flat_map, Result, Ok, Err, is_none, filter}
use Rattle.pua_policy.specs.States.{held_set, may_any}
use Rattle.pua_jointly.proofs.Jointly.{Known, of_then, of_maker, row_kind, Knows, knows_first, knows_then, dir_cover_all, name_cover_all}
use Rattle.pua_jointly.proofs.Devices.{same_mount}
use Rattle.pua_jointly.proofs.Jointly.{free_missing, free_emptied}
use Rattle.pua_path.specs.declared.found.Start.{Start}

abbrev is_rmdir_call : Call → Bool
is_rmdir_call call.Rmdir = true
is_rmdir_call _ = false

rmdir_is : (c : Call) → is_rmdir_call c ≡ true → c ≡ call.Rmdir
rmdir_is call.Rmdir e = refl
rmdir_is _ e = absurd (false≢true e)

module _ (table : CallTable) (t0 : Tree) (crew : List ProcessState) (well0 : WellFormed t0) (u : Tree) (k : Knows table t0 crew well0 u)
    (a : ProcessState) (stand : VeilsStand t0 a) (c : Call) where
  abbrev Can0 : Fact → Type 0
  Can0 fact = Can t0 table crew fact

  su : Sound u
  su = sound_from u k.well

  s0 : Sound t0
  s0 = sound_from t0 well0

  -- a thing has its place among the lines
  abbrev Lined : Thing → Type 0
  Lined (Stands subject) = (word : Word) × Among (flat_map (joint_subjects a) (items t0 (veils a))) (word, subject)
  Lined (Comes new) = Unit {0}

  item_subject : (item : Item) → Among (items t0 (veils a)) item →
      Among (flat_map (joint_subjects a) (items t0 (veils a))) (item.word, item.subject)
  item_subject item here = among_flat (joint_subjects a) (items t0 (veils a)) item (item.word, item.subject) here (inl refl)

  item_named : (item : Item) (subject : Subject) → Among (items t0 (veils a)) item → Among (named_too a (own_spot item.subject)) subject →
      Among (flat_map (joint_subjects a) (items t0 (veils a))) (item.word, subject)
  item_named item subject here named =
      among_flat (joint_subjects a) (items t0 (veils a)) item (
        item.word,
        subject,
      ) here (inr (among_map (λ s. (item.word, s)) (named_too a (own_spot item.subject)) subject named))

  row_lined : (r : Spot) (x : ℕ) → look t0 r.0 r.1 ≡ Some x → is_dir t0 x ≡ false → Lined (Stands (At (Slot r.0 r.1 (Some x))))
  row_lined r x at other =
      let fits : FoundFits t0 (Slot r.0 r.1 (Some x)) =
      and_from (is_dir t0 r.0) _ (row_says t0 s0 r x at).0 (and_from (option_eq ◌==◌ (look t0 r.0 r.1) (Some x)) _
      (ap (λ o. option_eq ◌==◌ o (Some x)) at ∙ eq-eqb x x refl) (ap not other)) in
      let item = has_item t0 s0 a (Slot r.0 r.1 (Some x)) fits in (item.0, item_subject _ item.1)

  -- a name with a veil of its own, whatever stands there
  name_lined : (dir : ℕ) (name : List ℕ) (perms : ℕ) → perms_kept a (place.Slot dir name) ≡ Some perms → is_dir t0 dir ≡ true → (o : Option ℕ) →
      look t0 dir name ≡ o → Lined (Stands (At (Slot dir name None)))
  name_lined dir name perms own was None at =
      let item = has_item t0 s0 a (Slot dir name None) (and_from (is_dir t0 dir) _ was (ap is_none at)) in
      let subject : Subject = cond (is_some (perms_kept a (place.Slot dir name))) (At (Slot dir name None)) (Others dir) in
      let this : subject ≡ At (Slot dir name None) = ap (λ o. cond (is_some o) (At (Slot dir name None)) (Others dir)) own in
      (item.0, subst (λ s. Among (flat_map (joint_subjects a) (items t0 (veils a))) (item.0, s)) this (item_subject _ item.1))
  name_lined dir name perms own was (Some y) at =
      elim (is_dir t0 y) as (λ b. is_dir t0 y ≡ b → Lined (Stands (At (Slot dir name None)))) [
        | true ↦ λ dir_there.
            let item = has_item t0 s0 a (Whole y Top) dir_there in
            let own_name : own_way t0 y ≡ Named dir name =
            named_by_row t0 s0 y (dir, name) dir_there (row_says t0 s0 (dir, name) y at).3 at in (
              item.0,
              item_named _ (At (Slot dir name None)) item.1
                  (subst (λ w. Among (named_too a (own_spot (At (Whole y w)))) (At (Slot dir name None))) (sym own_name)
                  (rw own (inl refl))),
            )
        | false ↦ λ other.
            let fits : FoundFits t0 (Slot dir name (Some y)) =
            and_from (is_dir t0 dir) _ was (and_from (option_eq ◌==◌ (look t0 dir name) (Some y)) _
            (ap (λ o. option_eq ◌==◌ o (Some y)) at ∙ eq-eqb y y refl) (ap not other)) in
            let item = has_item t0 s0 a (Slot dir name (Some y)) fits in
            (item.0, item_named _ (At (Slot dir name None)) item.1 (rw own (inl refl)))
      ] refl

  was_dir : (d : ℕ) → d < t0.next → is_dir u d ≡ true → is_dir t0 d ≡ true
  was_dir d below is = sym (same_dir t0 u d (k.old d below (is_living_dir u d is))) ∙ is

  record Hit (object : Found) : Type 0 where
    thing : Thing
    lined : Lined thing
    about : IsLineOf t0 u a thing object
    can : IsJointlyAllowed t0 table crew a thing c

  allows : (left : Cover) (object : Object) → may_any a (rule_of table c).alternatives ≡ may.Yes →
      cover_fault left (rule_of table c).perms ≡ None → object_fault table.whose empty_tree c object ≡ None →
      is_allowed (covered_verdict empty_tree table a c left object) ≡ true
  allows left object granted covered fine = λ i. is_allowed (if_promised (granted i) (allowed_unless (or_fault (covered i) (fine i))))

  dir_cover_old : (d : ℕ) → is_dir u d ≡ true → d < t0.next → Can0 (DirCover a (Old d) (cover_in u a d))
  dir_cover_old d is below =
      subst (λ q. Can0 (DirCover a q (cover_in u a d))) (k.seated.old d below) (dir_cover_all table t0 crew well0 u k a stand d is)

  -- a directory that can be removed now can come to be empty
  emptied : (d : ℕ) (w : Way) → StandsAsNamed u (Whole d w) → rmdir_fault table.whose u d w ≡ None →
      (d ≢ 0) × (is_mount u d ≡ false) × (is_empty u d ≡ true)
  emptied d Dot named e = cc
  emptied d DotDot named e = cc
  emptied d Top named e = cc
  emptied d (Named over name) named e =
      let plain = by (is_mount u d) (is_empty u d) e in ((row_says u su (over, name) d named.1).3, plain.0, plain.1)
    where
      by : (m b : Bool) → option_map misfit_errno (named_misfit m b) ≡ None → (m ≡ false) × (b ≡ true)
      by false true e = (refl, refl)
      by true b e = cc
      by false false e = cc

  hit_dir : (d : ℕ) (w : Way) → is_dir u d ≡ true → StandsAsNamed u (Whole d w) → verdict u table a c (Whole d w) ≡ Allowed → Hit (Whole d w)
  hit_dir d w is named e =
      let parts = parts_of (may_any a (rule_of table c).alternatives) (cover_fault (cover u a (Whole d w)) (rule_of table c).perms)
      (object_fault table.whose u c (IsDir d w)) e in
      let covered : cover_fault (cover_in u a d) (rule_of table c).perms ≡ None =
      ap (λ left. cover_fault left (rule_of table c).perms) (sym ((covers_descend u a k.well).directory d w is)) ∙ parts.covered in
      elim (given_or_new t0 d) [
        | inl below ↦ record {
          thing = Stands (At (Whole d (own_way t0 d)));
          lined = (let item = has_item t0 s0 a (Whole d Top) (was_dir d below is) in (item.0, item_subject _ item.1));
          about = of_dir below;
          can = by below (is_rmdir_call c) refl parts.may covered parts.kind;
        }
        | inr from ↦ (let one = k.seated.new d from (is_living_dir u d is) in
            record {
              thing = Comes NewDir;
              lined = tt;
              about = of_new_dir from;
              can = record {
                cover = cover_in u a d;
                object = removable_dir;
                shows = shows_new_dir one.0
                    (subst (λ q. Can0 (DirCover a q (cover_in u a d))) one.1 (dir_cover_all table t0 crew well0 u k a stand d is));
                named = or-true (keeps_link c);
                allowed = allows (cover_in u a d) removable_dir parts.may covered (dir_alike table.whose u c d w true (λ _. refl) parts.kind);
              };
            })
      ]
    where
      by : d < t0.next → (b : Bool) → is_rmdir_call c ≡ b → may_any a (rule_of table c).alternatives ≡ may.Yes →
          cover_fault (cover_in u a d) (rule_of table c).perms ≡ None → object_fault table.whose u c (IsDir d w) ≡ None →
          IsJointlyAllowed t0 table crew a (Stands (At (Whole d (own_way t0 d)))) c
      by below false differs granted covered fine = record {
        cover = cover_in u a d;
        object = lasting_dir;
        shows = shows_dir (dir_cover_old d is below);
        named = or-true (keeps_link c);
        allowed = allows (cover_in u a d) lasting_dir granted covered (dir_alike table.whose u c d w false (λ same. sym differs ∙ ap is_rmdir_call same) fine);
      }
      by below true same granted covered fine =
          let empty = emptied d w named (ap (λ x. object_fault table.whose u x (IsDir d w)) (sym (rmdir_is c same)) ∙ fine) in
          record {
            cover = cover_in u a d;
            object = removable_dir;
            shows = shows_emptied empty.0 (sym (same_mount t0 u d (k.old d below (is_living_dir u d is))) ∙ empty.1) (dir_cover_old d is below)
                (free_emptied table t0 crew well0 u k d empty.2);
            named = or-true (keeps_link c);
            allowed = allows (cover_in u a d) removable_dir granted covered (dir_alike table.whose u c d w true (λ _. refl) fine);
          }

  hit_file : (s : Spot) (x : ℕ) → look u s.0 s.1 ≡ Some x → is_dir u x ≡ false →
      (last_of c ≡ Followed → is_link u (Slot s.0 s.1 (Some x)) ≡ false)
      → verdict u table a c (Slot s.0 s.1 (Some x)) ≡ Allowed → Hit (Slot s.0 s.1 (Some x))
  hit_file s x e other followed allowed = let came = k.others s x e other in by came.known came.kinds came.can_stand
    where
      left : Cover
      left = own_or (perms_kept a (place.Slot s.0 s.1)) (cover_in u a s.0)

      parts : Parts (may_any a (rule_of table c).alternatives) (cover_fault (cover u a (Slot s.0 s.1 (Some x))) (rule_of table c).perms)
          (object_fault table.whose u c (object_of_kind (kind_at u x)))
      parts = parts_of (may_any a (rule_of table c).alternatives)
          (cover_fault (cover u a (Slot s.0 s.1 (Some x))) (rule_of table c).perms) (object_fault table.whose u c (object_of_kind (kind_at u x)))
          allowed

      covered : cover_fault left (rule_of table c).perms ≡ None
      covered = ap (λ c1. cover_fault c1 (rule_of table c).perms) (sym ((covers_descend u a k.well).at_name s.0 s.1 (Some x))) ∙ parts.covered

      over : Can0 (NameCover a (k.seat s.0) s.1 left)
      over = name_cover_all table t0 crew well0 u k a stand s (row_says u su s x e).0

      fine : (o : Option Kind) → kind_at u x ≡ o → object_fault table.whose empty_tree c (object_of_kind o) ≡ None
      fine o is = sym (plain_alike table.whose u c o) ∙ ap (λ o. object_fault table.whose u c (object_of_kind o)) (sym is) ∙ parts.kind

      by : {source : Source} → Known t0 s x source → kind_at u x ≡ kind_of_source t0 table source → Can0 (StandsAt source (k.seat s.0) s.1) →
          Hit (Slot s.0 s.1 (Some x))
      by (of_then row at own) kinds can_stand =
          let same : kind_at u x ≡ kind_at t0 x = kinds ∙ sym (row_kind t0 table row x at) in
          record {
            thing = Stands (At (Slot row.0 row.1 (Some x)));
            lined = row_lined row x at (sym (ap is_dir_kind same) ∙ other);
            about = of_row row at own;
            can = record {
              cover = left;
              object = object_of_kind (kind_at t0 x);
              shows = shows_row (k.seat s.0) s.1 at can_stand over;
              named = named_link c (last_of c) (is_link_kind (kind_at t0 x)) refl (λ m. ap is_link_kind (sym same) ∙ followed m);
              allowed = allows left (object_of_kind (kind_at t0 x)) parts.may covered (fine (kind_at t0 x) same);
            };
          }
      by (of_maker NewDir maker from) kinds can_stand = absurd (false≢true (sym other ∙ ap is_dir_kind kinds))
      by (of_maker NewOthers maker from) kinds can_stand = absurd (false≢true (sym other ∙ ap is_dir_kind kinds))
      by (of_maker NewFile maker from) kinds can_stand = record {
        thing = Comes NewFile;
        lined = tt;
        about = of_new_file from (ap may_start_at kinds ∙ file_starts table.whose);
        can = record {
          cover = left;
          object = new_object table NewFile;
          shows = shows_new_file maker (k.seat s.0) s.1 can_stand over;
          named = or-true (keeps_link c);
          allowed = allows left (new_object table NewFile) parts.may covered (fine (Some (new_kind table NewFile)) kinds);
        };
      }
      by (of_maker NewSock maker from) kinds can_stand = record {
        thing = Comes NewSock;
        lined = tt;
        about = of_new_sock from kinds;
        can = record {
          cover = left;
          object = new_object table NewSock;
          shows = shows_new_sock maker (k.seat s.0) s.1 can_stand over;
          named = or-true (keeps_link c);
          allowed = allows left (new_object table NewSock) parts.may covered (fine (Some (kind.Known Sock)) kinds);
        };
      }
      by (of_maker NewFifo maker from) kinds can_stand = record {
        thing = Comes NewFifo;
        lined = tt;
        about = of_new_fifo from kinds;
        can = record {
          cover = left;
          object = new_object table NewFifo;
          shows = shows_new_fifo maker (k.seat s.0) s.1 can_stand over;
          named = or-true (keeps_link c);
          allowed = allows left (new_object table NewFifo) parts.may covered (fine (Some (kind.Known Fifo)) kinds);
        };
      }
      by (of_maker NewLink maker from) kinds can_stand = record {
        thing = Comes NewLink;
        lined = tt;
        about = of_new_link from kinds;
        can = record {
          cover = left;
          object = IsLink;
          shows = shows_new_link maker (k.seat s.0) s.1 can_stand over;
          named = named_link c (last_of c) true refl (λ m. sym (ap is_link_kind kinds) ∙ followed m);
          allowed = allows left IsLink parts.may covered (fine (Some kind.Link) kinds);
        };
      }

  hit_missing : (dir : ℕ) (name : List ℕ) → is_dir u dir ≡ true → look u dir name ≡ None →
      verdict u table a c (Slot dir name None) ≡ Allowed → Hit (Slot dir name None)
  hit_missing dir name is none allowed = by (perms_kept a (place.Slot dir name)) refl
    where
      parts : Parts (may_any a (rule_of table c).alternatives) (cover_fault (cover u a (Slot dir name None)) (rule_of table c).perms)
          (object_fault table.whose u c IsMissing)
      parts = parts_of (may_any a (rule_of table c).alternatives) (cover_fault (cover u a (Slot dir name None)) (rule_of table c).perms)
          (object_fault table.whose u c IsMissing) allowed

      fine : object_fault table.whose empty_tree c IsMissing ≡ None
      fine = sym (plain_alike table.whose u c None) ∙ parts.kind

      covered : cover_fault (own_or (perms_kept a (place.Slot dir name)) (cover_in u a dir)) (rule_of table c).perms ≡ None
      covered = ap (λ c1. cover_fault c1 (rule_of table c).perms) (sym ((covers_descend u a k.well).at_name dir name None)) ∙ parts.covered

      by : (o : Option ℕ) → perms_kept a (place.Slot dir name) ≡ o → Hit (Slot dir name None)
      by (Some perms) own =
          let below : dir < t0.next = stand (place.Slot dir name) perms own in
          record {
            thing = Stands (At (Slot dir name None));
            lined = name_lined dir name perms own (was_dir dir below is) (look t0 dir name) refl;
            about = of_name perms own;
            can = record {
              cover = Only perms;
              object = IsMissing;
              shows = shows_name (was_dir dir below is) own (subst (λ q. Can0 (Free q name)) (k.seated.old dir below)
                  (free_missing table t0 crew well0 u k (dir, name) is none));
              named = or-true (keeps_link c);
              allowed = allows (Only perms) IsMissing parts.may
                  (ap (λ o. cover_fault (own_or o (cover_in u a dir)) (rule_of table c).perms) (sym own) ∙ covered) fine;
            };
          }
      by None own =
          let over : cover_fault (cover_in u a dir) (rule_of table c).perms ≡ None =
          ap (λ o. cover_fault (own_or o (cover_in u a dir)) (rule_of table c).perms) (sym own) ∙ covered in
          elim (given_or_new t0 dir) [
            | inl below ↦ record {
              thing = Stands (Others dir);
              lined = (let at = found_dir t0 s0 a dir (was_dir dir below is) in (at.1.0, item_subject _ (at.1.1 _ (inr (inl refl)))));
              about = of_others below own;
              can = record {
                cover = cover_in u a dir;
                object = IsMissing;
                shows = shows_others (dir_cover_old dir is below);
                named = or-true (keeps_link c);
                allowed = allows (cover_in u a dir) IsMissing parts.may over fine;
              };
            }
            | inr from ↦ (let one = k.seated.new dir from (is_living_dir u dir is) in
                record {
                  thing = Comes NewOthers;
                  lined = tt;
                  about = of_new_others from;
                  can = record {
                    cover = cover_in u a dir;
                    object = IsMissing;
                    shows = shows_new_others one.0
                        (subst (λ q. Can0 (DirCover a q (cover_in u a dir))) one.1 (dir_cover_all table t0 crew well0 u k a stand dir is));
                    named = or-true (keeps_link c);
                    allowed = allows (cover_in u a dir) IsMissing parts.may over fine;
                  };
                })
          ]

  -- whatever was found
  hit : (object : Found) → IsOf u (last_of c) object → verdict u table a c object ≡ Allowed → Hit object
  hit (Whole d w) is allowed = hit_dir d w is.fits is.named allowed
  hit (Slot dir name (Some x)) is allowed =
      hit_file (dir, name) x is.named.1 (not-true (is_dir u x) (and_parts _ _ (and_parts (is_dir u dir) _ is.fits).1).1) is.followed
      allowed
  hit (Slot dir name None) is allowed = hit_missing dir name (and_parts (is_dir u dir) _ is.fits).0 is.named.1 allowed

  -- a file on which exec would be allowed, were it a program
  pub jointly_started : (dir : ℕ) (name : List ℕ) (x : ℕ) → look u dir name ≡ Some x → may_start_at (kind_at u x) ≡ true →
      may_any a (rule_of table call.Exec).alternatives ≡ may.Yes →
      cover_fault (cover u a (Slot dir name (Some x))) (rule_of table call.Exec).perms ≡ None →
      (thing : Thing) × IsLineOf t0 u a thing (Slot dir name (Some x)) × IsJointlyStarted t0 table crew a thing
  jointly_started dir name x e kinds granted fine =
      let came = k.others (dir, name) x e other in by came.known came.kinds came.can_stand
    where
      started : (is : Kind) × (kind_at u x ≡ Some is) × (may_start is ≡ true)
      started = startable (kind_at u x) kinds

      other : is_dir u x ≡ false
      other = ap is_dir_kind started.1 ∙ start_no_dir started.0 started.2

      left : Cover
      left = own_or (perms_kept a (place.Slot dir name)) (cover_in u a dir)

      over : Can0 (NameCover a (k.seat dir) name left)
      over = name_cover_all table t0 crew well0 u k a stand (dir, name) (row_says u su (dir, name) x e).0

      starts : is_allowed (covered_verdict empty_tree table a call.Exec left IsProg) ≡ true
      starts = λ i. is_allowed (if_promised (granted i) (allowed_unless (or_fault
          ((ap (λ c1. cover_fault c1 (rule_of table call.Exec).perms) (sym ((covers_descend u a k.well).at_name dir name (Some x))) ∙ fine) i) None)))

      by : {source : Source} → Known t0 (dir, name) x source → kind_at u x ≡ kind_of_source t0 table source →
          Can0 (StandsAt source (k.seat dir) name) →
          (thing : Thing) × IsLineOf t0 u a thing (Slot dir name (Some x)) × IsJointlyStarted t0 table crew a thing
      by (of_then row at own) is can_stand =
          let same : kind_at t0 x ≡ Some started.0 = row_kind t0 table row x at ∙ sym is ∙ started.1 in (
            Stands (At (Slot row.0 row.1 (Some x))),
            of_row row at own,
            record {
              cover = left;
              is = started.0;
              starts = started.2;
              shows = subst (Shows t0 table crew a (Stands (At (Slot row.0 row.1 (Some x)))) left) (ap object_of_kind same)
                  (shows_row (k.seat dir) name at can_stand over);
              allowed = starts;
            },
          )
      by (of_maker NewDir maker from) is can_stand = absurd (false≢true (sym other ∙ ap is_dir_kind is))
      by (of_maker NewOthers maker from) is can_stand = absurd (false≢true (sym other ∙ ap is_dir_kind is))
      by (of_maker NewLink maker from) is can_stand = absurd (false≢true (sym (ap may_start_at is) ∙ kinds))
      by (of_maker NewSock maker from) is can_stand = absurd (false≢true (sym (ap may_start_at is) ∙ kinds))
      by (of_maker NewFifo maker from) is can_stand = absurd (false≢true (sym (ap may_start_at is) ∙ kinds))
      by (of_maker NewFile maker from) is can_stand = (
        Comes NewFile,
        of_new_file from kinds,
        record {
          cover = left;
          is = new_kind table NewFile;
          starts = file_starts table.whose;
          shows = shows_new_file maker (k.seat dir) name can_stand over;
          allowed = starts;
        },
      )

  -- what was found is what a path named
  found_hit : (from : Start) (text : List ℕ) (object : Found) → resolution_of_text u from (ending_of c) text (last_of c) ≡ Ok object →
      verdict_of u table a c (Ok object) ≡ Allowed → Hit object
  found_hit from text object is e =
      let named = named_within_text u from (ending_of c) text (last_of c) object is in
      hit object ((resolutions_fit (rooted u 0) k.well k.well.root).whole from (ending_of c) text (last_of c) object named) e

  pub jointly_foreseen : (from : Start) (text : List ℕ) → let named = resolution_of_text u from (ending_of c) text (last_of c) in
      verdict_of u table a c named ≡ Allowed → IsJointlyForeseen t0 table crew a u c named
  jointly_foreseen from text = by (resolution_of_text u from (ending_of c) text (last_of c)) refl
    where
      by : (named : Result Found Errno) → resolution_of_text u from (ending_of c) text (last_of c) ≡ named →
          verdict_of u table a c named ≡ Allowed → IsJointlyForeseen t0 table crew a u c named
      by (Err errno) is e = absurd (failed (may_any a (rule_of table c).alternatives) errno e)
      by (Ok object) is e =
          let one = found_hit from text object is e in
          record { object = object; names = refl; thing = one.thing; about = one.about; can = one.can }

  -- and its line is in the list that a test tells
  module _ (test : Thing → Call → Bool) (tells : TellsJointly t0 table crew a test) where
    abbrev standing_lines : List EverLine
    standing_lines = map (λ (about : Word × Subject). joint_line test about.0 (Stands about.1)) (flat_map (joint_subjects a) (items t0 (veils a)))

    abbrev new_lines : List EverLine
    new_lines = map (λ new. joint_line test [] (Comes new)) all_new

    has_call : (thing : Thing) → IsJointlyAllowed t0 table crew a thing c → Among (filter (test thing) calls) c
    has_call thing can = among_filter (test thing) calls c (tells.all thing c (inl can)) (one_of_calls c)

    in_list : (thing : Thing) → Lined thing → IsJointlyAllowed t0 table crew a thing c →
        (word : Word) × Among (joint_lines t0 a test) (joint_line test word thing)
    in_list (Stands subject) lined can = (
      lined.0,
      among_filter has_ever_calls (standing_lines ++ new_lines) (joint_line test lined.0 (Stands subject))
          (some_of (filter (test (Stands subject)) calls) c (has_call (Stands subject) can))
          (among_left standing_lines new_lines (joint_line test lined.0 (Stands subject))
          (among_map (λ (about : Word × Subject). joint_line test about.0 (Stands about.1)) (flat_map (joint_subjects a) (items t0 (veils a)))
          (lined.0, subject) lined.1)),
    )
    in_list (Comes new) lined can = (
      [],
      among_filter has_ever_calls (standing_lines ++ new_lines) (joint_line test [] (Comes new))
          (some_of (filter (test (Comes new)) calls) c (has_call (Comes new) can))
          (among_right standing_lines new_lines (joint_line test [] (Comes new))
          (among_map (λ made. joint_line test [] (Comes made)) all_new new (one_new new))),
    )

    pub jointly_listed : (from : Start) (text : List ℕ) → let named = resolution_of_text u from (ending_of c) text (last_of c) in
        verdict_of u table a c named ≡ Allowed → IsForeseenIn (joint_lines t0 a test) t0 a u c named
    jointly_listed from text = by (resolution_of_text u from (ending_of c) text (last_of c)) refl
      where
        by : (named : Result Found Errno) → resolution_of_text u from (ending_of c) text (last_of c) ≡ named →
            verdict_of u table a c named ≡ Allowed → IsForeseenIn (joint_lines t0 a test) t0 a u c named
        by (Err errno) is e = absurd (failed (may_any a (rule_of table c).alternatives) errno e)
        by (Ok object) is e =
            let one = found_hit from text object is e in
            let line = in_list one.thing one.lined one.can in
            record {
              object = object;
              names = refl;
              line = joint_line test line.0 one.thing;
              listed = contained (joint_lines t0 a test) (joint_line test line.0 one.thing) line.1;
              about = one.about;
              allows = contained (filter (test one.thing) calls) c (has_call one.thing one.can);
            }

-- what holds of all elements of a list holds of each
pub every : {X : Type 0} (P : X → Type 0) (xs : List X) (x : X) → AllByRecursion P xs → Among xs x → P x
every P xs x all here = All-contains P xs x (All-from_recursion P xs all) (contained xs x here)

-- at the end each is within one
stay_last : (table : CallTable) (agents : List ProcessState) (asks : List Asked) (w : World) (members : List ℕ) →
    StayWithinOne table w asks agents members → AreWithinOne (world_after table w asks) agents (family table w asks members)
stay_last table agents [] w members stay = stay
stay_last table agents (ask ∷ asks) w members stay =
    stay_last table agents asks (apply table w ask).1 (family_then table w ask members) stay.1

pub within_of : (agents : List ProcessState) (h : ProcessState) (one : IsWithinOne agents h) → IsWithin one.agent h
within_of agents h one = record { tightens = one.tightens; ended = one.ended }

module _ (table : CallTable) (sound : NoCallNeedsError table) (needs : EditsNeedC table) (t0 : Tree) (crew : List ProcessState) (well0 : WellFormed t0)
    (all_stand : (a : ProcessState) → Contains crew a → VeilsStand t0 a) where
  abbrev tmp : CallTable
  tmp = tmp_table table

  sound_too : NoCallNeedsError tmp
  sound_too = tmp_table_needs_no_error table sound

  -- one request of who is within one of the crew
  pub knows_request : (w : World) (ask : Asked) (asks : List Asked) → TreesAlong table w (ask ∷ asks) → Knows tmp t0 crew well0 w.tree →
      (a : ProcessState) → Contains crew a → (h : ProcessState) → kept_at w ask.process ≡ Some h → IsWithin a h →
      Knows tmp t0 crew well0 (apply table w ask).1.tree
  knows_request w ask asks trees k a among h here within =
      let after = (apply table w ask).1 in
      let well = first_tree table after asks trees.1 in
      let spared = by_other h a within.tightens.unveils w.tree after.tree
      (each_spares table (takes table needs) w ask h trees.0 well here) in
      let grown = grown_within tmp sound_too a h within w.tree trees.0 after.tree (requests_grow table needs w ask h trees.0 here) in
      let takes : (may_take tmp a ≡ true) ⊎ RowsStay w.tree after.tree =
      elim (may_take tmp a) as (λ b. may_take tmp a ≡ b → (may_take tmp a ≡ true) ⊎ RowsStay w.tree after.tree) [
        | true ↦ λ yes. inl yes
        | false ↦ λ lacks. inr (untaken table w ask h here (still_untaking tmp sound_too a h within lacks))
      ] refl in
      knows_then tmp t0 crew well0 a among (all_stand a among) w.tree after.tree k well grown spared takes

  -- a group acts by processes of the crew
  module _ {X : Type 0} (agents_of : X → List ProcessState) where
    pub record Acts (w : World) (asks : List Asked) (g : X × List ℕ) : Type 0 where
      pub among : (a : ProcessState) → Contains (agents_of g.0) a → Contains crew a
      pub stay : StayWithinOne table w asks (agents_of g.0) g.1

    -- and so do all groups
    abbrev pub AllAct : World → List Asked → List (X × List ℕ) → Type 0
    AllAct w asks groups = (g : X × List ℕ) → Among groups g → Acts w asks g

    acts_then : (w : World) (ask : Asked) (asks : List Asked) (groups : List (X × List ℕ)) → AllAct w (ask ∷ asks) groups →
        AllAct (apply table w ask).1 asks (groups_then table w ask groups)
    acts_then w ask asks groups acts h here =
        let from = map_among (λ (g : X × List ℕ). (g.0, family_then table w ask g.1)) groups h here in
        let act = acts from.0 from.1 in
        subst (Acts (apply table w ask).1 asks) from.2 (record { among = act.among; stay = act.stay.1 })

    knows_along : (asks : List Asked) (w : World) (groups : List (X × List ℕ)) → AllAct w asks groups → GroupsEdit table w asks groups →
        TreesAlong table w asks → Knows tmp t0 crew well0 w.tree → Knows tmp t0 crew well0 (world_after table w asks).tree
    knows_along [] w groups acts edit trees k = k
    knows_along (ask ∷ asks) w groups acts edit trees k =
        knows_along asks (apply table w ask).1 (groups_then table w ask groups) (acts_then w ask asks groups acts) edit.1 trees.1 (step edit.0)
      where
        step : ByMember groups ask.process ⊎ ((apply table w ask).1.tree ≡ w.tree) → Knows tmp t0 crew well0 (apply table w ask).1.tree
        step (inl one) =
            let act = acts one.group (among_contained groups one.group one.among) in
            let asker = act.stay.0 ask.process one.member in
            knows_request w ask asks trees k asker.2.agent (act.among asker.2.agent asker.2.among) asker.0 asker.1
            (within_of (agents_of one.group.0) asker.0 asker.2)
        step (inr same) = subst (Knows tmp t0 crew well0) (sym same) k

    -- what is foreseen of a member
    pub done : (w : World) (asks : List Asked) (groups : List (X × List ℕ)) → AllAct w asks groups → GroupsEdit table w asks groups →
        TreesAlong table w asks → Knows tmp t0 crew well0 w.tree → (g : X × List ℕ) → Contains groups g → (member : ℕ) →
        is_member (family table w asks g.1) member ≡ true →
        HasKept (world_after table w asks) member (ForeseenByOne t0 tmp crew (agents_of g.0) (world_after table w asks).tree)
    done w asks groups acts edit trees first g here member belongs =
        let k = knows_along asks w groups acts edit trees first in
        let u = (world_after table w asks).tree in
        let act = acts g (among_contained groups g here) in
        let last = stay_last table (agents_of g.0) asks w g.1 act.stay member belongs in
        let a = last.2.agent in
        let within = within_of (agents_of g.0) last.0 last.2 in
        let stand = all_stand a (act.among a last.2.among) in (
          last.0,
          last.1,
          record {
            agent = a;
            among = last.2.among;
            foresees = λ from call text e.
                let named = resolution_of_text u from (ending_of call) text (last_of call) in
                let allowed = verdicts_within a last.0 within tmp sound_too u call named (ap is_allowed e) in
                jointly_foreseen tmp t0 crew well0 u k a stand call from text (allowed_is (verdict_of u tmp a call named) allowed);
            listed = λ test tells from call text e.
                let named = resolution_of_text u from (ending_of call) text (last_of call) in
                let allowed = verdicts_within a last.0 within tmp sound_too u call named (ap is_allowed e) in
                jointly_listed tmp t0 crew well0 u k a stand call test tells from text
                (allowed_is (verdict_of u tmp a call named) allowed);
            starts = λ from text dir name x named kinds allowed.
                let object : Found = Slot dir name (Some x) in
                let found = (resolutions_fit (rooted u 0) k.well k.well.root).whole from (ending_of call.Exec) text (last_of call.Exec) object
                (named_within_text u from (ending_of call.Exec) text (last_of call.Exec) object named) in
                let needed = rule_of table call.Exec in
                let parts = parts_of (may_any last.0 needed.alternatives) (cover_fault (cover u last.0 object) needed.perms)
                (object_fault table.whose u call.Exec IsProg)
                (allowed_is (covered_verdict u tmp last.0 call.Exec (cover u last.0 object) IsProg) allowed) in
                jointly_started tmp t0 crew well0 u k a stand call.Exec dir name x found.named.1 kinds
                (yes_is (may_any a needed.alternatives)
                (yes_before table sound a last.0 within needed.alternatives (sound.calls call.Exec) (ap is_yes parts.may)))
                (ap (λ left. cover_fault left needed.perms) (sym (same_cover last.0 a within.tightens.unveils u object)) ∙ parts.covered);
          },
        )

-- a family that acts by one process, and one that goes along through execs
pub members_one : (now : ProcessState) (w : World) (members : List ℕ) → Members w members now false → AreWithinOne w (now ∷ []) members
members_one now w members are m belongs =
    let one = are m belongs in (
      one.0,
      one.1,
      record {
        agent = now;
        among = contained (now ∷ []) now (inl refl);
        tightens = one.2.within.tightens;
        ended = one.2.within.ended;
      },
    )

stay_one : (table : CallTable) (now : ProcessState) (asks : List Asked) (w : World) (members : List ℕ) → Members w members now false →
    NoExecLoosens table now w asks members → StayWithinOne table w asks (now ∷ []) members
stay_one table now [] w members are none = members_one now w members are
stay_one table now (ask ∷ asks) w members are none = (
  members_one now w members are,
  stay_one table now asks (apply table w ask).1 (family_then table w ask members) (members_still table now w ask members are none.0) none.1,
)

module _ (now : ProcessState) (given : ℕ) where
  module _ (table : CallTable) (sound : NoCallNeedsError table) (bounded : is_bounded table given ≡ true) where
    by_own : (h : ProcessState) → GoesAlong table now given h → AreWithin (held_set h) (held_set now) → IsWithinOne (both_agents (now, given)) h
    by_own h k own = record {
      agent = now;
      among = contained (both_agents (now, given)) now (inl refl);
      tightens = record { unveils = k.unveils; promises = own; confined = lacks_unveil table sound now given bounded h k };
      ended = k.ended;
    }

    by_started : (h : ProcessState) → GoesAlong table now given h → AreWithin (held_set h) given → IsWithinOne (both_agents (now, given)) h
    by_started h k later = record {
      agent = as_started now given;
      among = contained (both_agents (now, given)) (as_started now given) (inr (inl refl));
      tightens = record {
        unveils = record { any = k.unveils.any; kept = k.unveils.kept };
        promises = later;
        confined = lacks_unveil table sound now given bounded h k;
      };
      ended = k.ended;
    }

    pub one_of_both : (h : ProcessState) → GoesAlong table now given h → IsWithinOne (both_agents (now, given)) h
    one_of_both h k = elim k.promises [
      | inl one ↦ elim one [ inl own ↦ by_own h k own.0 | inr later ↦ by_started h k later.0 ]
      | inr none ↦ by_own h k none.0
    ]

    both_now : (w : World) (members : List ℕ) → GoAlong table w now given members → AreWithinOne w (both_agents (now, given)) members
    both_now w members are m belongs = let one = are m belongs in (one.0, one.1, one_of_both one.0 one.2)

    pub stay_both : (asks : List Asked) (w : World) (members : List ℕ) → GoAlong table w now given members →
        StayWithinOne table w asks (both_agents (now, given)) members
    stay_both [] w members are = both_now w members are
    stay_both (ask ∷ asks) w members are = (
      both_now w members are,
      stay_both asks (apply table w ask).1 (family_then table w ask members) (along_then table sound now given bounded w ask members are),
    )

pub jointly_within : JointlyWithin
jointly_within table sound needs w asks groups stay stand trees edit g here member belongs =
    done table sound needs w.tree crew well all_stand (λ agents. agents) w asks groups acts edit trees
    (knows_first (tmp_table table) w.tree crew well) g here member belongs
  where
    crew : List ProcessState
    crew = flat_map (λ (g : List ProcessState × List ℕ). g.0) groups

    well : WellFormed w.tree
    well = first_tree table w asks trees

    all_stand : (a : ProcessState) → Contains crew a → VeilsStand w.tree a
    all_stand a has = every (VeilsStand w.tree) crew a stand (among_contained crew a has)

    acts : AllAct table sound needs w.tree crew well all_stand (λ agents. agents) w asks groups
    acts h here = record {
      among = λ a has. contained crew a (among_flat (λ (g : List ProcessState × List ℕ). g.0) groups h a here (among_contained h.0 a has));
      stay = every (λ (g : List ProcessState × List ℕ). StayWithinOne table w asks g.0 g.1) groups h stay here;
    }

pub jointly_complete : JointlyComplete
jointly_complete table sound needs w asks groups each stand trees none edit g here member belongs =
    done table sound needs w.tree crew well all_stand (λ h. h ∷ []) w asks groups acts edit trees
    (knows_first (tmp_table table) w.tree crew well) g here member belongs
  where
    crew : List ProcessState
    crew = map (λ (g : ProcessState × List ℕ). g.0) groups

    well : WellFormed w.tree
    well = first_tree table w asks trees

    all_stand : (a : ProcessState) → Contains crew a → VeilsStand w.tree a
    all_stand a has =
        let found = map_among (λ (g : ProcessState × List ℕ). g.0) groups a (among_contained crew a has) in
        subst (VeilsStand w.tree) found.2 (every (λ (g : ProcessState × List ℕ). VeilsStand w.tree g.0) groups found.0 stand found.1)

    alone : (h a : ProcessState) → Among (h ∷ []) a → h ≡ a
    alone h a (inl e) = e
    alone h a (inr none) = absurd none

    acts : AllAct table sound needs w.tree crew well all_stand (λ h. h ∷ []) w asks groups
    acts h here = record {
      among = λ a has. subst (Contains crew) (alone h.0 a (among_contained (h.0 ∷ []) a has))
          (contained crew h.0 (among_map (λ (g : ProcessState × List ℕ). g.0) groups h here));
      stay = stay_one table h.0 asks w h.1
          (all_within w h.1 h.0 (every (λ (g : ProcessState × List ℕ). ActsWithin w g.0 g.1) groups h each here))
          (every (λ (g : ProcessState × List ℕ). NoExecLoosens table g.0 w asks g.1) groups h none here);
    }

module _ (table : CallTable) (sound : NoCallNeedsError table) (needs : EditsNeedC table) (w : World) (asks : List Asked)
    (groups : List ((ProcessState × ℕ) × List ℕ)) (trees : TreesAlong table w asks)
    (each : (h : (ProcessState × ℕ) × List ℕ) → Among groups h →
    (is_bounded table h.0.1 ≡ true) × GoAlong table w h.0.0 h.0.1 h.1 × VeilsStand w.tree h.0.0) where
  crew : List ProcessState
  crew = crew_through groups

  well : WellFormed w.tree
  well = first_tree table w asks trees

  all_stand : (a : ProcessState) → Contains (crew_through groups) a → VeilsStand w.tree a
  all_stand a has =
      let found = flat_among (λ (g : (ProcessState × ℕ) × List ℕ). both_agents g.0) groups a (among_contained (crew_through groups) a has) in
      by found.0.0.0 found.0.0.1 (each found.0 found.1).2 found.2
    where
      by : (now : ProcessState) (given : ℕ) → VeilsStand w.tree now → Among (both_agents (now, given)) a → VeilsStand w.tree a
      by now given stand (inl e) = subst (VeilsStand w.tree) e stand
      by now given stand (inr (inl e)) = subst (VeilsStand w.tree) e stand
      by now given stand (inr (inr none)) = absurd none

  acts : AllAct table sound needs w.tree (crew_through groups) well all_stand both_agents w asks groups
  acts h here = record {
    among = λ a has. contained (crew_through groups) a
        (among_flat (λ (g : (ProcessState × ℕ) × List ℕ). both_agents g.0) groups h a here (among_contained (both_agents h.0) a has));
    stay = let one = each h here in stay_both h.0.0 h.0.1 table sound one.0 asks w h.1 one.1;
  }

  pub through_done : GroupsEdit table w asks groups → (g : (ProcessState × ℕ) × List ℕ) → Contains groups g → (member : ℕ) →
      is_member (family table w asks g.1) member ≡ true →
      HasKept (world_after table w asks) member
      (ForeseenByOne w.tree (tmp_table table) (crew_through groups) (both_agents g.0) (world_after table w asks).tree)
  through_done edit g here member belongs =
      done table sound needs w.tree (crew_through groups) well all_stand both_agents w asks groups acts edit trees
      (knows_first (tmp_table table) w.tree (crew_through groups) well) g here member belongs

pub jointly_through : JointlyThrough
jointly_through table sound needs w asks groups each trees edit g here member belongs =
    through_done table sound needs w asks groups trees
    (λ h among. every (λ (g : (ProcessState × ℕ) × List ℕ). (is_bounded table g.0.1 ≡ true) × GoAlong table w g.0.0 g.0.1 g.1 ×
    VeilsStand w.tree g.0.0) groups h each among) edit g here member belongs

pub jointly_after_read : JointlyAfterRead
jointly_after_read table sound needs rules tree_bytes script_bytes t before asks listed scripted bytes groups each edit g here member belongs =
    through_done table sound needs w asks groups (replays_keep_trees table w asks left bytes) placed edit g here member belongs
  where
    w : World
    w = world_after table (new_world t) before

    said : are_in_bytes before ≡ true
    said = scripts_ask_in_bytes rules script_bytes before scripted

    tree : IsByteTree t
    tree = listings_list_byte_trees tree_bytes t listed

    left : IsByteTree w.tree
    left = replays_keep_byte_trees table (new_world t) before tree said

    places : PlacesStand w
    places = replays_keep_places table needs (new_world t) before (replays_keep_trees table (new_world t) before tree said) (new_places t)

    placed : (h : (ProcessState × ℕ) × List ℕ) → Among groups h →
        (is_bounded table h.0.1 ≡ true) × GoAlong table w h.0.0 h.0.1 h.1 × VeilsStand w.tree h.0.0
    placed h among =
        let one = every (λ (g : (ProcessState × ℕ) × List ℕ). (is_bounded table g.0.1 ≡ true) × GoAlong table w g.0.0 g.0.1 g.1 ×
        ((process : ℕ) × (kept_at w process ≡ Some g.0.0))) groups h each among in (one.0, one.1, places one.2.0 h.0.0 one.2.1)
