-- The list for ever of a process lies within that of one that it lies within.
use Rattle.std.proofs.Common.{◌≡◌, ℕ, List, [], ◌∷◌, ◌++◌, refl, sym, ap, ◌∙◌, Bool, true, false, ◌&&◌, map, subst, inl, inr}
use Rattle.std.proofs.lemmas.Bool.{false≢true}
use Rattle.std.specs.List.{list_any}
use Rattle.std.specs.Prelude.{◌||◌, Option, Some, None, filter, flat_map, is_none, is_some, length, if◌then◌else◌}
use Rattle.pua_tree.specs.Tree.{Tree, WellFormed, Spot, empty_tree, kind_at, is_dir, look}
use Rattle.pua_tree.specs.declared.node.Kind.{Kind}
use Rattle.pua_path.specs.declared.found.Found.TheVariants.{Whole, Slot}
use Rattle.pua_path.specs.declared.found.Way.TheVariants.{Top}
use Rattle.pua_calls.specs.Calls.{CallTable, rule_of, calls}
use Rattle.pua_calls.specs.declared.call.Call.{Call}
use Rattle.pua_policy.specs.States.{ProcessState, perms_kept, may_any}
use Rattle.pua_policy.specs.Verdict.{Object, Is, IsProg, IsLink, IsMissing, cover, cover_fault, covered_verdict, is_allowed}
use Rattle.pua_policy.specs.Verdict.{object_fault, or_fault}
use Rattle.pua_policy.specs.declared.answer.Cover.{Cover}
use Rattle.pua_policy.specs.declared.place.Place.TheVariants as place
use Rattle.pua_audit.specs.Reach.{Word}
use Rattle.pua_objects.specs.Objects.{Subject, At, Others, Item, items, cover_in, is_named_by}
use Rattle.pua_objects.proofs.ForCallers.{Among, among_left, among_right, among_either, among_map, map_among, among_filter, filter_among}
use Rattle.pua_objects.proofs.ForCallers.{among_flat, flat_among, contained, among_contained}
use Rattle.pua_tree.specs.Tree.{device}
use Rattle.pua_ever.specs.Ever.{stays_on}
use Rattle.pua_ever.specs.Ever.{dir_covers, file_covers, name_covers, can_move, can_link, covers_of_dir, covers_of, named_covers, ever_object}
use Rattle.pua_ever.specs.Ever.{removable_dir, lasting_dir, is_named_way, may_edit, is_allowed_under, turning_calls}
use Rattle.pua_ever.specs.Ever.{starts_under, is_exec_call, can_allow, is_ever_allowed, ever_calls, New, NewDir, NewOthers, NewFile, NewLink, NewSock, NewFifo, may_start}
use Rattle.pua_ever.specs.Ever.{new_covers, new_object, is_new_named, can_make, can_allow_new, is_new_allowed, new_calls, own_spot}
use Rattle.pua_ever.specs.Ever.{can_be_freed, freed_at, names_to_free, subjects_of, all_new, ever_line, new_line, EverLine}
use Rattle.pua_ever.specs.Ever.{has_ever_calls, is_turned, is_turned_held, ever}
use Rattle.pua_ever.proofs.ForCallers.{any_among, any_found, StandsNow, items_stand, dir_cover, file_cover, named_moved, named_linked}
use Rattle.pua_ever.proofs.ForCallers.{dir_alike}
use Rattle.pua_tight.specs.Narrower.{SetWithin, unset, within}
use Rattle.pua_tight.specs.Laws.{IsListedForEver, WithinListsNoMoreForEver}
use Rattle.pua_tight.proofs.Sets.{or_more, and_more, any_more}
use Rattle.pua_tight.proofs.Within.{CoverWithin, kept_within, cover_within, in_within, fault_within}
use Rattle.pua_tight.proofs.Listed.{has_more, items_alike}
use Rattle.pua_tight.proofs.Worlds.{parts, joined}
use Rattle.pua_tight.proofs.Decided.{or_both}
use Rattle.pua_tight.proofs.Eases.{Eases, eases, linked_more, made_by_more, moves_more}
use Rattle.pua_tight.proofs.EverCovers.{CoversWithin, both_lists, edits_more, free_more, empties_more, dirs_more, kept_more, names_more, files_more, set_alike}

some_alike : {p q : Option ℕ} → SetWithin p q → is_some p ≡ is_some q
some_alike unset = refl
some_alike (within less) = refl

module _ (table : CallTable) (h k : ProcessState) (w : Eases table h k) where
  -- what is allowed under some cover on a thing
  under_more : (xs ys : List Cover) → CoversWithin xs ys → (o p : Object) (c : Call) →
      (object_fault table.whose empty_tree c o ≡ None → object_fault table.whose empty_tree c p ≡ None) →
      is_allowed_under table h xs o c ≡ true → is_allowed_under table k ys p c ≡ true
  under_more xs ys less o p c fits e =
      let one = any_found (λ left. is_allowed (covered_verdict empty_tree table h c left o)) xs e in
      let other = less one.0 one.1 in
      let sets = (rule_of table c).alternatives in
      let perms = (rule_of table c).perms in
      let both = parts (may_any h sets) (or_fault (cover_fault one.0 perms) (object_fault table.whose empty_tree c o)) one.2 in
      any_among (λ left. is_allowed (covered_verdict empty_tree table k c left p)) ys other.0 other.1
      (joined (may_any k sets) (or_fault (cover_fault other.0 perms) (object_fault table.whose empty_tree c p)) (w.calls c both.0)
      (or_both (cover_fault one.0 perms) (cover_fault other.0 perms) (object_fault table.whose empty_tree c o) (object_fault table.whose empty_tree c p)
      (fault_within other.2 perms) fits both.1))

  starts_more : (xs ys : List Cover) → CoversWithin xs ys → (c : Call) → starts_under table h xs c ≡ true → starts_under table k ys c ≡ true
  starts_more xs ys less c e = and_more (is_exec_call c) _ (is_exec_call c) _ (λ here. here) (under_more xs ys less IsProg IsProg c (λ fine. fine)) e

  allow_more : (a b : Bool) → (a ≡ true → b ≡ true) → (xs ys : List Cover) → CoversWithin xs ys → (o : Object) (c : Call) →
      can_allow table h a xs o c ≡ true → can_allow table k b ys o c ≡ true
  allow_more a b held xs ys less (Is kind) c e = by (may_start kind) e
    where
      by : (starts : Bool) →
          (if starts then (is_allowed_under table h xs (Is kind) c
          || ((a || list_any (is_allowed_under table h xs (Is kind)) turning_calls) && starts_under table h xs c))
          else is_allowed_under table h xs (Is kind) c) ≡ true →
          (if starts then (is_allowed_under table k ys (Is kind) c
          || ((b || list_any (is_allowed_under table k ys (Is kind)) turning_calls) && starts_under table k ys c))
          else is_allowed_under table k ys (Is kind) c) ≡ true
      by true =
          or_more _ _ _ _ (under_more xs ys less (Is kind) (Is kind) c (λ fine. fine))
          (and_more _ _ _ _ (or_more a _ b _ held (any_more (is_allowed_under table h xs (Is kind)) (is_allowed_under table k ys (Is kind))
          (λ turning. under_more xs ys less (Is kind) (Is kind) turning (λ fine. fine)) turning_calls)) (starts_more xs ys less c))
      by false = under_more xs ys less (Is kind) (Is kind) c (λ fine. fine)
  allow_more a b held xs ys less o c e = under_more xs ys less o o c (λ fine. fine) e

  -- a directory that can be removed is allowed what one that can't is
  dir_more : (xs ys : List Cover) → CoversWithin xs ys → (a b : Bool) → (a ≡ true → b ≡ true) → (c : Call) →
      can_allow table h false xs (if a then removable_dir else lasting_dir) c ≡ true →
      can_allow table k false ys (if b then removable_dir else lasting_dir) c ≡ true
  dir_more xs ys less true true more c e = allow_more false false (λ here. here) xs ys less removable_dir c e
  dir_more xs ys less true false more c e = absurd (false≢true (more refl))
  dir_more xs ys less false false more c e = allow_more false false (λ here. here) xs ys less lasting_dir c e
  dir_more xs ys less false true more c e =
      under_more xs ys less lasting_dir removable_dir c (dir_alike table.whose empty_tree c 0 Top true (λ rmdir. refl)) e

  module _ (t : Tree) (well : WellFormed t) where
    -- where a thing can come, what it is then, and what can be allowed on it
    dir_covers_more : (dir : ℕ) → is_dir t dir ≡ true → CoversWithin (covers_of_dir t table h dir) (covers_of_dir t table k dir)
    dir_covers_more dir living c a = by (is_none (perms_kept h (place.Dir dir)) && can_move table h (cover_in t h dir)) refl a
      where
        left : Cover
        left = cover_in t k dir

        moves : Bool
        moves = is_none (perms_kept k (place.Dir dir)) && can_move table k left

        by : (b : Bool) → (is_none (perms_kept h (place.Dir dir)) && can_move table h (cover_in t h dir)) ≡ b →
            Among (if b then dir_covers t h (stays_on t h dir) else cover_in t h dir ∷ []) c →
            (d : Cover) × Among (covers_of_dir t table k dir) d × CoverWithin c d
        by true is a =
            let there = dirs_more table h k w t (stays_on t h dir) (stays_on t k dir) (kept_more table h k w t (device t dir)) c a in
            let can : moves ≡ true = and_more _ _ (is_none (perms_kept k (place.Dir dir))) (can_move table k left)
            (λ here. sym (set_alike (kept_within w.veiled (place.Dir dir))) ∙ here) (moves_more table h k w (in_within w.veiled t dir)) is in
            (there.0, subst (λ (b : Bool). Among (if b then dir_covers t k (stays_on t k dir) else left ∷ []) there.0) (sym can) there.1, there.2)
        by false is (inl same) =
            (left, dir_cover t k well table dir living, subst (λ (x : Cover). CoverWithin x left) same (in_within w.veiled t dir))
        by false is (inr more) = absurd more

    file_covers_more : (dir : ℕ) (name : List ℕ) (x : ℕ) → look t dir name ≡ Some x → is_dir t x ≡ false →
        CoversWithin (covers_of t table h (At (Slot dir name (Some x)))) (covers_of t table k (At (Slot dir name (Some x))))
    file_covers_more dir name x row other c a = by (can_move table h now) (can_link table h kind now) refl refl a
      where
        kind : Option Kind
        kind = kind_at t x

        now : Cover
        now = cover t h (Slot dir name (Some x))

        left : Cover
        left = cover t k (Slot dir name (Some x))

        less : CoverWithin now left
        less = cover_within w.veiled t (Slot dir name (Some x))

        Goal : Type 0
        Goal = (d : Cover) × Among (named_covers t table k (stays_on t k dir) kind left) d × CoverWithin c d

        here : now ≡ c → Goal
        here same = (left, file_cover t k well table dir name x row other, subst (λ (y : Cover). CoverWithin y left) same less)

        by : (b l : Bool) → can_move table h now ≡ b → can_link table h kind now ≡ l →
            Among (if b then file_covers t table h (stays_on t h dir) else now ∷ (if l then file_covers t table h (stays_on t h dir) else [])) c → Goal
        by true l can link a =
            let there = files_more table h k w t (stays_on t h dir) (stays_on t k dir) (kept_more table h k w t (device t dir)) c a in
            (there.0, named_moved t table k (stays_on t k dir) kind left there.0 (moves_more table h k w less can) there.1, there.2)
        by false l can link (inl same) = here same
        by false true can link (inr more) =
            let there = files_more table h k w t (stays_on t h dir) (stays_on t k dir) (kept_more table h k w t (device t dir)) c more in
            (there.0, named_linked t table k (stays_on t k dir) kind left there.0 (linked_more table h k w kind less link) there.1, there.2)
        by false false can link (inr more) = absurd more

    allowed_more : (subject : Subject) → StandsNow t h subject → (c : Call) →
        can_allow table h (is_turned h subject) (covers_of t table h subject) (ever_object t table h subject) c ≡ true →
        can_allow table k (is_turned k subject) (covers_of t table k subject) (ever_object t table k subject) c ≡ true
    allowed_more (At (Whole dir way)) living c e =
        dir_more (covers_of_dir t table h dir) (covers_of_dir t table k dir) (dir_covers_more dir living) _ _
        (and_more (is_named_way way) _ (is_named_way way) _ (λ here. here)
        (and_more _ _ _ _ (λ plain. plain)
        (and_more _ _ _ _ (empties_more table h k w t dir) (or_more _ _ _ _ (edits_more table h k w) (λ here. here))))) c e
    allowed_more (Others dir) living c e =
        allow_more false false (λ here. here) (covers_of_dir t table h dir) (covers_of_dir t table k dir) (dir_covers_more dir living) IsMissing c e
    allowed_more (At (Slot dir name (Some x))) found c e =
        allow_more (is_turned_held h x) (is_turned_held k x) (w.turned x) _ _ (file_covers_more dir name x found.0 found.1) (ever_object t table h (At (Slot dir name (Some x)))) c e
    allowed_more (At (Slot dir name None)) found c e =
        allow_more false false (λ here. here) (cover t h (Slot dir name None) ∷ []) (cover t k (Slot dir name None) ∷ []) missing IsMissing c e
      where
        missing : CoversWithin (cover t h (Slot dir name None) ∷ []) (cover t k (Slot dir name None) ∷ [])
        missing x (inl same) = (
          cover t k (Slot dir name None),
          inl refl,
          subst (λ (y : Cover). CoverWithin y (cover t k (Slot dir name None))) same (cover_within w.veiled t (Slot dir name None)),
        )
        missing x (inr more) = absurd more

    calls_more : (subject : Subject) → StandsNow t h subject → (c : Call) → Among (ever_calls t table h subject) c →
        Among (ever_calls t table k subject) c
    calls_more subject stands c a =
        let one = filter_among (is_ever_allowed t table h subject) calls c a in
        among_filter (is_ever_allowed t table k subject) calls c
        (and_more (is_named_by t c subject) _ (is_named_by t c subject) _ (λ here. here) (allowed_more subject stands c) one.1) one.0

    -- the same of what can be made
    new_covers_more : (new : New) → CoversWithin (new_covers t table h new) (new_covers t table k new)
    new_covers_more NewDir = dirs_more table h k w t None None (λ dir here. here)
    new_covers_more NewOthers = dirs_more table h k w t None None (λ dir here. here)
    new_covers_more NewFile = files_more table h k w t None None (λ dir here. here)
    new_covers_more NewLink = files_more table h k w t None None (λ dir here. here)
    new_covers_more NewSock = files_more table h k w t None None (λ dir here. here)
    new_covers_more NewFifo = files_more table h k w t None None (λ dir here. here)

    made_more : (new : New) → can_make t table h new ≡ true → can_make t table k new ≡ true
    made_more new e =
        let less = both_lists (name_covers t h None) (dir_covers t h None) (name_covers t k None) (dir_covers t k None) (names_more table h k w t None None (λ dir here. here))
        (dirs_more table h k w t None None (λ dir here. here)) in
        made_by_more (is_allowed_under table h (name_covers t h None ++ dir_covers t h None) IsMissing)
        (is_allowed_under table k (name_covers t k None ++ dir_covers t k None) IsMissing)
        (λ c. under_more _ _ less IsMissing IsMissing c (λ fine. fine)) new e

    new_allowed_more : (new : New) (c : Call) → can_allow_new t table h new c ≡ true → can_allow_new t table k new c ≡ true
    new_allowed_more NewFile c e = or_more _ _ _ _ (under_more _ _ (new_covers_more NewFile) (new_object table NewFile) (new_object table NewFile) c
        (λ fine. fine)) (starts_more _ _ (new_covers_more NewFile) c) e
    new_allowed_more NewDir c e = under_more _ _ (new_covers_more NewDir) (new_object table NewDir) (new_object table NewDir) c (λ fine. fine) e
    new_allowed_more NewOthers c e = under_more _ _ (new_covers_more NewOthers) IsMissing IsMissing c (λ fine. fine) e
    new_allowed_more NewLink c e = under_more _ _ (new_covers_more NewLink) IsLink IsLink c (λ fine. fine) e
    new_allowed_more NewSock c e =
        under_more _ _ (new_covers_more NewSock) (new_object table NewSock) (new_object table NewSock) c (λ fine. fine) e
    new_allowed_more NewFifo c e =
        under_more _ _ (new_covers_more NewFifo) (new_object table NewFifo) (new_object table NewFifo) c (λ fine. fine) e

    new_calls_more : (new : New) (c : Call) → Among (new_calls t table h new) c → Among (new_calls t table k new) c
    new_calls_more new c a = by (may_edit table h && can_make t table h new) refl a
      where
        by : (b : Bool) → (may_edit table h && can_make t table h new) ≡ b →
            Among (if b then filter (is_new_allowed t table h new) calls else []) c → Among (new_calls t table k new) c
        by true is a =
            let one = filter_among (is_new_allowed t table h new) calls c a in
            let can : (may_edit table k && can_make t table k new) ≡ true =
            and_more _ _ _ _ (edits_more table h k w) (made_more new) is in
            subst (λ (b : Bool). Among (if b then filter (is_new_allowed t table k new) calls else []) c) (sym can)
            (among_filter (is_new_allowed t table k new) calls c
            (and_more (is_new_named new c) _ (is_new_named new c) _ (λ here. here) (new_allowed_more new c) one.1) one.0)
        by false is a = absurd a

    abbrev standing : ProcessState → List EverLine
    standing g = map (ever_line t table g) (flat_map (subjects_of t table g) (items t g.veils))

    abbrev coming : ProcessState → List EverLine
    coming g = map (new_line t table g) all_new

    freed_more : (o : Option Spot) (subject : Subject) → Among (freed_at t table h o) subject → Among (freed_at t table k o) subject
    freed_more None subject a = absurd a
    freed_more (Some spot) subject a = by (can_be_freed t table h spot) refl a
      where
        by : (b : Bool) → can_be_freed t table h spot ≡ b → Among (if b then At (Slot spot.0 spot.1 None) ∷ [] else []) subject →
            Among (freed_at t table k (Some spot)) subject
        by true is a =
            let can : can_be_freed t table k spot ≡ true = and_more _ _ _ _
            (λ here. sym (some_alike (kept_within w.veiled (place.Slot spot.0 spot.1))) ∙ here)
            (and_more _ _ _ _ (edits_more table h k w) (free_more table h k w t spot)) is in
            subst (λ (b : Bool). Among (if b then At (Slot spot.0 spot.1 None) ∷ [] else []) subject) (sym can) a
        by false is a = absurd a

    freed_stands : (o : Option Spot) (subject : Subject) → Among (freed_at t table h o) subject → StandsNow t h subject
    freed_stands None subject a = absurd a
    freed_stands (Some spot) subject a = by (can_be_freed t table h spot) a
      where
        by : (b : Bool) → Among (if b then At (Slot spot.0 spot.1 None) ∷ [] else []) subject → StandsNow t h subject
        by true (inl same) = subst (StandsNow t h) same tt
        by true (inr more) = absurd more
        by false a = absurd a

    about_more : (item : Item) → StandsNow t h item.subject → (about : Word × Subject) → Among (subjects_of t table h item) about →
        Among (subjects_of t table k item) about × StandsNow t h about.1
    about_more item stands about (inl same) = (inl same, subst (λ (a : Word × Subject). StandsNow t h a.1) same stands)
    about_more item stands about (inr a) =
        let from = map_among (λ subject. (item.word, subject)) (names_to_free t table h item.subject) about a in (
          inr (subst (Among (map (λ subject. (item.word, subject)) (names_to_free t table k item.subject))) from.2
              (among_map (λ subject. (item.word, subject)) (names_to_free t table k item.subject) from.0
              (freed_more (own_spot item.subject) from.0 from.1))),
          subst (λ (a : Word × Subject). StandsNow t h a.1) from.2 (freed_stands (own_spot item.subject) from.0 from.1),
        )

    abbrev lists : EverLine → Type 0
    lists line = IsListedForEver (ever t table k) line

    abbrev all_lines : List EverLine
    all_lines = standing k ++ coming k

    stands_more : (line : EverLine) → Among (standing h) line → has_ever_calls line ≡ true → lists line
    stands_more line a some =
        let from = map_among (ever_line t table h) (flat_map (subjects_of t table h) (items t h.veils)) line a in
        let about : Word × Subject = from.0 in
        let item = flat_among (subjects_of t table h) (items t h.veils) about from.1 in
        let more = about_more item.0 (items_stand t h (length t.nodes) 0 Top [] well.root item.0 item.1) about item.2 in
        let there : Among (items t k.veils) item.0 =
        subst (λ l. Among l item.0) (items_alike t h.veils k.veils w.veiled) item.1 in
        let calls = calls_more about.1 more.1 in
        let other = ever_line t table k about in
        subst lists from.2 (record {
          other = other;
          listed = contained (ever t table k) other (among_filter has_ever_calls all_lines other
              (has_more (ever_calls t table h about.1) (ever_calls t table k about.1) calls (ap has_ever_calls from.2 ∙ some))
              (among_left (standing k) (coming k) other
              (among_map (ever_line t table k) (flat_map (subjects_of t table k) (items t k.veils)) about
              (among_flat (subjects_of t table k) (items t k.veils) item.0 about there more.0))));
          word = refl;
          thing = refl;
          calls = λ c has. contained (ever_calls t table k about.1) c (calls c (among_contained (ever_calls t table h about.1) c has));
        })

    comes_more : (line : EverLine) → Among (coming h) line → has_ever_calls line ≡ true → lists line
    comes_more line a some =
        let from = map_among (new_line t table h) all_new line a in
        let new : New = from.0 in
        let other = new_line t table k new in
        subst lists from.2 (record {
          other = other;
          listed = contained (ever t table k) other (among_filter has_ever_calls all_lines other
              (has_more (new_calls t table h new) (new_calls t table k new) (new_calls_more new) (ap has_ever_calls from.2 ∙ some))
              (among_right (standing k) (coming k) other (among_map (new_line t table k) all_new new from.1)));
          word = refl;
          thing = refl;
          calls = λ c has. contained (new_calls t table k new) c (new_calls_more new c (among_contained (new_calls t table h new) c has));
        })

    pub ever_more : (line : EverLine) → Among (ever t table h) line → lists line
    ever_more line a =
        let kept = filter_among has_ever_calls (standing h ++ coming h) line a in
        elim (among_either (standing h) (coming h) line kept.0) [
          | inl b ↦ stands_more line b kept.1
          | inr b ↦ comes_more line b kept.1
        ]

pub lists_no_more_for_ever : WithinListsNoMoreForEver
lists_no_more_for_ever table tight given w t well line has =
    ever_more table tight given (eases table tight given w) t well line (among_contained (ever t table tight) line has)
