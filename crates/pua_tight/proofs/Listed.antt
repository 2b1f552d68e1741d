-- The list of the objects of a process lies within that of one that it lies within.
use Rattle.std.proofs.Common.{◌≡◌, ℕ, zero, suc, List, [], ◌∷◌, ◌++◌, refl, sym, ap, ◌∙◌, true, ◌&&◌, map, subst, inl}
use Rattle.std.proofs.lemmas.Bool.{false≢true, and_parts, and_from}
use Rattle.std.specs.List.{cons_option}
use Rattle.std.specs.Prelude.{Option, Ok, flat_map, length, nat_lt}
use Rattle.pua_path.specs.declared.errno.Errno.{Errno}
use Rattle.pua_tree.specs.Tree.{Tree, look, distinct_names}
use Rattle.pua_path.specs.declared.found.Way.{Way}
use Rattle.pua_path.specs.declared.found.Way.TheVariants.{Top}
use Rattle.pua_path.specs.declared.found.Found.TheVariants.{Whole}
use Rattle.pua_calls.specs.Calls.{CallTable, rule_of, calls}
use Rattle.pua_calls.specs.declared.call.Call.{Call}
use Rattle.pua_policy.specs.States.{ProcessState, may_any}
use Rattle.pua_policy.specs.Verdict.{IsMissing, cover_fault, or_fault, object_fault, is_allowed}
use Rattle.pua_policy.specs.declared.place.Place.{Place}
use Rattle.pua_policy.specs.declared.answer.Cover.{Cover}
use Rattle.pua_audit.specs.Reach.{Word}
use Rattle.pua_objects.specs.Objects.{Subject, At, Others, Item, Line, cover_in, name_at, names_in, veiled_in, entries, items_at, items_below, items}
use Rattle.pua_objects.specs.Objects.{subject_verdict, is_named_by, calls_on, line_of, has_calls, objects}
use Rattle.pua_objects.proofs.ForCallers.{Among, among_map, map_among, among_filter, filter_among, contained, among_contained, some_of}
use Rattle.pua_tight.specs.Narrower.{VeilsWithin, no_veils, veils_too, StateWithin}
use Rattle.pua_tight.specs.Laws.{IsListed, WithinListsNoMore}
use Rattle.pua_tight.proofs.Within.{in_within, fault_within, may_within}
use Rattle.pua_tight.proofs.Decided.{or_less}
use Rattle.pua_tight.proofs.Worlds.{parts, joined, found_more}

veiled_names : {vs ws : List (Place × ℕ)} → VeilsWithin vs ws → (dir : ℕ) → veiled_in vs dir ≡ veiled_in ws dir
veiled_names no_veils dir = refl
veiled_names (veils_too {place = p} {vs = vs} {ws = ws} less rest) dir = by (name_at dir p) (veiled_names rest dir)
  where
    by : (o : Option (List ℕ)) → veiled_in vs dir ≡ veiled_in ws dir → cons_option o (veiled_in vs dir) ≡ cons_option o (veiled_in ws dir)
    by o same = ap (cons_option o) same

module _ (t : Tree) (vs ws : List (Place × ℕ)) (less : VeilsWithin vs ws) where
  entries_alike : (dir : ℕ) → entries t vs dir ≡ entries t ws dir
  entries_alike dir = ap (λ names. distinct_names (names_in t dir ++ names)) (veiled_names less dir)

  below_alike : (depth dir : ℕ) (way : Way) (word : Word) → items_below depth t vs dir way word ≡ items_below depth t ws dir way word
  below_alike zero dir way word = refl
  below_alike (suc depth) dir way word = λ i.
      record { word = word; subject = At (Whole dir way) }
      ∷ record { word = word; subject = Others dir }
      ∷ flat_map (λ name. items_at t (λ d y z. below_alike depth d y z i) dir word name (look t dir name)) (entries_alike dir i)

  pub items_alike : items t vs ≡ items t ws
  items_alike = below_alike (length t.nodes) 0 Top []

-- a line with some call has its other
pub has_more : (xs ys : List Call) → ((c : Call) → Among xs c → Among ys c) → nat_lt 0 (length xs) ≡ true → nat_lt 0 (length ys) ≡ true
has_more [] ys more e = absurd (false≢true e)
has_more (c ∷ xs) ys more e = some_of ys c (more c (inl refl))

module _ (table : CallTable) (h k : ProcessState) (w : StateWithin h k) (t : Tree) where
  subject_more : (subject : Subject) (call : Call) → is_allowed (subject_verdict t table h call subject) ≡ true →
      is_allowed (subject_verdict t table k call subject) ≡ true
  subject_more (At object) call e = found_more table h k w t call (Ok object) e
  subject_more (Others dir) call e =
      let fault : Cover → Option Errno = λ c. or_fault (cover_fault c (rule_of table call).perms) (object_fault table.whose t call IsMissing) in
      let both = parts (may_any h (rule_of table call).alternatives) (fault (cover_in t h dir)) e in
      joined (may_any k (rule_of table call).alternatives) (fault (cover_in t k dir))
      (may_within h k w (rule_of table call).alternatives both.0)
      (or_less (cover_fault (cover_in t h dir) (rule_of table call).perms) (cover_fault (cover_in t k dir) (rule_of table call).perms)
      (object_fault table.whose t call IsMissing) (fault_within (in_within w.veils t dir) (rule_of table call).perms) both.1)

  calls_more : (subject : Subject) (call : Call) → Among (calls_on t table h subject) call → Among (calls_on t table k subject) call
  calls_more subject call a =
      let one = filter_among (λ c. is_named_by t c subject && is_allowed (subject_verdict t table h c subject)) calls call a in
      let both = and_parts (is_named_by t call subject) (is_allowed (subject_verdict t table h call subject)) one.1 in
      among_filter (λ c. is_named_by t c subject && is_allowed (subject_verdict t table k c subject)) calls call
      (and_from (is_named_by t call subject) (is_allowed (subject_verdict t table k call subject)) both.0 (subject_more subject call both.1)) one.0

  still : (subject : Subject) (cs : List Call) → calls_on t table h subject ≡ cs → nat_lt 0 (length cs) ≡ true →
      nat_lt 0 (length (calls_on t table k subject)) ≡ true
  still subject [] is some = absurd (false≢true some)
  still subject (c ∷ cs) is some =
      some_of (calls_on t table k subject) c (calls_more subject c (subst (λ l. Among l c) (sym is) (inl refl)))

  listed : (line : Line) → Among (objects t table h) line → IsListed t table k line
  listed line a =
      let kept = filter_among has_calls (map (line_of t table h) (items t h.veils)) line a in
      let from = map_among (line_of t table h) (items t h.veils) line kept.0 in
      let item : Item = from.0 in
      subst (IsListed t table k) from.2 (record {
        other = line_of t table k item;
        listed = contained (objects t table k) (line_of t table k item)
            (among_filter has_calls (map (line_of t table k) (items t k.veils)) (line_of t table k item)
            (still item.subject (calls_on t table h item.subject) refl (ap has_calls from.2 ∙ kept.1))
            (among_map (line_of t table k) (items t k.veils) item
            (subst (λ l. Among l item) (items_alike t h.veils k.veils w.veils) from.1)));
        word = refl;
        subject = refl;
        calls = λ call has. contained (calls_on t table k item.subject) call
            (calls_more item.subject call (among_contained (calls_on t table h item.subject) call has));
      })

pub lists_no_more : WithinListsNoMore
lists_no_more table tight given w t line has = listed table tight given w t line (among_contained (objects t table tight) line has)
