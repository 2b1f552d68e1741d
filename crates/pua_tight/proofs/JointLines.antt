-- What the joint list of a process has lies within that of one that it lies within, with the help of a crew that has all of its own.
use Rattle.std.proofs.Common.{◌≡◌, ℕ, List, [], ◌∷◌, ◌++◌, refl, ap, ◌∙◌, ◌||◌, Bool, true, map, subst, inl, inr}
use Rattle.std.specs.List.{Contains, list_any}
use Rattle.std.specs.Prelude.{Option, Some, None, IsTrue, filter, flat_map, if◌then◌else◌, is_some}
use Rattle.pua_tree.specs.Tree.{Tree, Spot}
use Rattle.pua_path.specs.declared.found.Found.TheVariants.{Slot}
use Rattle.pua_calls.specs.Calls.{CallTable, calls, is_known}
use Rattle.pua_calls.specs.Promises.{fattr, holds, recvfd, sendfd}
use Rattle.pua_calls.specs.declared.call.Call.{Call}
use Rattle.pua_calls.specs.declared.call.Call.TheVariants as call
use Rattle.pua_policy.specs.States.{ProcessState, held_set}
use Rattle.pua_policy.proofs.ForCallers.{holds_through}
use Rattle.pua_policy.specs.Verdict.{IsProg}
use Rattle.pua_policy.specs.declared.place.Place.TheVariants as place
use Rattle.pua_audit.specs.Reach.{Word}
use Rattle.pua_objects.specs.Objects.{At, Item, Subject, items}
use Rattle.pua_objects.proofs.ForCallers.{Among, among_contained, among_either, among_filter, among_left, among_map, among_right}
use Rattle.pua_objects.proofs.ForCallers.{contained, filter_among, map_among}
use Rattle.pua_ever.specs.Ever.{Comes, EverLine, NewFile, Stands, Thing, all_new, has_ever_calls, is_turned_by, own_spot}
use Rattle.pua_ever.proofs.ForCallers.{any_among, any_found}
use Rattle.pua_jointly.specs.Jointly.{CanTurn, IsJointlyAllowed, IsJointlyListed, IsJointlyStarted, IsTurned, joint_line, joint_lines, joint_subjects}
use Rattle.pua_jointly.specs.Jointly.{can_send, named_too, sends_to_set, sets_received}
use Rattle.pua_jointly.proofs.ForCallers.{open_more, turning_more}
use Rattle.pua_tight.specs.Narrower.{SetWithin, unset, within, StateWithin}
use Rattle.pua_tight.specs.JointLaws.{CrewWithin, WithinAllowsNoMoreJointly, WithinHasNoMoreJointLines, WithinListsNoMoreJointly}
use Rattle.pua_tight.specs.Laws.{IsListedForEver}
use Rattle.pua_tight.proofs.CrewFacts.{shows_too}
use Rattle.pua_tight.proofs.Eases.{allowed_more, eases}
use Rattle.pua_tight.proofs.Listed.{has_more, items_alike}
use Rattle.pua_tight.proofs.Sets.{and_more, or_more}
use Rattle.pua_tight.proofs.Within.{held_within, kept_within}

module _ (t : Tree) (table : CallTable) (crew others : List ProcessState) (each : CrewWithin crew others) where
  can_too : (a b : ProcessState) → StateWithin a b → (thing : Thing) (c : Call) → IsJointlyAllowed t table crew a thing c →
      IsJointlyAllowed t table others b thing c
  can_too a b less thing c can =
      let there = shows_too t table crew others each b less can.shows in
      record {
        cover = there.cover;
        object = can.object;
        shows = there.shows;
        named = can.named;
        allowed = allowed_more table a b (eases table a b less) there.wider can.object c can.allowed;
      }

  starts_too : (a b : ProcessState) → StateWithin a b → (thing : Thing) → IsJointlyStarted t table crew a thing →
      IsJointlyStarted t table others b thing
  starts_too a b less thing is =
      let there = shows_too t table crew others each b less is.shows in
      record {
        cover = there.cover;
        is = is.is;
        starts = is.starts;
        shows = there.shows;
        allowed = allowed_more table a b (eases table a b less) there.wider IsProg call.Exec is.allowed;
      }

  -- who sends to one of them that sets modes can send to one of the others
  abbrev sets : ProcessState → Bool
  sets h = holds (held_set h) fattr

  has_too : (promise : ℕ) (a b : ProcessState) → StateWithin a b → holds (held_set a) promise ≡ true → holds (held_set b) promise ≡ true
  has_too promise a b less = holds_through (held_set b) (held_set a) promise (held_within less)

  sends_too : (a b : ProcessState) → StateWithin a b → sends_to_set table crew a ≡ true → sends_to_set table others b ≡ true
  sends_too a b less =
      and_more (can_send table a) _ (can_send table b) _
      (and_more (is_known table call.Fchmod) _ (is_known table call.Fchmod) _ (λ known. known) (has_too sendfd a b less)) received
    where
      received : list_any sets_received crew ≡ true → list_any sets_received others ≡ true
      received e =
          let one = any_found sets_received crew e in
          let outer = each one.0 (contained crew one.0 one.1) in
          any_among sets_received others outer.outer (among_contained others outer.outer outer.among)
          (and_more _ _ _ _ (has_too recvfd one.0 outer.outer outer.within) (has_too fattr one.0 outer.outer outer.within) one.2)

  turned_too : (node : ℕ) → IsTurned t table crew node → IsTurned t table others node
  turned_too node is =
      let one = each is.agent is.among in
      record {
        agent = one.outer;
        among = one.among;
        row = is.row;
        at = is.at;
        file = is.file;
        by = elim is.by [
          | inl turned ↦ inl (record {
            call = turned.call;
            turns = turning_more (sends_to_set table crew is.agent) (sends_to_set table others one.outer) (sends_too is.agent one.outer one.within)
                turned.call turned.turns;
            allowed = can_too is.agent one.outer one.within (Stands (At (Slot is.row.0 is.row.1 (Some node)))) turned.call turned.allowed;
          })
          | inr held ↦ inr (subst (λ files. list_any (is_turned_by (sets one.outer || sends_to_set table others one.outer) node) files ≡ true)
              one.within.files (open_more (sets is.agent || sends_to_set table crew is.agent) (sets one.outer || sends_to_set table others one.outer)
              (or_more (sets is.agent) _ (sets one.outer) _ (has_too fattr is.agent one.outer one.within) (sends_too is.agent one.outer one.within))
              is.agent.files node held))
        ];
      }

  turn_too : (thing : Thing) → CanTurn t table crew thing → CanTurn t table others thing
  turn_too (Stands (At (Slot dir name (Some node)))) can = turned_too node can
  turn_too (Comes NewFile) can = tt
  turn_too _ none = absurd none

  pub listed_too : (a b : ProcessState) → StateWithin a b → (thing : Thing) (c : Call) → IsJointlyListed t table crew a thing c →
      IsJointlyListed t table others b thing c
  listed_too a b less thing c listed = elim listed [
    | inl can ↦ inl (can_too a b less thing c can)
    | inr program ↦ inr (program.0, starts_too a b less thing program.1, turn_too thing program.2)
  ]

pub allows_no_more_jointly : WithinAllowsNoMoreJointly
allows_no_more_jointly t table crew others each tight given less = can_too t table crew others each tight given less

pub lists_no_more_jointly : WithinListsNoMoreJointly
lists_no_more_jointly t table crew others each tight given less = listed_too t table crew others each tight given less

some_alike : {p q : Option ℕ} → SetWithin p q → is_some p ≡ is_some q
some_alike unset = refl
some_alike (within less) = refl

module _ (t : Tree) (a b : ProcessState) (less : StateWithin a b) (test other : Thing → Call → Bool)
    (more : (thing : Thing) (c : Call) → IsTrue (test thing c) → IsTrue (other thing c)) where
  -- the names that have a veil are the same, and so is what lines are about
  names_alike : (o : Option Spot) → named_too a o ≡ named_too b o
  names_alike None = refl
  names_alike (Some spot) =
      ap (λ (x : Bool). if x then At (Slot spot.0 spot.1 None) ∷ [] else [])
      (some_alike (kept_within less.veils (place.Slot spot.0 spot.1)))

  subjects_alike : (item : Item) → joint_subjects a item ≡ joint_subjects b item
  subjects_alike item = ap (λ (subjects : List Subject). (item.word, item.subject) ∷ map (λ subject. (item.word, subject)) subjects)
      (names_alike (own_spot item.subject))

  abbrev about_of : ProcessState → List (Word × Subject)
  about_of h = flat_map (joint_subjects h) (items t h.veils)

  flat_alike : (xs : List Item) → flat_map (joint_subjects a) xs ≡ flat_map (joint_subjects b) xs
  flat_alike [] = refl
  flat_alike (item ∷ xs) = λ i. subjects_alike item i ++ flat_alike xs i

  about_alike : about_of a ≡ about_of b
  about_alike = flat_alike (items t a.veils) ∙ ap (flat_map (joint_subjects b)) (items_alike t a.veils b.veils less.veils)

  abbrev lines_by : (Thing → Call → Bool) → List (Word × Subject) → List EverLine
  lines_by passes about =
      map (λ (x : Word × Subject). joint_line passes x.0 (Stands x.1)) about ++ map (λ new. joint_line passes [] (Comes new)) all_new

  abbrev kept_by : (Thing → Call → Bool) → List (Word × Subject) → List EverLine
  kept_by passes about = filter has_ever_calls (lines_by passes about)

  calls_more : (thing : Thing) (c : Call) → Among (filter (test thing) calls) c → Among (filter (other thing) calls) c
  calls_more thing c there =
      let one = filter_among (test thing) calls c there in among_filter (other thing) calls c (more thing c one.1) one.0

  -- of what a line is about there is the other one
  line_more : (about : List (Word × Subject)) (word : Word) (thing : Thing) →
      Among (lines_by other about) (joint_line other word thing) → has_ever_calls (joint_line test word thing) ≡ true →
      IsListedForEver (kept_by other about) (joint_line test word thing)
  line_more about word thing there some = record {
    other = joint_line other word thing;
    listed = contained (kept_by other about) (joint_line other word thing)
        (among_filter has_ever_calls (lines_by other about) (joint_line other word thing)
        (has_more (filter (test thing) calls) (filter (other thing) calls) (calls_more thing) some) there);
    word = refl;
    thing = refl;
    calls = λ c has. contained (filter (other thing) calls) c
        (calls_more thing c (among_contained (filter (test thing) calls) c has));
  }

  lines_more : (about : List (Word × Subject)) (line : EverLine) → Among (kept_by test about) line → IsListedForEver (kept_by other about) line
  lines_more about line there =
      let standing = λ (passes : Thing → Call → Bool). map (λ (x : Word × Subject). joint_line passes x.0 (Stands x.1)) about in
      let coming = λ (passes : Thing → Call → Bool). map (λ new. joint_line passes [] (Comes new)) all_new in
      let kept = filter_among has_ever_calls (lines_by test about) line there in
      elim (among_either (standing test) (coming test) line kept.0) [
        | inl stands ↦
            (let from = map_among (λ (x : Word × Subject). joint_line test x.0 (Stands x.1)) about line stands in
            subst (IsListedForEver (kept_by other about)) from.2
            (line_more about from.0.0 (Stands from.0.1)
            (among_left (standing other) (coming other) (joint_line other from.0.0 (Stands from.0.1))
            (among_map (λ (x : Word × Subject). joint_line other x.0 (Stands x.1)) about from.0 from.1))
            (ap has_ever_calls from.2 ∙ kept.1)))
        | inr comes ↦
            (let from = map_among (λ new. joint_line test [] (Comes new)) all_new line comes in
            subst (IsListedForEver (kept_by other about)) from.2
            (line_more about [] (Comes from.0)
            (among_right (standing other) (coming other) (joint_line other [] (Comes from.0))
            (among_map (λ new. joint_line other [] (Comes new)) all_new from.0 from.1))
            (ap has_ever_calls from.2 ∙ kept.1)))
      ]

  -- so a line of the one list has its line in the other
  pub joint_lines_more : (line : EverLine) → Contains (joint_lines t a test) line → IsListedForEver (joint_lines t b other) line
  joint_lines_more line there =
      subst (λ about. IsListedForEver (kept_by other about) line) about_alike
      (lines_more (about_of a) line (among_contained (joint_lines t a test) line there))

pub no_more_joint_lines : WithinHasNoMoreJointLines
no_more_joint_lines t table crew others each tight given less test other tells tells_other =
    joint_lines_more t tight given less test other (λ thing c passed.
    tells_other.all thing c (listed_too t table crew others each tight given less thing c (tells.only thing c passed)))
