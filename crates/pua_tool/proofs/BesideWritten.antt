-- What lists for ever with the help of others that were written say of the future.
use Rattle.pua_tool.proofs.Common.{◌≡◌, ◌≢◌, ◌∙◌, ◌∷◌, [], ℕ, List, ◌++◌, ap, arith, refl, sym, subst, map, Ok, Err, Option, Some, None, Result}
use Rattle.pua_tool.proofs.Common.{CallTable, Tree, Asked, World, ProcessState, new_world, told_to, world_after, with_end}
use Rattle.pua_tool.proofs.Common.{listing, script_by, Chosen, Replayed, table_by, as_listing, as_script, replay_of, ToolFault, OutOfMemory}
use Rattle.std.proofs.Common.{◌⊎◌, inl, inr, ◌==◌, Bool, true, false, cond, length, not, append_assoc}
use Rattle.std.proofs.lemmas.Bool.{true≢false}
use Rattle.std.specs.List.{AllByRecursion, Contains}
use Rattle.std.specs.Prelude.{filter}
use Rattle.pua_tree.proofs.ForCallers.{Some≢None, same_Ok, Err≢Ok}
use Rattle.pua_calls.specs.TmpTable.{tmp_table}
use Rattle.pua_calls.specs.declared.call.Call.TheVariants as call
use Rattle.pua_policy.specs.States.{is_ended}
use Rattle.pua_script.specs.Family.{family_then, is_exec, is_member, none_done}
use Rattle.pua_script.specs.Laws.{IsConfined}
use Rattle.pua_script.specs.OpeningLaws.{OkaysAreAccounted, OpeningsAreHeld, OpeningsNarrow}
use Rattle.pua_script.specs.Replay.{apply}
use Rattle.pua_objects.proofs.ForCallers.{Among, among_contained, among_map, contained, map_among}
use Rattle.pua_ever.specs.Ever.{EverLine, ever_line_text}
use Rattle.pua_ever.specs.Through.{bound_of, FamiliesGoAlong}
use Rattle.pua_ever.specs.declared.lasting_list.ExecBound.{ExecBound}
use Rattle.pua_ever.specs.declared.lasting_list.ExecBound.TheVariants.{Never, Bounded, Open}
use Rattle.pua_ever.proofs.ForCallers.{unrefused_process, unrefused_table}
use Rattle.pua_jointly.specs.Jointly.{ByMember, GroupsEdit, IsJointlyListed, groups_then, joint_lines}
use Rattle.pua_jointly.specs.JointLasting.{JointlyTold, Numbered, StartsAsTold, acting_in, families}
use Rattle.pua_jointly.specs.JointPrograms.{Acting, AreSaid, IsSaidOf, TellsOfOne, agents_by, crew_by, worse, worst}
use Rattle.pua_texts.specs.BesideLines.{Beside, beside_heading, beside_own}
use Rattle.pua_texts.specs.RootLines.{root_line}
use Rattle.pua_texts.specs.States.{OpeningsArePrinted, kept_lines}
use Rattle.pua_texts.specs.TogetherLines.{living}
use Rattle.pua_words.specs.declared.command.Processes.{Processes}
use Rattle.pua_tool.specs.BesideTexts.{AreBesideLists, IsBehind, IsBesideAfter, IsBesideBy, IsBesideOf, IsBesideText, IsBesideUnless, IsBesideWhole}
use Rattle.pua_tool.specs.BesideTexts.{IsHelped, OrMemory, beside, first_acting, others_than, states}
use Rattle.pua_tool.specs.BesideWritten.{AreForeseenLists, BesideAsWritten, IsBesideWritten, IsForeseenBeside, IsForeseenBy, IsForeseenList}
use Rattle.pua_tool.specs.BesideWritten.{NoneStarts, alone}
use Rattle.pua_tool.specs.Listed.{HasLine}
use Rattle.pua_tool.specs.TogetherTexts.{all_made, first_refused, numbers_in}
use Rattle.pua_tool.proofs.BesideOkays.{calls_tested, in_list, okays}
use Rattle.pua_tool.proofs.BesideTexts.{refused_first, refused_then}
use Rattle.pua_tool.proofs.ListWritten.{in_lines}
use Rattle.pua_tool.proofs.Replays.{replayed_is}
use Rattle.pua_tool.proofs.Several.{Acts, IsUnrefused, are_made, are_unrefused, those_living}
use Rattle.pua_tool.proofs.Tables.{tables_are_by_rules, tables_need_no_error}
use Rattle.pua_tool.proofs.TmpTables.{bound_too}

abbrev Member : Type 0
Member = ℕ × ProcessState

-- ---- groups with the same numbers edit alike

abbrev all_members : {X : Type 0} → List (X × List ℕ) → List (List ℕ)
all_members groups = map (λ g. g.1) groups

member_alike : {X Y : Type 0} (gs : List (X × List ℕ)) (hs : List (Y × List ℕ)) (n : ℕ) → all_members gs ≡ all_members hs → ByMember gs n →
    ByMember hs n
member_alike gs hs n same by =
    let here : Among (all_members gs) by.group.1 = among_map (λ g. g.1) gs by.group (among_contained gs by.group by.among) in
    let from = map_among (λ h. h.1) hs by.group.1 (subst (λ (all : List (List ℕ)). Among all by.group.1) same here) in
    record {
      group = from.0;
      among = contained hs from.0 from.1;
      member = subst (λ (ns : List ℕ). is_member ns n ≡ true) (sym from.2) by.member;
    }

members_then : {X : Type 0} (table : CallTable) (w : World) (ask : Asked) (gs : List (X × List ℕ)) →
    all_members (groups_then table w ask gs) ≡ map (family_then table w ask) (all_members gs)
members_then table w ask [] = refl
members_then table w ask (g ∷ gs) = ap (λ more. family_then table w ask g.1 ∷ more) (members_then table w ask gs)

edits_alike : {X Y : Type 0} (table : CallTable) (w : World) (asks : List Asked) (gs : List (X × List ℕ)) (hs : List (Y × List ℕ)) →
    all_members gs ≡ all_members hs → GroupsEdit table w asks gs → GroupsEdit table w asks hs
edits_alike table w [] gs hs same edit = tt
edits_alike table w (ask ∷ asks) gs hs same edit = (
  now edit.0,
  edits_alike table (apply table w ask).1 asks (groups_then table w ask gs) (groups_then table w ask hs)
      (members_then table w ask gs ∙ ap (map (family_then table w ask)) same ∙ sym (members_then table w ask hs)) edit.1,
)
  where
    now : ByMember gs ask.process ⊎ ((apply table w ask).1.tree ≡ w.tree) → ByMember hs ask.process ⊎ ((apply table w ask).1.tree ≡ w.tree)
    now (inl by) = inl (member_alike gs hs ask.process same by)
    now (inr still) = inr still

-- ---- those who act, with their numbers

abbrev numbered_by : List Member → List Acting → List Numbered
numbered_by [] acting = []
numbered_by (m ∷ ms) [] = []
numbered_by (m ∷ ms) (a ∷ acting) = (a, m.0) ∷ numbered_by ms acting

abbrev processes_in : List Acting → List ProcessState
processes_in acting = map (λ a. a.process) acting

abbrev first_of : {A : Type 0} → List A → A → A
first_of [] d = d
first_of (x ∷ xs) d = x

abbrev rest_of : {A : Type 0} → List A → List A
rest_of [] = []
rest_of (x ∷ xs) = xs

acting_is : (ms : List Member) (acting : List Acting) → processes_in acting ≡ states ms → acting_in (numbered_by ms acting) ≡ acting
acting_is [] [] e = refl
acting_is [] (a ∷ acting) e = absurd (omega (arith, ap length e))
acting_is (m ∷ ms) [] e = refl
acting_is (m ∷ ms) (a ∷ acting) e = ap (λ more. a ∷ more) (acting_is ms acting (ap (λ (hs : List ProcessState). rest_of hs) e))

families_are : (ms : List Member) (acting : List Acting) → processes_in acting ≡ states ms →
    all_members (alone ms) ≡ all_members (families (numbered_by ms acting))
families_are [] acting e = refl
families_are (m ∷ ms) [] e = absurd (omega (arith, ap length e))
families_are (m ∷ ms) (a ∷ acting) e = ap (λ more. (m.0 ∷ []) ∷ more) (families_are ms acting (ap (λ (hs : List ProcessState). rest_of hs) e))

open_last : (x : ExecBound) → worse x Open ≡ Open
open_last Never = refl
open_last Bounded = refl
open_last Open = refl

-- what is said of all is said of each
module _ (table : CallTable) (w : World) (asks : List Asked) where
  abbrev Holds : List Member → List Acting → Type 0
  Holds ms acting = (worst acting ≢ Open) ⊎ NoneStarts table w asks ms

  confined_of : (m : Member) → Acts table w m → IsConfined m.1
  confined_of m acts = by (unrefused_process table m.1 acts.0.1)
    where
      by : IsConfined m.1 ⊎ (is_ended m.1 ≡ true) → IsConfined m.1
      by (inl confined) = confined
      by (inr ended) = absurd (true≢false (sym ended ∙ acts.1))

  starts : (ms : List Member) (acting : List Acting) → processes_in acting ≡ states ms → AllByRecursion (Acts table w) ms → Holds ms acting →
      AllByRecursion (StartsAsTold table w asks) (numbered_by ms acting)
  starts [] acting e all holds = tt
  starts (m ∷ ms) [] e all holds = tt
  starts (m ∷ ms) (a ∷ acting) e all holds =
      let head : a.process ≡ m.1 = ap (λ (hs : List ProcessState). first_of hs m.1) e in (
        record {
          here = all.0.0.0 ∙ ap Some (sym head);
          confined = subst IsConfined (sym head) (confined_of m all.0);
          unbounded = λ is. opens is holds;
        },
        starts ms acting (ap (λ (hs : List ProcessState). rest_of hs) e) all.1 (later holds),
      )
    where
      opens : a.execs ≡ Open → Holds (m ∷ ms) (a ∷ acting) → none_done is_exec table w asks (m.0 ∷ []) ≡ true
      opens is (inl never) = absurd (never (ap (λ (x : ExecBound). worse x (worst acting)) is))
      opens is (inr none) = none.0

      later : Holds (m ∷ ms) (a ∷ acting) → Holds ms acting
      later (inl never) = inl (λ is. never (ap (worse a.execs) is ∙ open_last a.execs))
      later (inr none) = inr none.1

all_filtered : (P : Member → Type 0) (p : Member → Bool) (ms : List Member) → AllByRecursion P ms → AllByRecursion P (filter p ms)
all_filtered P p [] all = tt
all_filtered P p (m ∷ ms) all = by (p m) (all_filtered P p ms all.1)
  where
    by : (b : Bool) → AllByRecursion P (filter p ms) → AllByRecursion P (cond b (m ∷ filter p ms) (filter p ms))
    by true later = (all.0, later)
    by false later = later

-- ---- the text

-- what is true of openings, of families through execs, and of what is printed
pub record Laws : Type 0 where
  pub accounted : OkaysAreAccounted
  pub held : OpeningsAreHeld
  pub narrow : OpeningsNarrow
  pub along : FamiliesGoAlong
  pub printed : OpeningsArePrinted
  pub told : JointlyTold

module _ (law : Laws) (choice : Chosen) (tree_bytes script_bytes : List ℕ) (table : CallTable) (t : Tree) (first : List Asked)
    (which helping : Processes) (text : List ℕ) (given : table_by choice ≡ Ok table) (read : listing tree_bytes ≡ Ok t)
    (scripted : script_by choice.rules script_bytes ≡ Ok first) where
  abbrev w : World
  w = world_after table (new_world t) first

  -- the table by which the lists go
  abbrev tmp : CallTable
  tmp = tmp_table table

  abbrev done : Replayed
  done = record { table = table; answers = told_to table (new_world t) first; world = w }

  module _ (helpers : List Member) (unrefused : AllByRecursion (IsUnrefused table w) helpers) where
    module _ (m : Member) (of : IsUnrefused table w m) (lives : is_ended m.1 ≡ false) (list : List ℕ)
        (is : IsHelped choice.rules tmp w.tree (others_than m.0 helpers) m list) where
      abbrev others : List Member
      others = others_than m.0 helpers

      abbrev crew : List Member
      crew = m ∷ living others

      abbrev one : Acting
      one = first_acting m.1 is.own

      abbrev acting : List Acting
      acting = one ∷ is.more

      abbrev lines : List EverLine
      lines = joint_lines w.tree m.1 is.test

      act : AllByRecursion (Acts table w) crew
      act = (
        (of, lives),
        those_living table w others (all_filtered (IsUnrefused table w) (λ member. not (member.0 == m.0)) helpers unrefused),
      )

      acting_too : acting_in (numbered_by crew acting) ≡ acting
      acting_too = acting_is crew acting is.acting.same

      abbrev b : Beside
      b = beside m others is.own (worst acting)

      abbrev head : List ℕ
      head = (beside_heading b ++ beside_own choice.rules (root_line w.tree b.process) b) ++ kept_lines w.tree m.1

      stands : (line : EverLine) → Contains lines line → HasLine list (ever_line_text w.tree line)
      stands line listed =
          let found = in_lines (λ (l : EverLine). with_end (ever_line_text w.tree l)) lines line listed in (
            head ++ found.0,
            found.1,
            is.is ∙ ap (λ ls. head ++ ls) found.2 ∙ shape head found.0 (with_end (ever_line_text w.tree line)) found.1,
          )
        where
          shape : (head before piece after : List ℕ) → head ++ (before ++ piece ++ after) ≡ (head ++ before) ++ piece ++ after
          shape head before piece after = search (append_assoc)

      foreseen : IsForeseenBeside table w crew m (worst acting) lines
      foreseen asks bytes held edit member belongs =
          law.told table (tables_need_no_error choice table given) (unrefused_table table m.1 of.1) choice.rules tree_bytes script_bytes t first asks
          read scripted bytes (numbered_by crew acting) (starts table w asks crew acting is.acting.same act held)
          (subst (AreSaid w.tree tmp) (sym acting_too) is.acting.said)
          (edits_alike table w asks (alone crew) (families (numbered_by crew acting)) (families_are crew acting is.acting.same) edit)
          (one, m.0) (contained (numbered_by crew acting) (one, m.0) (inl refl)) is.test
          (subst (λ (all : List Acting). TellsOfOne w.tree tmp (crew_by tmp all) (agents_by tmp one) is.test) (sym acting_too) is.tells) member belongs

      -- what it says of execs of its own
      abbrev Said : ExecBound → Type 0
      Said own = IsSaidOf w.tree tmp (crew_by tmp acting) m.1 own

      said : Said is.own
      said = is.acting.said.0

      bounds : is.own ≡ Bounded → bound_of table m.1 ≢ None
      bounds own unbound = (subst Said own said).1 (bound_too table m.1 ∙ unbound)

      never : is.own ≡ Never → (line : EverLine) → Contains lines line → Contains line.calls call.Exec → ⊥
      never own line listed there =
          let by = is.tells.only line.thing call.Exec (calls_tested w.tree m.1 is.test line listed call.Exec there) in
          let alone : agents_by tmp one ≡ m.1 ∷ [] = ap (λ (x : ExecBound). agents_by tmp (first_acting m.1 x)) own in
          let agent : by.agent ≡ m.1 = lone by.agent (subst (λ (agents : List ProcessState). Contains agents by.agent) alone by.among) in
          subst Said own said (record {
            thing = line.thing;
            listed = subst (λ (a : ProcessState). IsJointlyListed w.tree tmp (crew_by tmp acting) a line.thing call.Exec) agent by.listed;
          })
        where
          lone : (agent : ProcessState) → Contains (m.1 ∷ []) agent → agent ≡ m.1
          lone agent there = by (among_contained (m.1 ∷ []) agent there)
            where
              by : Among (m.1 ∷ []) agent → agent ≡ m.1
              by (inl same) = sym same
              by (inr none) = absurd none

      foreseen_list : IsForeseenList choice.rules table w others m list
      foreseen_list = record {
        is = is;
        complete = foreseen;
        okays = okays table (tables_need_no_error choice table given) w m (living others) (worst acting) lines foreseen law.accounted law.held law.narrow
            law.along law.printed choice.rules (tables_are_by_rules choice table given) of.0 (confined_of table w [] m (of, lives)) is.own
            (λ own. ap (λ (x : ExecBound). worse x (worst is.more)) own) bounds never list (in_list choice.rules w.tree b lives lines list is.is);
        printed = stands;
      }

    of_lists : (ms : List Member) (lists : List (List ℕ)) → AllByRecursion (IsUnrefused table w) ms →
        AreBesideLists choice.rules tmp w.tree helpers ms lists → AreForeseenLists choice.rules table w helpers ms lists
    of_lists [] [] all are = tt
    of_lists [] (list ∷ lists) all are = absurd are
    of_lists (m ∷ ms) [] all are = absurd are
    of_lists (m ∷ ms) (list ∷ lists) all are = (by (is_ended m.1) refl are.0, of_lists ms lists all.1 are.1)
      where
        by : (b : Bool) → is_ended m.1 ≡ b → IsBesideBy choice.rules tmp w.tree b (others_than m.0 helpers) m list →
            IsForeseenBy b choice.rules table w (others_than m.0 helpers) m list
        by true ended is = is
        by false lives is = foreseen_list m all.0 lives list is

  module _ (members helpers : List Member) (made : all_made w (numbers_in w which) ≡ Ok members)
      (made_too : all_made w (numbers_in w helping) ≡ Ok helpers) where
    none_first : first_refused table (members ++ helpers) ≡ None → first_refused table members ≡ None
    none_first none = by (first_refused table members) refl
      where
        by : (o : Option ToolFault) → first_refused table members ≡ o → o ≡ None
        by None is = refl
        by (Some fault) is = absurd (Some≢None fault (sym (refused_first table members helpers fault is) ∙ none))

    of_whole : first_refused table (members ++ helpers) ≡ None → IsBesideWhole choice.rules done members helpers text →
        IsBesideWritten choice.rules table t first which helping text
    of_whole none whole =
        let asked = are_made w (numbers_in w which) members made in
        let helped = are_made w (numbers_in w helping) helpers made_too in
        let own = none_first none in
        let theirs = sym (refused_then table members helpers own) ∙ none in
        record {
          members = members;
          helpers = helpers;
          asked = asked.0;
          helped = helped.0;
          here = asked.1;
          too = helped.1;
          lists = whole.lists;
          is_text = whole.is;
          each = of_lists helpers (are_unrefused table w helpers theirs helped.1) members whole.lists (are_unrefused table w members own asked.1)
              whole.are;
        }

    of_members : IsBesideOf choice.rules done members helpers (Ok text) → IsBesideWritten choice.rules table t first which helping text
    of_members of = by (first_refused table (members ++ helpers)) refl of
      where
        by : (o : Option ToolFault) → first_refused table (members ++ helpers) ≡ o → IsBesideUnless o choice.rules done members helpers (Ok text) →
            IsBesideWritten choice.rules table t first which helping text
        by (Some fault) is e = absurd (Err≢Ok fault text (sym e))
        by None is told =
            of_whole is (subst (IsBesideWhole choice.rules done members helpers) (sym (same_Ok text told.0 told.1)) told.2)

  of_text : IsBesideAfter choice.rules done which helping (Ok text) → IsBesideWritten choice.rules table t first which helping text
  of_text after = by (all_made w (numbers_in w which)) refl (all_made w (numbers_in w helping)) refl after
    where
      by : (made : Result (List Member) ToolFault) → all_made w (numbers_in w which) ≡ made →
          (too : Result (List Member) ToolFault) → all_made w (numbers_in w helping) ≡ too →
          IsBehind (λ members. IsBehind (λ helpers. IsBesideOf choice.rules done members helpers) too) made (Ok text) →
          IsBesideWritten choice.rules table t first which helping text
      by (Err fault) is too too_is e = absurd (Err≢Ok fault text (sym e))
      by (Ok members) is (Err fault) too_is e = absurd (Err≢Ok fault text (sym e))
      by (Ok members) is (Ok helpers) too_is of = of_members members helpers is too_is of

  written : IsBesideText choice tree_bytes script_bytes which helping (Ok text) → IsBesideWritten choice.rules table t first which helping text
  unfolding IsBesideText
  written told = by told
    where
      replayed : replay_of choice tree_bytes script_bytes ≡ Ok done
      replayed = replayed_is choice tree_bytes script_bytes table t first given (ap as_listing read) (ap as_script scripted)

      by : OrMemory (IsBehind (λ done. IsBesideAfter choice.rules done which helping) (replay_of choice tree_bytes script_bytes)) (Ok text) →
          IsBesideWritten choice.rules table t first which helping text
      by (inl memory) = absurd (Err≢Ok OutOfMemory text (sym memory))
      by (inr is) =
          of_text (subst (λ (r : Result Replayed ToolFault). IsBehind (λ done. IsBesideAfter choice.rules done which helping) r (Ok text)) replayed is)

pub beside_as_written : Laws → BesideAsWritten
beside_as_written law choice tree_bytes script_bytes table t first which helping text given read scripted told =
    written law choice tree_bytes script_bytes table t first which helping text given read scripted told
