-- What is found of a process and of those who help it, step by step.
use Rattle.pua_tool.proofs.Common.{◌≡◌, ◌∙◌, ◌∷◌, ◌++◌, [], ℕ, List, ap, arith, map, refl, subst, sym, Option, CallTable, ProcessState, Tree}
use Rattle.std.proofs.Common.{◌+◌, ◌<◌, Bool, length, slice_index_or, take}
use Rattle.std.proofs.lemmas.List.{map-append, take_more}
use Rattle.std.specs.Borrow.{Bor}
use Rattle.std.specs.List.{AllByRecursion, Contains}
use Rattle.std.specs.Prelude.{option_map}
use Rattle.pua_calls.specs.declared.call.Call.{Call}
use Rattle.pua_objects.proofs.ForCallers.{among_contained, among_left, contained}
use Rattle.pua_ever.specs.Ever.{Thing}
use Rattle.pua_ever.specs.EverList.{AreEverTold}
use Rattle.pua_ever.specs.Through.{bound_of}
use Rattle.pua_ever.specs.declared.lasting_list.ExecBound.{ExecBound}
use Rattle.pua_jointly.specs.JointFound.{AreFacts}
use Rattle.pua_jointly.specs.Jointly.{agents_of, as_started, joint_lines}
use Rattle.pua_jointly.specs.JointPrograms.{Acting, AreActing, HasProgram, IsSilent, TellsOfOne, acting_of, agents_by, crew_by, handed_by, now_of}
use Rattle.pua_jointly.specs.JointPrograms.{process_of, program_by, program_of, started_of, worst}
use Rattle.pua_jointly.specs.declared.counting.Actor.{Actor}
use Rattle.pua_jointly.specs.declared.facts.Facts.{Facts}
use Rattle.pua_jointly.proofs.ForCallers.{program_given}
use Rattle.pua_texts.specs.Members.{named_by}
use Rattle.pua_texts.specs.declared.members.Member.{Member}
use Rattle.pua_tool.specs.BesideFound.{ActorSeen, IsFoundWith, PartSeen, actor_seen, part_by, part_seen, silent_of}
use Rattle.pua_tool.specs.BesideTexts.{first_acting}
use Rattle.pua_tool.specs.declared.helped.Found.{Found}
use Rattle.pua_tool.specs.declared.helped.Part.{Part}

-- one more member
pub named_more : (members : List Member) (i : ℕ) (item : Member) → i < length members → item ≡ slice_index_or members i item →
    named_by (take (i + 1) members) ≡ named_by (take i members) ++ (item.number, item.process.now) ∷ []
named_more members i item within is =
    let here : Member = slice_index_or members i item in
    ap named_by (take_more members i item within)
    ∙ map-append (λ (m : Member). (m.number, m.process.now)) (take i members) (here ∷ [])
    ∙ ap (λ (m : Member). named_by (take i members) ++ (m.number, m.process.now) ∷ []) (sym is)

-- what is made of each member, one more of them
pub members_more : {A : Type 0} (f : ℕ × ProcessState → A) (members : List Member) (i : ℕ) (item : Member) → i < length members →
    item ≡ slice_index_or members i item →
    map f (named_by (take (i + 1) members)) ≡ map f (named_by (take i members)) ++ f (item.number, item.process.now) ∷ []
members_more f members i item within is =
    ap (map f) (named_more members i item within is)
    ∙ map-append f (named_by (take i members)) ((item.number, item.process.now) ∷ [])

-- what is made of each part, one more of them
pub parts_more : {A : Type 0} (f : Part → A) (parts : List Part) (i : ℕ) (item : Part) → i < length parts → item ≡ slice_index_or parts i item →
    map f (take (i + 1) parts) ≡ map f (take i parts) ++ f item ∷ []
parts_more f parts i item within is =
    let here : Part = slice_index_or parts i item in
    ap (map f) (take_more parts i item within)
    ∙ map-append f (take i parts) (here ∷ [])
    ∙ ap (λ (p : Part). map f (take i parts) ++ f p ∷ []) (sym is)

-- ---- those who act, as they are begun

abbrev silent_as : CallTable → ProcessState → ActorSeen
silent_as table h = silent_of (part_by table h)

abbrev first_of : {A : Type 0} → List A → A → A
first_of [] d = d
first_of (x ∷ xs) d = x

abbrev rest_of : {A : Type 0} → List A → List A
rest_of [] = []
rest_of (x ∷ xs) = xs

-- they say nothing yet, and are the processes
pub record Begun (table : CallTable) (actors : List Actor) (hs : List ProcessState) : Type 0 where
  pub silent : AllByRecursion (IsSilent table) actors
  pub processes : map process_of actors ≡ hs

pub begun : (table : CallTable) (actors : List Actor) (hs : List ProcessState) → map actor_seen actors ≡ map (silent_as table) hs →
    Begun table actors hs
begun table [] [] e = record { silent = tt; processes = refl }
begun table [] (h ∷ hs) e = absurd (omega (arith, ap length e))
begun table (m ∷ ms) [] e = absurd (omega (arith, ap length e))
begun table (m ∷ ms) (h ∷ hs) e =
    let first : actor_seen m ≡ silent_as table h = ap (λ (xs : List ActorSeen). first_of xs (silent_as table h)) e in
    let process : m.process.now ≡ h = ap (λ (s : ActorSeen). s.process) first in
    let more = begun table ms hs (ap (λ (xs : List ActorSeen). rest_of xs) e) in
    record {
      silent = (
        (ap (λ (s : ActorSeen). s.started) first ∙ ap (started_of table) (sym process), ap (λ (s : ActorSeen). s.execs) first),
        more.silent,
      );
      processes = λ i. process i ∷ more.processes i;
    }

-- parts that were made of processes, as those who act
pub seen_parts : (table : CallTable) (hs : List ProcessState) (parts : List Part) → map part_seen parts ≡ map (part_by table) hs →
    map (λ (part : Part). silent_of (part_seen part)) parts ≡ map (silent_as table) hs
seen_parts table [] [] e = refl
seen_parts table [] (p ∷ ps) e = absurd (omega (arith, ap length e))
seen_parts table (h ∷ hs) [] e = absurd (omega (arith, ap length e))
seen_parts table (h ∷ hs) (p ∷ ps) e =
    let first : part_seen p ≡ part_by table h = ap (λ (xs : List PartSeen). first_of xs (part_by table h)) e in
    let more = seen_parts table hs ps (ap (λ (xs : List PartSeen). rest_of xs) e) in
    λ i. silent_of (first i) ∷ more i

-- the parts of a process and of those who help it
pub parts_by : (table : CallTable) (h : ProcessState) (named : List (ℕ × ProcessState)) →
    part_by table h ∷ map (λ member. part_by table member.1) named ≡ map (part_by table) (h ∷ map (λ member. member.1) named)
parts_by table h [] = refl
parts_by table h (m ∷ ms) = λ i. part_by table h ∷ part_by table m.1 ∷ rest_of (parts_by table h ms i)

-- ---- what is found

-- somebody acts
pub none_told : (h : ProcessState) (hs : List ProcessState) (told : List Actor) → map (λ (m : Acting). m.process) (map acting_of told) ≡ h ∷ hs →
    length told ≡ 0 → ⊥
none_told h hs [] e none = omega (arith, ap length e)
none_told h hs (m ∷ told) e none = omega (arith, none)

module _ (t : Tree) (table : CallTable) (h : ProcessState) (hs : List ProcessState) where
  -- the rows of a process and of what it starts, as they are listed by facts
  abbrev RowsBy : Facts → Option (Bor ProcessState) → Found → Type 0
  RowsBy facts program found =
      (crew : List ProcessState) (given : Option ℕ) → AreFacts t table crew facts → now_of program ≡ option_map (as_started h) given →
      ((agent : ProcessState) → Contains (agents_of (h, given)) agent → Contains crew agent) →
      (test : Thing → Call → Bool) × TellsOfOne t table crew (agents_of (h, given)) test
      × AreEverTold t [] found.rows.items (joint_lines t h test) []

  pub found_told : (facts : Facts) (found : Found) (actors told : List Actor) (own : Actor) (rest : List Actor) (program : Option (Bor ProcessState)) →
      told ≡ own ∷ rest → Begun table actors (h ∷ hs) → AreActing t table (map process_of actors) (map acting_of told) →
      AreFacts t table (crew_by table (map acting_of told)) facts → AllByRecursion (HasProgram table) told →
      program ≡ program_of own → found.own ≡ own.execs → found.execs ≡ worst (map acting_of told) → RowsBy facts program found →
      IsFoundWith t table h hs found
  found_told facts found actors told own rest program is began acting holds programs counts own_is all listed =
      let one : Acting = first_acting h found.own in
      let heads : own.process.now ≡ h =
      ap (λ (xs : List ProcessState). first_of xs h)
      (ap (λ (ms : List Actor). map (λ (m : Acting). m.process) (map acting_of ms)) (sym is) ∙ acting.same ∙ began.processes) in
      let are : map acting_of told ≡ one ∷ map acting_of rest =
      ap (map acting_of) is ∙ (λ i. record { process = heads i; execs = sym own_is i } ∷ map acting_of rest) in
      let has : HasProgram table own = (subst (AllByRecursion (HasProgram table)) is programs).0 in
      let given : Option ℕ = handed_by found.own (bound_of table h) in
      let hands : now_of program ≡ option_map (as_started h) given =
      ap now_of counts
      ∙ ap (λ (x : ExecBound). now_of (program_by x own.started)) (sym own_is)
      ∙ program_given h found.own own.started (bound_of table h) (has ∙ ap (started_of table) heads) in
      let crew : List ProcessState = crew_by table (one ∷ map acting_of rest) in
      let within : (agent : ProcessState) → Contains (agents_of (h, given)) agent → Contains crew agent =
      λ agent among. contained crew agent
      (among_left (agents_by table one) (crew_by table (map acting_of rest)) agent (among_contained (agents_by table one) agent among)) in
      let rows = listed crew given (subst (λ (ms : List Acting). AreFacts t table (crew_by table ms) facts) are holds) hands within in
      record {
        more = map acting_of rest;
        acting = subst (λ (ms : List Acting). AreActing t table (h ∷ hs) ms) are
            (subst (λ (ps : List ProcessState). AreActing t table ps (map acting_of told)) began.processes acting);
        execs = all ∙ ap worst are;
        test = rows.0;
        tells = rows.1;
        rows = rows.2;
      }
