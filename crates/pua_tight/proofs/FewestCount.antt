-- The programs that count are the fewest also among those by which each process counts that has to: also where some count that need not.
use Rattle.std.proofs.Common.{◌≡◌, ◌≢◌, ◌≤◌, ◌<◌, ◌+◌, ℕ, zero, suc, List, [], ◌∷◌, length, refl, sym, ap, ◌∙◌, Bool, true, false, map, subst}
use Rattle.std.proofs.Common.{arith, inl, inr, set}
use Rattle.std.specs.List.{AllByRecursion}
use Rattle.std.specs.Prelude.{Option, Some, None, if◌then◌else◌, is_some, slice_get}
use Rattle.pua_tree.specs.Tree.{Tree}
use Rattle.pua_tree.proofs.ForCallers.{None≢Some, same_Some}
use Rattle.pua_calls.specs.Calls.{CallTable}
use Rattle.pua_calls.specs.Promises.{holds}
use Rattle.pua_calls.specs.declared.call.Call.TheVariants as call
use Rattle.pua_policy.specs.States.{ProcessState}
use Rattle.pua_objects.proofs.ForCallers.{Among, among_contained, among_either, among_left, among_right, contained}
use Rattle.pua_ever.specs.Through.{bound_of}
use Rattle.pua_ever.proofs.ForCallers.{bound_parts}
use Rattle.pua_ever.specs.declared.lasting_list.ExecBound.{ExecBound}
use Rattle.pua_ever.specs.declared.lasting_list.ExecBound.TheVariants.{Never, Bounded, Open}
use Rattle.pua_jointly.specs.Jointly.{agents_of, as_started}
use Rattle.pua_jointly.specs.JointPrograms.{Acting, AreActing, AreNoMore, HasExec, agents_by, crew_by, handed_by}
use Rattle.pua_jointly.proofs.ForCallers.{AreSoFar, so_far_all, so_far_first, so_far_more, then_starts}
use Rattle.pua_tight.specs.Narrower.{unset, within, StateWithin}
use Rattle.pua_tight.specs.JointLaws.{CrewWithin, processes_of}
use Rattle.pua_tight.proofs.CrewFacts.{given_more}
use Rattle.pua_tight.proofs.JointLines.{listed_too}
use Rattle.pua_tight.proofs.Within.{all_within, state_self}

-- one that acts within another: with all that it starts, where that counts
pub record ActsWithin (table : CallTable) (m o : Acting) : Type 0 where
  pub process : StateWithin m.process o.process
  pub counts : m.execs ≡ Bounded → o.execs ≡ Bounded
  pub bound : o.execs ≡ Bounded → bound_of table m.process ≢ None → bound_of table o.process ≢ None

abbrev pub AllWithin : CallTable → List Acting → List Acting → Type 0
AllWithin table [] [] = Unit {0}
AllWithin table [] (o ∷ os) = ⊥
AllWithin table (m ∷ ms) [] = ⊥
AllWithin table (m ∷ ms) (o ∷ os) = ActsWithin table m o × AllWithin table ms os

-- what is handed down in both
handed_more : (table : CallTable) (h k : ProcessState) → StateWithin h k → (a b : ℕ) → bound_of table h ≡ Some a → bound_of table k ≡ Some b →
    holds b a ≡ true
handed_more table h k less a b here there =
    let more = given_more less.execpromises (bound_parts table h a here).set in
    let same : more.0 ≡ b = same_Some more.0 b (sym more.1 ∙ (bound_parts table k b there).set) in
    subst (λ (n : ℕ). holds n a ≡ true) same more.2

started_within : (h k : ProcessState) → StateWithin h k → (a b : ℕ) → holds b a ≡ true → StateWithin (as_started h a) (as_started k b)
started_within h k less a b more = all_within (within more) unset less.veils less.locked less.start less.ended less.files

-- one of some processes has all that a process has
pub record OneWider (agents : List ProcessState) (h : ProcessState) : Type 0 where
  pub outer : ProcessState
  pub among : Among agents outer
  pub wider : StateWithin h outer

module _ (table : CallTable) where
  itself_there : (h k : ProcessState) → StateWithin h k → (given : Option ℕ) → OneWider (agents_of (k, given)) h
  itself_there h k less None = record { outer = k; among = inl refl; wider = less }
  itself_there h k less (Some b) = record { outer = k; among = inl refl; wider = less }

  moved : (agents : List ProcessState) {h g : ProcessState} → h ≡ g → OneWider agents h → OneWider agents g
  moved agents same = subst (OneWider agents) same

  pub agents_within : (m o : Acting) → ActsWithin table m o → (a : ProcessState) → Among (agents_by table m) a → OneWider (agents_by table o) a
  agents_within m o less a there =
      by m.execs (bound_of table m.process) refl refl there
    where
      own : m.process ≡ a → OneWider (agents_by table o) a
      own same = moved (agents_by table o) same (itself_there m.process o.process less.process (handed_by o.execs (bound_of table o.process)))

      started : (given : ℕ) → m.execs ≡ Bounded → bound_of table m.process ≡ Some given → OneWider (agents_by table o) (as_started m.process given)
      started given is bound =
          find (bound_of table o.process) refl
        where
          counts : o.execs ≡ Bounded
          counts = less.counts is

          find : (other : Option ℕ) → bound_of table o.process ≡ other → OneWider (agents_by table o) (as_started m.process given)
          find None none = absurd (less.bound counts (λ e. None≢Some given (sym e ∙ bound)) none)
          find (Some handed) some = record {
            outer = as_started o.process handed;
            among = subst (λ (x : Option ℕ). Among (agents_of (o.process, x)) (as_started o.process handed))
                (sym (ap (λ (x : ExecBound). handed_by x (bound_of table o.process)) counts ∙ some)) (inr (inl refl));
            wider = started_within m.process o.process less.process given handed
                (handed_more table m.process o.process less.process given handed bound some);
          }

      by : (x : ExecBound) (given : Option ℕ) → m.execs ≡ x → bound_of table m.process ≡ given →
          Among (agents_of (m.process, handed_by x given)) a → OneWider (agents_by table o) a
      by Never given is bound (inl same) = own same
      by Never given is bound (inr none) = absurd none
      by Open given is bound (inl same) = own same
      by Open given is bound (inr none) = absurd none
      by Bounded None is bound (inl same) = own same
      by Bounded None is bound (inr none) = absurd none
      by Bounded (Some given) is bound (inl same) = own same
      by Bounded (Some given) is bound (inr (inl same)) = moved (agents_by table o) same (started given is bound)
      by Bounded (Some given) is bound (inr (inr none)) = absurd none

  among_within : (ms os : List Acting) → AllWithin table ms os → (a : ProcessState) → Among (crew_by table ms) a → OneWider (crew_by table os) a
  among_within [] [] less a there = absurd there
  among_within [] (o ∷ os) less a there = absurd less
  among_within (m ∷ ms) [] less a there = absurd less
  among_within (m ∷ ms) (o ∷ os) less a there = elim (among_either (agents_by table m) (crew_by table ms) a there) [
    | inl here ↦
        (let one = agents_within m o less.0 a here in
        record { outer = one.outer; among = among_left (agents_by table o) (crew_by table os) one.outer one.among; wider = one.wider })
    | inr later ↦
        (let one = among_within ms os less.1 a later in
        record { outer = one.outer; among = among_right (agents_by table o) (crew_by table os) one.outer one.among; wider = one.wider })
  ]

  pub crew_within : (ms os : List Acting) → AllWithin table ms os → CrewWithin (crew_by table ms) (crew_by table os)
  crew_within ms os less a there =
      let one = among_within ms os less a (among_contained (crew_by table ms) a there) in
      record { outer = one.outer; among = contained (crew_by table os) one.outer one.among; within = one.wider }

  -- of the same processes
  same_within : (ms os : List Acting) → AreNoMore ms os → AllWithin table ms os
  same_within [] [] less = tt
  same_within [] (o ∷ os) less = absurd less
  same_within (m ∷ ms) [] less = absurd less
  same_within (m ∷ ms) (o ∷ os) less = (
    record {
      process = subst (StateWithin m.process) less.0.0 (state_self m.process);
      counts = less.0.1;
      bound = λ counts some none. some (ap (bound_of table) less.0.0 ∙ none);
    },
    same_within ms os less.1,
  )

-- the words are apart
never_bounded : Never ≡ Bounded → ⊥
never_bounded e = cc

open_bounded : Open ≡ Bounded → ⊥
open_bounded e = cc

abbrev first_in : List ProcessState → ProcessState → ProcessState
first_in [] h = h
first_in (x ∷ xs) h = x

abbrev rest_of : List ProcessState → List ProcessState
rest_of [] = []
rest_of (x ∷ xs) = xs

-- who lies within another one starts what that starts
pub exec_too : (t : Tree) (table : CallTable) (crew others : List ProcessState) → CrewWithin crew others → (h k : ProcessState) →
    StateWithin h k → HasExec t table crew h → HasExec t table others k
exec_too t table crew others each h k less has = record {
  thing = has.thing;
  listed = listed_too t table crew others each h k less has.thing call.Exec has.listed;
}

module _ (t : Tree) (table : CallTable) where
  -- one counts if it has to
  abbrev pub CountsIf : List ProcessState → Acting → Type 0
  CountsIf crew o = HasExec t table crew o.process → bound_of table o.process ≢ None → o.execs ≡ Bounded

  -- how many say that they start nothing
  abbrev silent_in : ExecBound → ℕ
  silent_in Never = 1
  silent_in Bounded = 0
  silent_in Open = 0

  abbrev silent : List Acting → ℕ
  silent [] = 0
  silent (m ∷ ms) = silent_in m.execs + silent ms

  at_places : (P : Acting → Type 0) (ms : List Acting) → ((i : ℕ) (m : Acting) → slice_get ms i ≡ Some m → P m) → AllByRecursion P ms
  at_places P [] at = tt
  at_places P (m ∷ ms) at = (at 0 m refl, at_places P ms (λ i one here. at (suc i) one here))

  module _ (one : Acting) (never : one.execs ≡ Never) where
    abbrev next : Acting
    next = then_starts t table one

    speaks : silent_in next.execs ≡ 0
    speaks = by (is_some (bound_of table one.process))
      where
        by : (b : Bool) → silent_in (if b then Bounded else Open) ≡ 0
        by true = refl
        by false = refl

    fewer : (ms : List Acting) (i : ℕ) → slice_get ms i ≡ Some one → silent (set ms i next) < silent ms
    fewer [] i here = absurd (None≢Some one here)
    fewer (m ∷ ms) zero here =
        let was : silent_in m.execs ≡ 1 = ap (λ (q : Acting). silent_in q.execs) (same_Some m one here) ∙ ap silent_in never in
        omega (arith, was, speaks)
    fewer (m ∷ ms) (suc i) here = let less = fewer ms i here in omega (arith, less)

    bounded_by : (o : Option ℕ) → (if is_some o then Bounded else Open) ≡ Bounded → o ≡ None → ⊥
    bounded_by None unbound none = open_bounded unbound
    bounded_by (Some given) counts none = None≢Some given (sym none)

    no_more_set : (crew : List ProcessState) → HasExec t table crew one.process → (ms os : List Acting) (i : ℕ) → AreNoMore ms os →
        slice_get ms i ≡ Some one → AllByRecursion (CountsIf crew) os → AreNoMore (set ms i next) os
    no_more_set crew exec [] os i less here have = absurd (None≢Some one here)
    no_more_set crew exec (m ∷ ms) [] i less here have = absurd less
    no_more_set crew exec (m ∷ ms) (o ∷ os) zero less here have =
        let same : one.process ≡ o.process = sym (ap (λ (q : Acting). q.process) (same_Some m one here)) ∙ less.0.0 in (
          (
            same,
            λ counts. have.0 (subst (HasExec t table crew) same exec)
                (λ none. bounded_by (bound_of table one.process) counts (ap (bound_of table) same ∙ none)),
          ),
          less.1,
        )
    no_more_set crew exec (m ∷ ms) (o ∷ os) (suc i) less here have = (less.0, no_more_set crew exec ms os i less.1 here have.1)

  abbrev Still : List Acting → Acting → Type 0
  Still ms m = m.execs ≡ Never → HasExec t table (crew_by table ms) m.process → ⊥

  -- one after another counts that has to: who counts in the end counts where each does that has to, unless that is refuted
  reaches : (hs : List ProcessState) (os : List Acting) → AllByRecursion (CountsIf (crew_by table os)) os →
      ((ms : List Acting) → AreActing t table hs ms → AreNoMore ms os → ⊥) → (n : ℕ) (ms : List Acting) → silent ms ≤ n →
      AreSoFar t table hs ms → AreNoMore ms os → ⊥
  reaches hs os have refuted zero ms few so less = refuted ms (so_far_all t table hs ms so (at_places (Still ms) ms
      (λ i one here never exec. let fewer_now = fewer one never ms i here in absurd (omega (arith, fewer_now, few))))) less
  reaches hs os have refuted (suc n) ms few so less = refuted ms (so_far_all t table hs ms so (at_places (Still ms) ms
      (λ i one here never exec.
      let fewer_now = fewer one never ms i here in
      reaches hs os have refuted n (set ms i (then_starts t table one)) (omega (arith, fewer_now, few))
      (so_far_more t table one never hs ms i so here exec)
      (no_more_set one never (crew_by table os) (exec_too t table (crew_by table ms) (crew_by table os)
      (crew_within table ms os (same_within table ms os less)) one.process one.process (state_self one.process) exec)
      ms os i less here have)))) less

  -- before anyone counts
  abbrev quiet : Acting → Acting
  quiet o = record o { execs = Never }

  abbrev first_of : List Acting → List Acting
  first_of os = map quiet os

  first_processes : (os : List Acting) → processes_of (first_of os) ≡ processes_of os
  first_processes [] = refl
  first_processes (o ∷ os) = ap (λ hs. o.process ∷ hs) (first_processes os)

  first_silent : (os : List Acting) → AllByRecursion (λ (m : Acting). m.execs ≡ Never) (first_of os)
  first_silent [] = tt
  first_silent (o ∷ os) = (refl, first_silent os)

  first_no_more : (os : List Acting) → AreNoMore (first_of os) os
  first_no_more [] = tt
  first_no_more (o ∷ os) = ((refl, λ counts. absurd (never_bounded counts)), first_no_more os)

  no_more_then : (ms xs os : List Acting) → AreNoMore ms xs → AreNoMore xs os → AreNoMore ms os
  no_more_then [] [] os first second = second
  no_more_then [] (x ∷ xs) os first second = absurd first
  no_more_then (m ∷ ms) [] os first second = absurd first
  no_more_then (m ∷ ms) (x ∷ xs) [] first second = absurd second
  no_more_then (m ∷ ms) (x ∷ xs) (o ∷ os) first second =
      ((first.0.0 ∙ second.0.0, λ counts. second.0.1 (first.0.1 counts)), no_more_then ms xs os first.1 second.1)

  -- what isn't refuted of these words is so
  unrefuted : (ms os : List Acting) → processes_of ms ≡ processes_of os → ((AreNoMore ms os → ⊥) → ⊥) → AreNoMore ms os
  unrefuted [] [] same not_never = tt
  unrefuted [] (o ∷ os) same not_never = absurd (omega (arith, ap length same))
  unrefuted (m ∷ ms) [] same not_never = absurd (omega (arith, ap length same))
  unrefuted (m ∷ ms) (o ∷ os) same not_never = (
    (ap (λ hs. first_in hs m.process) same, λ counts. by o.execs refl (λ other. not_never (λ less. other (less.0.1 counts)))),
    unrefuted ms os (ap rest_of same) (λ never. not_never (λ less. never less.1)),
  )
    where
      by : (x : ExecBound) → o.execs ≡ x → ((o.execs ≡ Bounded → ⊥) → ⊥) → o.execs ≡ Bounded
      by Bounded is some = is
      by Never is some = absurd (some (λ counts. never_bounded (sym is ∙ counts)))
      by Open is some = absurd (some (λ counts. open_bounded (sym is ∙ counts)))

  -- so where each counts that has to, each counts that does with the fewest
  pub fewest_count : (hs : List ProcessState) (ms os : List Acting) → AreActing t table hs ms → processes_of os ≡ hs →
      AllByRecursion (CountsIf (crew_by table os)) os → AreNoMore ms os
  fewest_count hs ms os acting same have = unrefuted ms os (acting.same ∙ sym same) (λ never.
      reaches hs os have (λ xs others less. never (no_more_then ms xs os (acting.fewest xs others.same others.said) less))
      (silent (first_of os)) (first_of os) (omega arith)
      (subst (λ gs. AreSoFar t table gs (first_of os)) (first_processes os ∙ same) (so_far_first t table (first_of os) (first_silent os)))
      (first_no_more os))
