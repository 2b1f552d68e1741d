-- Whose programs count is found one after another: each of them has to, and in the end no other has.
use Rattle.pua_jointly.proofs.Common.{◌≡◌, ◌≢◌, ◌<◌, ◌⊎◌, ◌∙◌, ◌∷◌, ◌++◌, [], ℕ, suc, zero, Bool, true, false, List, length, map, refl, sym, ap, subst, inl, inr}
use Rattle.pua_jointly.proofs.Common.{Option, Some, None, option_map, same_Some, None≢Some, Some≢None, is_some, false≢true, flat_map, if◌then◌else◌, arith}
use Rattle.pua_jointly.proofs.Common.{CallTable, ProcessState, Tree, Among, among_left, among_right, among_contained, contained}
use Rattle.std.specs.Prelude.{⊤, filter, slice_get}
use Rattle.std.specs.Borrow.{Bor}
use Rattle.std.specs.List.{AllByRecursion, Contains}
use Rattle.std.proofs.Common.{set}
use Rattle.pua_objects.proofs.ForCallers.{among_either}
use Rattle.pua_ever.specs.Through.{bound_of}
use Rattle.pua_ever.specs.declared.lasting_list.ExecBound.{ExecBound}
use Rattle.pua_ever.specs.declared.lasting_list.ExecBound.TheVariants.{Never, Bounded, Open}
use Rattle.pua_jointly.specs.Jointly.{agents_of, as_started}
use Rattle.pua_jointly.specs.JointPrograms.{Acting, AreActing, AreNoMore, AreSaid, CountsToo, HasExec, HasProgram, IsSaidOf, IsSilent}
use Rattle.pua_jointly.specs.JointPrograms.{acting_now, acting_of, agents_by, crew_by, handed_by, kept_of, now_of, process_of}
use Rattle.pua_jointly.specs.JointPrograms.{program_by, started_now, starting}
use Rattle.pua_jointly.specs.declared.counting.Actor.{Actor}
use Rattle.pua_jointly.proofs.JointlyGrows.{joint_lists_grow}

-- who counts more acts by no less
itself_too : (h : ProcessState) (o : Option ℕ) (a : ProcessState) → Among (h ∷ []) a → Among (agents_of (h, o)) a
itself_too h None a has = has
itself_too h (Some g) a (inl e) = inl e
itself_too h (Some g) a (inr none) = absurd none

agents_more : (h : ProcessState) (given : Option ℕ) (x y : ExecBound) → (x ≡ Bounded → y ≡ Bounded) → (a : ProcessState) →
    Among (agents_of (h, handed_by x given)) a → Among (agents_of (h, handed_by y given)) a
agents_more h given Never y w a has = itself_too h (handed_by y given) a has
agents_more h given Bounded y w a has = subst (λ z. Among (agents_of (h, handed_by z given)) a) (sym (w refl)) has
agents_more h given Open y w a has = itself_too h (handed_by y given) a has

agents_too : (table : CallTable) (m o : Acting) → CountsToo m o → (a : ProcessState) → Among (agents_by table m) a → Among (agents_by table o) a
agents_too table m o w a has =
    subst (λ h. Among (agents_of (h, handed_by o.execs (bound_of table h))) a) w.0
    (agents_more m.process (bound_of table m.process) m.execs o.execs w.1 a has)

among_more : (table : CallTable) (ms os : List Acting) → AreNoMore ms os → (a : ProcessState) → Among (crew_by table ms) a → Among (crew_by table os) a
among_more table [] [] w a has = has
among_more table [] (o ∷ os) w a has = absurd w
among_more table (m ∷ ms) [] w a has = absurd w
among_more table (m ∷ ms) (o ∷ os) w a has = elim (among_either (agents_by table m) (crew_by table ms) a has) [
  | inl here ↦ among_left (agents_by table o) (crew_by table os) a (agents_too table m o w.0 a here)
  | inr later ↦ among_right (agents_by table o) (crew_by table os) a (among_more table ms os w.1 a later)
]

crew_more : (table : CallTable) (ms os : List Acting) → AreNoMore ms os → (a : ProcessState) → Contains (crew_by table ms) a → Contains (crew_by table os) a
crew_more table ms os w a has = contained (crew_by table os) a (among_more table ms os w a (among_contained (crew_by table ms) a has))

module _ (t : Tree) (table : CallTable) where
  exec_more : (ms os : List Acting) → AreNoMore ms os → (a : ProcessState) → HasExec t table (crew_by table ms) a → HasExec t table (crew_by table os) a
  exec_more ms os w a has = record {
    thing = has.thing;
    listed = joint_lists_grow t table (crew_by table ms) (crew_by table os) (crew_more table ms os w) a has.thing _ has.listed;
  }

  -- what was said so far is so: of who says that it never starts one it isn't known yet
  abbrev SoFar : List ProcessState → ProcessState → ExecBound → Type 0
  SoFar crew h Never = ⊤
  SoFar crew h Bounded = HasExec t table crew h × (bound_of table h ≢ None)
  SoFar crew h Open = HasExec t table crew h × (bound_of table h ≡ None)

  abbrev SoFarOf : List ProcessState → Acting → Type 0
  SoFarOf crew m = SoFar crew m.process m.execs

  abbrev SaidOf : List ProcessState → Acting → Type 0
  SaidOf crew m = IsSaidOf t table crew m.process m.execs

  so_more : (ms os : List Acting) → AreNoMore ms os → (h : ProcessState) (x : ExecBound) → SoFar (crew_by table ms) h x → SoFar (crew_by table os) h x
  so_more ms os w h Never so = tt
  so_more ms os w h Bounded so = (exec_more ms os w h so.0, so.1)
  so_more ms os w h Open so = (exec_more ms os w h so.0, so.1)

  all_more : (ms os : List Acting) → AreNoMore ms os → (xs : List Acting) → AllByRecursion (SoFarOf (crew_by table ms)) xs →
      AllByRecursion (SoFarOf (crew_by table os)) xs
  all_more ms os w [] so = tt
  all_more ms os w (x ∷ xs) so = (so_more ms os w x.process x.execs so.0, all_more ms os w xs so.1)

  pub record AreSoFar (hs : List ProcessState) (ms : List Acting) : Type 0 where
    pub same : map (λ m. m.process) ms ≡ hs
    pub so : AllByRecursion (SoFarOf (crew_by table ms)) ms
    pub fewest : (others : List Acting) → map (λ m. m.process) others ≡ hs → AreSaid t table others → AreNoMore ms others

  -- before anything is said
  abbrev first_of : List ProcessState → ProcessState → ProcessState
  first_of [] h = h
  first_of (x ∷ xs) h = x

  abbrev rest_of : List ProcessState → List ProcessState
  rest_of [] = []
  rest_of (x ∷ xs) = xs

  abbrev AreNever : List Acting → Type 0
  AreNever = AllByRecursion (λ m. m.execs ≡ Never)

  abbrev is_bounded_list : ExecBound → Bool
  is_bounded_list Bounded = true
  is_bounded_list Never = false
  is_bounded_list Open = false

  never_bounded : (x : ExecBound) → x ≡ Never → x ≡ Bounded → ⊥
  never_bounded x is e = false≢true (ap is_bounded_list (sym is ∙ e))

  no_more_than : (ms os : List Acting) → AreNever ms → map (λ m. m.process) ms ≡ map (λ m. m.process) os → AreNoMore ms os
  no_more_than [] [] all e = tt
  no_more_than [] (o ∷ os) all e = absurd (omega (arith, ap length e))
  no_more_than (m ∷ ms) [] all e = absurd (omega (arith, ap length e))
  no_more_than (m ∷ ms) (o ∷ os) all e = (
    (ap (λ xs. first_of xs m.process) e, λ is. absurd (never_bounded m.execs all.0 is)),
    no_more_than ms os all.1 (ap rest_of e),
  )

  so_of_never : (crew : List ProcessState) (ms : List Acting) → AreNever ms → AllByRecursion (SoFarOf crew) ms
  so_of_never crew [] all = tt
  so_of_never crew (m ∷ ms) all = (subst (SoFar crew m.process) (sym all.0) tt, so_of_never crew ms all.1)

  pub so_far_first : (ms : List Acting) → AreNever ms → AreSoFar (map (λ m. m.process) ms) ms
  so_far_first ms all = record {
    same = refl;
    so = so_of_never (crew_by table ms) ms all;
    fewest = λ others same said. no_more_than ms others all (sym same);
  }

  -- once the list of one has exec
  abbrev pub then_starts : Acting → Acting
  then_starts m = record m { execs = if is_some (bound_of table m.process) then Bounded else Open }

  self_no_more : (ms : List Acting) → AreNoMore ms ms
  self_no_more [] = tt
  self_no_more (m ∷ ms) = ((refl, λ e. e), self_no_more ms)

  module _ (one : Acting) (never : one.execs ≡ Never) where
    abbrev next : Acting
    next = then_starts one

    grown : (ms : List Acting) (i : ℕ) → slice_get ms i ≡ Some one → AreNoMore ms (set ms i next)
    grown [] i e = absurd (None≢Some one e)
    grown (m ∷ ms) zero e =
        let same : m ≡ one = same_Some m one e in (
          (ap (λ (q : Acting). q.process) same, λ is. absurd (never_bounded one.execs never (sym (ap (λ (q : Acting). q.execs) same) ∙ is))),
          self_no_more ms,
        )
    grown (m ∷ ms) (suc i) e = ((refl, λ is. is), grown ms i e)

    same_processes : (ms : List Acting) (i : ℕ) → slice_get ms i ≡ Some one → map (λ m. m.process) (set ms i next) ≡ map (λ m. m.process) ms
    same_processes [] i e = absurd (None≢Some one e)
    same_processes (m ∷ ms) zero e = ap (λ h. h ∷ map (λ (q : Acting). q.process) ms) (sym (ap (λ (q : Acting). q.process) (same_Some m one e)))
    same_processes (m ∷ ms) (suc i) e = ap (λ hs. m.process ∷ hs) (same_processes ms i e)

    all_set : (P : Acting → Type 0) (ms : List Acting) (i : ℕ) → AllByRecursion P ms → P next → AllByRecursion P (set ms i next)
    all_set P [] i all here = tt
    all_set P (m ∷ ms) zero all here = (here, all.1)
    all_set P (m ∷ ms) (suc i) all here = (all.0, all_set P ms i all.1 here)

    said_next : (crew : List ProcessState) → HasExec t table crew one.process → SoFarOf crew next
    said_next crew exec = by (bound_of table one.process) refl
      where
        by : (o : Option ℕ) → bound_of table one.process ≡ o → SoFar crew one.process (if is_some (bound_of table one.process) then Bounded else Open)
        by None is = subst (λ (b : Bool). SoFar crew one.process (if b then Bounded else Open)) (sym (ap is_some is)) (exec, is)
        by (Some given) is =
            subst (λ (b : Bool). SoFar crew one.process (if b then Bounded else Open)) (sym (ap is_some is))
            (exec, λ none. Some≢None given (sym is ∙ none))

    -- who starts bounded programs by this has to in whatever is said right
    counts : (crew : List ProcessState) (h : ProcessState) (x : ExecBound) → one.process ≡ h → HasExec t table crew h → IsSaidOf t table crew h x →
        next.execs ≡ Bounded → x ≡ Bounded
    counts crew h Bounded same exec said is = refl
    counts crew h Never same exec said is = absurd (said exec)
    counts crew h Open same exec said is =
        absurd (never_bounded_by (ap is_some (ap (bound_of table) same ∙ said.1)) is)
      where
        never_bounded_by : is_some (bound_of table one.process) ≡ false → (if is_some (bound_of table one.process) then Bounded else Open) ≡ Bounded → ⊥
        never_bounded_by none e = false≢true (ap is_bounded_list (sym (ap (λ (b : Bool). if b then Bounded else Open) none) ∙ e))

    no_more_set : (crew : List ProcessState) → HasExec t table crew one.process → (ms os : List Acting) (i : ℕ) → AreNoMore ms os →
        slice_get ms i ≡ Some one → AllByRecursion (SaidOf crew) os → AreNoMore (set ms i next) os
    no_more_set crew exec [] os i w e said = absurd (None≢Some one e)
    no_more_set crew exec (m ∷ ms) [] i w e said = absurd w
    no_more_set crew exec (m ∷ ms) (o ∷ os) zero w e said =
        let same : one.process ≡ o.process = sym (ap (λ (q : Acting). q.process) (same_Some m one e)) ∙ w.0.0 in
        ((same, counts crew o.process o.execs same (subst (HasExec t table crew) same exec) said.0), w.1)
    no_more_set crew exec (m ∷ ms) (o ∷ os) (suc i) w e said = (w.0, no_more_set crew exec ms os i w.1 e said.1)

    pub so_far_more : (hs : List ProcessState) (ms : List Acting) (i : ℕ) → AreSoFar hs ms → slice_get ms i ≡ Some one →
        HasExec t table (crew_by table ms) one.process → AreSoFar hs (set ms i next)
    so_far_more hs ms i so here exec =
        let more = grown ms i here in
        record {
          same = same_processes ms i here ∙ so.same;
          so = all_set (SoFarOf (crew_by table (set ms i next))) ms i (all_more ms (set ms i next) more ms so.so)
              (said_next (crew_by table (set ms i next)) (exec_more ms (set ms i next) more one.process exec));
          fewest = λ others same said.
              let within = so.fewest others same said in
              no_more_set (crew_by table others) (exec_more ms others within one.process exec) ms others i within here said;
        }

  -- and at the end
  all_said : (crew : List ProcessState) (ms : List Acting) → AllByRecursion (SoFarOf crew) ms →
      AllByRecursion (λ (m : Acting). m.execs ≡ Never → HasExec t table crew m.process → ⊥) ms → AllByRecursion (SaidOf crew) ms
  all_said crew [] so none = tt
  all_said crew (m ∷ ms) so none = (by m.execs refl so.0, all_said crew ms so.1 none.1)
    where
      by : (x : ExecBound) → m.execs ≡ x → SoFar crew m.process x → IsSaidOf t table crew m.process x
      by Never is here = none.0 is
      by Bounded is here = here
      by Open is here = here

  pub so_far_all : (hs : List ProcessState) (ms : List Acting) → AreSoFar hs ms →
      AllByRecursion (λ (m : Acting). m.execs ≡ Never → HasExec t table (crew_by table ms) m.process → ⊥) ms → AreActing t table hs ms
  so_far_all hs ms so none = record { same = so.same; said = all_said (crew_by table ms) ms so.so none; fewest = so.fewest }

-- ---- what is kept of them

-- who acts is the crew
program_acts : (table : CallTable) (h : ProcessState) (x : ExecBound) (started : Option (Bor ProcessState)) (given : Option ℕ) →
    now_of started ≡ option_map (as_started h) given → h ∷ started_now (program_by x started) ≡ agents_of (h, handed_by x given)
program_acts table h Never started given e = refl
program_acts table h Open started given e = refl
program_acts table h Bounded None None e = refl
program_acts table h Bounded (Some p) (Some g) e = ap (λ q. h ∷ q ∷ []) (same_Some p.now (as_started h g) e)
program_acts table h Bounded None (Some g) e = absurd (None≢Some (as_started h g) e)
program_acts table h Bounded (Some p) None e = absurd (Some≢None p.now e)

-- what counts of what a process starts
pub program_given : (h : ProcessState) (x : ExecBound) (started : Option (Bor ProcessState)) (given : Option ℕ) →
    now_of started ≡ option_map (as_started h) given → now_of (program_by x started) ≡ option_map (as_started h) (handed_by x given)
program_given h Never started given e = refl
program_given h Bounded started given e = e
program_given h Open started given e = refl

pub crew_is : (table : CallTable) (ms : List Actor) → AllByRecursion (HasProgram table) ms → flat_map acting_now ms ≡ crew_by table (map acting_of ms)
crew_is table [] all = refl
crew_is table (m ∷ ms) all =
    λ z. program_acts table m.process.now m.execs m.started (bound_of table m.process.now) all.0 z ++ crew_is table ms all.1 z

pub each_in_crew : (table : CallTable) (ms : List Actor) → AllByRecursion (λ m. Contains (crew_by table (map acting_of ms)) (process_of m)) ms
each_in_crew table ms = by ms (map acting_of ms) (λ a here. here)
  where
    by : (xs : List Actor) (all : List Acting) → ((a : ProcessState) → Among (crew_by table (map acting_of xs)) a → Among (crew_by table all) a) →
        AllByRecursion (λ m. Contains (crew_by table all) (process_of m)) xs
    by [] all within = tt
    by (x ∷ xs) all within = (
      contained (crew_by table all) (process_of x)
          (within (process_of x) (among_left (agents_by table (acting_of x)) (crew_by table (map acting_of xs)) (process_of x)
          (itself_too (process_of x) (handed_by x.execs (bound_of table (process_of x))) (process_of x) (inl refl)))),
      by xs all (λ a here. within a (among_right (agents_by table (acting_of x)) (crew_by table (map acting_of xs)) a here)),
    )

-- what is said of one more
some_program : (h : ProcessState) (started : Option (Bor ProcessState)) (given : Option ℕ) → now_of started ≡ option_map (as_started h) given →
    is_some started ≡ is_some given
some_program h None None e = refl
some_program h (Some p) (Some g) e = refl
some_program h None (Some g) e = absurd (None≢Some (as_started h g) e)
some_program h (Some p) None e = absurd (Some≢None p.now e)

module _ (table : CallTable) where
  then_is : (m : Actor) → HasProgram table m → acting_of (starting m) ≡ record (acting_of m) {
    execs = if is_some (bound_of table m.process.now) then Bounded else Open;
  }
  then_is m has = λ z. record {
    process = m.process.now;
    execs = if some_program m.process.now m.started (bound_of table m.process.now) has z then Bounded else Open;
  }

  pub acting_set : (ms : List Actor) (i : ℕ) (m : Actor) → slice_get ms i ≡ Some m → HasProgram table m →
      map acting_of (set ms i (starting m)) ≡ set (map acting_of ms) i (record (acting_of m) {
        execs = if is_some (bound_of table m.process.now) then Bounded else Open;
      })
  acting_set [] i m e has = absurd (None≢Some m e)
  acting_set (n ∷ ms) zero m e has = ap (λ a. a ∷ map acting_of ms) (then_is m has)
  acting_set (n ∷ ms) (suc i) m e has = ap (λ more. acting_of n ∷ more) (acting_set ms i m e has)

  pub programs_set : (ms : List Actor) (i : ℕ) (m : Actor) → HasProgram table m → AllByRecursion (HasProgram table) ms →
      AllByRecursion (HasProgram table) (set ms i (starting m))
  programs_set [] i m has all = tt
  programs_set (n ∷ ms) zero m has all = (has, all.1)
  programs_set (n ∷ ms) (suc i) m has all = (all.0, programs_set ms i m has all.1)

  pub program_at : (ms : List Actor) (i : ℕ) (m : Actor) → slice_get ms i ≡ Some m → AllByRecursion (HasProgram table) ms → HasProgram table m
  program_at [] i m e all = absurd (None≢Some m e)
  program_at (n ∷ ms) zero m e all = subst (HasProgram table) (same_Some n m e) all.0
  program_at (n ∷ ms) (suc i) m e all = program_at ms i m e all.1

  pub silent_parts : (ms : List Actor) → AllByRecursion (IsSilent table) ms →
      AllByRecursion (HasProgram table) ms × AllByRecursion (λ (m : Acting). m.execs ≡ Never) (map acting_of ms)
  silent_parts [] all = (tt, tt)
  silent_parts (m ∷ ms) all = let more = silent_parts ms all.1 in ((all.0.0, more.0), (all.0.1, more.1))

pub kept_set : (ms : List Actor) (i : ℕ) (m : Actor) → slice_get ms i ≡ Some m → map kept_of (set ms i (starting m)) ≡ map kept_of ms
kept_set [] i m e = absurd (None≢Some m e)
kept_set (n ∷ ms) zero m e = ap (λ k. k ∷ map kept_of ms) (sym (ap kept_of (same_Some n m e)))
kept_set (n ∷ ms) (suc i) m e = ap (λ more. kept_of n ∷ more) (kept_set ms i m e)

pub acting_got : (ms : List Actor) (i : ℕ) (a : Acting) → slice_get (map acting_of ms) i ≡ Some a →
    (m : Actor) × (slice_get ms i ≡ Some m) × (acting_of m ≡ a)
acting_got [] i a e = absurd (None≢Some a e)
acting_got (m ∷ ms) zero a e = (m, refl, same_Some (acting_of m) a e)
acting_got (m ∷ ms) (suc i) a e = acting_got ms i a e

pub same_processes_of : (ms : List Actor) → map (λ (a : Acting). a.process) (map acting_of ms) ≡ map process_of ms
same_processes_of [] = refl
same_processes_of (m ∷ ms) = ap (λ hs. process_of m ∷ hs) (same_processes_of ms)

-- ever fewer say that they never start one
abbrev is_never : ExecBound → Bool
is_never Never = true
is_never Bounded = false
is_never Open = false

abbrev pub silent : List Actor → ℕ
silent ms = length (filter (λ m. is_never m.execs) ms)

pub fewer_silent : (ms : List Actor) (i : ℕ) (m : Actor) → slice_get ms i ≡ Some m → m.execs ≡ Never → silent (set ms i (starting m)) < silent ms
fewer_silent [] i m e none = absurd (None≢Some m e)
fewer_silent (n ∷ ms) zero m e none = by (is_never n.execs) (is_never (starting m).execs)
    (ap is_never (ap (λ (q : Actor). q.execs) (same_Some n m e) ∙ none)) (says (is_some m.started))
  where
    says : (b : Bool) → is_never (if b then Bounded else Open) ≡ false
    says true = refl
    says false = refl

    by : (b c : Bool) → b ≡ true → c ≡ false →
        length (if c then starting m ∷ filter (λ (q : Actor). is_never q.execs) ms else filter (λ (q : Actor). is_never q.execs) ms)
        < length (if b then n ∷ filter (λ (q : Actor). is_never q.execs) ms else filter (λ (q : Actor). is_never q.execs) ms)
    by true false x y = omega arith
    by false c x y = absurd (false≢true x)
    by true true x y = absurd (false≢true (sym y))
fewer_silent (n ∷ ms) (suc i) m e none = by (is_never n.execs) (fewer_silent ms i m e none)
  where
    by : (b : Bool) → silent (set ms i (starting m)) < silent ms →
        length (if b then n ∷ filter (λ (q : Actor). is_never q.execs) (set ms i (starting m))
        else filter (λ (q : Actor). is_never q.execs) (set ms i (starting m)))
        < length (if b then n ∷ filter (λ (q : Actor). is_never q.execs) ms else filter (λ (q : Actor). is_never q.execs) ms)
    by true less = omega (arith, less)
    by false less = less

-- whether one starts programs after all
is_never_not : (x : ExecBound) → (x ≡ Bounded) ⊎ (x ≡ Open) → is_never x ≡ false
is_never_not x (inl e) = ap is_never e
is_never_not x (inr e) = ap is_never e

pub other_bound : (x : ExecBound) → (x ≡ Bounded) ⊎ (x ≡ Open) → x ≡ Never → ⊥
other_bound x other e = false≢true (sym (is_never_not x other) ∙ ap is_never e)
