-- Several processes of a thinned script, with what they start where that counts, come to no more than those of the given one.
use Rattle.std.proofs.Common.{◌≡◌, ◌≢◌, List, [], ◌∷◌, refl, map, subst, inl, inr}
use Rattle.std.specs.List.{AllByRecursion, Contains}
use Rattle.std.specs.Prelude.{Option, Some, None}
use Rattle.pua_tree.specs.Tree.{Tree}
use Rattle.pua_tree.proofs.ForCallers.{None≢Some, same_Some}
use Rattle.pua_calls.specs.Calls.{CallTable}
use Rattle.pua_calls.specs.declared.call.Call.{Call}
use Rattle.pua_policy.specs.States.{ProcessState}
use Rattle.pua_script.specs.Replay.{World, world_after}
use Rattle.pua_objects.proofs.ForCallers.{Among, among_contained, among_map, contained}
use Rattle.pua_ever.specs.Ever.{Thing}
use Rattle.pua_ever.specs.Through.{bound_of}
use Rattle.pua_ever.specs.declared.lasting_list.ExecBound.{ExecBound}
use Rattle.pua_ever.specs.declared.lasting_list.ExecBound.TheVariants.{Never, Bounded, Open}
use Rattle.pua_jointly.specs.JointPrograms.{Acting, AreActing, AreNoMore, AreSaid, CountsToo, HasExec, IsListedOfOne, IsSaidOf, agents_by, crew_by}
use Rattle.pua_tight.specs.Narrower.{StateWithin, WorldWithin}
use Rattle.pua_tight.specs.JointLaws.{ActsNoMore, CountsNoMore, CrewWithin, IsOfBoth, IsTwiceWithin, ScriptsComeToNoMore}
use Rattle.pua_tight.specs.JointLaws.{TightComesToNoMore, Twice, WithinActsNoMoreJointly, WorldsComeToNoMore, given_of, processes_of, tight_of}
use Rattle.pua_tight.proofs.FewestCount.{ActsWithin, AllWithin, CountsIf, agents_within, crew_within, exec_too, fewest_count}
use Rattle.pua_tight.proofs.JointLines.{joint_lines_more, listed_too}
use Rattle.pua_tight.proofs.Tightened.{tightens, world_self}
use Rattle.pua_tight.proofs.Within.{state_self}
use Rattle.pua_tight.proofs.Worlds.{FoundWithin, never, made, found_within, scripts_keep}

all_at : {X : Type 0} (P : X → Type 0) (xs : List X) → AllByRecursion P xs → (x : X) → Among xs x → P x
all_at P [] have x there = absurd there
all_at P (y ∷ ys) have x (inl same) = subst P same have.0
all_at P (y ∷ ys) have x (inr there) = all_at P ys have.1 x there

module _ (f : Twice → Acting) where
  all_map : (P : Acting → Type 0) (xs : List Twice) → ((x : Twice) → Among xs x → P (f x)) → AllByRecursion P (map f xs)
  all_map P [] each = tt
  all_map P (x ∷ xs) each = (each x (inl refl), all_map P xs (λ y there. each y (inr there)))

  module _ (g : Twice → Acting) where
    within_map : (table : CallTable) (xs : List Twice) → ((x : Twice) → Among xs x → ActsWithin table (f x) (g x)) →
        AllWithin table (map f xs) (map g xs)
    within_map table [] each = tt
    within_map table (x ∷ xs) each = (each x (inl refl), within_map table xs (λ y there. each y (inr there)))

    counts_at : (xs : List Twice) → AreNoMore (map f xs) (map g xs) → (x : Twice) → Among xs x → CountsToo (f x) (g x)
    counts_at [] less x there = absurd there
    counts_at (y ∷ xs) less x (inl same) = subst (λ (z : Twice). CountsToo (f z) (g z)) same less.0
    counts_at (y ∷ xs) less x (inr there) = counts_at xs less.1 x there

-- those that count in both scripts
abbrev in_both : ExecBound → ExecBound → ExecBound
in_both Bounded Bounded = Bounded
in_both Bounded Never = Never
in_both Bounded Open = Never
in_both Never other = Never
in_both Open other = Never

abbrev met : Twice → Acting
met both = record { process = both.tight.process; execs = in_both both.tight.execs both.given.execs }

both_count : (x y : ExecBound) → in_both x y ≡ Bounded → (x ≡ Bounded) × (y ≡ Bounded)
both_count Bounded Bounded e = (refl, refl)
both_count Bounded Never e = cc
both_count Bounded Open e = cc
both_count Never y e = cc
both_count Open y e = cc

module _ (t : Tree) (table : CallTable) where
  only_bounded : (crew : List ProcessState) (h : ProcessState) (x : ExecBound) → IsSaidOf t table crew h x → HasExec t table crew h →
      (x ≡ Open → bound_of table h ≡ None → ⊥) → x ≡ Bounded
  only_bounded crew h Never said has other = absurd (said has)
  only_bounded crew h Bounded said has other = refl
  only_bounded crew h Open said has other = absurd (other refl said.1)

  bound_said : (crew : List ProcessState) (h : ProcessState) (x : ExecBound) → IsSaidOf t table crew h x → x ≡ Bounded → bound_of table h ≢ None
  bound_said crew h Bounded said is = said.1
  bound_said crew h Never said is = cc
  bound_said crew h Open said is = cc

  none_starts : (crew : List ProcessState) (h : ProcessState) (x : ExecBound) → IsSaidOf t table crew h x →
      (HasExec t table crew h → ⊥) → x ≡ Never
  none_starts crew h Never said not_one = refl
  none_starts crew h Bounded said not_one = absurd (not_one said.0)
  none_starts crew h Open said not_one = absurd (not_one said.0)

  module _ (every : List Twice) (each : AllByRecursion IsTwiceWithin every)
      (acting : AreActing t table (processes_of (tight_of every)) (tight_of every)) (said : AreSaid t table (given_of every)) where
    abbrev crew : List ProcessState
    crew = crew_by table (tight_of every)

    abbrev others : List ProcessState
    others = crew_by table (given_of every)

    said_tight : (both : Twice) → Among every both → IsSaidOf t table crew both.tight.process both.tight.execs
    said_tight both there = all_at (λ (m : Acting). IsSaidOf t table crew m.process m.execs) (tight_of every) acting.said both.tight
        (among_map (λ (b : Twice). b.tight) every both there)

    said_given : (both : Twice) → Among every both → IsSaidOf t table others both.given.process both.given.execs
    said_given both there = all_at (λ (m : Acting). IsSaidOf t table others m.process m.execs) (given_of every) said both.given
        (among_map (λ (b : Twice). b.given) every both there)

    less_of : (both : Twice) → Among every both → IsTwiceWithin both
    less_of both there = all_at IsTwiceWithin every each both there

    -- with those that count in both, each counts that has to
    met_crew : CrewWithin (crew_by table (map met every)) crew
    met_crew = crew_within table (map met every) (tight_of every)
        (within_map met (λ both. both.tight) table every (λ both there. record {
          process = state_self both.tight.process;
          counts = λ counts. (both_count both.tight.execs both.given.execs counts).0;
          bound = λ counts some. some;
        }))

    met_others : CrewWithin (crew_by table (map met every)) others
    met_others = crew_within table (map met every) (given_of every)
        (within_map met (λ both. both.given) table every (λ both there. record {
          process = (less_of both there).0;
          counts = λ counts. (both_count both.tight.execs both.given.execs counts).1;
          bound = λ counts some. bound_said others both.given.process both.given.execs (said_given both there) counts;
        }))

    met_counts : (both : Twice) → Among every both → CountsIf t table (crew_by table (map met every)) (met both)
    met_counts both there has some = λ i. in_both (inner i) (outer i)
      where
        inner : both.tight.execs ≡ Bounded
        inner = only_bounded crew both.tight.process both.tight.execs (said_tight both there)
            (exec_too t table (crew_by table (map met every)) crew met_crew both.tight.process both.tight.process
            (state_self both.tight.process) has)
            (λ unbound none. some none)

        outer : both.given.execs ≡ Bounded
        outer = only_bounded others both.given.process both.given.execs (said_given both there)
            (exec_too t table (crew_by table (map met every)) others met_others both.tight.process both.given.process
            (less_of both there).0 has)
            (λ unbound none. (less_of both there).1 unbound inner)

    met_processes : (xs : List Twice) → processes_of (map met xs) ≡ processes_of (tight_of xs)
    met_processes [] = refl
    met_processes (x ∷ xs) = λ i. x.tight.process ∷ met_processes xs i

    -- so who counts in the thinned script counts in the given one
    acts_within : (both : Twice) → Among every both → ActsWithin table both.tight both.given
    acts_within both there = record {
      process = (less_of both there).0;
      counts = λ counts. (both_count both.tight.execs both.given.execs
          ((counts_at (λ b. b.tight) met every
          (fewest_count t table (processes_of (tight_of every)) (tight_of every) (map met every) acting (met_processes every)
          (all_map met (CountsIf t table (crew_by table (map met every))) every met_counts)) both there).1 counts)).1;
      bound = λ counts some. bound_said others both.given.process both.given.execs (said_given both there) counts;
    }

    inside : CrewWithin crew others
    inside = crew_within table (tight_of every) (given_of every)
        (within_map (λ both. both.tight) (λ both. both.given) table every acts_within)

    one_listed : (both : Twice) → Among every both → (thing : Thing) (c : Call) →
        IsListedOfOne t table crew (agents_by table both.tight) thing c → IsListedOfOne t table others (agents_by table both.given) thing c
    one_listed both there thing c one =
        let other = agents_within table both.tight both.given (acts_within both there) one.agent
        (among_contained (agents_by table both.tight) one.agent one.among) in
        record {
          agent = other.outer;
          among = contained (agents_by table both.given) other.outer other.among;
          listed = listed_too t table crew others inside one.agent other.outer other.wider thing c one.listed;
        }

    pub acts_no_more : (both : Twice) → Contains every both → ActsNoMore t table every both
    acts_no_more both has =
        let there = among_contained every both has in
        record {
          starts = λ nothing_there. none_starts crew both.tight.process both.tight.execs (said_tight both there) (λ exec.
              subst (IsSaidOf t table others both.given.process) nothing_there (said_given both there)
              (exec_too t table crew others inside both.tight.process both.given.process (less_of both there).0 exec));
          calls = one_listed both there;
          lines = λ test other tells tells_other. joint_lines_more t both.tight.process both.given.process (less_of both there).0 test other
              (λ thing c passed. tells_other.all thing c (one_listed both there thing c (tells.only thing c passed)));
        }

pub within_acts_no_more : WithinActsNoMoreJointly
within_acts_no_more t table every each acting said both has = acts_no_more t table every each acting said both has

-- what two worlds have at a number
both_within : {o p : Option ProcessState} → FoundWithin o p → (h k : ProcessState) → o ≡ Some h → p ≡ Some k → StateWithin h k
both_within never h k here there = absurd (None≢Some h here)
both_within (made {h = a} {k = b} less) h k here there =
    subst (λ x. StateWithin x k) (same_Some a h here) (subst (StateWithin a) (same_Some b k there) less)

module _ (less given : World) (within : WorldWithin less given) where
  pairs_within : (every : List Twice) → AllByRecursion (λ both. IsOfBoth less given both × CountsNoMore both) every →
      AllByRecursion IsTwiceWithin every
  pairs_within [] each = tt
  pairs_within (both ∷ every) each = (
    (
      both_within (found_within within.processes each.0.0.number) both.tight.process both.given.process each.0.0.in_tight each.0.0.in_given,
      each.0.1,
    ),
    pairs_within every each.1,
  )

pub worlds_come_to_no_more : WorldsComeToNoMore
worlds_come_to_no_more less given within = record {
  tree = within.tree;
  acts = λ table every each. acts_no_more less.tree table every (pairs_within less given within every each);
}

pub scripts_come_to_no_more : ScriptsComeToNoMore
scripts_come_to_no_more table w less given asks_less same =
    worlds_come_to_no_more (world_after table w less) (world_after table w given) (scripts_keep table w w less given (world_self w) asks_less same)

pub tight_comes_to_no_more : TightComesToNoMore
tight_comes_to_no_more table w lines =
    worlds_come_to_no_more _ _ (tightens table w lines).narrower
