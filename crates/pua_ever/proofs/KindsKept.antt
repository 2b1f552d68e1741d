-- A kind of processes that each granted request leaves to a process is left to it and to whatever it forks and starts.
use Rattle.pua_ever.proofs.Common.{◌≡◌, ℕ, List, [], ◌∷◌, Bool, true, false, cond, refl, sym, ap, subst, ◌∙◌}
use Rattle.pua_ever.proofs.Common.{Some, ◌&&◌, ◌||◌, ◌==◌}
use Rattle.pua_ever.proofs.Common.{false≢true, eqb-true, eq-eqb}
use Rattle.pua_ever.proofs.Common.{CallTable, execpromises_by, rule_of, ProcessState, may_any, state_after, found_here, found_put, Asked, World, apply}
use Rattle.pua_ever.proofs.Common.{world_after, kept_at, Copies, Fails, Action}
use Rattle.pua_ever.proofs.Common.{Fork, is_member, family_then}
use Rattle.std.specs.Prelude.{nat_eq}
use Rattle.pua_calls.specs.Promises.{unveil}
use Rattle.pua_calls.specs.declared.call.Call.TheVariants as call
use Rattle.pua_policy.specs.States.{Event, Ended, after_exec, is_locked}
use Rattle.pua_policy.specs.declared.answer.May.TheVariants.{Yes}
use Rattle.pua_script.specs.Decide.{decide}
use Rattle.pua_script.specs.Family.{is_okay, with_child, family, HasKept}
use Rattle.pua_script.specs.Replay.{Effect, Kills, Leaves, come_of, left_by}
use Rattle.pua_script.specs.Worlds.{state_left}
use Rattle.pua_script.specs.declared.answer.Answer.{Answer}
use Rattle.pua_script.specs.declared.answer.Answer.TheVariants.{Okay, Failed as IsFailed, Killed as IsKilled, Gone}
use Rattle.pua_script.proofs.ForCallers.{by_living, others_leave}
use Rattle.pua_script.proofs.ForCallers.{forks_copy}
use Rattle.pua_ever.proofs.Leaving.{Keeping, decided_so}

-- what is kept: by an event that leaves the veils, by a program that is started, and since nothing can put a veil
pub record Keeps (table : CallTable) (Kind : ProcessState → Type 0) : Type 0 where
  pub more : (event : Event) (h : ProcessState) → (state_after event h).veils ≡ h.veils → Kind h → Kind (state_after event h)
  pub program : (h : ProcessState) → Kind h → may_any h (rule_of table call.Exec).alternatives ≡ Yes → Kind (after_exec (execpromises_by table.whose) h)
  pub veils : (h : ProcessState) → Kind h → may_any h (unveil ∷ []) ≡ Yes → is_locked h ≡ false → ⊥

-- each of the members is such a process
abbrev pub Are : (ProcessState → Type 0) → World → List ℕ → Type 0
Are Kind w members = (member : ℕ) → is_member members member ≡ true → HasKept w member Kind

-- a single process is its only member
pub alone_are : (Kind : ProcessState → Type 0) (w : World) (process : ℕ) (now : ProcessState) → kept_at w process ≡ Some now → Kind now →
    Are Kind w (process ∷ [])
alone_are Kind w process now here k m belongs =
    let is : process ≡ m = eqb-true process m (alone (process == m) belongs) in
    (now, sym (ap (kept_at w) is) ∙ here, k)
  where
    alone : (b : Bool) → (b || false) ≡ true → b ≡ true
    alone true e = refl
    alone false e = e

-- the members after a request, by what it leaves the one that asks
module _ (table : CallTable) (w : World) (ask : Asked) (members : List ℕ) (Kind : ProcessState → Type 0) (are : Are Kind w members)
    (own_left : is_member members ask.process ≡ true → HasKept (apply table w ask).1 ask.process Kind) where
  abbrev then_left : World
  then_left = (apply table w ask).1

  is_okay_only : (a : Answer) → is_okay a ≡ true → a ≡ Okay
  is_okay_only Okay e = refl
  is_okay_only (IsFailed errno) e = absurd (false≢true e)
  is_okay_only IsKilled e = absurd (false≢true e)
  is_okay_only Gone e = absurd (false≢true e)

  child_or_old : (action : Action) (m : ℕ) (P : Type 0) → is_member (with_child action members) m ≡ true
      → (is_member members m ≡ true → P) → ((new : ℕ) → action ≡ Fork new → new ≡ m → P) → P
  child_or_old (Fork new) m P belongs old child = by (new == m) refl belongs
    where
      by : (b : Bool) → (new == m) ≡ b → (b || is_member members m) ≡ true → P
      by true e belongs = child new refl (eqb-true new m e)
      by false e belongs = old belongs
  child_or_old _ m P belongs old child = old belongs

  old_member : (m : ℕ) → is_member members m ≡ true → HasKept then_left m Kind
  old_member m belongs = by (ask.process == m) refl
    where
      by : (b : Bool) → (ask.process == m) ≡ b → HasKept then_left m Kind
      by true e =
          let is : ask.process ≡ m = eqb-true ask.process m e in
          subst (λ p. HasKept then_left p Kind) is (own_left (ap (is_member members) is ∙ belongs))
      by false e =
          let before = are m belongs in
          (before.0, others_leave table w ask m before.0 before.1 (λ same. false≢true (sym e ∙ eq-eqb ask.process m same)), before.2)

  child : (new : ℕ) → ask.action ≡ Fork new → is_member members ask.process ≡ true → is_okay (apply table w ask).0 ≡ true →
      HasKept then_left new Kind
  child new forks belongs okay =
      let before = are ask.process belongs in
      let same : (record { process = ask.process; action = Fork new }) ≡ ask =
      λ i. record { process = ask.process; action = sym forks i } in
      let copied = forks_copy table w ask.process new before.0 before.1 (ap (λ a. (apply table w a).0) same ∙
      is_okay_only (apply table w ask).0 okay) in
      (before.0, sym (ap (λ a. kept_at (apply table w a).1 new) same) ∙ copied, before.2)

  pub members_left : Are Kind then_left (family_then table w ask members)
  members_left m = by (is_member members ask.process) (is_okay (apply table w ask).0) refl refl
    where
      by : (a b : Bool) → is_member members ask.process ≡ a → is_okay (apply table w ask).0 ≡ b →
          is_member (cond (a && b) (with_child ask.action members) members) m ≡ true →
          HasKept then_left m Kind
      by false b asks told belongs = old_member m belongs
      by true false asks told belongs = old_member m belongs
      by true true asks told belongs =
          child_or_old ask.action m (HasKept then_left m Kind) belongs (old_member m)
          (λ new forks is. subst (λ n. HasKept then_left n Kind) is (child new forks asks told))

module _ (table : CallTable) (Kind : ProcessState → Type 0) (keeps : Keeps table Kind) where
  module _ (w : World) (ask : Asked) (members : List ℕ) (are : Are Kind w members) where
    abbrev then : World
    then = (apply table w ask).1

    keeping : (h : ProcessState) → Kind h → Keeping table w.tree h ask.action Kind
    keeping h k = record {
      now = k;
      more = λ event same. keeps.more event h same k;
      program = keeps.program h k;
      veiled = λ path letters c is d. absurd (keeps.veils h k d.promised d.unlocked);
    }

    -- what an effect leaves the one that asked
    left : (h : ProcessState) (e : Effect) → Kind (state_left h e) → Kind h → kept_at w ask.process ≡ Some h →
        HasKept (left_by w ask.process h e) ask.process Kind
    left h (Fails errno) after k here = (h, here, k)
    left h Kills after k here = (state_after Ended h, found_here ask.process (state_after Ended h) w.processes, after)
    left h (Leaves u g) after k here = (g, found_here ask.process g w.processes, after)
    left h (Copies new) after k here = (h, found_put ask.process new h w.processes ∙ by (nat_eq new ask.process), k)
      where
        by : (b : Bool) → cond b (Some h) (kept_at w ask.process) ≡ Some h
        by true = refl
        by false = here

    pub own_kept : is_member members ask.process ≡ true → HasKept then ask.process Kind
    own_kept belongs =
        let before = are ask.process belongs in
        by_living table w ask before.0 before.1 (λ done. HasKept done.1 ask.process Kind)
        (before.0, before.1, before.2)
        (left before.0 (come_of w before.0 (decide table w.tree before.0 ask.action)) (decided_so table w before.0 Kind ask.action (keeping before.0 before.2))
        before.2 before.1)

    pub then_kept : Are Kind then (family_then table w ask members)
    then_kept = members_left table w ask members Kind are own_kept

  pub after_kept : (asks : List Asked) (w : World) (members : List ℕ) → Are Kind w members →
      Are Kind (world_after table w asks) (family table w asks members)
  after_kept [] w members are = are
  after_kept (ask ∷ asks) w members are =
      after_kept asks (apply table w ask).1 (family_then table w ask members) (then_kept w ask members are)
