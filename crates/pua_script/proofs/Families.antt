-- What a list of requests leaves of the family of a process that can put no veil any more.
use Rattle.pua_script.proofs.Common.{◌≡◌, ℕ, List, [], ◌∷◌, Bool, true, false, cond, ◌&&◌, ◌||◌, refl, sym, ap, subst, ◌∙◌, Some, ◌==◌}
use Rattle.pua_script.proofs.Common.{false≢true, eqb-true, and_parts, not-true, CallTable, ProcessState, working_dir, Asked, World, kept_at}
use Rattle.pua_script.proofs.Common.{apply, world_after, IsConfined, is_member, is_exec, is_chdir, is_chroot, is_done, HasKept, Answer, Okay}
use Rattle.pua_script.proofs.Common.{Gone, Action, Fork}
use Rattle.std.specs.Prelude.{not}
use Rattle.pua_script.specs.Family.{is_okay, with_child, family_then, family, none_done}
use Rattle.pua_script.specs.Tightening.{FamiliesNarrow}
use Rattle.pua_script.specs.declared.answer.Answer.TheVariants.{Failed, Killed}
use Rattle.pua_script.proofs.Others.{forks_copy}
use Rattle.pua_script.proofs.Allowing.{IsWithin, allows_no_more}
use Rattle.pua_script.proofs.Tightening.{is_own, is_one, each_steps, within_self, within_twice}
use Rattle.pua_policy.specs.States.{root_dir}
use Rattle.pua_tree.proofs.ForCallers.{same_Some}

-- a member: its state is within that of the process of the beginning, and works in its directory if none moved
pub record Belongs (now : ProcessState) (still : Bool) (h : ProcessState) : Type 0 where
  pub within : IsWithin now h
  pub dir : still ≡ true → working_dir h ≡ working_dir now

abbrev pub Members : World → List ℕ → ProcessState → Bool → Type 0
Members w members now still = (m : ℕ) → is_member members m ≡ true → HasKept w m (Belongs now still)

pub is_okay_only : (a : Answer) → is_okay a ≡ true → a ≡ Okay
is_okay_only Okay e = refl
is_okay_only (Failed errno) e = absurd (false≢true e)
is_okay_only Killed e = absurd (false≢true e)
is_okay_only Gone e = absurd (false≢true e)

-- what one member did not do, is not done by it
not_by_one : (kind : Action → Bool) (table : CallTable) (w : World) (ask : Asked) (members : List ℕ) (m : ℕ) → is_member members m ≡ true
    → is_done kind table w ask members ≡ false → is_done kind table w ask (m ∷ []) ≡ false
not_by_one kind table w ask members m belongs none = by (m == ask.process) refl
  where
    by : (b : Bool) → (m == ask.process) ≡ b → is_done kind table w ask (m ∷ []) ≡ false
    by false e = ap (λ b. b && is_own kind table w ask) (is_one m ask.process ∙ e)
    by true e =
        let is : m ≡ ask.process = eqb-true m ask.process e in
        ap (λ b. b && is_own kind table w ask) (is_one m ask.process ∙ e)
        ∙ sym (ap (λ b. b && is_own kind table w ask) (ap (is_member members) (sym is) ∙ belongs)) ∙ none

-- a member of the family with a child is one before, or the child
pub child_or_old : (action : Action) (members : List ℕ) (m : ℕ) (P : Type 0) → is_member (with_child action members) m ≡ true
    → (is_member members m ≡ true → P) → ((new : ℕ) → action ≡ Fork new → new ≡ m → P) → P
child_or_old (Fork new) members m P belongs old child = by (new == m) refl belongs
  where
    by : (b : Bool) → (new == m) ≡ b → (b || is_member members m) ≡ true → P
    by true e belongs = child new refl (eqb-true new m e)
    by false e belongs = old belongs
child_or_old _ members m P belongs old child = old belongs

module _ (table : CallTable) (now : ProcessState) where
  module _ (w : World) (ask : Asked) (members : List ℕ) (still : Bool) (are : Members w members now still)
      (none : is_done is_exec table w ask members ≡ false) where
    abbrev then : World
    then = (apply table w ask).1

    abbrev still_then : Bool
    still_then = still && not (is_done is_chdir table w ask members)

    -- an old member
    old_member : (m : ℕ) → is_member members m ≡ true → HasKept then m (Belongs now still_then)
    old_member m belongs =
        let before = are m belongs in
        let after = each_steps table w ask m before.0 before.1 before.2.within.tightens.confined
        (not_by_one is_exec table w ask members m belongs none) in (
          after.0,
          after.1,
          record {
            within = within_twice now before.0 after.0 before.2.within after.2.within;
            dir = λ is.
                let parts = and_parts still (not (is_done is_chdir table w ask members)) is in
                after.2.dir (not_by_one is_chdir table w ask members m belongs (not-true (is_done is_chdir table w ask members) parts.1)) ∙
                before.2.dir parts.0;
          },
        )

    -- a child has the state of the member that asked
    child : (new : ℕ) → ask.action ≡ Fork new → is_member members ask.process ≡ true → is_okay (apply table w ask).0 ≡ true →
        HasKept then new (Belongs now still_then)
    child new forks belongs okay =
        let before = are ask.process belongs in
        let same : (record { process = ask.process; action = Fork new }) ≡ ask =
        λ i. record { process = ask.process; action = sym forks i } in
        let copied = forks_copy table w ask.process new before.0 before.1 (ap (λ a. (apply table w a).0) same ∙
        is_okay_only (apply table w ask).0 okay) in (
          before.0,
          sym (ap (λ a. kept_at (apply table w a).1 new) same) ∙ copied,
          record { within = before.2.within; dir = λ is. before.2.dir (and_parts still _ is).0 },
        )

    pub members_then : Members then (family_then table w ask members) now still_then
    members_then m = by (is_member members ask.process) (is_okay (apply table w ask).0) refl refl
      where
        by : (a b : Bool) → is_member members ask.process ≡ a → is_okay (apply table w ask).0 ≡ b →
            is_member (cond (a && b) (with_child ask.action members) members) m ≡ true → HasKept then m (Belongs now still_then)
        by false b asks told belongs = old_member m belongs
        by true false asks told belongs = old_member m belongs
        by true true asks told belongs =
            child_or_old ask.action members m (HasKept then m (Belongs now still_then)) belongs (old_member m)
            (λ new forks is. subst (λ n. HasKept then n (Belongs now still_then)) is (child new forks asks told))

  weaker : (a b c : Bool) → (a && (b && c)) ≡ true → ((a && b) && c) ≡ true
  weaker true true c e = e
  weaker true false c e = e
  weaker false b c e = e

  pub members_after : (asks : List Asked) (w : World) (members : List ℕ) (still : Bool) → Members w members now still →
      none_done is_exec table w asks members ≡ true
      → Members (world_after table w asks) (family table w asks members) now (still && none_done is_chdir table w asks members)
  members_after [] w members still are none m belongs =
      let one = are m belongs in (one.0, one.1, record { within = one.2.within; dir = λ is. one.2.dir (and_parts still true is).0 })
  members_after (ask ∷ asks) w members still are none m belongs =
      let parts = and_parts (not (is_done is_exec table w ask members)) _ none in
      let first = not-true (is_done is_exec table w ask members) parts.0 in
      let one = members_after asks (apply table w ask).1 (family_then table w ask members) (still
      && not (is_done is_chdir table w ask members))
      (members_then w ask members still are first) parts.1 m belongs in (
        one.0,
        one.1,
        record
            { within = one.2.within; dir = λ is. one.2.dir (weaker still (not (is_done is_chdir table w ask members)) _ is) },
      )

  -- at the beginning the process is the only member
  pub begins : (w : World) (process : ℕ) → kept_at w process ≡ Some now → IsConfined now → Members w (process ∷ []) now true
  begins w process here confined m belongs =
      let is : process ≡ m = eqb-true process m (sym (is_one process m) ∙ belongs) in
      (now, sym (ap (kept_at w) is) ∙ here, record { within = within_self now confined; dir = λ still. refl })

-- members, whether or not one moved
all_still : (w : World) (members : List ℕ) (now : ProcessState) → Members w members now true → Members w members now false
all_still w members now are m belongs = let one = are m belongs in (one.0, one.1, record { within = one.2.within; dir = λ moved. absurd (false≢true moved) })

-- each member has the root of the process of the beginning
module _ (table : CallTable) (now : ProcessState) where
  abbrev Roots : World → List ℕ → Type 0
  Roots w members = (m : ℕ) → is_member members m ≡ true → (h : ProcessState) → kept_at w m ≡ Some h → root_dir h ≡ root_dir now

  same_state : (w : World) (m : ℕ) (a b : ProcessState) → kept_at w m ≡ Some a → kept_at w m ≡ Some b → a ≡ b
  same_state w m a b here there = same_Some a b (sym here ∙ there)

  -- as long as none of them does a chroot
  roots_then : (w : World) (ask : Asked) (members : List ℕ) → Members w members now false → Roots w members →
      is_done is_exec table w ask members ≡ false → is_done is_chroot table w ask members ≡ false →
      Roots (apply table w ask).1 (family_then table w ask members)
  roots_then w ask members are roots none still m =
      by (is_member members ask.process) (is_okay (apply table w ask).0) refl refl
    where
      old : is_member members m ≡ true → (h : ProcessState) → kept_at (apply table w ask).1 m ≡ Some h → root_dir h ≡ root_dir now
      old belongs h here =
          let before = are m belongs in
          let after = each_steps table w ask m before.0 before.1 before.2.within.tightens.confined
          (not_by_one is_exec table w ask members m belongs none) in
          ap root_dir (same_state (apply table w ask).1 m h after.0 here after.1)
          ∙ after.2.root (not_by_one is_chroot table w ask members m belongs still) ∙ roots m belongs before.0 before.1

      child : (new : ℕ) → ask.action ≡ Fork new → is_member members ask.process ≡ true → is_okay (apply table w ask).0 ≡ true →
          (h : ProcessState) → kept_at (apply table w ask).1 new ≡ Some h → root_dir h ≡ root_dir now
      child new forks belongs okay h here =
          let before = are ask.process belongs in
          let same : (record { process = ask.process; action = Fork new }) ≡ ask =
          λ i. record { process = ask.process; action = sym forks i } in
          let copied = forks_copy table w ask.process new before.0 before.1 (ap (λ a. (apply table w a).0) same ∙
          is_okay_only (apply table w ask).0 okay) in
          ap root_dir (same_state (apply table w ask).1 new h before.0 here (sym (ap (λ a. kept_at (apply table w a).1 new) same) ∙ copied))
          ∙ roots ask.process belongs before.0 before.1

      by : (a b : Bool) → is_member members ask.process ≡ a → is_okay (apply table w ask).0 ≡ b →
          is_member (cond (a && b) (with_child ask.action members) members) m ≡ true → (h : ProcessState) →
          kept_at (apply table w ask).1 m ≡ Some h → root_dir h ≡ root_dir now
      by false b asks told belongs = old belongs
      by true false asks told belongs = old belongs
      by true true asks told belongs =
          child_or_old ask.action members m ((h : ProcessState) → kept_at (apply table w ask).1 m ≡ Some h → root_dir h ≡ root_dir now)
          belongs old
          (λ new forks is. subst (λ n. (h : ProcessState) → kept_at (apply table w ask).1 n ≡ Some h → root_dir h ≡ root_dir now) is
          (child new forks asks told))

  roots_after : (asks : List Asked) (w : World) (members : List ℕ) → Members w members now false → Roots w members →
      none_done is_exec table w asks members ≡ true → none_done is_chroot table w asks members ≡ true →
      Roots (world_after table w asks) (family table w asks members)
  roots_after [] w members are roots none still = roots
  roots_after (ask ∷ asks) w members are roots none still =
      let parts = and_parts (not (is_done is_exec table w ask members)) _ none in
      let stays = and_parts (not (is_done is_chroot table w ask members)) _ still in
      let first = not-true (is_done is_exec table w ask members) parts.0 in
      roots_after asks (apply table w ask).1 (family_then table w ask members) (members_then table now w ask members false are first)
      (roots_then w ask members are roots first (not-true (is_done is_chroot table w ask members) stays.0)) parts.1 stays.1

  roots_begin : (w : World) (process : ℕ) → kept_at w process ≡ Some now → Roots w (process ∷ [])
  roots_begin w process here m belongs h there =
      let is : process ≡ m = eqb-true process m (sym (is_one process m) ∙ belongs) in
      ap root_dir (same_state w m h now there (sym (ap (kept_at w) is) ∙ here))

pub families_narrow : FamiliesNarrow
families_narrow table w asks process now here confined none m belongs =
    let one = members_after table now asks w (process ∷ []) true (begins table now w process here confined) none m belongs in (
      one.0,
      one.1,
      record {
        tightens = one.2.within.tightens;
        allows = λ sound. allows_no_more table sound now one.0 one.2.within;
        dir = one.2.dir;
        root = λ still. roots_after table now asks w (process ∷ []) (all_still w (process ∷ []) now (begins table now w process here confined)) (roots_begin table now w process here) none still m
            belongs one.0 one.1;
      },
    )
