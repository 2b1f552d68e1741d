-- What is kept of a question holds behind a further request too.
use Rattle.pua_since.proofs.Common.{◌≡◌, ℕ, ◌+◌, ◌≤◌, List, [], ◌∷◌, ◌++◌, length, Bool, true, false, Some, None, Option, refl, sym, ap}
use Rattle.pua_since.proofs.Common.{subst, ◌∙◌, arith, ◌==◌, not, ◌&&◌, if◌then◌else◌, option_eq, eqb-true, bytes_decides, same_bytes}
use Rattle.pua_since.proofs.Common.{CallTable, Asked, World, apply, world_after, is_okay, Answer, Okay}
use Rattle.pua_since.proofs.Common.{Action, Fork, Test, parent_by, came_from}
use Rattle.pua_since.proofs.Common.{forebear, since, has_changed, has_forked, TouchesOnly, IsToldOf, is_told, IsWatched}
use Rattle.pua_since.proofs.Common.{Touched, Question, Told, Watch, one_request_more}
use Rattle.std.proofs.Common.{eq-eqb}
use Rattle.std.proofs.lemmas.List.{length-append}
use Rattle.pua_since.specs.Concerns.{is_concerned}
use Rattle.pua_since.specs.Watched.{is_same_told, IsAbout, IsAskedOnce, IsBegunIn}
use Rattle.pua_since.specs.declared.watch.Question.TheVariants as asks
use Rattle.pua_since.specs.declared.watch.Told.TheVariants as tells
use Rattle.pua_since.proofs.Sincing.{turns, turned_or, since_more}
use Rattle.pua_since.proofs.Sparing.{IsToldSame, itself_by, spared}
use Rattle.std.specs.Cmp.{both_ways}

option_same : (a b : Option ℕ) → option_eq ◌==◌ a b ≡ true → a ≡ b
option_same None None e = refl
option_same None (Some y) e = cc
option_same (Some x) None e = cc
option_same (Some x) (Some y) e = ap Some (eqb-true x y e)

option_self : (a : Option ℕ) → option_eq ◌==◌ a a ≡ true
option_self None = refl
option_self (Some x) = eq-eqb x x refl

option_turned : (a b : Option ℕ) → option_eq ◌==◌ a b ≡ option_eq ◌==◌ b a
option_turned a b = both_ways (option_eq ◌==◌ a b) (option_eq ◌==◌ b a)
    (λ e. subst (λ c. option_eq ◌==◌ c a ≡ true) (option_same a b e) (option_self a))
    (λ e. subst (λ c. option_eq ◌==◌ c b ≡ true) (option_same b a e) (option_self b))

bytes_turned : (a b : List ℕ) → same_bytes a b ≡ same_bytes b a
bytes_turned a b = both_ways (same_bytes a b) (same_bytes b a)
    (λ e. (bytes_decides b a).1 (sym ((bytes_decides a b).0 e)))
    (λ e. (bytes_decides a b).1 (sym ((bytes_decides b a).0 e)))

-- what tells the same is the same
same_told_is : (s t : Told) → is_same_told s t ≡ true → s ≡ t
same_told_is (tells.Reason key) (tells.Reason other) e = ap tells.Reason ((bytes_decides key other).0 e)
same_told_is (tells.Veil perms) (tells.Veil others) e = ap tells.Veil (option_same perms others e)
same_told_is (tells.Reason key) (tells.Veil others) e = cc
same_told_is (tells.Veil perms) (tells.Reason other) e = cc

module _ (table : CallTable) (w : World) (process : ℕ) where
  -- what a world tells is told there
  told_is : (question : Question) (told : Told) → IsToldOf table w process question told → is_told table question told w process ≡ true
  told_is (asks.Request action) (tells.Reason key) is = (bytes_decides _ key).1 (sym is)
  told_is (asks.Veil place) (tells.Veil perms) is = subst (λ p. option_eq ◌==◌ p perms ≡ true) is (option_self perms)
  told_is (asks.Request action) (tells.Veil perms) is = absurd is
  told_is (asks.Veil place) (tells.Reason key) is = absurd is

  -- and something else is, if it is the same
  told_as : (question : Question) (told other : Told) → IsToldOf table w process question told →
      is_told table question other w process ≡ is_same_told other told
  told_as (asks.Request action) (tells.Reason key) (tells.Reason other) is = ap (λ k. same_bytes k other) (sym is) ∙ bytes_turned key other
  told_as (asks.Request action) (tells.Reason key) (tells.Veil other) is = refl
  told_as (asks.Veil place) (tells.Veil perms) (tells.Veil other) is = ap (λ p. option_eq ◌==◌ p other) (sym is) ∙ option_turned perms other
  told_as (asks.Veil place) (tells.Veil perms) (tells.Reason other) is = refl
  told_as (asks.Request action) (tells.Veil perms) other is = absurd is
  told_as (asks.Veil place) (tells.Reason key) other is = absurd is

not_true : (b : Bool) → (not b && b) ≡ false
not_true true = refl
not_true false = refl

-- a request that makes no process leaves who each process is
pub came_itself : (table : CallTable) (w : World) (ask : Asked) (process : ℕ) → has_forked ask.action (apply table w ask).0 ≡ false →
    came_from table w ask process ≡ process
came_itself table w ask process = by (apply table w ask).0 ask.action
  where
    by : (answer : Answer) (action : Action) → has_forked action answer ≡ false →
        (if is_okay answer then parent_by action ask.process process else process) ≡ process
    by Okay (Fork new) e = cc
    by Okay _ e = refl
    by _ action e = refl

-- and so does one that can't have changed anything
pub not_forked : (action : Action) (answer : Answer) → has_changed action answer ≡ false → has_forked action answer ≡ false
not_forked (Fork new) Okay e = cc
not_forked _ Okay e = refl
not_forked action _ e = refl

module _ (table : CallTable) (w : World) (done : List Asked) (ask : Asked) (left : List Asked) where
  abbrev Before : World
  Before = world_after table w done

  abbrev Next : World
  Next = (apply table (world_after table w done) ask).1

  behind_is : world_after table w (done ++ ask ∷ []) ≡ Next
  behind_is = one_request_more table w done ask

  -- who a process was in the world behind it
  abbrev Who : ℕ → ℕ
  Who process = forebear table (apply table (world_after table w done) ask).1 left process

  -- a question is watched there by what it is told there, and whether that was told before
  settled : (watch : Watch) → (length done ≤ watch.last → length done + 1 ≤ watch.last →
      IsToldOf table Next (Who watch.process) watch.question watch.told
      × (watch.line ≡ turned_or (turns (is_told table watch.question watch.told) table Before ask (Who watch.process)) (1 + length done)
      (since (is_told table watch.question watch.told) table w 1 done (came_from table Before ask (Who watch.process))))) →
      IsWatched table w (done ++ ask ∷ []) left watch
  settled watch is = record {
    told = λ wanted. subst (λ v. IsToldOf table v (forebear table v left watch.process) watch.question watch.told) (sym behind_is)
        (there wanted).0;
    line = λ wanted. (there wanted).1 ∙ sym (since_more Tells table w 1 done ask (Who watch.process))
        ∙ ap (λ v. since Tells table w 1 (done ++ ask ∷ []) (forebear table v left watch.process)) (sym behind_is);
  }
    where
      Tells : Test
      Tells = is_told table watch.question watch.told

      there : length (done ++ ask ∷ []) ≤ watch.last → IsToldOf table Next (Who watch.process) watch.question watch.told
          × (watch.line ≡ turned_or (turns Tells table Before ask (Who watch.process)) (1 + length done)
          (since Tells table w 1 done (came_from table Before ask (Who watch.process))))
      there wanted =
          is (omega (arith, wanted, length-append done (ask ∷ []))) (omega (arith, wanted, length-append done (ask ∷ [])))

  -- where it was spared
  pub stays_spared : (watch : Watch) → ((process : ℕ) → came_from table Before ask process ≡ process) →
      IsToldSame table Before Next (Who watch.process) watch.question watch.told → IsWatched table w done (ask ∷ left) watch →
      IsWatched table w (done ++ ask ∷ []) left watch
  stays_spared watch itself same h = settled watch λ past wanted. (
    same.told (subst (λ process. IsToldOf table Before process watch.question watch.told) (itself (Who watch.process)) (h.told past)),
    h.line past
        ∙ ap (λ b. turned_or b (1 + length done) (since Tells table w 1 done (came_from table Before ask (Who watch.process)))) (sym flat),
  )
    where
      Tells : Test
      Tells = is_told table watch.question watch.told

      flat : turns Tells table Before ask (Who watch.process) ≡ false
      flat = (λ i. not (Tells Before (itself (Who watch.process) i)) && same.test i) ∙ not_true (Tells Before (Who watch.process))

  -- where it was asked again
  asked_again : (touched : Touched) (old new : Watch) (line : ℕ) → line ≡ length done + 1 → is_concerned touched (Who old.process) old.question ≡ true →
      IsWatched table w done (ask ∷ left) old → IsAskedOnce table Next (Who old.process) touched line old new →
      IsWatched table w (done ++ ask ∷ []) left new
  asked_again touched old new line number concerned h a = subst (IsWatched table w (done ++ ask ∷ []) left) (sym same)
      (settled (record old { told = new.told; line = new.line }) λ past wanted.
      let here : line ≤ old.last = omega (arith, number, wanted) in (
        a.told here concerned,
        a.turned here concerned ∙ by (h.told past) (h.line past) (a.told here concerned) (is_same_told new.told old.told) refl,
      ))
    where
      Tells : Test
      Tells = is_told table old.question new.told

      Came : ℕ
      Came = came_from table Before ask (Who old.process)

      same : new ≡ record old { told = new.told; line = new.line }
      same i = record {
        process = a.process_kept i;
        question = a.question_kept i;
        last = a.last_kept i;
        told = new.told;
        line = new.line;
      }

      by : IsToldOf table Before Came old.question old.told → old.line ≡ since (is_told table old.question old.told) table w 1 done Came →
          IsToldOf table Next (Who old.process) old.question new.told
          → (b : Bool) → is_same_told new.told old.told ≡ b →
          (if b then old.line else Some line)
          ≡ turned_or (turns Tells table Before ask (Who old.process)) (1 + length done) (since Tells table w 1 done Came)
      by was since_then is true e =
          let before : Tells Before Came ≡ true = told_as table Before Came old.question old.told new.told was ∙ e in
          since_then
          ∙ ap (λ told. since (is_told table old.question told) table w 1 done Came) (sym (same_told_is new.told old.told e))
          ∙ ap (λ b. turned_or (not b && Tells Next (Who old.process)) (1 + length done) (since Tells table w 1 done Came)) (sym before)
      by was since_then is false e =
          let before : Tells Before Came ≡ false = told_as table Before Came old.question old.told new.told was ∙ e in
          let after : Tells Next (Who old.process) ≡ true = told_is table Next (Who old.process) old.question new.told is in
          let number_is : line ≡ 1 + length done = omega (arith, number) in
          ap Some number_is ∙ (λ i. turned_or (not (sym before i) && sym after i) (1 + length done) (since Tells table w 1 done Came))

  -- where it was asked again if what was touched may concern it
  pub asked_or_spared : (touched : Touched) → TouchesOnly table Before ask touched → (old new : Watch) (line : ℕ) → line ≡ length done + 1 →
      IsWatched table w done (ask ∷ left) old → IsAskedOnce table Next (Who old.process) touched line old new →
      IsWatched table w (done ++ ask ∷ []) left new
  asked_or_spared touched only old new line number h a = by (is_concerned touched (Who old.process) old.question) refl
    where
      by : (b : Bool) → is_concerned touched (Who old.process) old.question ≡ b → IsWatched table w (done ++ ask ∷ []) left new
      by true concerned = asked_again touched old new line number concerned h a
      by false free =
          subst (IsWatched table w (done ++ ask ∷ []) left) (sym (a.spared free))
          (stays_spared old (itself_by touched table Before ask (Who old.process) old.question only.makes_none free)
          (spared table Before Next (Who old.process) old.question old.told touched only.changes free) h)

-- a question that is asked from the start
pub begun : (table : CallTable) (w : World) (left : List Asked) (process asker : ℕ) (question : Question) (last : ℕ) (watch : Watch) →
    asker ≡ forebear table w left process → IsAbout process question last watch → IsBegunIn table w asker watch →
    IsWatched table w [] left watch
begun table w left process asker question last watch is about b = record {
  told = λ wanted. subst (λ p. IsToldOf table w p watch.question watch.told)
      (is ∙ ap (forebear table w left) (sym about.process_kept)) b.told;
  line = λ wanted. b.line;
}
