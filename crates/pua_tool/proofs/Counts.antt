-- Calls with their numbers of steps, one after another.
use Rattle.pua_tool.proofs.Common.{◌≡◌, ℕ, List, [], ◌∷◌, ◌++◌, ◌∙◌, map, refl, sym, subst, ap, Result, Ok, Err, Replayed}
use Rattle.std.proofs.Common.{Bool, true, false, cond, ◌+◌, ◌<◌, ◌≤◌, take, get_or}
use Rattle.std.specs.Prelude.{IfErr, IfOk, filter}
use Rattle.std.specs.List.{AllByRecursion}
use Rattle.std.proofs.lemmas.List.{map-append, take_all, take_more}
use Rattle.std.proofs.lemmas.List.Elements.{filter-append}
use Rattle.pua_calls.specs.Calls.{call_count, calls}
use Rattle.pua_calls.specs.CallSets.{calls_in, has}
use Rattle.pua_calls.specs.declared.call.Call.{Call}
use Rattle.pua_calls.specs.declared.call.Call.TheVariants.{Stat}
use Rattle.pua_calls.specs.declared.rules.Rules.{Rules}
use Rattle.pua_how.specs.Steps.{NoneComes}
use Rattle.pua_how.specs.declared.target.Target.{Target}
use Rattle.pua_how.specs.declared.way.NoWay.{NoWay}
use Rattle.pua_tool.specs.RowColumns.{AreStepsTo, IsCountTo}

abbrev pub Count : Type 0
Count = Call × Result ℕ NoWay

abbrev pub calls_of : List Count → List Call
calls_of counts = map (λ count. count.0) counts

module _ (set i : ℕ) (within : i < call_count) where
  abbrev here : Call
  here = get_or calls i Stat

  one_more : take (i + 1) calls ≡ take i calls ++ here ∷ []
  one_more = take_more calls i Stat within

  kept : (b : Bool) → has set here ≡ b → filter (has set) (here ∷ []) ≡ cond b (here ∷ []) []
  kept b is = ap (λ v. cond v (here ∷ []) []) is

  next : filter (has set) (take (i + 1) calls) ≡ filter (has set) (take i calls) ++ filter (has set) (here ∷ [])
  next = ap (filter (has set)) one_more ∙ filter-append (has set) (take i calls) (here ∷ [])

  -- a call that is asked for has its count
  pub call_counted : (counts : List Count) (found : Result ℕ NoWay) → has set here ≡ true → calls_of counts ≡ filter (has set) (take i calls) →
      calls_of (counts ++ (here, found) ∷ []) ≡ filter (has set) (take (i + 1) calls)
  call_counted counts found asked so_far =
      map-append (λ count. count.0) counts ((here, found) ∷ [])
      ∙ ap (λ cs. cs ++ here ∷ []) so_far
      ∙ ap (λ cs. filter (has set) (take i calls) ++ cs) (sym (kept true asked))
      ∙ sym next

  pub call_passed : (counts : List Count) → has set here ≡ false → calls_of counts ≡ filter (has set) (take i calls) →
      calls_of counts ≡ filter (has set) (take (i + 1) calls)
  call_passed counts asked so_far =
      so_far
      ∙ nothing (filter (has set) (take i calls))
      ∙ ap (λ cs. filter (has set) (take i calls) ++ cs) (sym (kept false asked))
      ∙ sym next
    where
      nothing : (cs : List Call) → cs ≡ cs ++ []
      nothing [] = refl
      nothing (c ∷ cs) = ap (λ more. c ∷ more) (nothing cs)

pub all_counted : (set i : ℕ) → call_count ≤ i → (counts : List Count) → calls_of counts ≡ filter (has set) (take i calls) → calls_of counts ≡ calls_in set
all_counted set i past counts is = is ∙ ap (filter (has set)) (take_all i calls past)

one_counted : (P : Count → Type 0) (counts : List Count) (count : Count) → AllByRecursion P counts → P count →
    AllByRecursion P (counts ++ count ∷ [])
one_counted P [] count all is = (is, tt)
one_counted P (other ∷ counts) count all is = (all.0, one_counted P counts count all.1 is)

-- with the steps that were found to one call more, or plans that come to none
module _ (rules : Rules) (done : Replayed) (process : ℕ) (target : Target) where
  found_to : (call : Call) (found : Result ℕ NoWay) → IfOk found (AreStepsTo done process (target ∷ []) call) →
      IfErr found (NoneComes rules done.table process call (target ∷ []) done.world) → IsCountTo rules done process target (call, found)
  found_to call (Ok steps) to none = to
  found_to call (Err plans) to none = none

  pub steps_counted : (counts : List Count) (call : Call) (found : Result ℕ NoWay) (things : List Target) → things ≡ target ∷ [] →
      AllByRecursion (IsCountTo rules done process target) counts → IfOk found (AreStepsTo done process things call) →
      IfErr found (NoneComes rules done.table process call things done.world) →
      AllByRecursion (IsCountTo rules done process target) (counts ++ (call, found) ∷ [])
  steps_counted counts call found things meant all steps none =
      one_counted (IsCountTo rules done process target) counts (call, found) all
      (found_to call found (subst (λ things. IfOk found (AreStepsTo done process things call)) meant steps)
      (subst (λ things. IfErr found (NoneComes rules done.table process call things done.world)) meant none))
