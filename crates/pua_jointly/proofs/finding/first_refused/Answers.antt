use Rattle.pua_jointly.proofs.Common.{◌≡◌, ◌<◌, ◌≤◌, ◌∙◌, ◌∷◌, [], ap, arith, length, List, None, ProcessState, subst, suc, sym, take, ℕ}
use Rattle.std.specs.Borrow.{Bor}
use Rattle.std.specs.List.{AllByRecursion}
use Rattle.std.proofs.Common.{◌+◌, add-one, drop, drop_of_length-le}
use Rattle.std.proofs.lemmas.Grind.{common_steps}
use Rattle.std.proofs.lemmas.List.{drop_more, map-append}
use Rattle.pua_jointly.specs.JointMembers.{states}
use Rattle.pua_ever.specs.Refusals.{refusal}
use Rattle.pua_jointly.specs.JointRefusals.{IsLasting, first_refusal, refused_at}
use Rattle.pua_jointly.proofs.JointGathered.{taken_all}
use Rattle.pua_jointly.proofs.JointMembers.{taken_more}
use Rattle.pua_ever.proofs.ForCallers.{all_more}
use Rattle.pua_jointly.proofs.finding.first_refused.Goals as goal

pub loop-place-preserved : goal.loop-place-preserved
loop-place-preserved c =
    let table = c.args.table.now in
    let all = c.args.processes.now in
    let place : ℕ = c.loop-place.place in
    let item : Bor ProcessState = c.index-processes-place.result in
    let low : place < length all = c.loop-place-test.true in
    let inv = c.loop-place.invariant in
    let none : refusal table item.now ≡ None = sym c.why_refused.ensures.exact ∙ c.in_default.is in
    record {
      first = inv.first
          ∙ ap (λ left. first_refusal table place (states left))
          (drop_more all place item low ∙ ap (λ x. x ∷ drop (place + 1) all) (sym c.index-processes-place.is))
          ∙ ap (λ why. refused_at place why (first_refusal table (suc place) (states (drop (place + 1) all)))) none
          ∙ ap (λ n. first_refusal table n (states (drop (place + 1) all))) (sym (add-one place));
      none = subst (AllByRecursion (IsLasting table))
          (sym (ap states (taken_more all place item low c.index-processes-place.is) ∙ map-append (λ (p : Bor ProcessState). p.now) (take place all) (item ∷ [])))
          (all_more (IsLasting table) (states (take place all)) item.now inv.none
          (record { none = none; needs = c.why_refused.ensures.none c.in_default.is; confined = c.why_refused.ensures.confined c.in_default.is }));
    }

pub returns-in-Some-clause-first : goal.returns-in-Some-clause-first
returns-in-Some-clause-first c =
    let table = c.args.table.now in
    let all = c.args.processes.now in
    let place : ℕ = c.loop-place.place in
    let item : Bor ProcessState = c.index-processes-place.result in
    sym (c.loop-place.invariant.first
    ∙ ap (λ left. first_refusal table place (states left))
    (drop_more all place item c.loop-place-test.true ∙ ap (λ x. x ∷ drop (place + 1) all) (sym c.index-processes-place.is))
    ∙ ap (λ why. refused_at place why (first_refusal table (suc place) (states (drop (place + 1) all))))
    (sym c.why_refused.ensures.exact ∙ c.in-Some.is))

pub returns-clause-first : goal.returns-clause-first
returns-clause-first c =
    let table = c.args.table.now in
    let all = c.args.processes.now in
    let place : ℕ = c.loop-place.place in
    let past : length all ≤ place = grind (arith, common_steps) in
    sym (c.loop-place.invariant.first ∙ ap (λ left. first_refusal table place (states left)) (drop_of_length-le all past))

pub returns-clause-none : goal.returns-clause-none
returns-clause-none c = λ none.
    let all = c.args.processes.now in
    let past : length all ≤ c.loop-place.place = grind (arith, common_steps) in
    subst (λ (ps : List (Bor ProcessState)). AllByRecursion (IsLasting c.args.table.now) (states ps)) (taken_all all c.loop-place.place past)
    c.loop-place.invariant.none
