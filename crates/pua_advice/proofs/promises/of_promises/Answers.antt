use Rattle.std.proofs.Common.{◌≡◌, ◌∙◌, sym, ap, rules, arith, length, nat_eq, Some, None, tests}
use Rattle.std.specs.List.{slice_split}
use Rattle.std.proofs.lemmas.Iterator.Splits.{YieldsList-from_slice_split}
use Rattle.std.proofs.lemmas.Iterator.Consumers.{YieldsList-turn, YieldsList-end}
use Rattle.std.proofs.lemmas.List.{length_push}
use Rattle.pua_script.specs.Scripts.{further_set}
use Rattle.pua_advice.proofs.Keywords.{takes_in, stops, all_in}
use Rattle.pua_advice.proofs.promises.of_promises.Goals as goal

pub returns-in_default : goal.returns-in_default
returns-in_default c =
    let words = slice_split (λ b. nat_eq b 124) c.args.field.now in
    let at = YieldsList-turn (YieldsList-from_slice_split _ (λ b. nat_eq b 124) c.args.field.now (cc) (cc) (cc) (λ x b q k. search (
      rules,
      tests,
    ))) c.loop-word.yielded _ c.loop-word.yielded_by _ _ c.in-Some.word c.in-Some.is c.next.ensures.steps in
    let unknown : further_set c.loop-word.sets.items c.in-Some.word.now ≡ None =
    ap (λ sets. further_set sets c.in-Some.word.now) (sym c.as_slice.ensures.value) ∙ sym c.in_default.ensures in
    ap Some c.of_keyword.ensures
    ∙ sym (stops c.args.call.now words c.loop-word.sets.items (length c.loop-word.yielded) c.in-Some.word.now at unknown)
    ∙ c.loop-word.invariant

pub loop-word-preserved : goal.loop-word-preserved
loop-word-preserved c =
    let words = slice_split (λ b. nat_eq b 124) c.args.field.now in
    let at = YieldsList-turn (YieldsList-from_slice_split _ (λ b. nat_eq b 124) c.args.field.now (cc) (cc) (cc) (λ x b q k. search (
      rules,
      tests,
    ))) c.loop-word.yielded _ c.loop-word.yielded_by _ _ c.in-Some.word c.in-Some.is c.next.ensures.steps in
    let set = c.in-Some-further_set.set in
    let known : further_set c.loop-word.sets.items c.in-Some.word.now ≡ Some set =
    ap (λ sets. further_set sets c.in-Some.word.now) (sym c.as_slice.ensures.value) ∙ sym c.in-Some-further_set.ensures in
    let next = takes_in c.args.call.now words c.loop-word.sets.items (length c.loop-word.yielded) c.in-Some.word.now at set known in
    rw (c.in-Ok.ensures.items, length_push c.loop-word.yielded c.in-Some.word) (sym next ∙ c.loop-word.invariant)

pub returns : goal.returns
returns c =
    let words = slice_split (λ b. nat_eq b 124) c.args.field.now in
    let all = YieldsList-end (YieldsList-from_slice_split _ (λ b. nat_eq b 124) c.args.field.now (cc) (cc) (cc) (λ x b q k. search (
      rules,
      tests,
    ))) c.loop-word.yielded _ c.loop-word.yielded_by _ _ c.in-None.is c.next.ensures.steps in
    sym (all_in c.args.call.now words c.loop-word.sets.items (length c.loop-word.yielded) (omega (arith, all.1)))
    ∙ c.loop-word.invariant
