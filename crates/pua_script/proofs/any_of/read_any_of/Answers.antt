use Rattle.pua_script.proofs.Common.{◌≡◌, ◌∙◌, sym, ap, rules, arith, length, nat_eq, Some, None}
use Rattle.std.proofs.Common.{tests}
use Rattle.std.specs.List.{slice_split}
use Rattle.std.proofs.lemmas.Iterator.Splits.{YieldsList-from_slice_split}
use Rattle.std.proofs.lemmas.Iterator.Consumers.{YieldsList-turn, YieldsList-end}
use Rattle.std.proofs.lemmas.List.{length_push}
use Rattle.pua_script.specs.Scripts.{further_set}
use Rattle.pua_script.proofs.Gathering.{takes_in, refuses, all_in}
use Rattle.pua_script.proofs.any_of.read_any_of.Goals as goal

pub returns-in_default : goal.returns-in_default
returns-in_default c = λ other.
    let words = slice_split (λ b. nat_eq b 124) c.args.field.now in
    let at = YieldsList-turn (YieldsList-from_slice_split _ (λ b. nat_eq b 124) c.args.field.now (cc) (cc) (cc) (λ x b q k. search (
      rules,
      tests,
    ))) c.loop-word.yielded _ c.loop-word.yielded_by _ _ c.in-Some.word c.in-Some.is c.next.ensures.steps in
    let unknown : further_set c.loop-word.sets.items c.in-Some.word.now ≡ None =
    ap (λ sets. further_set sets c.in-Some.word.now) (sym c.as_slice.ensures.value) ∙ sym c.in_default.ensures in
    sym c.loop-word.invariant
    ∙ refuses c.args.number words c.loop-word.sets.items (length c.loop-word.yielded) c.in-Some.word.now at unknown

pub loop-word-preserved : goal.loop-word-preserved
loop-word-preserved c =
    let words = slice_split (λ b. nat_eq b 124) c.args.field.now in
    let at = YieldsList-turn (YieldsList-from_slice_split _ (λ b. nat_eq b 124) c.args.field.now (cc) (cc) (cc) (λ x b q k. search (
      rules,
      tests,
    ))) c.loop-word.yielded _ c.loop-word.yielded_by _ _ c.in-Some.word c.in-Some.is c.next.ensures.steps in
    let set = c.in-Some-further_set.set in
    let known : further_set c.loop-word.sets.items c.in-Some.word.now ≡ Some set =
    ap (λ sets. further_set sets c.in-Some.word.now) (sym c.as_slice.ensures.value) ∙ sym c.in-Some-further_set.ensures in
    let next = takes_in c.args.number words c.loop-word.sets.items (length c.loop-word.yielded) c.in-Some.word.now at set known in
    rw (c.in-Ok.ensures.items, length_push c.loop-word.yielded c.in-Some.word) (sym next ∙ c.loop-word.invariant)

pub returns : goal.returns
returns c =
    let words = slice_split (λ b. nat_eq b 124) c.args.field.now in
    let all = YieldsList-end (YieldsList-from_slice_split _ (λ b. nat_eq b 124) c.args.field.now (cc) (cc) (cc) (λ x b q k. search (
      rules,
      tests,
    ))) c.loop-word.yielded _ c.loop-word.yielded_by _ _ c.in-None.is c.next.ensures.steps in
    sym c.loop-word.invariant
    ∙ all_in c.args.number words c.loop-word.sets.items (length c.loop-word.yielded) (omega (arith, all.1))
