use Rattle.std.proofs.Common.{rules, tests, ◌∙◌, ◌==◌, ℕ, List, Option, Bor, length, map, option_map, sym, ap, subst}
use Rattle.std.specs.List.{slice_split}
use Rattle.std.proofs.lemmas.Iterator.Splits.{YieldsList-from_slice_split}
use Rattle.std.proofs.lemmas.Iterator.Consumers.{YieldsList-end, YieldsList-turn}
use Rattle.std.proofs.lemmas.Simd.{map-map}
use Rattle.pua_tree.specs.Spelling.{number_within}
use Rattle.pua_words.specs.Commands.{AreIn}
use Rattle.pua_words.specs.declared.words.TheConstants.{MOST_NUMBER}
use Rattle.pua_words.proofs.Numbers.{none_among}
use Rattle.pua_words.proofs.words.read_numbers.Goals as goal

pub returns-clause-text : goal.returns-clause-text
returns-clause-text c =
    let all = YieldsList-end (YieldsList-from_slice_split _ (λ b. b == 44) c.as_bytes.result.now (cc) (cc) (cc) (λ x b q k. search (
      rules,
      tests,
    ))) c.loop-field.yielded _ c.loop-field.yielded_by _ _ c.in-None.is c.next.ensures.steps in
    subst (λ (text : Option (Bor (List ℕ))). AreIn (option_map (λ s. s.now) text) c.loop-field.numbers.items) (sym c.in-Some.is)
    (ap (λ (text : List ℕ). map (number_within 1 MOST_NUMBER) (slice_split (λ b. b == 44) text)) (sym c.as_bytes.ensures.value)
    ∙ ap (map (number_within 1 MOST_NUMBER)) (sym all.0)
    ∙ map-map (number_within 1 MOST_NUMBER) (λ field. field.now) c.loop-field.yielded
    ∙ sym c.loop-field.invariant.1)

pub returns-in_default-number_within-clause-none : goal.returns-in_default-number_within-clause-none
returns-in_default-number_within-clause-none c = λ same numbers are.
    let pieces = slice_split (λ b. b == 44) c.as_bytes.result.now in
    let at = YieldsList-turn (YieldsList-from_slice_split _ (λ b. b == 44) c.as_bytes.result.now (cc) (cc) (cc) (λ x b q k. search (
      rules,
      tests,
    ))) c.loop-field.yielded _ c.loop-field.yielded_by _ _ c.in-Some-field.field c.in-Some-field.is c.next.ensures.steps in
    none_among (number_within 1 MOST_NUMBER) pieces (length c.loop-field.yielded) c.in-Some-field.field.now at
    (sym c.in_default-number_within.ensures) numbers
    (ap (λ (text : List ℕ). map (number_within 1 MOST_NUMBER) (slice_split (λ b. b == 44) text)) c.as_bytes.ensures.value
    ∙ subst (λ (text : Option (Bor (List ℕ))). AreIn (option_map (λ s. s.now) text) numbers) c.in-Some.is are)
