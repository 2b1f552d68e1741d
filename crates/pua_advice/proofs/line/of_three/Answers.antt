use Rattle.std.proofs.Common.{◌≡◌, ◌∙◌, refl, ap, sym, Option, Some, None, option_map, rules}
use Rattle.std.specs.Option.{option_or}
use Rattle.pua_advice.specs.Advice.{advice_seen, three_advice}
use Rattle.pua_advice.specs.declared.advice.Advice.{Advice}
use Rattle.pua_advice.specs.declared.arguments.Arguments.TheVariants.{ToTake}
use Rattle.pua_advice.proofs.line.of_three.Goals as goal

-- the first of three advices, whichever two are joined first
first_of_three : (a b c : Option Advice) → option_map advice_seen (option_or (option_or a b) c)
    ≡ option_or (option_map advice_seen a) (option_or (option_map advice_seen b) (option_map advice_seen c))
first_of_three (Some a) b c = refl
first_of_three None (Some b) c = refl
first_of_three None None c = refl

pub returns-in-Some-ToTake : goal.returns-in-Some-ToTake
returns-in-Some-ToTake c =
    let a = c.of_descriptor-in-Some-ToTake in
    let b = c.of_number in
    let last = c.of_descriptor-in-Some-ToTake-2 in
    let taken : c.args.what ≡ Some ToTake = search rules in
    ap (option_map advice_seen) (c.or-in-Some-ToTake-2.ensures ∙ ap (λ o. option_or o last.result) c.or-in-Some-ToTake.ensures)
    ∙ first_of_three a.result b.result last.result
    ∙ (λ i. option_or (a.ensures i) (option_or (b.ensures i) (last.ensures i)))
    ∙ ap (λ what. three_advice c.args.word.now what c.args.a.now c.args.b.now c.args.c.now) (sym taken)
