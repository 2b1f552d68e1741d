use Rattle.std.proofs.Common.{◌≡◌, ◌==◌, subst, map, IfOk, rules, tests}
use Rattle.std.specs.List.{slice_split}
use Rattle.std.proofs.lemmas.Iterator.Consumers.{map_from_collect, YieldsList-at, YieldsList-from_filter}
use Rattle.std.proofs.lemmas.Iterator.Splits.{YieldsList-from_slice_split}
use Rattle.pua_calls.specs.Promises.{promises_of}
use Rattle.pua_tight.specs.Left.{stays_as_read}
use Rattle.pua_tight.proofs.KeptWords.{same_left, pieces_free}
use Rattle.pua_tight.proofs.words.words_left.Goals as goal

pub returns : goal.returns
returns c =
    let listed = map_from_collect _ c.collect.ensures.ran
    (YieldsList-from_filter _ (λ word. stays_as_read c.args.set (promises_of word))
    (YieldsList-at c.filter.ensures.source (YieldsList-from_slice_split _ (λ b. b == 44) c.args.field.now (cc) (cc) (cc) (λ x b q k. search (
      rules,
      tests,
    )))) c.filter.ensures.closure (λ x b q k. search (rules, tests))) in
    subst (λ all. IfOk c.collect.result (λ words. map (λ word. word.now) words.items ≡ all))
    (same_left c.args.set (slice_split (λ b. b == 44) c.args.field.now) (pieces_free 44 c.args.field.now)) listed
