use Rattle.pua_tree.proofs.Common.{◌≡◌, ◌==◌, rules, tests, sym, ◌∙◌, list_all, slice_split}
use Rattle.std.proofs.lemmas.Iterator.Search.{all_from_yields_List}
use Rattle.std.proofs.lemmas.Iterator.Splits.{YieldsList-from_slice_split}
use Rattle.pua_tree.proofs.Pieces.{is_short, has_short_components-pieces, short_text}
use Rattle.pua_tree.proofs.link_target.has_short_components.Goals as goal

pub returns-then-text-le-MOST : goal.returns-then-text-le-MOST
returns-then-text-le-MOST c = short_text c.args.text.now c.if-text-le-MOST.true

pub returns : goal.returns
returns c =
    let all : c.all.result ≡ list_all is_short (slice_split (λ b. b == 47) c.args.text.now) =
    all_from_yields_List is_short _ _ c.all.result c.all.ensures.ran
    (YieldsList-from_slice_split _ (λ b. b == 47) c.args.text.now c.split.ensures.rest c.split.ensures.done c.split.ensures.closure
    (λ x b q k. search (rules, tests)))
    (λ x b q k. search (rules, tests)) in
    all ∙ sym (has_short_components-pieces c.args.text.now)
