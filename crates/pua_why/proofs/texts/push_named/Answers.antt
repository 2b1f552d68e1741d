use Rattle.pua_why.proofs.Common.{◌++◌, ap, ◌∙◌, string_bytes, codes, on_ok_weaker, object_of, side_seen}
use Rattle.pua_policy.specs.Verdict.{object_word}
use Rattle.pua_why.specs.Texts.{found_text, side_text}
use Rattle.pua_why.proofs.Adding.{then_more}
use Rattle.pua_why.proofs.texts.push_named.Goals as goal

pub returns-clause-text : goal.returns-clause-text
returns-clause-text g c =
    let t = g.T.FileTree.content c.args.tree.now in
    let old = string_bytes c.args.text.now in
    let side = side_text (side_seen c.args.side) in
    let kind = object_word (object_of t c.args.found.now) in
    let begun = then_more old _ _ side (codes "names ") (c.in_ok-push_str.ensures.bytes ∙
    ap (λ words. old ++ words) c.side_word.ensures) c.in_ok-push_str-2.ensures.bytes in
    let named = then_more old _ _ (side ++ codes "names ") kind begun (c.in_ok-push_str-3.ensures.bytes ∙
    ap (λ words. string_bytes c.push_str-2.new.self ++ words) c.kind_word.ensures) in
    on_ok_weaker c.push_found.result
    (λ found is. then_more old _ _ ((side ++ codes "names ") ++ kind) (codes " " ++ found_text t c.args.found.now) named
    (then_more (string_bytes c.push_str-3.new.self) _ _ (codes " ") (found_text t c.args.found.now) c.in_ok-push_str-4.ensures.bytes
    (found ∙ ap (λ u. string_bytes c.push_str-4.new.self ++ found_text u c.args.found.now) is)))
    c.push_found.ensures.text
