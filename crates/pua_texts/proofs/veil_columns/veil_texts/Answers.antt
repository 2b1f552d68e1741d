use Rattle.pua_texts.proofs.Common.{◌+◌, ◌∷◌, [], ap, ◌∙◌, get_or, map, string_bytes, take_all, arith, None, map-append, veils_behind}
use Rattle.pua_texts.proofs.States.{shown}
use Rattle.pua_texts.specs.WhyLists.{veil_behind}
use Rattle.pua_texts.proofs.WhyColumns.{column_next}
use Rattle.pua_texts.proofs.veil_columns.veil_texts.Goals as goal

pub loop-veil-preserved : goal.loop-veil-preserved
loop-veil-preserved g c =
    let veils = c.args.veils.now in
    let i = c.loop-veil.veil-index in
    let now = c.loop-veil.invariant in
    record {
      tree = c.in-Ok.ensures.tree ∙ now.tree;
      count = c.in-Ok-push.ensures.len ∙ ap (λ n. n + 1) now.count;
      texts = λ p number same dated.
          ap (map string_bytes) c.in-Ok-push.ensures.items
          ∙ map-append string_bytes c.loop-veil.texts.items (c.in-Ok.text ∷ [])
          ∙ column_next p number veils c.veil-item.result i c.line_at-line.result c.args.lines.now
          (map string_bytes c.loop-veil.texts.items) (string_bytes c.in-Ok.text) c.loop-veil-test.true c.veil-item.is dated
          (c.line_at-line.ensures ∙ ap (λ n. get_or c.args.lines.now n None) (c.len.ensures ∙ now.count))
          (c.in-Ok.ensures.text ∙ ap (λ t. veil_behind t c.veil-item.result.0.now c.veil-item.result.1.now c.line_at-line.result)
          (now.tree ∙ same))
          (now.texts p number same dated);
    }

pub returns : goal.returns
returns g c = λ p number same dated.
    c.loop-veil.invariant.texts p number same dated ∙
    ap (λ vs. veils_behind p number (map shown vs)) (take_all c.loop-veil.veil-index c.args.veils.now (omega (
      arith,
      c.loop-veil-test.false,
    )))
