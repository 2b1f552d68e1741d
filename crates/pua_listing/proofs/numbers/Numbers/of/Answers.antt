use Rattle.pua_listing.proofs.Common.{◌≡◌, ◌==◌, ◌+◌, ◌∙◌, ap, subst, cond, Some, None}
use Rattle.std.proofs.Common.{is_some}
use Rattle.std.specs.Option.{option_or}
use Rattle.indexmap.specs.IndexMap.{get}
use Rattle.pua_listing.proofs.Numbered.{lines_more, second_more}
use Rattle.pua_listing.proofs.numbers.Numbers.of.Goals as goal

pub loop-place-preserved : goal.loop-place-preserved
loop-place-preserved c =
    let row = c.index-order-place.result in
    let old = get ◌==◌ c.loop-place.lines in
    record {
      lines = lines_more c.args.order.now c.loop-place.place row c.loop-place-test.true c.index-order-place.is old (get ◌==◌ c.add_line.new.lines)
          c.loop-place.invariant.lines
          (λ x. c.in_ok-known.ensures.lines x ∙ ap (λ n. option_or (old x) (cond (n == x) (Some (c.loop-place.place + 1)) None)) c.number.ensures);
      second = c.either-second_lines.ensures ∙ second_more c.args.order.now c.loop-place.place row c.loop-place-test.true c.index-order-place.is old c.loop-place.invariant.lines
          c.loop-place.second_lines c.in_ok-known.known c.loop-place.invariant.second
          (subst (λ n. c.in_ok-known.known ≡ is_some (old n)) c.number.ensures c.in_ok-known.ensures.known);
    }
