use Rattle.pua_listing.specs.Numbers.{number_in}
use Rattle.pua_listing.proofs.ListingLines.{text_more, bytes_more}
use Rattle.pua_listing.proofs.listing.add_lines.Goals as goal

pub loop-place-preserved : goal.loop-place-preserved
loop-place-preserved g c =
    let t = g.T.FileTree.content c.args.tree.now in
    let f = number_in c.args.numbers.now in
    let row = c.index-order-place.result in
    record {
      text = text_more t c.args.form f c.args.order.now c.loop-place.place row c.loop-place-test.true c.index-order-place.is c.args.text.now.items
          c.loop-place.text.items c.add_line.new.text.items c.loop-place.invariant.text c.in_ok-add_line.ensures.line;
      bytes = bytes_more t c.args.form f c.args.order.now c.loop-place.place row c.loop-place-test.true c.index-order-place.is c.loop-place.invariant.bytes
          c.in_ok-add_line.ensures.bytes;
    }
