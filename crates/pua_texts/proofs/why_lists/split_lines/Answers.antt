use Rattle.pua_texts.proofs.Common.{◌≡◌, ap, length, ◌∙◌, arith, length-map}
use Rattle.std.proofs.Common.{min}
use Rattle.pua_texts.proofs.VeilDates.{own_taken, rest_dropped}
use Rattle.pua_texts.proofs.why_lists.split_lines.Goals as goal

pub returns : goal.returns
returns c = λ own rest long is.
    let left = c.args.left.now in
    let veils = c.args.process.now.veils in
    let many : c.min.result ≡ min (length own) (length left) =
    omega (
      arith,
      c.min.ensures,
      c.len.ensures,
      long,
      ap length c.in_ok-places.ensures,
      length-map c.in_ok-places.places.items (λ place. place.now),
      length-map veils (λ veil. veil.0),
    ) in (
      c.split_at.ensures.front ∙ own_taken left own rest c.min.result is many,
      c.split_at.ensures.back ∙
          rest_dropped left own rest c.min.result is many,
    )
