use Rattle.std.proofs.Common.{◌≡◌, ◌+◌, length, take, arith, length-take-le}
use Rattle.std.proofs.lemmas.Simd.{take_more_put_chunk, length-put_chunk}
use Rattle.pua_texts.proofs.copies.copy_front.Goals as goal

pub returns-then-at-buffer : goal.returns-then-at-buffer
returns-then-at-buffer g c = λ fits long.
    let front = take g.row.N c.args.bytes.now in
    let many : length front ≡ g.row.N = length-take-le g.row.N c.args.bytes.now long in
    record {
      front = take_more_put_chunk c.args.at c.args.buffer.now front (c.args.at + g.row.N) (omega (arith, many)) fits;
      ends = omega (arith, many);
      len = length-put_chunk c.args.at c.args.buffer.now front;
    }
