use Rattle.std.proofs.Common.{◌≡◌, sym, subst, map, IfOk}
use Rattle.std.specs.Prelude.{filter}
use Rattle.pua_calls.specs.Promises.{holds, keyword_rows}
use Rattle.pua_tight.specs.Tight.{bits_in}
use Rattle.pua_tight.proofs.line_pieces.bits_in.Goals as goal

pub returns : goal.returns
returns c =
    subst (λ given. IfOk c.members.result (λ bits. bits.items ≡ bits_in c.args.asked given)) (sym c.in-Good.is)
    (subst (λ set. IfOk c.members.result (λ bits. bits.items ≡ filter (holds set) (map (λ row. row.1) keyword_rows)))
    c.intersection.ensures c.members.ensures)
