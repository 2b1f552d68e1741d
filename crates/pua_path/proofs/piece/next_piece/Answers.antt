use Rattle.pua_path.proofs.Common.{sym, ap, ◌∙◌, ◌∷◌, part_of, rest_parts}
use Rattle.pua_path.proofs.Pieces.{first_part, first_readable, only_dot}
use Rattle.pua_path.proofs.piece.next_piece.Goals as goal

pub returns-then-is_empty : goal.returns-then-is_empty
returns-then-is_empty c =
    only_dot c.args.text.bytes.now c.after_slashes-left.result.now c.requires.some c.after_slashes-left.ensures (sym c.is_empty.ensures ∙
    c.if-is_empty.true)
    ∙ ap (λ piece. part_of piece ∷ rest_parts c.after_slashes-left.result.now) (sym c.as_slice-dot.ensures)

pub returns : goal.returns
returns c = first_part c.args.text.bytes.now c.after_slashes-left.result.now c.cut_at_slash.result.0.now c.cut_at_slash.result.1.now
    c.after_slashes-left.ensures (sym c.is_empty.ensures ∙ c.if-is_empty.false) c.cut_at_slash.ensures.cut

pub invariant_of-result-2 : goal.invariant_of-result-2
invariant_of-result-2 c =
    record {
      piece =
          (first_readable c.args.text.bytes.now c.after_slashes-left.result.now c.cut_at_slash.result.0.now c.cut_at_slash.result.1.now
          c.cut_at_slash.ensures.bytes c.args.text.readable c.after_slashes-left.ensures (sym c.is_empty.ensures ∙ c.if-is_empty.false)
          c.cut_at_slash.ensures.cut).0;
    }

pub invariant_of-result-3 : goal.invariant_of-result-3
invariant_of-result-3 c =
    record {
      readable =
          (first_readable c.args.text.bytes.now c.after_slashes-left.result.now c.cut_at_slash.result.0.now c.cut_at_slash.result.1.now
          c.cut_at_slash.ensures.bytes c.args.text.readable c.after_slashes-left.ensures (sym c.is_empty.ensures ∙ c.if-is_empty.false)
          c.cut_at_slash.ensures.cut).1;
    }
