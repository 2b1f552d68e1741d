use Rattle.pua_why.proofs.Common.{false, ◌++◌, ◌+◌, ap, sym, ◌∙◌, map, drop, string_bytes, arith, codes}
use Rattle.pua_why.proofs.Joining.{rest, name_next, names_done}
use Rattle.pua_why.proofs.texts.joined.Goals as goal

pub loop-name-preserved : goal.loop-name-preserved
loop-name-preserved c =
    c.loop-name.invariant
    ∙ name_next (codes ",") (string_bytes c.loop-name.text) c.loop-name.is_first c.args.names.now c.loop-name.name-index _
    c.loop-name-test.true
    ∙ ap (λ t. t ++ rest (codes ",") false (map (λ n. n.now) (drop (c.loop-name.name-index + 1) c.args.names.now)))
    (sym c.in_ok-push_next.ensures)

pub returns : goal.returns
returns c =
    sym (c.loop-name.invariant ∙
    names_done (codes ",") (string_bytes c.loop-name.text) c.loop-name.is_first c.args.names.now c.loop-name.name-index (omega (
      arith,
      c.loop-name-test.false,
    )))
