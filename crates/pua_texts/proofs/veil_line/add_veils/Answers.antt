use Rattle.pua_texts.proofs.Common.{[], ◌++◌, ◌∷◌, ◌+◌, Ok, map, drop, ◌∙◌, ap, refl, arith, codes, reverse, err_from_is_err_and, is_dir}
use Rattle.pua_texts.proofs.Common.{perm_letters, or_equals, path_or_hyphen, place_dir, place_names, veil_lines}
use Rattle.pua_texts.proofs.States.{shown, veil_next, veils_done}
use Rattle.pua_texts.proofs.Passing.{passes_none, passing_none, passing_more, passing_fails, passing_last}
use Rattle.pua_texts.proofs.veil_line.add_veils.Goals as goal

pub loop-veil-init : goal.loop-veil-init
loop-veil-init g c = record {
  tree = refl;
  lines = passing_none (veil_lines c.args.places.now.tree (map shown c.args.veils.now)) c.args.block.now (g.S.Sink.written c.args.sink.now)
      (g.S.Sink.failed c.args.sink.now);
}

pub loop-veil-preserved : goal.loop-veil-preserved
loop-veil-preserved g c =
    let t = c.args.places.now.tree in
    let lent = c.args.veils.now in
    let i = c.loop-veil.veil-index in
    let veil = c.veil-item.result in
    let names = map (λ name. name.now) c.names.result.now in
    let stood = c.find-stands.ensures.stands ∙ ap (λ u. is_dir u (place_dir veil.0.now)) c.loop-veil.invariant.tree in
    let named = c.names.ensures ∙ c.find-stands.ensures.names ∙ ap (λ u. reverse (place_names u veil.0.now)) c.loop-veil.invariant.tree in
    record {
      tree = c.find-stands.ensures.tree ∙ c.loop-veil.invariant.tree;
      lines = passing_more (veil_lines t (map shown lent)) (veil_lines t (map shown (drop i lent)))
          (codes "veil " ++ ((path_or_hyphen c.find-stands.result names ++ 32 ∷ []) ++ (or_equals (perm_letters veil.1.now) ++ 10 ∷ [])))
          (veil_lines t (map shown (drop (i + 1) lent)))
          c.args.block.now c.loop-veil.block c.add_veil.new.block
          (g.S.Sink.written c.args.sink.now) (g.S.Sink.written c.loop-veil.sink) (g.S.Sink.written c.add_veil.new.sink)
          (g.S.Sink.failed c.args.sink.now) (g.S.Sink.failed c.loop-veil.sink) (g.S.Sink.failed c.add_veil.new.sink)
          c.loop-veil.invariant.lines (veil_next t lent veil i c.find-stands.result names c.loop-veil-test.true c.veil-item.is stood named)
          c.in_ok-add_veil.ensures;
    }

pub returns-in_err-add_veil-clause-lines : goal.returns-in_err-add_veil-clause-lines
returns-in_err-add_veil-clause-lines g c =
    let t = c.args.places.now.tree in
    let lent = c.args.veils.now in
    let i = c.loop-veil.veil-index in
    let veil = c.veil-item.result in
    let names = map (λ name. name.now) c.names.result.now in
    let stood = c.find-stands.ensures.stands ∙ ap (λ u. is_dir u (place_dir veil.0.now)) c.loop-veil.invariant.tree in
    let named = c.names.ensures ∙ c.find-stands.ensures.names ∙ ap (λ u. reverse (place_names u veil.0.now)) c.loop-veil.invariant.tree in
    let p = err_from_is_err_and c.from_residual.result c.from_residual.ensures.1 in
    rw p.1 (passing_fails (veil_lines t (map shown lent)) (veil_lines t (map shown (drop i lent)))
    (codes "veil " ++ ((path_or_hyphen c.find-stands.result names ++ 32 ∷ []) ++ (or_equals (perm_letters veil.1.now) ++ 10 ∷ [])))
    (veil_lines t (map shown (drop (i + 1) lent)))
    c.args.block.now c.loop-veil.block [] [] p.0
    (g.S.Sink.written c.args.sink.now) (g.S.Sink.written c.loop-veil.sink) (g.S.Sink.written c.add_veil.new.sink)
    (g.S.Sink.failed c.args.sink.now) (g.S.Sink.failed c.loop-veil.sink) (g.S.Sink.failed c.add_veil.new.sink)
    c.loop-veil.invariant.lines (veil_next t lent veil i c.find-stands.result names c.loop-veil-test.true c.veil-item.is stood named)
    c.in_err-add_veil.ensures)

pub returns-clause-lines : goal.returns-clause-lines
returns-clause-lines g c =
    let t = c.args.places.now.tree in
    let i = c.loop-veil.veil-index in
    passing_last (veil_lines t (map shown c.args.veils.now)) (veil_lines t (map shown (drop i c.args.veils.now))) [] c.args.block.now
    c.loop-veil.block c.loop-veil.block (Ok tt)
    (g.S.Sink.written c.args.sink.now) (g.S.Sink.written c.loop-veil.sink) (g.S.Sink.written c.loop-veil.sink)
    (g.S.Sink.failed c.args.sink.now) (g.S.Sink.failed c.loop-veil.sink) (g.S.Sink.failed c.loop-veil.sink)
    c.loop-veil.invariant.lines (veils_done t c.args.veils.now i (omega (arith, c.loop-veil-test.false)))
    (passes_none c.loop-veil.block (g.S.Sink.written c.loop-veil.sink) (g.S.Sink.failed c.loop-veil.sink))
