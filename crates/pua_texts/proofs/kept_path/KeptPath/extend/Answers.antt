use Rattle.pua_texts.proofs.Common.{◌<◌, [], map, length, get_or, subst, sym, ap, ◌∙◌, arith, length-map, KeptPathState, IsKept}
use Rattle.std.proofs.lemmas.List.{get_or-map}
use Rattle.pua_texts.proofs.KeptPaths.{push_kept}
use Rattle.pua_texts.proofs.kept_path.KeptPath.extend.Goals as goal

pub loop-self-preserved : goal.loop-self-preserved
loop-self-preserved c =
    let w = c.args.word.now in
    let word = map (λ name. name.now) w in
    let low : c.len-next.result < length w = omega (arith, c.len.ensures, c.len-next.ensures, c.loop-self-test.true) in
    let within : length c.loop-self.self.starts < length word = omega (arith, c.len-next.ensures, low, length-map w (λ name. name.now)) in
    let name = ap (λ (n : _). n.now) c.index-word-next.is
    ∙ sym (get_or-map (λ name. name.now) w c.len-next.result c.index-word-next.result [] low)
    ∙ ap (λ n. get_or word n []) c.len-next.ensures in
    record {
      kept = λ kept. subst (λ (s : KeptPathState). IsKept word s) (sym c.push.ensures)
          (push_kept word c.loop-self.self c.index-word-next.result.now (c.loop-self.invariant.kept kept) within name);
    }
