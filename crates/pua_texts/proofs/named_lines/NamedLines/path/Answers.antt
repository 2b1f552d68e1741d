use Rattle.pua_texts.proofs.Common.{◌≡◌, ◌++◌, ◌-◌, map, take, drop, length, take_all, sym, ap, ◌∙◌, arith, spelling, from_root, Word}
use Rattle.std.proofs.Common.{length-drop}
use Rattle.std.specs.List.{drop-map}
use Rattle.pua_texts.specs.ListLines.{NamedState}
use Rattle.pua_texts.proofs.KeptPaths.{kept_parts}
use Rattle.pua_texts.proofs.named_lines.NamedLines.path.Goals as goal

pub returns-clause-path : goal.returns-clause-path
returns-clause-path c =
    let p = c.self.inside in
    let word : Word = map (λ name. name.now) p.word.items in
    let k = c.len.result in
    let w = c.as_slice.result.now in
    let rest : map (λ name. name.now) (take (length w - k) (drop k w)) ≡ drop (length p.path.starts) word =
    ap (map (λ name. name.now)) (take_all (length w - k) (drop k w) (omega (arith, length-drop k w)))
    ∙ sym (drop-map (λ name. name.now) k w)
    ∙ (λ i. drop (c.len.ensures i) (map (λ name. name.now) (c.as_slice.ensures.value i))) in
    (λ i. c.text.ensures.text i ++ spelling (from_root (rest i)))
    ∙ sym (kept_parts word p.path c.self.invariant.0)
    ∙ ap (λ (s : NamedState). spelling (from_root s.word)) c.self.view_is
