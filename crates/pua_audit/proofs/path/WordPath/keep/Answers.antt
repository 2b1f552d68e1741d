use Rattle.pua_audit.proofs.Common.{◌≡◌, ◌+◌, ◌<◌, ◌≤◌, ℕ, length, take, get_or, min, sym, ap, ◌∙◌, arith, subst, Word, from_root}
use Rattle.pua_audit.specs.WordPaths.{IsPathOf}
use Rattle.pua_audit.proofs.WordPaths.{length-starts, start_at, starts-take, root-take, take_whole}
use Rattle.pua_audit.proofs.PlainPaths.{front-take}
use Rattle.pua_audit.proofs.path.WordPath.keep.Goals as goal

pub returns-then-letters-len-clause-path : goal.returns-then-letters-len-clause-path
returns-then-letters-len-clause-path c = λ word is.
    let many : length word ≤ c.args.letters = omega (
      arith,
      c.if-letters-len.true,
      c.len.ensures,
      ap length is.starts,
      length-starts 0 word,
    ) in
    subst (λ (w : Word). IsPathOf w c.args.self.now) (sym (take_whole c.args.letters word many)) is

pub returns-clause-path : goal.returns-clause-path
returns-clause-path c = λ word is.
    let k : ℕ = c.args.letters in
    let low : k < length word = omega (arith, c.if-letters-len.false, c.len.ensures, ap length is.starts, length-starts 0 word) in
    let at : c.index-start.result.now ≡ 0 + length (from_root (take k word)) = c.index-start.ensures ∙
    ap (λ ns. get_or ns k c.index-start.result.now) is.starts ∙ start_at k 0 c.index-start.result.now word low in
    let start : c.index-start.result.now ≡ length (from_root (take k word)) = omega (arith, at) in
    record {
      bytes = c.truncate.ensures.items ∙ ap (take c.index-start.result.now) is.bytes ∙ ap (λ n. take n (from_root word)) start ∙
          root-take k word;
      starts = c.truncate-2.ensures.items ∙ ap (take k) is.starts ∙ starts-take k 0 word;
      plain = c.min-self.ensures ∙ ap (λ n. min n k) is.plain ∙ sym (front-take k word);
    }
