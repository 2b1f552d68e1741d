use Rattle.pua_audit.proofs.Common.{◌≡◌, ◌+◌, ◌++◌, ◌∷◌, [], List, ℕ, length, sym, ap, ◌∙◌, arith, common_steps, from_root}
use Rattle.pua_audit.specs.WordPaths.{starts_of}
use Rattle.pua_audit.proofs.Spelled.{from_root-push}
use Rattle.pua_audit.proofs.WordPaths.{starts-push}
use Rattle.pua_audit.proofs.path.WordPath.add.Goals as goal

pub returns-clause-path : goal.returns-clause-path
returns-clause-path c = λ word is.
    let a : List ℕ = c.args.letter.now in
    let put : c.extend_from_slice.new.self.items ≡ c.args.self.now.bytes.items ++ 47 ∷ a = grind (arith, common_steps) in
    let pushed : c.push.new.self.items ≡ c.args.self.now.starts.items ++ c.len.result ∷ [] = grind (arith, common_steps) in
    let start : c.len.result ≡ 0 + length (from_root word) = omega (arith, c.len.ensures, ap length is.bytes) in
    record {
      bytes = put ∙ ap (λ bs. bs ++ 47 ∷ a) is.bytes ∙ sym (from_root-push word a);
      starts = pushed ∙ ap (λ ns. ns ++ c.len.result ∷ []) is.starts ∙ ap (λ n. starts_of 0 word ++ n ∷ []) start ∙
          sym (starts-push 0 word a);
      plain = c.plain_with-self.ensures word is;
    }
