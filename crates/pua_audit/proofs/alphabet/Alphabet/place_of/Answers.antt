use Rattle.pua_audit.proofs.Common.{rules, name_cmp, List, ℕ, sym, subst, Rises}
use Rattle.std.proofs.lemmas.Fn.{always_returns_same}
use Rattle.pua_audit.specs.Alphabets.{IsPlaced}
use Rattle.pua_audit.proofs.Placing.{placed}
use Rattle.pua_audit.proofs.alphabet.Alphabet.place_of.Goals as goal

pub returns : goal.returns
returns c =
    let ord = λ (letter : List ℕ). name_cmp letter c.args.bytes.now in
    let searched = c.binary_search_by.ensures.position ord (always_returns_same _ _ _ (λ a r f g. search rules)) in
    let same = c.as_slice-letters.ensures.letters in
    let rises = subst (Rises name_cmp) (sym same) c.as_slice-letters.ensures.rises in
    subst (λ (letters : List (List ℕ)). IsPlaced letters c.args.bytes.now c.binary_search_by.result) same
    (placed c.as_slice-letters.result.now c.args.bytes.now rises c.binary_search_by.result c.binary_search_by.ensures.bound searched)
