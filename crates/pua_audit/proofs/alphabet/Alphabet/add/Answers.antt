use Rattle.pua_audit.proofs.Common.{◌≡◌, ◌∙◌, List, ℕ, sym, subst, arith, common_steps, AllByRecursion, IsTrue, name_cmp, with_name}
use Rattle.pua_audit.proofs.Common.{is_letter, Rises}
use Rattle.std.specs.List.{insert}
use Rattle.pua_audit.proofs.Placing.{put_there}
use Rattle.pua_audit.proofs.Rising.{all_with_name, with_name_rises}
use Rattle.pua_audit.proofs.alphabet.Alphabet.add.Goals as goal

pub returns-in_default : goal.returns-in_default
returns-in_default c =
    let old : List (List ℕ) = c.args.self.now in
    let rises : Rises name_cmp old = subst (Rises name_cmp) c.self.view_is c.self.invariant.0 in
    sym (put_there c.args.letter old c.in_default.field-0 rises c.in_default.ensures.0 (c.in_default.ensures.1 ∙ c.bytes.ensures.bytes))

pub invariant_of-self-2 : goal.invariant_of-self-2
invariant_of-self-2 c =
    let old : List (List ℕ) = c.self.inside.letters.items in
    let a : List ℕ = c.args.letter in
    let items : c.insert.new.self.items ≡ insert old c.in-Err.place a = grind (arith, common_steps) in
    let there : with_name a old ≡ insert old c.in-Err.place a =
    (λ i. with_name (sym c.bytes.ensures.bytes i) (c.self.view_is i)) ∙ c.in-Err.ensures.1 ∙
    (λ i. insert (sym c.self.view_is i) c.in-Err.place (c.bytes.ensures.bytes i)) in
    let put : with_name a old ≡ c.insert.new.self.items = there ∙ sym items in (
      subst (Rises name_cmp) put (with_name_rises a old c.self.invariant.0),
      subst (λ (letters : List (List ℕ)). AllByRecursion (λ b. IsTrue (is_letter b)) letters) put
          (all_with_name (λ b. IsTrue (is_letter b)) a old c.bytes.ensures.known c.self.invariant.1),
    )
