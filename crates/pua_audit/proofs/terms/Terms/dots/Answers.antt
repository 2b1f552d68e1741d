use Rattle.pua_audit.proofs.Common.{◌≢◌, ◌<◌, ℕ, List, [], length, get_or, inl, inr, arith, sym, subst, AllByRecursion, cases_eq, IsApart}
use Rattle.pua_audit.proofs.Common.{IsNamed, all_pushed, ap}
use Rattle.pua_audit.proofs.Moves.{letter_read}
use Rattle.pua_audit.proofs.terms.Terms.dots.Goals as goal
use Rattle.pua_steps.proofs.ForCallers.{all_front}

pub loop-place-preserved-then-is_name : goal.loop-place-preserved-then-is_name
loop-place-preserved-then-is_name c =
    let letters : List (List ℕ) = c.args.self.now.letters in
    let l = c.loop-place in
    let inside : l.place < length letters = omega (arith, ap length c.as_slice-letters.ensures.letters, c.loop-place-test.true) in
    record {
      within = l.invariant.within;
      others = λ letter low apart. elim (cases_eq letter l.place) [
        | inl e ↦ subst (λ (n : ℕ). IsNamed (get_or letters n [])) (sym e)
            (subst IsNamed (letter_read letters c.as_slice-letters.result.now l.place c.index-letters-place.result
            c.as_slice-letters.ensures.letters inside c.index-letters-place.is) (c.is_name.ensures.name
            c.if-is_name.true))
        | inr away ↦ l.invariant.others letter (omega (arith, low, away)) apart
      ];
    }

pub loop-place-preserved : goal.loop-place-preserved
loop-place-preserved c =
    let letters : List (List ℕ) = c.args.self.now.letters in
    let l = c.loop-place in
    let items = c.in_ok-push.ensures.items in
    let inside : l.place < length letters = omega (arith, ap length c.as_slice-letters.ensures.letters, c.loop-place-test.true) in
    record {
      within = subst (AllByRecursion (λ letter. letter < length letters)) (sym items)
          (all_pushed (λ letter. letter < length letters) l.dots.items l.place l.invariant.within inside);
      others = λ letter low apart.
          let all = all_front (λ other. other ≢ letter) l.dots.items l.place (subst (IsApart letter) items apart) in
          elim (cases_eq letter l.place) [
            | inl e ↦ absurd (all.1 (sym e))
            | inr away ↦ l.invariant.others letter (omega (arith, low, away)) all.0
          ];
    }
