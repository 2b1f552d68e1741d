use Rattle.pua_ever.proofs.Common.{◌≡◌, ◌∙◌, ◌&&◌, ◌∷◌, [], Bool, true, false, List, refl, ap, sym, filter, if◌then◌else◌, has, calls, Call}
use Rattle.pua_calls.proofs.ForCallers.{has_none}
use Rattle.pua_ever.specs.Through.{can_come}
use Rattle.pua_ever.proofs.line.EverLine.let_through.Goals.{then-can_come, else-can_come}
use Rattle.pua_ever.proofs.line.EverLine.let_through.Goals as goal

filter_both : {X : Type 0} (p q : X → Bool) (xs : List X) → filter p (filter q xs) ≡ filter (λ x. q x && p x) xs
filter_both p q [] = refl
filter_both {X = X} p q (x ∷ xs) = by (q x) (filter_both p q xs)
  where
    by : (b : Bool) → filter p (filter q xs) ≡ filter (λ x. q x && p x) xs →
        filter p (if b then x ∷ filter q xs else filter q xs) ≡ (if b && p x then x ∷ filter (λ x. q x && p x) xs else
        filter (λ x. q x && p x) xs)
    by true e = λ i. if p x then x ∷ e i else e i
    by false e = e

none_of_both : (a b : Bool) → false ≡ (a && (false && b))
none_of_both true b = refl
none_of_both false b = refl

pub returns-clause-line : goal.returns-clause-line
returns-clause-line c t word about is = λ i. record {
  word = word;
  thing = about;
  calls = (ap (λ p. filter p calls) (λ j call. left call j) ∙
      sym (filter_both (λ call. can_come (has c.args.passes) about && has c.args.passes call) (has c.args.self.calls) calls)) i;
}
  where
    left : (call : Call) → has c.if-can_come.calls call ≡
        (has c.args.self.calls call && (can_come (has c.args.passes) about && has c.args.passes call))
    left call = elim c.if-can_come.branch [
      | then-can_come w ↦ ap (λ set. has set call) w.calls-is ∙ w.intersection.ensures call ∙
          ap (λ b. has c.args.self.calls call && (b && has c.args.passes call)) (sym w.if-can_come.true ∙ c.can_come.ensures t about is)
      | else-can_come w ↦ ap (λ set. has set call) w.calls-is ∙ has_none call ∙
          none_of_both (has c.args.self.calls call) (has c.args.passes call) ∙
          ap (λ b. has c.args.self.calls call && (b && has c.args.passes call)) (sym w.if-can_come.false ∙ c.can_come.ensures t about is)
    ]
