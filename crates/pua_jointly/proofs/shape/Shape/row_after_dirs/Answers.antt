use Rattle.pua_jointly.proofs.Common.{◌≡◌, ◌<◌, ◌∙◌, ℕ, length, sym, ap, subst, arith}
use Rattle.std.proofs.Common.{◌+◌, ◌-◌}
use Rattle.std.proofs.lemmas.Grind.{common_steps}
use Rattle.std.specs.Prelude.{slice_get}
use Rattle.pua_jointly.specs.JointTable.{entities}
use Rattle.pua_jointly.proofs.JointRows.{made_row, landing_row, drops_row, name_row}
use Rattle.pua_jointly.proofs.shape.Shape.row_after_dirs.Goals as goal

pub returns-then-place-self : goal.returns-then-place-self
returns-then-place-self c = λ hands spots many.
    made_row hands (c.args.self.last + 1) spots c.args.place (subst (λ n. c.args.place < n) (sym many) c.if-place-self.true)

pub returns-then-landing-self : goal.returns-then-landing-self
returns-then-landing-self c = λ hands spots many.
    let i : ℕ = c.args.place - c.args.self.hands in
    let here : c.args.place ≡ length hands + i = grind (arith, common_steps) in
    ap (λ n. slice_get (entities hands (c.args.self.last + 1) spots) ((c.args.self.last + 1) + n)) here
    ∙ landing_row hands (c.args.self.last + 1) spots i (subst (λ n. i < n) (sym many) c.if-landing-self.true)

pub returns-then-drops-self : goal.returns-then-drops-self
returns-then-drops-self c = λ hands spots many.
    let i : ℕ = c.args.place - c.args.self.hands - c.args.self.hands in
    let here : c.args.place ≡ length hands + (length hands + i) = grind (arith, common_steps) in
    ap (λ n. slice_get (entities hands (c.args.self.last + 1) spots) ((c.args.self.last + 1) + n)) here
    ∙ drops_row hands (c.args.self.last + 1) spots i (subst (λ n. i < n) (sym many) c.if-drops-self.true)

pub returns : goal.returns
returns c = λ hands spots many.
    let i : ℕ = c.args.place - c.args.self.hands - c.args.self.hands - c.args.self.hands in
    let here : c.args.place ≡ length hands + (length hands + (length hands + i)) = grind (arith, common_steps) in
    ap (λ n. slice_get (entities hands (c.args.self.last + 1) spots) ((c.args.self.last + 1) + n)) here
    ∙ name_row hands (c.args.self.last + 1) spots i
