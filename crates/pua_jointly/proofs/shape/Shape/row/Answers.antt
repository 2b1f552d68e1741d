use Rattle.pua_jointly.proofs.Common.{◌≡◌, ◌<◌, ◌∙◌, ℕ, Some, ap, arith}
use Rattle.std.proofs.Common.{◌+◌}
use Rattle.std.proofs.lemmas.Grind.{common_steps}
use Rattle.pua_jointly.specs.JointTable.{DirAt}
use Rattle.pua_jointly.proofs.JointRows.{dir_row}
use Rattle.pua_jointly.proofs.shape.Shape.row.Goals as goal

pub returns-then-place-last : goal.returns-then-place-last
returns-then-place-last c = λ crew spots many.
    let at : ℕ = c.args.place in
    let low = c.if-place-last.true in
    let below : at < c.args.self.last + 1 = omega (arith, low) in
    let same : at ≡ c.new.result = grind (arith, common_steps) in
    dir_row crew (c.args.self.last + 1) spots at below ∙ ap (λ d. Some (DirAt d)) same
