use Rattle.std.proofs.Common.{◌≡◌, ◌∙◌, sym}
use Rattle.std.specs.Prelude.{slice_get}
use Rattle.std.specs.Str.Lines.{lines}
use Rattle.pua_tree.proofs.ForCallers.{lines_agree}
use Rattle.pua_advice.proofs.line.line_at.Goals as goal

pub loop-line-init : goal.loop-line-init
loop-line-init c =
    let left : c.into_iter-line-iterator.result ≡ lines c.args.script.now = c.into_iter-line-iterator.ensures.into_iter_gives ∙
    c.lines-line-items.ensures.value ∙ lines_agree c.args.script.now in
    λ i. slice_get (sym left i) (sym c.saturating_sub-left.ensures i)
