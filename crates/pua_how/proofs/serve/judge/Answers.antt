use Rattle.std.proofs.Common.{◌≡◌, ap, sym, ◌∙◌}
use Rattle.pua_path.specs.Resolution.{resolution_of_text}
use Rattle.pua_policy.specs.Verdict.{is_allowed, object_named, verdict}
use Rattle.pua_how.proofs.Granting.{asked_if}
use Rattle.pua_how.proofs.serve.judge.Goals as goal

pub returns-then-is : goal.returns-then-is
returns-then-is g c =
    let t = g.T.FileTree.content c.args.tree.now in
    let h = c.args.process.now in
    let text = c.args.path.now in
    let probed : c.new-probe.result.tree ≡ t = c.new-probe.ensures.tree in
    asked_if c.args.table.now t h c.args.call c.args.target.now (object_named t h c.args.call text) c.in-Ok.found c.is_allowed.result
    (sym (c.in-Ok.ensures.exact ∙ (λ i. resolution_of_text (probed i) (c.start.ensures.state i) (c.ending.ensures i) text (c.last.ensures i))))
    (sym c.is.ensures ∙ c.if-is.true)
    (c.is_allowed.ensures
    ∙ ap is_allowed (c.verdict.ensures.exact
    ∙ (λ i. verdict ((c.in-Ok.ensures.tree ∙ probed) i) (c.with_tmppath-wide.ensures i) h c.args.call c.in-Ok.found)))
