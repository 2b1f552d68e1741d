use Rattle.pua_why.proofs.Common.{◌∙◌, ap, sym, option_map}
use Rattle.std.proofs.lemmas.Result.{IfOk-weaker}
use Rattle.pua_script.specs.Openings.{opening_seen}
use Rattle.pua_why.specs.Openings.{opener_by}
use Rattle.pua_why.proofs.opened.opener_asked.Goals as goal

pub returns-in-Some : goal.returns-in-Some
returns-in-Some g c =
    let t = g.T.FileTree.content c.args.tree.now in
    IfOk-weaker c.opener_past.result _ _ (λ promise told.
    told ∙ ap (opener_by c.args.table.now t c.args.process.now c.args.call c.args.path.now)
    (ap (option_map (λ row. opening_seen row.now)) (sym c.in-Some.is) ∙ c.opening_of.ensures)) c.opener_past.ensures

pub returns-in-None : goal.returns-in-None
returns-in-None g c =
    let t = g.T.FileTree.content c.args.tree.now in
    ap (opener_by c.args.table.now t c.args.process.now c.args.call c.args.path.now)
    (ap (option_map (λ row. opening_seen row.now)) (sym c.in-None.is) ∙ c.opening_of.ensures)
