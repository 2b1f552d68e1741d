use Rattle.pua_why.proofs.Common.{◌++◌, ap, sym, ◌∙◌, on_ok_weaker, option_map}
use Rattle.pua_script.specs.Openings.{opening_seen}
use Rattle.pua_why.specs.Facts.{facts_by}
use Rattle.pua_why.proofs.passed.Passed.add_asked.Goals as goal

pub returns-in-Some : goal.returns-in-Some
returns-in-Some g c =
    let t = g.T.FileTree.content c.args.tree.now in
    on_ok_weaker c.add_opened.result (λ so.
    so ∙ ap (λ o. c.args.self.now ++ facts_by c.args.table.now t c.args.process.now c.args.call c.args.path.now o)
    (ap (option_map (λ row. opening_seen row.now)) (sym c.in-Some.is) ∙ c.opening_of.ensures)) c.add_opened.ensures

pub returns-in-None : goal.returns-in-None
returns-in-None g c =
    let t = g.T.FileTree.content c.args.tree.now in
    on_ok_weaker c.add_call.result (λ so.
    so ∙ ap (λ o. c.args.self.now ++ facts_by c.args.table.now t c.args.process.now c.args.call c.args.path.now o)
    (ap (option_map (λ row. opening_seen row.now)) (sym c.in-None.is) ∙ c.opening_of.ensures)) c.add_call.ensures
