use Rattle.pua_why.proofs.Common.{◌++◌, ◌∷◌, [], ap, sym, ◌∙◌, on_ok_weaker, rule_of, Sole, call_trace, facts_named, facts_under}
use Rattle.pua_script.specs.Openings.{opening_seen}
use Rattle.pua_why.specs.Facts.{Opened, facts_asked, promise_of_row}
use Rattle.pua_why.proofs.Passing.{opened_named}
use Rattle.pua_why.proofs.passed.Passed.add_opened.Goals as goal

pub returns-then-row : goal.returns-then-row
returns-then-row g c =
    let t = g.T.FileTree.content c.args.tree.now in
    let p = c.args.process.now in
    let trace = call_trace t p c.args.call c.args.path.now in
    let rule = rule_of c.args.table.now c.args.call in
    let promise = promise_of_row (opening_seen c.args.row.now) in
    on_ok_weaker c.add_object.result (λ so.
    opened_named c.args.self.now c.add.new.self _ promise Sole trace (λ object. facts_under Sole t p object rule.perms [])
    (c.in_ok-add.ensures ∙ ap (λ set. c.args.self.now ++ Opened set ∷ []) c.promise_of.ensures) so
    ∙ ap (λ asks. c.args.self.now ++ Opened promise ∷ facts_named Sole trace (λ object. facts_asked asks (facts_under Sole t p object rule.perms [])))
    (sym c.if-row.true)) c.add_object.ensures

pub returns : goal.returns
returns g c =
    let t = g.T.FileTree.content c.args.tree.now in
    let p = c.args.process.now in
    let trace = call_trace t p c.args.call c.args.path.now in
    let rule = rule_of c.args.table.now c.args.call in
    let promise = promise_of_row (opening_seen c.args.row.now) in
    on_ok_weaker c.add_named.result (λ so.
    opened_named c.args.self.now c.add.new.self _ promise Sole trace (λ object. [])
    (c.in_ok-add.ensures ∙ ap (λ set. c.args.self.now ++ Opened set ∷ []) c.promise_of.ensures) so
    ∙ ap (λ asks. c.args.self.now ++ Opened promise ∷ facts_named Sole trace (λ object. facts_asked asks (facts_under Sole t p object rule.perms [])))
    (sym c.if-row.false)) c.add_named.ensures
