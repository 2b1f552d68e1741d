use Rattle.pua_script.proofs.Common.{sym, ap, ◌∙◌, place_of, asker_of, Some, Err, Unveil}
use Rattle.pua_script.specs.Decide.{decide_veil, if_named, veiling}
use Rattle.pua_script.specs.Judged.{on_judged}
use Rattle.pua_script.proofs.Acting.{acts}
use Rattle.pua_script.proofs.act.unveil.Goals as goal

pub returns-in-Ok-clause-exact : goal.returns-in-Ok-clause-exact
returns-in-Ok-clause-exact g c =
    let table = c.args.table.now in
    let t = g.T.FileTree.content c.args.tree.now in
    let path = c.args.path.now in
    let asker = asker_of c.args.process.now in
    acts table t c.args.process.now (Unveil path c.args.perms) c.grant_unveil.result
    (c.grant_unveil.ensures asker ∙ ap (λ r. if_named r (λ object. veiling asker (place_of object) c.in-Ok.perms))
    c.veil_named-object.ensures
    ∙ ap (λ r. on_judged r (λ letters. decide_veil table.whose t asker path (Some letters))) (sym c.in-Ok.is) ∙ c.judge_letters.ensures table.whose t path)
    _ _ c.answer.result c.answer.ensures.exact

pub returns-in-Err-clause-exact : goal.returns-in-Err-clause-exact
returns-in-Err-clause-exact g c =
    let table = c.args.table.now in
    let t = g.T.FileTree.content c.args.tree.now in
    let path = c.args.path.now in
    let asker = asker_of c.args.process.now in
    acts table t c.args.process.now (Unveil path c.args.perms) (Err c.in-Err.refusal)
    (ap (λ r. on_judged r (λ letters. decide_veil table.whose t asker path (Some letters))) (sym c.in-Err.is) ∙ c.judge_letters.ensures table.whose t path)
    _ _ c.answer-in-Err.result c.answer-in-Err.ensures.exact
