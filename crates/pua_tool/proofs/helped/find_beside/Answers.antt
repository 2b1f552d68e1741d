use Rattle.pua_tool.proofs.Common.{ap, ◌∙◌, refl, subst, sym, List, ProcessState, if_ok}
use Rattle.std.proofs.Common.{Bool}
use Rattle.pua_ever.specs.declared.lasting_list.ExecBound.TheVariants.{Never}
use Rattle.pua_texts.specs.Members.{named_by}
use Rattle.pua_texts.specs.declared.members.Member.{Member}
use Rattle.pua_tool.specs.BesideFound.{IsFound, IsFoundWith}
use Rattle.pua_tool.specs.BesideTexts.{states}
use Rattle.pua_tool.proofs.helped.find_beside.Goals as goal

pub returns-then-ended : goal.returns-then-ended
returns-then-ended g c =
    subst (λ (b : Bool). IsFound (g.T.FileTree.content c.args.tree.now) c.args.table.now c.args.process.now (named_by c.args.others.now) b
    (record { own = Never; execs = Never; rows = c.new.result }))
    (sym c.if-ended.true ∙ c.ended.ensures.state) (record { own = refl; execs = refl; rows = c.new.ensures.items })

pub returns : goal.returns
returns g c = if_ok c.find_living.result (λ found is.
    let t = g.T.FileTree.content c.args.tree.now in
    let h = c.args.process.now in
    subst (λ (b : Bool). IsFound t c.args.table.now h (named_by c.args.others.now) b found) (sym c.if-ended.false ∙ c.ended.ensures.state)
    (subst (λ (hs : List ProcessState). IsFoundWith t c.args.table.now h hs found)
    (ap (λ (ms : List Member). states (named_by ms)) c.as_slice.ensures.value ∙ ap states c.in_ok-living.ensures) is))
    c.find_living.ensures
