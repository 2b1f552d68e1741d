use Rattle.pua_jointly.proofs.Common.{◌∙◌, ap, List, map, ProcessState, subst, Tree}
use Rattle.std.specs.List.{AllByRecursion}
use Rattle.std.specs.Prelude.{Err, IfOk, Ok, Result}
use Rattle.pua_jointly.specs.JointFound.{AreFacts}
use Rattle.pua_jointly.specs.JointMembers.{states}
use Rattle.pua_jointly.specs.JointPrograms.{HasProgram, acting_of, crew_by}
use Rattle.pua_jointly.specs.declared.facts.Facts.{Facts}
use Rattle.pua_jointly.proofs.JointCounting.{crew_is}
use Rattle.pua_jointly.proofs.counting.facts_by.Goals as goal

pub returns : goal.returns
returns g c = by c.facts_of.result c.facts_of.ensures
  where
    t : Tree
    t = g.T.FileTree.content c.args.tree.now

    by : {E : Type 0} (r : Result Facts E) → IfOk r (λ facts. AreFacts t c.args.table.now (states c.deref.result.now) facts) →
        IfOk r (λ facts. AllByRecursion (HasProgram c.args.table.now) c.args.actors.now →
        AreFacts t c.args.table.now (crew_by c.args.table.now (map acting_of c.args.actors.now)) facts)
    by (Err e) are = tt
    by (Ok facts) are = λ programs.
        subst (λ (crew : List ProcessState). AreFacts t c.args.table.now crew facts)
        (ap states c.deref.ensures.value ∙ c.in_ok-crew.ensures ∙ crew_is c.args.table.now c.args.actors.now programs) are
