use Rattle.pua_why.proofs.Common.{[], ◌∷◌, ◌++◌, ◌∙◌, Followed, trace_of_text, is_locked, start, unveil, promising, Sole, facts_named}
use Rattle.pua_path.specs.declared.text.Ending.TheVariants.{Dot}
use Rattle.pua_why.proofs.Passing.{unveil_named}
use Rattle.pua_why.proofs.passed.Passed.add_unveil.Goals as goal

pub returns : goal.returns
returns g c = let t = g.T.FileTree.content c.args.tree.now in
    let path = c.args.path.now in
    unveil_named c.args.self.now c.add.new.self c.add_name.new.self c.in-Holds.set c.in_ok-add_name.field-0
    (trace_of_text t (start c.args.process.now) Dot path Followed)
    (promising c.args.process.now (unveil ∷ [])) (is_locked c.args.process.now) (c.in-Holds.ensures) (c.if-locked.ensures.state)
    c.in_ok-add.ensures
    (c.in_ok-add_name.ensures.exact (λ object. [])
    ∙ (λ i. c.add.new.self ++ facts_named Sole (trace_of_text (c.new-probe.ensures.tree i) (c.start-from.ensures.state i) Dot path
    Followed) (λ object. [])))
