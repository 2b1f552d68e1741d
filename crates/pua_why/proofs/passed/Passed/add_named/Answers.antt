use Rattle.pua_why.proofs.Common.{◌++◌, [], sym, ◌∙◌, trace_of_text, Sole, facts_named}
use Rattle.pua_why.proofs.Passing.{nothing_named}
use Rattle.pua_why.proofs.passed.Passed.add_named.Goals as goal

pub returns : goal.returns
returns g c =
    sym (nothing_named c.add_name.new.self c.in_ok-add_name.field-0)
    ∙ c.in_ok-add_name.ensures.exact (λ object. [])
    ∙ (λ i. c.args.self.now ++ facts_named Sole (trace_of_text (c.new-probe.ensures.tree i) (c.start-from.ensures.state i) (c.ending.ensures i)
    c.args.path.now (c.last-last.ensures i)) (λ object. []))
