use Rattle.pua_script.proofs.Common.{◌∙◌, or_fault}
use Rattle.pua_script.proofs.Renaming.{first_fault}
use Rattle.pua_script.proofs.rename.ways_fault.Goals as goal

pub returns : goal.returns
returns c =
    let tops = c.or.ensures ∙ first_fault c.top_fault.result c.top_fault-2.result ∙
    (λ i. or_fault (c.top_fault.ensures i) (c.top_fault-2.ensures i)) in
    let new = c.or-2.ensures ∙ first_fault c.dots_fault-2.result c.or.result ∙ (λ i. or_fault (c.dots_fault-2.ensures i) (tops i)) in
    c.or-3.ensures ∙ first_fault c.dots_fault.result c.or-2.result ∙ (λ i. or_fault (c.dots_fault.ensures i) (new i))
