use Rattle.pua_script.proofs.Common.{eqb, rules, sym, ap, ◌∙◌}
use Rattle.std.proofs.Common.{tests}
use Rattle.std.proofs.lemmas.Iterator.{YieldsList-from_slice}
use Rattle.std.proofs.lemmas.Iterator.Search.{all_from_yields_List}
use Rattle.pua_script.specs.Scripts.{is_blank}
use Rattle.pua_script.proofs.comment.is_blank.Goals as goal

pub returns-in-Openbsd : goal.returns-in-Openbsd
returns-in-Openbsd c =
    all_from_yields_List (λ b. eqb b 32) _ _ c.all.result c.all.ensures.ran (YieldsList-from_slice c.args.text.now cc)
    (λ x b q k. search (rules, tests))
    ∙ sym (ap (λ named. is_blank named c.args.text.now) c.in-Openbsd.is)
