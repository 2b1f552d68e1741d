use Rattle.pua_why.proofs.Common.{◌++◌, ap, ◌∙◌, string_bytes}
use Rattle.pua_why.proofs.Adding.{pushed_so, then_more}
use Rattle.pua_why.proofs.texts.push_asks.Goals as goal

pub returns : goal.returns
returns c =
    pushed_so c.push_str.result _ _ _ c.push_str.ensures.bytes (λ more.
    then_more _ _ _ _ _ c.in_ok-push_no.ensures (more ∙ ap (λ words. string_bytes c.push_no.new.text ++ words) c.of_exec_words.ensures))
