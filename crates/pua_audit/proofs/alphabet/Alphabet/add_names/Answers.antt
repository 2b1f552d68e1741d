use Rattle.pua_audit.proofs.Common.{◌∙◌, ap, with_name}
use Rattle.pua_audit.proofs.Placing.{one_more}
use Rattle.pua_audit.proofs.alphabet.Alphabet.add_names.Goals as goal

pub loop-name-preserved : goal.loop-name-preserved
loop-name-preserved c =
    one_more c.loop-name.yielded c.in-Some.name c.args.self.now c.loop-name.self c.add.new.self c.loop-name.invariant
    (c.in_ok-add.ensures ∙ ap (λ letter. with_name letter c.loop-name.self) c.in_ok-named.ensures.letter)
