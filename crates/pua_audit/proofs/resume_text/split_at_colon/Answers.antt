use Rattle.pua_audit.proofs.Common.{◌+◌, ◌∙◌, take, drop, sym, ap, arith}
use Rattle.std.proofs.Common.{take_all}
use Rattle.std.proofs.lemmas.List.{length-drop}
use Rattle.std.specs.Prelude.{◌==◌}
use Rattle.pua_audit.proofs.ResumeTexts.{first_at, first_nowhere}
use Rattle.pua_audit.proofs.resume_text.split_at_colon.Goals as goal

pub returns-in-Some-clause-front : goal.returns-in-Some-clause-front
returns-in-Some-clause-front c =
    ap (λ i. take i c.args.text.now) (first_at (λ b. b == 58) c.args.text.now c.in-Some.colon (sym c.in-Some.ensures))

pub returns-in-Some-clause-back : goal.returns-in-Some-clause-back
returns-in-Some-clause-back c =
    let text = c.args.text.now in
    take_all _ (drop (c.in-Some.colon + 1) text) (omega (arith, length-drop (c.in-Some.colon + 1) text))
    ∙ ap (λ i. drop (i + 1) text) (first_at (λ b. b == 58) text c.in-Some.colon (sym c.in-Some.ensures))

pub returns-in-None-clause-front : goal.returns-in-None-clause-front
returns-in-None-clause-front c = sym (first_nowhere (λ b. b == 58) c.args.text.now (sym c.in-None.ensures)).0

pub returns-in-None-clause-back : goal.returns-in-None-clause-back
returns-in-None-clause-back c = sym (first_nowhere (λ b. b == 58) c.args.text.now (sym c.in-None.ensures)).1
