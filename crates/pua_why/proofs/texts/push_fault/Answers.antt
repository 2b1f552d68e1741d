use Rattle.pua_why.proofs.Common.{◌++◌, ap, sym, ◌∙◌, string_bytes, on_ok_weaker, fault_seen}
use Rattle.pua_why.specs.Texts.{fault_text}
use Rattle.pua_why.proofs.Adding.{pushed_so}
use Rattle.pua_why.proofs.texts.push_fault.Goals as goal

pub returns-in-LacksPromise-clause-text : goal.returns-in-LacksPromise-clause-text
returns-in-LacksPromise-clause-text g c =
    on_ok_weaker c.push_no.result (λ so. so ∙
    ap (λ fault. string_bytes c.args.text.now ++ fault_text c.args.paths.now.tree (fault_seen fault)) (sym c.in-LacksPromise.is)) c.push_no.ensures

pub returns-in-Unfit-clause-text : goal.returns-in-Unfit-clause-text
returns-in-Unfit-clause-text g c = on_ok_weaker c.push_unfit.result (λ so. so ∙
    ap (λ fault. string_bytes c.args.text.now ++ fault_text c.args.paths.now.tree (fault_seen fault)) (sym c.in-Unfit.is)) c.push_unfit.ensures.text

pub returns-in-AsksPromises-clause-text : goal.returns-in-AsksPromises-clause-text
returns-in-AsksPromises-clause-text g c =
    on_ok_weaker c.push_asks.result (λ so. so ∙
    ap (λ fault. string_bytes c.args.text.now ++ fault_text c.args.paths.now.tree (fault_seen fault)) (sym c.in-AsksPromises.is)) c.push_asks.ensures

pub returns-in-UnknownLetter-clause-text : goal.returns-in-UnknownLetter-clause-text
returns-in-UnknownLetter-clause-text g c =
    pushed_so c.push_str-in-UnknownLetter.result _ _ _ c.push_str-in-UnknownLetter.ensures.bytes (λ so. so ∙
    ap (λ fault. string_bytes c.args.text.now ++ fault_text c.args.paths.now.tree (fault_seen fault)) (sym c.in-UnknownLetter.is))

pub returns-in-NoRoom-clause-text : goal.returns-in-NoRoom-clause-text
returns-in-NoRoom-clause-text g c =
    pushed_so c.push_str-in-NoRoom.result _ _ _ c.push_str-in-NoRoom.ensures.bytes (λ so. so ∙
    ap (λ fault. string_bytes c.args.text.now ++ fault_text c.args.paths.now.tree (fault_seen fault)) (sym c.in-NoRoom.is))
