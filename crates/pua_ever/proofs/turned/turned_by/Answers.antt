use Rattle.pua_ever.proofs.Common.{◌∙◌, ap, list_any, map}
use Rattle.pua_ever.proofs.Picked.{any_mapped}
use Rattle.std.proofs.Common.{Bor, ℕ}
use Rattle.pua_policy.specs.declared.open_file.OpenFile.{OpenFile}
use Rattle.pua_ever.specs.Ever.{is_turned_by}
use Rattle.pua_ever.proofs.turned.turned_by.Goals as goal

abbrev lent : Bor ℕ × Bor OpenFile → ℕ × OpenFile
lent held = (held.0.now, held.1.now)

pub returns-in-Ok : goal.returns-in-Ok
returns-in-Ok c = λ node.
    c.in-Ok.ensures node
    ∙ any_mapped lent (is_turned_by c.args.sets_modes node) c.deref.result.now
    ∙ (λ i. list_any (is_turned_by c.args.sets_modes node) (map lent (c.deref.ensures.value i)))
    ∙ ap (list_any (is_turned_by c.args.sets_modes node)) c.in_ok-files.ensures
