use Rattle.pua_refused.proofs.Common.{◌≡◌, ◌∷◌, refl, sym, ◌∙◌}
use Rattle.std.proofs.Common.{[]}
use Rattle.pua_calls.specs.Promises.{cpath}
use Rattle.pua_calls.specs.Calls.{standard_table}
use Rattle.pua_calls.specs.TableTexts.{with_rule}
use Rattle.pua_calls.specs.declared.call.Call.TheVariants.{Mkdir}
use Rattle.pua_refused.proofs.calls.tables.first_alternative_alone.Goals as goal

pub unreachable-requires : goal.unreachable-requires
unreachable-requires c =
    let same = sym c.in-Ok.ensures.read ∙ c.table_examples.ensures.texts.two_alternatives in
    let table : c.in-Ok.table ≡ with_rule standard_table Mkdir (record { alternatives = cpath ∷ 0 ∷ []; perms = 8 }) = cc in
    c.if-alternatives-ne2.true (rw c.alternatives.ensures (rw table refl))
