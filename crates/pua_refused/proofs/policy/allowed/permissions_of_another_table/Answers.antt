use Rattle.pua_refused.proofs.Common.{◌∙◌, ◌∷◌, ◌≡◌, refl, sym, false≢true, empty_tree}
use Rattle.std.proofs.Common.{true, []}
use Rattle.pua_calls.specs.declared.call.Call.TheVariants.{Stat}
use Rattle.pua_policy.specs.Verdict.{IsFile, covered_verdict, is_allowed}
use Rattle.pua_policy.specs.declared.answer.Cover.TheVariants.{Only}
use Rattle.pua_calls.specs.Calls.{standard_table}
use Rattle.pua_calls.specs.TableTexts.{with_rule}
use Rattle.pua_refused.proofs.policy.allowed.permissions_of_another_table.Goals as goal

pub unreachable-requires : goal.unreachable-requires
unreachable-requires c =
    let same = sym c.in-Ok-read.ensures.read ∙ c.table_examples.ensures.texts.needs_nothing in
    let table : c.in-Ok-read.table ≡ with_rule standard_table Stat (record { alternatives = 0 ∷ []; perms = 0 }) = cc in
    let held : is_allowed (covered_verdict empty_tree c.in-Ok-read.table c.in-Ok.process Stat (Only 0) IsFile) ≡ true = rw (table, c.in-Ok.ensures.state) refl in
    let is_there = c.contains.ensures ∙ c.on-calls.ensures _ _ empty_tree IsFile c.new-2.ensures refl Stat ∙ held in
    false≢true (sym c.if-not-contains.true ∙ is_there)
