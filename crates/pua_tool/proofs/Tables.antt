-- No table that is gone by needs `error`.
use Rattle.pua_tool.proofs.Common.{◌≡◌, ℕ, List, refl, sym, ap, subst, ◌∙◌, Option, Some, None, Result, CallTable, Chosen, table_by}
use Rattle.std.specs.Prelude.{Ok, Err}
use Rattle.pua_calls.specs.Calls.{table_by_rules}
use Rattle.pua_calls.specs.Tables.{NoCallNeedsError}
use Rattle.pua_calls.specs.TableTexts.{table_over}
use Rattle.pua_calls.specs.declared.table.read.TableFault.{TableFault}
use Rattle.pua_calls.specs.declared.rules.Rules.{Rules}
use Rattle.pua_calls.specs.declared.rules.Rules.TheVariants.{Standard, Openbsd}
use Rattle.pua_calls.proofs.ForCallers.{texts_keep_pairs, texts_need_no_error}
use Rattle.pua_script.proofs.ForCallers.{rules_narrow}
use Rattle.pua_tool.specs.Texts.{as_table, with_rows}

rows_need_no_error : (base : CallTable) → NoCallNeedsError base → (rows : Option (List ℕ)) (table : CallTable) →
    with_rows base rows ≡ Ok table → NoCallNeedsError table
rows_need_no_error base sound None table is = subst NoCallNeedsError same sound
  where
    same : base ≡ table
    same = cc
rows_need_no_error base sound (Some text) table is = by (table_over base text) refl is
  where
    by : (read : Result CallTable TableFault) → table_over base text ≡ read → as_table read ≡ Ok table → NoCallNeedsError table
    by (Ok rules) reads is =
        let same : rules ≡ table = cc in
        texts_need_no_error base sound text table (reads ∙ ap Ok same)
    by (Err fault) reads is = cc

-- a table that is gone by answers by the rules that are chosen
rows_keep_rules : (base : CallTable) (rows : Option (List ℕ)) (table : CallTable) → with_rows base rows ≡ Ok table → table.whose ≡ base.whose
rows_keep_rules base None table is = let same : base ≡ table = cc in ap (λ (t : CallTable). t.whose) (sym same)
rows_keep_rules base (Some text) table is = by (table_over base text) refl is
  where
    by : (read : Result CallTable TableFault) → table_over base text ≡ read → as_table read ≡ Ok table → table.whose ≡ base.whose
    by (Ok other) reads is =
        let same : other ≡ table = cc in
        (texts_keep_pairs base text table (reads ∙ ap Ok same)).whose
    by (Err fault) reads is = cc

rules_are : (rules : Rules) → (table_by_rules rules).whose ≡ rules
rules_are Standard = refl
rules_are Openbsd = refl

pub tables_are_by_rules : (choice : Chosen) (table : CallTable) → table_by choice ≡ Ok table → table.whose ≡ choice.rules
tables_are_by_rules choice table is = rows_keep_rules (table_by_rules choice.rules) choice.rows table is ∙ rules_are choice.rules

pub tables_need_no_error : (choice : Chosen) (table : CallTable) → table_by choice ≡ Ok table → NoCallNeedsError table
tables_need_no_error choice table is = rows_need_no_error (table_by_rules choice.rules) (rules_narrow choice.rules).error choice.rows table
    is
