-- The tables that a command names, row by row.
use Rattle.pua_calls.proofs.Common.{◌≡◌, ℕ, ◌<◌, List, length, get_or, map, refl, sym, ap, ◌∙◌, arith, Call, Rule, CallTable, calls, Stat}
use Rattle.std.proofs.lemmas.List.{same_lists, get_or-map}
use Rattle.pua_calls.specs.Calls.{call_count, PairRule, rule_of, standard_rule, standard_table}
use Rattle.pua_calls.specs.declared.rules.Rules.{Rules}

-- rows that are what a rule says of each call are those that it says of all
pub rows_by : (rule : Call → Rule) (rows : List Rule) → length rows ≡ call_count →
    ((i : ℕ) (e : Rule) → i < call_count → get_or rows i e ≡ rule (get_or calls i Stat)) → rows ≡ map rule calls
rows_by rule rows long each = same_lists rows (map rule calls) long (λ i d below.
    let in_calls : i < call_count = omega (arith, below, long) in
    each i d in_calls ∙ sym (get_or-map rule calls i Stat d in_calls))

-- and with what rename and link need, and whose rules they are, they are a table
abbrev pub table_with : PairRule → PairRule → Rules → List Rule → CallTable
table_with rename link whose rows = record { rules = rows; rename = rename; link = link; whose = whose }

pub with_rows : (rename link : PairRule) (whose : Rules) (rows others : List Rule) → rows ≡ others →
    table_with rename link whose rows ≡ table_with rename link whose others
with_rows rename link whose rows others is = ap (table_with rename link whose) is

-- what the standard table has for a call
pub standard_is : (call : Call) → rule_of standard_table call ≡ standard_rule call
standard_is Stat = refl
standard_is _ = refl
