-- The worked examples of tables, by computing each text.
use Rattle.pua_calls.proofs.Common.{refl, calls}
use Rattle.std.proofs.Common.{lit<}
use Rattle.std.specs.Str.{chars, is_utf8}
use Rattle.toml.proofs.OnLiterals.{toml_on_literals}
use Rattle.pua_calls.specs.Calls.{openbsd_table, rule_of}
use Rattle.pua_calls.specs.TableExamples.{TableRows, OpenbsdRows}
use Rattle.pua_calls.proofs.NoError.{each_needs_none, openbsd_needs_no_error}

pub table_rows : TableRows
unfolding toml_on_literals chars is_utf8
table_rows = record {
  no_text = refl;
  two_alternatives = refl;
  needs_nothing = refl;
  eight_alternatives = refl;
  nine_alternatives = refl;
  no_alternatives = refl;
  unknown_call = refl;
  call_of_scripts = refl;
  one_key = refl;
  third_key = refl;
  unknown_promise = refl;
  error_promise = refl;
  unknown_letter = refl;
  promises_before_veil = refl;
  first_key = refl;
  first_row = refl;
  quoted = refl;
  dotted = refl;
  inline = refl;
  other_order = refl;
  array_of_tables = refl;
  named_twice = refl;
  open_bracket = refl;
  no_utf8 = refl;
}

pub openbsd_rows : OpenbsdRows
unfolding toml_on_literals chars is_utf8
openbsd_rows = record {
  kept = record {
    each = refl;
    rules = each_needs_none (rule_of openbsd_table) openbsd_needs_no_error calls;
    rename = (((lit< tt, refl), tt), ((lit< tt, refl), tt));
    link = (((lit< tt, refl), tt), ((lit< tt, refl), tt));
  };
  other_call = refl;
  no_text = refl;
  row_over = refl;
  no_rename = refl;
  named = refl;
  not_named = refl;
  asked = refl;
  not_asked = refl;
  no_neighbour = refl;
  had = refl;
  not_had = refl;
  each_known = refl;
  further = refl;
  further_row = refl;
  no_further_row = refl;
  one_more = refl;
  more_of_makers = refl;
  none_of_others = refl;
  one_suffices = refl;
  twice = refl;
  none_by_standard = refl;
}
