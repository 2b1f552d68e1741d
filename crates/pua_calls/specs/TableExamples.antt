-- Worked examples of texts and of the tables that they give.
use Rattle.std.specs.Prelude.{◌≡◌, ◌+◌, ℕ, true, not, List, [], ◌∷◌, ◌++◌, filter, Some, None, Ok, Err, codes}
use Rattle.std.specs.List.{list_all}
use Rattle.pua_tree.specs.Examples.{text_of_lines}
use Rattle.pua_calls.specs.Promises.{cpath, tmppath, wpath}
use Rattle.pua_calls.specs.Calls.{calls, is_known, call_in, call_named, call_named_by, standard_table, openbsd_table, rule_of}
use Rattle.pua_calls.specs.Tables.{IsCallTable}
use Rattle.pua_calls.specs.TmpTable.{tmp_table}
use Rattle.pua_calls.specs.TableTexts.{table_of, table_over, with_rule}
use Rattle.pua_calls.specs.declared.call.Call.TheVariants.{Stat, OpenWrite, Create, Mkdir, Unlink, Connect, Bind, Mknod, Chown, CreateBoth, Fchmod, Fchown}
use Rattle.pua_calls.specs.Neighbours.{call_asked_by}
use Rattle.pua_calls.specs.declared.rules.Rules.TheVariants.{Standard, Openbsd}
use Rattle.pua_calls.specs.declared.table.read.TableFault.TheVariants.{BadToml, BadKey, BadRow, BadPromises, BadVeil}

-- a text with a row of stat, of this array of promises and this veil
abbrev stat_row : List ℕ → List ℕ → List ℕ
stat_row promises veil = text_of_lines (codes "[stat]" ∷ (codes "promises = " ++ promises) ∷ (codes "veil = " ++ veil) ∷ [])

pub record TableRows : Type 0 where
  pub no_text : table_of [] ≡ Ok standard_table
  pub two_alternatives : table_of (text_of_lines (codes "[mkdir]" ∷ codes "promises = [\"cpath\", \"\"]" ∷ codes "veil = \"c\"" ∷ []))
      ≡ Ok (with_rule standard_table Mkdir (record { alternatives = cpath ∷ 0 ∷ []; perms = 8 }))
  pub needs_nothing : table_of (stat_row (codes "[\"\"]") (codes "\"\""))
      ≡ Ok (with_rule standard_table Stat (record { alternatives = 0 ∷ []; perms = 0 }))
  pub eight_alternatives : table_of (stat_row (codes "['','','','','','','','']") (codes "''"))
      ≡ Ok (with_rule standard_table Stat (record { alternatives = 0 ∷ 0 ∷ 0 ∷ 0 ∷ 0 ∷ 0 ∷ 0 ∷ 0 ∷ []; perms = 0 }))
  pub nine_alternatives : table_of (stat_row (codes "['','','','','','','','','']") (codes "''")) ≡ Err (BadRow Stat)
  pub no_alternatives : table_of (stat_row (codes "[]") (codes "''")) ≡ Err (BadRow Stat)
  pub unknown_call : table_of (text_of_lines (codes "[touch]" ∷ [])) ≡ Err BadKey
  pub call_of_scripts : table_of (text_of_lines (codes "[rename]" ∷ [])) ≡ Err BadKey
  pub one_key : table_of (text_of_lines (codes "[stat]" ∷ codes "veil = \"r\"" ∷ [])) ≡ Err (BadRow Stat)
  pub third_key : table_of (stat_row (codes "['']") (codes "''\nx = 1")) ≡ Err (BadRow Stat)
  pub unknown_promise : table_of (stat_row (codes "[\"zpath\"]") (codes "\"r\"")) ≡ Err (BadPromises Stat)
  pub error_promise : table_of (stat_row (codes "[\"rpath,error\"]") (codes "\"r\"")) ≡ Err (BadPromises Stat)
  pub unknown_letter : table_of (stat_row (codes "[\"rpath\"]") (codes "\"q\"")) ≡ Err (BadVeil Stat)
  pub promises_before_veil : table_of (stat_row (codes "[\"zpath\"]") (codes "\"q\"")) ≡ Err (BadPromises Stat)
  -- the first key by bytes decides, wherever it stands
  pub first_key : table_of (text_of_lines (codes "stat = 1" ∷ codes "a = 1" ∷ [])) ≡ Err BadKey
  pub first_row : table_of (text_of_lines (codes "unknown = 1" ∷ codes "stat = 1" ∷ [])) ≡ Err (BadRow Stat)
  -- one row in the spellings of a table
  pub quoted : table_of (text_of_lines (codes "[\"stat\"]" ∷ codes "'promises' = ['']" ∷ codes "\"veil\" = ''" ∷ []))
      ≡ table_of (stat_row (codes "['']") (codes "''"))
  pub dotted : table_of (text_of_lines (codes "stat.veil = ''" ∷ codes "stat.promises = ['']" ∷ []))
      ≡ table_of (stat_row (codes "['']") (codes "''"))
  pub inline : table_of (text_of_lines (codes "stat = { veil = '', promises = [''] }" ∷ []))
      ≡ table_of (stat_row (codes "['']") (codes "''"))
  pub other_order : table_of (text_of_lines (codes "[stat]" ∷ codes "veil = ''" ∷ codes "promises = ['']" ∷ []))
      ≡ table_of (stat_row (codes "['']") (codes "''"))
  pub array_of_tables : table_of (text_of_lines (codes "[[stat]]" ∷ codes "promises = ['']" ∷ codes "veil = ''" ∷ [])) ≡ Err (BadRow Stat)
  -- texts that are no document
  pub named_twice : table_of (stat_row (codes "['']") (codes "''\n[stat]")) ≡ Err BadToml
  pub open_bracket : table_of (text_of_lines (codes "[stat" ∷ [])) ≡ Err BadToml
  pub no_utf8 : table_of (text_of_lines ((codes "# " ++ 255 ∷ []) ∷ [])) ≡ Err BadToml

-- OpenBSD's rules as a table
pub record OpenbsdRows : Type 0 where
  -- they are a table that may be kept
  pub kept : IsCallTable openbsd_table
  pub other_call : rule_of openbsd_table Unlink ≡ rule_of standard_table Unlink
  -- a text's rows stand over them, and what no text gives is theirs
  pub no_text : table_over openbsd_table [] ≡ Ok openbsd_table
  pub row_over : table_over openbsd_table (stat_row (codes "['']") (codes "''"))
      ≡ Ok (with_rule openbsd_table Stat (record { alternatives = 0 ∷ []; perms = 0 }))
  pub no_rename : table_over openbsd_table (text_of_lines (codes "[rename]" ∷ [])) ≡ Err BadKey
  -- it has calls that the standard rules don't, and rows for them
  pub named : call_named_by Openbsd (codes "connect") ≡ Some Connect
  pub not_named : call_named (codes "connect") ≡ None
  -- and a request may name a neighbour of a call, which is no call itself
  pub asked : call_asked_by Openbsd (codes "truncate") ≡ Some OpenWrite
  pub not_asked : call_asked_by Standard (codes "truncate") ≡ None
  pub no_neighbour : call_in openbsd_table (codes "truncate") ≡ None
  pub had : call_in openbsd_table (codes "bind") ≡ Some Bind
  pub not_had : call_in standard_table (codes "bind") ≡ None
  pub each_known : list_all (is_known openbsd_table) calls ≡ true
  pub further : filter (λ call. not (is_known standard_table call)) calls ≡ Connect ∷ Bind ∷ Mknod ∷ Chown ∷ CreateBoth ∷ Fchmod ∷ Fchown ∷ []
  pub further_row : table_over openbsd_table (text_of_lines (codes "[connect]" ∷ codes "promises = ['']" ∷ codes "veil = ''" ∷ []))
      ≡ Ok (with_rule openbsd_table Connect (record { alternatives = 0 ∷ []; perms = 0 }))
  pub no_further_row : table_of (text_of_lines (codes "[connect]" ∷ codes "promises = ['']" ∷ codes "veil = ''" ∷ [])) ≡ Err BadKey
  -- in the table of lists for ever three calls have one more set, if theirs doesn't suffice already, and the others none
  pub one_more : rule_of (tmp_table openbsd_table) Unlink ≡ record { alternatives = cpath ∷ tmppath ∷ []; perms = 8 }
  pub more_of_makers : (rule_of (tmp_table openbsd_table) Create).alternatives ≡ (wpath + cpath) ∷ tmppath ∷ []
  pub none_of_others : rule_of (tmp_table openbsd_table) Mkdir ≡ rule_of openbsd_table Mkdir
  pub one_suffices : (rule_of (tmp_table (with_rule openbsd_table Unlink (record { alternatives = cpath ∷ 0 ∷ []; perms = 8 }))) Unlink).alternatives ≡ cpath ∷ 0 ∷ []
  pub twice : tmp_table (tmp_table openbsd_table) ≡ tmp_table openbsd_table
  pub none_by_standard : tmp_table standard_table ≡ standard_table
