-- The table of calls that a TOML text gives, or its first fault.
use Rattle.std.specs.Prelude.{ℕ, suc, ◌-◌, ◌==◌, Bool, true, ◌&&◌, if◌then◌else◌, List, [], ◌∷◌, nat_le, Option, Some, None, Result, Ok}
use Rattle.std.specs.Prelude.{Err, codes, is_some, ok_or, option_and_then, option_map, slice_set}
use Rattle.std.specs.Str.{is_utf8}
use Rattle.toml.specs.Data.{Data, as_str, as_array, as_table, Items, no_items, item, Members, no_members, member, is_before, get_member}
use Rattle.toml.specs.Parse.{parse_document}
use Rattle.pua_tree.specs.Steps.{◌>>=◌}
use Rattle.pua_calls.specs.Promises.{holds, error, promises_of, perms_of}
use Rattle.pua_calls.specs.Calls.{CallTable, Rule, standard_table, call_in, call_number}
use Rattle.pua_calls.specs.Tables.{most_alternatives}
use Rattle.pua_path.specs.declared.errno.Errno.{Errno}
use Rattle.pua_calls.specs.declared.call.Call.{Call}
use Rattle.pua_calls.specs.declared.table.read.TableFault.{TableFault}
use Rattle.pua_calls.specs.declared.table.read.TableFault.TheVariants.{BadToml, BadKey, BadRow, BadPromises, BadVeil}

abbrev pub are_texts : Items → Bool
are_texts no_items = true
are_texts (item value items) = is_some (as_str value) && are_texts items

abbrev pub count : Items → ℕ
count no_items = 0
count (item _ items) = suc (count items)

-- 1 to 8 texts
abbrev pub are_alternatives : Items → Bool
are_alternatives items = nat_le 1 (count items) && (nat_le (count items) most_alternatives && are_texts items)

abbrev pub member_count : Members → ℕ
member_count no_members = 0
member_count (member _ _ members) = suc (member_count members)

-- the values of `promises` and of `veil`, where there are two keys, and these are they, in either order
abbrev pub values_of : Members → Option (Data × Data)
values_of members =
    if member_count members == 2
    then option_and_then (λ promises. option_map (λ veil. (promises, veil)) (get_member (codes "veil") members))
    (get_member (codes "promises") members)
    else None

abbrev pub row_parts : Data × Data → Option (Items × List ℕ)
row_parts values =
    option_and_then (λ items. option_and_then (λ veil. if are_alternatives items then Some (items, veil) else None) (as_str values.1))
    (as_array values.0)

-- the promises and the veil of a table with exactly these two keys
abbrev pub row_of : Data → Option (Items × List ℕ)
row_of value = option_and_then row_parts (option_and_then values_of (as_table value))

-- a set of promises without `error`, which a process can gain
abbrev pub alternative_of : Call → Result ℕ Errno → Result ℕ TableFault
alternative_of call (Ok set) = if holds set error then Err (BadPromises call) else Ok set
alternative_of call (Err errno) = Err (BadPromises call)

abbrev pub alternatives_of : Call → Items → Result (List ℕ) TableFault
alternatives_of call no_items = Ok []
alternatives_of call (item value items) = do
  text ← ok_or (as_str value) (BadRow call)
  set ← alternative_of call (promises_of text)
  sets ← alternatives_of call items
  Ok (set ∷ sets)

abbrev pub veil_of : Call → Result ℕ Errno → Result ℕ TableFault
veil_of call (Ok perms) = Ok perms
veil_of call (Err errno) = Err (BadVeil call)

-- the rule that a value gives a call, or its first fault
abbrev pub rule_in : Call → Data → Result Rule TableFault
rule_in call value = do
  row ← ok_or (row_of value) (BadRow call)
  alternatives ← alternatives_of call row.0
  perms ← veil_of call (perms_of row.1)
  Ok (record { alternatives = alternatives; perms = perms })

abbrev pub with_rule : CallTable → Call → Rule → CallTable
with_rule table call rule = record table { rules = slice_set table.rules (call_number call - 1) rule }

-- the keys ascend by their bytes, so no key stands twice
abbrev pub keys_ascend : Members → Bool
keys_ascend no_members = true
keys_ascend (member key value members) = is_before key members && keys_ascend members

-- the table with the rules of the members, in their order; a document's keys ascend, and each is the name of a call that the
-- table has, so none is rename or link
abbrev pub rules_with : CallTable → Members → Result CallTable TableFault
rules_with table no_members = Ok table
rules_with table (member key value members) = do
  call ← ok_or (call_in table key) BadKey
  rule ← rule_in call value
  rules_with (with_rule table call rule) members

abbrev pub document_of : List ℕ → Option Members
document_of text = if is_utf8 text then parse_document text else None

abbrev pub table_of_document : CallTable → Option Members → Result CallTable TableFault
table_of_document base None = Err BadToml
table_of_document base (Some members) = rules_with base members

-- the table that a text gives over another, which has the rules of calls that the text doesn't name
abbrev pub table_over : CallTable → List ℕ → Result CallTable TableFault
table_over base text = table_of_document base (document_of text)

-- the table that a text gives over the standard one
abbrev pub table_of : List ℕ → Result CallTable TableFault
table_of text = table_over standard_table text
