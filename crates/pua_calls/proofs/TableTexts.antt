-- Rows of tables as they are read, one after another.
use Rattle.pua_calls.proofs.Common.{◌≡◌, ℕ, zero, suc, ◌*◌, ◌<◌, ◌^◌, true, false, List, [], ◌∷◌, length, refl, ap, ◌∙◌, arith, Option}
use Rattle.pua_calls.proofs.Common.{Some, None, Result, Ok, Err, ◌==◌, bit_at, items_view, holds, CallTable, Rule, rules_with, Call}
use Rattle.std.proofs.Common.{set, inl, inr}
use Rattle.std.specs.Prelude.{ok_or, bit_and}
use Rattle.std.proofs.lemmas.Nat.Bits.{and_pow, bit_at-lt}
use Rattle.std.specs.Str.{IsUtf8, is_utf8}
use Rattle.std.proofs.lemmas.Bool.{cases_Bool, true≢false}
use Rattle.std.proofs.lemmas.Str.{IsUtf8-from_is_utf8, is_utf8-from_IsUtf8}
use Rattle.toml.specs.Data.{Data, Members, member}
use Rattle.toml.specs.Parse.{parse_document}
use Rattle.std.specs.List.Sorted.{IsStrictlySortedBy}
use Rattle.std.specs.Map.{keys_of}
use Rattle.std.specs.String.{string_cmp}
use Rattle.toml.proofs.Views.{Entry, is_before-sorted}
use Rattle.toml.specs.View.{members_view}
use Rattle.toml.specs.declared.value.Value.{Value}
use Rattle.pua_tree.specs.Steps.{◌>>=◌}
use Rattle.pua_calls.specs.Promises.{error}
use Rattle.pua_calls.specs.Calls.{call_in}
use Rattle.pua_calls.specs.TableTexts.{count, document_of, keys_ascend, member_count, rule_in, with_rule}
use Rattle.pua_calls.specs.declared.table.read.TableFault.{TableFault}
use Rattle.pua_calls.specs.declared.table.read.TableFault.TheVariants.{BadKey}

-- a key and its value, read into a table
module _ (t : CallTable) (key : List ℕ) (value : Data) (rest : Members) where
  abbrev put : Call → Rule → Result CallTable TableFault
  put call rule = rules_with (with_rule t call rule) rest

  named_as : (found : Option Call) → call_in t key ≡ found →
      rules_with t (member key value rest) ≡ (ok_or found BadKey >>= λ call. rule_in call value >>= put call)
  named_as found named = λ i. ok_or (named i) BadKey >>= λ call. rule_in call value >>= put call

  pub unnamed : call_in t key ≡ None → rules_with t (member key value rest) ≡ Err BadKey
  unnamed none = named_as None none

  pub one_row : (call : Call) (rule : Rule) → call_in t key ≡ Some call → rule_in call value ≡ Ok rule →
      rules_with t (member key value rest) ≡ put call rule
  one_row call rule named is = named_as (Some call) named ∙ (λ i. is i >>= put call)

-- as many items as values
pub count_of : (values : List Value) → count (items_view values) ≡ length values
count_of [] = refl
count_of (value ∷ values) = ap suc (count_of values)

-- as many members as entries
pub member_count_of : (entries : List Entry) → member_count (members_view entries) ≡ length entries
member_count_of [] = refl
member_count_of (entry ∷ entries) = ap suc (member_count_of entries)

-- the keys of a map ascend
pub keys_in_order : (entries : List Entry) → IsStrictlySortedBy string_cmp (keys_of entries) → keys_ascend (members_view entries) ≡ true
unfolding IsStrictlySortedBy
keys_in_order [] sorted = refl
keys_in_order (entry ∷ entries) sorted = rw (is_before-sorted entry.0 entries sorted.0, keys_in_order entries sorted.1)

-- a text is no document where it is no UTF-8, or where it doesn't parse
pub no_document : (text : List ℕ) → (IsUtf8 text → parse_document text ≡ None) → document_of text ≡ None
no_document text unless =
    elim (cases_Bool (is_utf8 text)) [
      | inl is ↦ rw is (unless (IsUtf8-from_is_utf8 text is))
      | inr never ↦ rw never
    ]

pub text_of : (text : List ℕ) → IsUtf8 text → document_of text ≡ parse_document text
text_of text is = rw (is_utf8-from_IsUtf8 text is)

no_error_at : (bit : ℕ) → bit < 2 → (bit * 2 ^ 8 == 2 ^ 8) ≡ false → bit * 2 ^ 8 ≡ 0
no_error_at zero below other = refl
no_error_at (suc zero) below other = absurd (true≢false other)
no_error_at (suc (suc bit)) below other = absurd (omega (arith, below))

-- a set in which `error` is not found doesn't have it
pub no_error_in : (set : ℕ) → holds set error ≡ false → bit_and set error ≡ 0
no_error_in set other = and_pow set 8 ∙ no_error_at (bit_at set 8) (bit_at-lt set 8) (rw (and_pow set 8) at other)
