-- No table of calls that a text gives needs `error`, if the one doesn't over which it is read.
use Rattle.pua_calls.proofs.Common.{◌≡◌, ℕ, zero, suc, ◌^◌, ◌<◌, List, [], ◌∷◌, Bool, true, false, map, refl, subst, or_lt, slice_split}
use Rattle.pua_calls.proofs.Common.{Option, None, Some, Result, Ok, Err, bit_or, ◌==◌, holds, promise_of, union_of, CallTable, Rule}
use Rattle.pua_calls.proofs.Common.{rules_with, Call}
use Rattle.std.proofs.Common.{lit<}
use Rattle.std.specs.List.{AllByRecursion}
use Rattle.std.specs.Prelude.{ok_or, if◌then◌else◌, slice_index_or, slice_set}
use Rattle.toml.specs.Data.{Data, as_str, Items, no_items, item, Members, no_members, member}
use Rattle.pua_tree.proofs.ForCallers.{step_read}
use Rattle.pua_path.specs.declared.errno.Errno.{Errno}
use Rattle.pua_calls.specs.Promises.{error, promises_of, perms_of, union_or_fault}
use Rattle.pua_calls.specs.Calls.{standard_rule, call_in}
use Rattle.pua_calls.specs.Tables.{NamesNoError, NeedsNoError, NoCallNeedsError, HasPairsOf}
use Rattle.pua_calls.specs.TableTexts.{alternative_of, alternatives_of, veil_of, row_of, rule_in, with_rule, document_of}
use Rattle.pua_calls.specs.TableTexts.{table_of_document, table_over}
use Rattle.pua_calls.specs.declared.table.read.TableFault.TheVariants.{BadKey, BadRow, BadPromises}
use Rattle.pua_calls.proofs.Keywords.{promise_of-below}
use Rattle.pua_calls.proofs.TableTexts.{no_error_in}

-- what joins two sets of keywords is one
joined_below : (bits : ℕ) (more : Result ℕ Errno) (set : ℕ) → bits < 2 ^ 36 → ((s : ℕ) → more ≡ Ok s → s < 2 ^ 36) →
    union_or_fault bits more ≡ Ok set → set < 2 ^ 36
joined_below bits (Ok more) set low rest is =
    let same : bit_or bits more ≡ set = cc in
    subst (λ s. s < 2 ^ 36) same (or_lt 36 bits more low (rest more refl))
joined_below bits (Err errno) set low rest is = cc

union_more : (known : Option ℕ) (words : List (Option ℕ)) (set : ℕ) → ((bits : ℕ) → known ≡ Some bits → bits < 2 ^ 36) →
    ((s : ℕ) → union_of words ≡ Ok s → s < 2 ^ 36)
    → union_of (known ∷ words) ≡ Ok set → set < 2 ^ 36
union_more None words set low rest is = cc
union_more (Some bits) words set low rest is = joined_below bits (union_of words) set (low bits refl) rest is

union_below : (words : List (List ℕ)) (set : ℕ) → union_of (map promise_of words) ≡ Ok set → set < 2 ^ 36
union_below [] set is =
    let none : 0 ≡ set = cc in
    subst (λ s. s < 2 ^ 36) none (lit< tt)
union_below (word ∷ words) set is = union_more (promise_of word) (map promise_of words) set (promise_of-below word) (union_below words) is

promises_below : (text : List ℕ) (set : ℕ) → promises_of text ≡ Ok set → set < 2 ^ 36
promises_below [] set is =
    let none : 0 ≡ set = cc in
    subst (λ s. s < 2 ^ 36) none (lit< tt)
promises_below (b ∷ more) set is = union_below (slice_split (λ b. b == 44) (b ∷ more)) set is

alternative_names_no_error : (call : Call) (read : Result ℕ Errno) (set : ℕ) → ((s : ℕ) → read ≡ Ok s → s < 2 ^ 36) →
    alternative_of call read ≡ Ok set → NamesNoError set
alternative_names_no_error call (Err errno) set low is = cc
alternative_names_no_error call (Ok s) set low is = by (holds s error) refl is
  where
    by : (own : Bool) → holds s error ≡ own → (if own then Err (BadPromises call) else Ok s) ≡ Ok set → NamesNoError set
    by true own is = cc
    by false own is =
        let same : s ≡ set = cc in
        subst NamesNoError same (low s refl, no_error_in s own)

alternatives_name_no_error : (call : Call) (items : Items) (sets : List ℕ) → alternatives_of call items ≡ Ok sets →
    AllByRecursion NamesNoError sets
alternatives_name_no_error call no_items sets is =
    let none : [] ≡ sets = cc in
    subst (AllByRecursion NamesNoError) none tt
alternatives_name_no_error call (item value items) sets is =
    let text = step_read (ok_or (as_str value) (BadRow call)) _ sets is in
    let set = step_read (alternative_of call (promises_of text.0)) _ sets text.2 in
    let more = step_read (alternatives_of call items) _ sets set.2 in
    let all : set.0 ∷ more.0 ≡ sets = cc in
    subst (AllByRecursion NamesNoError) all (
      alternative_names_no_error call (promises_of text.0) set.0 (promises_below text.0) set.1,
      alternatives_name_no_error call items more.0 more.1,
    )

rule_needs_no_error : (call : Call) (value : Data) (rule : Rule) → rule_in call value ≡ Ok rule → NeedsNoError rule
rule_needs_no_error call value rule is =
    let row = step_read (ok_or (row_of value) (BadRow call)) _ rule is in
    let sets = step_read (alternatives_of call row.0.0) _ rule row.2 in
    let perms = step_read (veil_of call (perms_of row.0.1)) _ rule sets.2 in
    let whole : (record { alternatives = sets.0; perms = perms.0 }) ≡ rule = cc in
    subst NeedsNoError whole (alternatives_name_no_error call row.0.0 sets.0 sets.1)

-- what is true of what is put in and of what stood at a place is true of what stands there then
at_set : {X : Type 0} (P : X → Type 0) (xs : List X) (i j : ℕ) (y d : X) → P y → P (slice_index_or xs j d) →
    P (slice_index_or (slice_set xs i y) j d)
at_set P [] i j y d new old = old
at_set P (x ∷ xs) zero zero y d new old = new
at_set P (x ∷ xs) zero (suc j) y d new old = old
at_set P (x ∷ xs) (suc i) zero y d new old = old
at_set P (x ∷ xs) (suc i) (suc j) y d new old = at_set P xs i j y d new old

-- what a table keeps by each row that is read is so of the table that a text gives over another
module _ (P : CallTable → Type 0) (keeps : (rules : CallTable) (call : Call) (rule : Rule) → NeedsNoError rule → P rules →
    P (with_rule rules call rule)) where
  rules_keep : (rules : CallTable) (members : Members) (table : CallTable) → P rules → rules_with rules members ≡ Ok table → P table
  rules_keep rules no_members table so is =
      let same : rules ≡ table = cc in
      subst P same so
  rules_keep rules (member key value members) table so is =
      let named = step_read (ok_or (call_in rules key) BadKey) _ table is in
      let rule = step_read (rule_in named.0 value) _ table named.2 in
      rules_keep (with_rule rules named.0 rule.0) members table
      (keeps rules named.0 rule.0 (rule_needs_no_error named.0 value rule.0 rule.1) so) rule.2

  texts_keep : (base : CallTable) → P base → (text : List ℕ) (table : CallTable) → table_over base text ≡ Ok table → P table
  texts_keep base so text table is = by (document_of text) is
    where
      by : (document : Option Members) → table_of_document base document ≡ Ok table → P table
      by None is = cc
      by (Some members) is = rules_keep base members table so is

pub texts_need_no_error : (base : CallTable) → NoCallNeedsError base → (text : List ℕ) (table : CallTable) →
    table_over base text ≡ Ok table → NoCallNeedsError table
texts_need_no_error = texts_keep NoCallNeedsError (λ rules call rule none sound. record {
  calls = λ asked. at_set NeedsNoError rules.rules _ _ rule (standard_rule asked) none (sound.calls asked);
  rename = sound.rename;
  link = sound.link;
})

-- and what no text gives is that of the table over which it is read
pub texts_keep_pairs : (base : CallTable) (text : List ℕ) (table : CallTable) → table_over base text ≡ Ok table → HasPairsOf base table
texts_keep_pairs base =
    texts_keep (HasPairsOf base)
    (λ rules call rule none same. record { rename = same.rename; link = same.link; whose = same.whose }) base
    (record { rename = refl; link = refl; whose = refl })
