-- The table by which lists for ever go: what its rules are, and how it is made.
use Rattle.pua_calls.proofs.Common.{◌≡◌, ◌<◌, ◌∙◌, ℕ, zero, suc, List, [], ◌∷◌, Bool, true, false, refl, sym, ap, subst, arith, get_or, length}
use Rattle.pua_calls.proofs.Common.{map, Call, CallTable, Rule, calls, Stat}
use Rattle.std.proofs.Common.{◌++◌, ◌&&◌, cond, lit<}
use Rattle.std.proofs.lemmas.List.{get_or_default, get_or-set_other, get_or-set_same, length-set}
use Rattle.std.specs.List.{AllByRecursion}
use Rattle.std.specs.Prelude.{◌≢◌}
use Rattle.pua_calls.specs.Promises.{tmppath}
use Rattle.pua_calls.specs.CallSets.{bit_of}
use Rattle.pua_calls.specs.Calls.{about_rules, call_count, rule_of, standard_rule}
use Rattle.pua_calls.specs.Tables.{NamesNoError, NeedsNoError, NoCallNeedsError}
use Rattle.pua_calls.specs.TableTexts.{with_rule}
use Rattle.pua_calls.specs.TmpTable.{is_tmp_call, rule_with_tmppath, tmp_rule, tmp_table, tmppath_suffices, with_tmppath}
use Rattle.pua_calls.specs.declared.call.Call.TheVariants.{Create, CreateBoth, Unlink}
use Rattle.pua_calls.proofs.CallBits.{bit_below, bit_of_call_at}
use Rattle.pua_calls.proofs.Rows.{rows_by}

-- its rule for a call
pub tmp_rule_is : (table : CallTable) (call : Call) → rule_of (tmp_table table) call ≡ tmp_rule table call
tmp_rule_is table Stat = refl
tmp_rule_is table _ = refl

-- what is true of all is true of what stands within a list
pub at_within : {X : Type 0} (P : X → Type 0) (xs : List X) (i : ℕ) (d : X) → i < length xs → AllByRecursion P xs → P (get_or xs i d)
at_within P [] i d within all = absurd (omega (arith, within))
at_within P (x ∷ xs) zero d within all = all.0
at_within P (x ∷ xs) (suc i) d within all = at_within P xs i d (omega (arith, within)) all.1

one_more : (sets : List ℕ) → AllByRecursion NamesNoError sets → AllByRecursion NamesNoError (sets ++ tmppath ∷ [])
one_more [] none = ((lit< tt, refl), tt)
one_more (set ∷ sets) none = (none.0, one_more sets none.1)

unless_enough : (enough : Bool) (sets : List ℕ) → AllByRecursion NamesNoError sets →
    AllByRecursion NamesNoError (cond enough sets (sets ++ tmppath ∷ []))
unless_enough true sets none = none
unless_enough false sets none = one_more sets none

pub with_tmppath_needs_no_error : (rule : Rule) → NeedsNoError rule → NeedsNoError (rule_with_tmppath rule)
with_tmppath_needs_no_error rule none = unless_enough (tmppath_suffices rule.alternatives) rule.alternatives none

-- no rule of it needs `error`, if none of the table does
pub tmp_rule_needs_no_error : (table : CallTable) (call : Call) → NeedsNoError (rule_of table call) → NeedsNoError (tmp_rule table call)
tmp_rule_needs_no_error table call none = by (is_tmp_call call && (about_rules table.whose).has_openings)
  where
    by : (more : Bool) →
        AllByRecursion NamesNoError (cond more (with_tmppath (rule_of table call).alternatives) (rule_of table call).alternatives)
    by true = unless_enough (tmppath_suffices (rule_of table call).alternatives) (rule_of table call).alternatives none
    by false = none

pub tmp_table_needs_no_error : (table : CallTable) → NoCallNeedsError table → NoCallNeedsError (tmp_table table)
tmp_table_needs_no_error table sound = record {
  calls = λ call. subst NeedsNoError (sym (tmp_rule_is table call)) (tmp_rule_needs_no_error table call (sound.calls call));
  rename = sound.rename;
  link = sound.link;
}

-- ---- how it is made

-- rows that are a table's rule for each call are its rules
rules_are : (table : CallTable) (rule : Call → Rule) → length table.rules ≡ call_count → ((call : Call) → rule_of table call ≡ rule call) →
    table.rules ≡ map rule calls
rules_are table rule long each = rows_by rule table.rules long (λ i e below.
    let call = get_or calls i Stat in
    let within : i < length table.rules = omega (arith, below, long) in
    get_or_default table.rules i e (standard_rule call) within
    ∙ ap (λ j. get_or table.rules j (standard_rule call)) (sym (bit_of_call_at i below)) ∙ each call)

pub with_rule_long : (table : CallTable) (call : Call) (rule : Rule) → length table.rules ≡ call_count →
    length (with_rule table call rule).rules ≡ call_count
with_rule_long table call rule long = length-set table.rules (bit_of call) rule ∙ long

-- the rule that was put in, and each other one
rule_here : (table : CallTable) (call : Call) (rule : Rule) → length table.rules ≡ call_count → rule_of (with_rule table call rule) call ≡ rule
rule_here table call rule long =
    let within : bit_of call < length table.rules = omega (arith, bit_below call, long) in
    get_or-set_same table.rules (bit_of call) rule (standard_rule call) within

rule_there : (table : CallTable) (call other : Call) (rule : Rule) → bit_of other ≢ bit_of call →
    rule_of (with_rule table call rule) other ≡ rule_of table other
rule_there table call other rule apart = get_or-set_other table.rules (bit_of call) (bit_of other) rule (standard_rule other) apart

-- one more set of a call's
abbrev pub one_more_set : CallTable → Call → CallTable
one_more_set table call = with_rule table call (rule_with_tmppath (rule_of table call))

module _ (table : CallTable) (long : length table.rules ≡ call_count) where
  -- where promises open nothing
  pub tmp_table_same : (about_rules table.whose).has_openings ≡ false → table ≡ tmp_table table
  tmp_table_same none = λ i. record table { rules = rules_are table (tmp_rule table) long (λ call. sym (unchanged call)) i }
    where
      by : (tmp kernel : Bool) (rule : Rule) → kernel ≡ false →
          record rule { alternatives = cond (tmp && kernel) (with_tmppath rule.alternatives) rule.alternatives } ≡ rule
      by true kernel rule is = ap (λ b. record rule { alternatives = cond b (with_tmppath rule.alternatives) rule.alternatives }) is
      by false kernel rule is = refl

      unchanged : (call : Call) → tmp_rule table call ≡ rule_of table call
      unchanged call = by (is_tmp_call call) (about_rules table.whose).has_openings (rule_of table call) none

  -- and where tmppath opens three calls
  pub tmp_table_made : (about_rules table.whose).has_openings ≡ true →
      one_more_set (one_more_set (one_more_set table Create) Unlink) CreateBoth ≡ tmp_table table
  tmp_table_made kernel = λ i. record table { rules = rules_are last (tmp_rule table) long_last each i }
    where
      first : CallTable
      first = one_more_set table Create

      second : CallTable
      second = one_more_set first Unlink

      last : CallTable
      last = one_more_set second CreateBoth

      long_first : length first.rules ≡ call_count
      long_first = with_rule_long table Create (rule_with_tmppath (rule_of table Create)) long

      long_second : length second.rules ≡ call_count
      long_second = with_rule_long first Unlink (rule_with_tmppath (rule_of first Unlink)) long_first

      long_last : length last.rules ≡ call_count
      long_last = with_rule_long second CreateBoth (rule_with_tmppath (rule_of second CreateBoth)) long_second

      by_first : (call : Call) → bit_of call ≢ 6 → rule_of first call ≡ rule_of table call
      by_first call apart = rule_there table Create call _ apart

      by_second : (call : Call) → bit_of call ≢ 9 → rule_of second call ≡ rule_of first call
      by_second call apart = rule_there first Unlink call _ apart

      by_last : (call : Call) → bit_of call ≢ 18 → rule_of last call ≡ rule_of second call
      by_last call apart = rule_there second CreateBoth call _ apart

      more : (call : Call) → is_tmp_call call ≡ true → rule_with_tmppath (rule_of table call) ≡ tmp_rule table call
      more call opens = λ i. record (rule_of table call) {
        alternatives = cond (sym opens i && sym kernel i) (with_tmppath (rule_of table call).alternatives) (rule_of table call).alternatives;
      }

      each : (call : Call) → rule_of last call ≡ tmp_rule table call
      each Create =
          by_last Create (λ e. omega (arith, e)) ∙ by_second Create (λ e. omega (arith, e)) ∙ rule_here table Create _ long ∙ more Create refl
      each Unlink =
          by_last Unlink (λ e. omega (arith, e)) ∙ rule_here first Unlink _ long_first
          ∙ ap rule_with_tmppath (by_first Unlink (λ e. omega (arith, e))) ∙ more Unlink refl
      each CreateBoth =
          rule_here second CreateBoth _ long_second
          ∙ ap rule_with_tmppath (by_second CreateBoth (λ e. omega (arith, e)) ∙ by_first CreateBoth (λ e. omega (arith, e)))
          ∙ more CreateBoth refl
      each call =
          by_last call (λ e. omega (arith, e)) ∙ by_second call (λ e. omega (arith, e)) ∙ by_first call (λ e. omega (arith, e))

pub tmp_table_made_by : (table first second last : CallTable) → length table.rules ≡ call_count →
    (about_rules table.whose).has_openings ≡ true → first ≡ one_more_set table Create → second ≡ one_more_set first Unlink →
    last ≡ one_more_set second CreateBoth → last ≡ tmp_table table
tmp_table_made_by table first second last long kernel a b c =
    c ∙ ap (λ t. one_more_set t CreateBoth) (b ∙ ap (λ t. one_more_set t Unlink) a) ∙ tmp_table_made table long kernel
