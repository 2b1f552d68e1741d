-- What is true of each table of calls that is kept.
use Rattle.std.specs.Prelude.{◌≡◌, ℕ, ◌-◌, ◌<◌, ◌^◌, ◌||◌, List, ◌++◌, length, nat_le, replicate, bit_and, IsTrue}
use Rattle.std.specs.List.{AllByRecursion}
use Rattle.pua_calls.specs.Promises.{error}
use Rattle.pua_calls.specs.Calls.{Rule, PairRule, CallTable, call_count, rule_of}
use Rattle.pua_calls.specs.TmpTable.{tmppath_suffices}
use Rattle.pua_calls.specs.declared.call.Call.{Call}

-- at most so many alternatives may a text name for a call
abbrev pub most_alternatives : ℕ
most_alternatives = 8

-- and a row keeps at most so many, the last of them for `tmppath`
abbrev pub most_kept : ℕ
most_kept = 9

-- alternatives as they are kept, with empty sets after them
abbrev pub padded_sets : List ℕ → List ℕ
padded_sets sets = sets ++ replicate (most_kept - length sets) 0

-- there is room for one more where that is to come
abbrev pub HasRoom : List ℕ → Type 0
HasRoom sets = IsTrue (nat_le (length sets) most_alternatives || tmppath_suffices sets)

-- a set of keywords without `error`, which a process can gain
abbrev pub NamesNoError : ℕ → Type 0
NamesNoError set = (set < 2 ^ 36) × (bit_and set error ≡ 0)

abbrev pub NeedsNoError : Rule → Type 0
NeedsNoError rule = AllByRecursion NamesNoError rule.alternatives

abbrev pub PairNeedsNoError : PairRule → Type 0
PairNeedsNoError pair = NeedsNoError pair.old.needs × NeedsNoError pair.new.needs

-- no alternative of any call names `error`, nor of a name of rename and link
pub record NoCallNeedsError (table : CallTable) : Type 0 where
  pub calls : (call : Call) → NeedsNoError (rule_of table call)
  pub rename : PairNeedsNoError table.rename
  pub link : PairNeedsNoError table.link

-- a table has from another what no text gives: what rename and link need, and whose rules answer the rest
pub record HasPairsOf (base table : CallTable) : Type 0 where
  pub rename : table.rename ≡ base.rename
  pub link : table.link ≡ base.link
  pub whose : table.whose ≡ base.whose

-- a rule for each call, and none of these names `error`, nor one of rename and link
pub record IsCallTable (table : CallTable) : Type 0 where
  pub each : length table.rules ≡ call_count
  pub rules : AllByRecursion NeedsNoError table.rules
  pub rename : PairNeedsNoError table.rename
  pub link : PairNeedsNoError table.link
