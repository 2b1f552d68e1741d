-- The rules that a command names need no `error`.
use Rattle.pua_calls.proofs.Common.{◌≡◌, ℕ, ◌^◌, List, [], ◌∷◌, Bool, true, map, refl, Call, Stat, Rule, ◌==◌}
use Rattle.std.proofs.Common.{◌&&◌, nat_lt, bit_and, eqb-true}
use Rattle.std.proofs.lemmas.Bool.{and_parts, ltb-true}
use Rattle.std.specs.List.{AllByRecursion, list_all}
use Rattle.pua_calls.specs.Promises.{error}
use Rattle.pua_calls.specs.Calls.{openbsd_rule, openbsd_table, rule_of, standard_rule, standard_table}
use Rattle.pua_calls.specs.Tables.{NamesNoError, NeedsNoError}

abbrev pub names_none : ℕ → Bool
names_none set = nat_lt set (2 ^ 36) && bit_and set error == 0

-- sets without `error`, by computing it
pub none_by_test : (sets : List ℕ) → list_all names_none sets ≡ true → AllByRecursion NamesNoError sets
none_by_test [] e = tt
none_by_test (set ∷ sets) e =
    let parts = and_parts (names_none set) (list_all names_none sets) e in
    let here = and_parts (nat_lt set (2 ^ 36)) (bit_and set error == 0) parts.0 in
    ((ltb-true set (2 ^ 36) here.0, eqb-true (bit_and set error) 0 here.1), none_by_test sets parts.1)

pub standard_needs_no_error : (call : Call) → NeedsNoError (rule_of standard_table call)
standard_needs_no_error Stat = none_by_test (standard_rule Stat).alternatives refl
standard_needs_no_error call = none_by_test (standard_rule call).alternatives refl

pub openbsd_needs_no_error : (call : Call) → NeedsNoError (rule_of openbsd_table call)
openbsd_needs_no_error Stat = none_by_test (openbsd_rule Stat).alternatives refl
openbsd_needs_no_error call = none_by_test (openbsd_rule call).alternatives refl

-- the same of a list of rules
pub each_needs_none : (rule : Call → Rule) → ((call : Call) → NeedsNoError (rule call)) → (cs : List Call) →
    AllByRecursion NeedsNoError (map rule cs)
each_needs_none rule each [] = tt
each_needs_none rule each (c ∷ cs) = (each c, each_needs_none rule each cs)
