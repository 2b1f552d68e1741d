-- By the rules that a command names the calls that change names need `c`, and so do both names of rename and the new one of link.
use Rattle.pua_ever.proofs.Common.{◌≡◌, Bool, true, false, not, ◌||◌, refl, false≢true, Call, rule_of}
use Rattle.pua_calls.specs.Promises.{holds, creating}
use Rattle.pua_calls.specs.Calls.{openbsd_table, standard_table}
use Rattle.pua_calls.specs.declared.call.Call.TheVariants as call
use Rattle.pua_calls.specs.declared.rules.Rules.TheVariants.{Standard, Openbsd}
use Rattle.pua_script.specs.Confinement.{changes_names}
use Rattle.pua_script.proofs.ForCallers.{rules_narrow}
use Rattle.pua_ever.specs.Laws.{RulesEditByC}

either : (a b : Bool) → (not a || b) ≡ true → a ≡ true → b ≡ true
either true b e is = e
either false b e is = absurd (false≢true is)

standard_needs_c : (c : Call) → changes_names c ≡ true → holds (rule_of standard_table c).perms creating ≡ true
standard_needs_c call.Stat changes = absurd (false≢true changes)
standard_needs_c c changes = either (changes_names c) (holds (rule_of standard_table c).perms creating) refl changes

openbsd_needs_c : (c : Call) → changes_names c ≡ true → holds (rule_of openbsd_table c).perms creating ≡ true
openbsd_needs_c call.Stat changes = absurd (false≢true changes)
openbsd_needs_c c changes = either (changes_names c) (holds (rule_of openbsd_table c).perms creating) refl changes

pub rules_edit_by_c : RulesEditByC
rules_edit_by_c Standard = (
  (rules_narrow Standard).error,
  record { calls = standard_needs_c; rename_old = refl; rename_new = refl; link_new = refl },
)
rules_edit_by_c Openbsd = (
  (rules_narrow Openbsd).error,
  record { calls = openbsd_needs_c; rename_old = refl; rename_new = refl; link_new = refl },
)
