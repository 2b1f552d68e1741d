use Rattle.pua_policy.specs.Examples.{verdict_rows, last_check_rows, set_rows, reason_rows, rule_rows}
use Rattle.pua_policy.proofs.laws.verdict_examples.Goals as goal

pub returns : goal.returns
returns c = record { verdicts = verdict_rows; checks = last_check_rows; sets = set_rows; reasons = reason_rows; rules = rule_rows }
