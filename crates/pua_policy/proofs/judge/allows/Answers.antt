use Rattle.pua_policy.proofs.Common.{rules, ◌≡◌, None}
use Rattle.pua_policy.specs.States.{may_any}
use Rattle.pua_policy.specs.Verdict.{cover_fault}
use Rattle.pua_calls.specs.Calls.{rule_of}
use Rattle.pua_policy.specs.declared.answer.May.TheVariants.{Yes}
use Rattle.pua_policy.proofs.Suiting.{allowed_so}
use Rattle.pua_policy.proofs.judge.allows.Goals.{then-is_ok, else-is_ok}
use Rattle.pua_policy.proofs.judge.allows.Goals as goal

pub returns-then-is_none : goal.returns-then-is_none
returns-then-is_none c = λ t judged seen.
    let table = c.args.table.now in
    let here = c.suits.ensures table.whose t judged seen in
    elim c.if-is_ok.branch [
      | then-is_ok w ↦
          let held : may_any c.args.process.now (rule_of table c.args.call).alternatives ≡ Yes = search rules in
          let covers : cover_fault c.args.cover.now (rule_of table c.args.call).perms ≡ None = search rules in
          allowed_so _ _ _ c.suits.result held covers here
      | else-is_ok w ↦ absurd (cc)
    ]
