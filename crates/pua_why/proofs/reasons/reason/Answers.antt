use Rattle.pua_script.specs.Worlds.{world_of}
use Rattle.pua_why.proofs.Common.{ap, sym, ◌∙◌}
use Rattle.pua_why.specs.Checked.{told_by}
use Rattle.pua_why.specs.Seen.{reason_seen}
use Rattle.pua_why.proofs.Checking.{checks_tell}
use Rattle.pua_why.proofs.reasons.reason.Goals as goal

pub returns-in-Ok-NeverMade : goal.returns-in-Ok-NeverMade
returns-in-Ok-NeverMade g c = λ is.
    (λ i. told_by (is i) ((ap reason_seen (sym c.in-Ok-NeverMade.field-0-is) ∙ c.in-Ok-NeverMade.ensures) i))
    ∙ checks_tell c.args.world.now.table (world_of c.args.world.now) (record { process = c.args.number; action = c.args.action.now })

pub returns-in-Ok-Ended : goal.returns-in-Ok-Ended
returns-in-Ok-Ended g c = λ is.
    (λ i. told_by (is i) ((ap reason_seen (sym c.in-Ok-Ended.field-0-is) ∙ c.in-Ok-Ended.ensures) i))
    ∙ checks_tell c.args.world.now.table (world_of c.args.world.now) (record { process = c.args.number; action = c.args.action.now })

pub returns-in-Ok-Refused : goal.returns-in-Ok-Refused
returns-in-Ok-Refused g c = λ is.
    (λ i. told_by (is i) ((ap reason_seen (sym c.in-Ok-Refused.field-0-is) ∙ c.in-Ok-Refused.ensures) i))
    ∙ checks_tell c.args.world.now.table (world_of c.args.world.now) (record { process = c.args.number; action = c.args.action.now })

pub returns-in-Ok-Granted : goal.returns-in-Ok-Granted
returns-in-Ok-Granted g c = λ is.
    c.granted_by.ensures ∙ (λ i. told_by (is i) ((ap reason_seen (sym c.in-Ok-Granted.field-0-is) ∙ c.in-Ok-Granted.ensures) i))
    ∙ checks_tell c.args.world.now.table (world_of c.args.world.now) (record { process = c.args.number; action = c.args.action.now })
