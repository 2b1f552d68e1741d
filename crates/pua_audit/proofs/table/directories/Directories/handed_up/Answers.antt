use Rattle.pua_audit.proofs.Common.{◌∙◌, sym}
use Rattle.pua_audit.proofs.Covers.{some_leads, handed_above}
use Rattle.pua_audit.proofs.table.directories.Directories.handed_up.Goals as goal

pub returns-in-None-clause-above : goal.returns-in-None-clause-above
returns-in-None-clause-above c =
    some_leads (λ left is. λ t fits covered living. is t c.args.process.now covered ∙
    handed_above t c.args.process.now fits c.args.from living (sym c.kept.ensures.state ∙ c.in-None.is)) c.cover_in.result
    c.cover_in.ensures
