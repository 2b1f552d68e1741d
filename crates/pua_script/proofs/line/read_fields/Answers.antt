use Rattle.pua_script.proofs.Common.{map, subst, sym}
use Rattle.pua_script.specs.Added.{IsRequestAdded}
use Rattle.pua_script.specs.Scripts.{request_of_fields}
use Rattle.pua_script.proofs.Reading.{line_added}
use Rattle.pua_script.proofs.line.read_fields.Goals as goal

pub returns : goal.returns
returns c =
    let added = line_added c.args.rules c.args.number c.in-Some-number_within.process c.in-Some.process.now.now (map (λ f. f.now) c.in-Some.more.now)
    c.args.requests.now.items c.read_action.new.requests.items c.read_action.result (sym c.in-Some-number_within.ensures)
    c.read_action.ensures in
    subst (λ fields. IsRequestAdded (request_of_fields c.args.rules c.args.number (map (λ f. f.now) fields)) c.args.requests.now.items
    c.read_action.new.requests.items c.read_action.result) (sym c.in-Some.ensures.cases.0) added
