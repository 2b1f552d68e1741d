use Rattle.pua_script.proofs.Common.{◌≡◌, sym, subst, ap, ◌∙◌, request_of_fields}
use Rattle.pua_script.specs.Added.{IsRequestAdded}
use Rattle.pua_script.specs.Scripts.{request_of_text}
use Rattle.pua_script.proofs.Reading.{by_fields}
use Rattle.pua_script.proofs.line.read_text.Goals as goal

pub returns : goal.returns
returns c =
    let line : request_of_text c.args.rules c.args.number c.args.text.now ≡ request_of_fields c.args.rules c.args.number c.in-Some.fields =
    by_fields c.args.rules c.args.number c.args.text.now c.in-Some.fields (sym c.in-Some.ensures) in
    let fields = c.as_slice.ensures in
    subst (λ r. IsRequestAdded r c.args.requests.now.items c.read_fields.new.requests.items c.read_fields.result)
    (sym (line ∙ ap (request_of_fields c.args.rules c.args.number) (sym fields))) c.read_fields.ensures
