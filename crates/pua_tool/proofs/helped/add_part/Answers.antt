use Rattle.pua_tool.proofs.Common.{◌∙◌, ◌∷◌, ◌++◌, [], ap, List, map, Option, ProcessState}
use Rattle.std.proofs.lemmas.List.{map-append}
use Rattle.pua_tool.specs.BesideFound.{PartSeen, part_seen}
use Rattle.pua_tool.specs.declared.helped.Part.{Part}
use Rattle.pua_tool.proofs.helped.add_part.Goals as goal

pub returns : goal.returns
returns c =
    let old : List Part = c.args.parts.now.items in
    let h : ProcessState = c.args.process.now in
    let more : Option ProcessState → PartSeen = λ started. record { process = h; started = started } in
    ap (map part_seen) c.in-Ok.ensures.items
    ∙ map-append part_seen old (_ ∷ [])
    ∙ ap (λ (started : Option ProcessState). map part_seen old ++ more started ∷ []) c.in_ok-program.ensures
