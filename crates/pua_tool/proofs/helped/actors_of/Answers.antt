use Rattle.pua_tool.proofs.Common.{◌∙◌, ◌∷◌, ◌++◌, [], ap, arith, List, map, sym}
use Rattle.std.proofs.Common.{take_all}
use Rattle.std.proofs.lemmas.List.{map-append}
use Rattle.pua_ever.specs.declared.lasting_list.ExecBound.TheVariants.{Never}
use Rattle.pua_jointly.specs.declared.counting.Actor.{Actor}
use Rattle.pua_tool.specs.BesideFound.{ActorSeen, actor_seen, part_seen, silent_of}
use Rattle.pua_tool.specs.declared.helped.Part.{Part}
use Rattle.pua_tool.proofs.BesideFound.{parts_more}
use Rattle.pua_tool.proofs.helped.actors_of.Goals as goal

abbrev silent_part : Part → ActorSeen
silent_part part = silent_of (part_seen part)

pub loop-part-preserved : goal.loop-part-preserved
loop-part-preserved c =
    let parts : List Part = c.args.parts.now in
    let item : Part = c.part-item.result in
    let old : List Actor = c.loop-part.actors.items in
    ap (map actor_seen) c.in-Ok.ensures.items
    ∙ map-append actor_seen old (_ ∷ [])
    ∙ (λ j. c.loop-part.invariant j ++ record { process = item.process.now; started = c.as_ref.ensures.value j; execs = Never } ∷ [])
    ∙ sym (parts_more silent_part parts c.loop-part.part-index item c.loop-part-test.true c.part-item.is)

pub returns : goal.returns
returns c =
    c.loop-part.invariant
    ∙ ap (map silent_part) (take_all c.loop-part.part-index c.args.parts.now (omega (arith, c.loop-part-test.false)))
