use Rattle.pua_tool.proofs.Common.{◌≡◌, ◌∙◌, ◌∷◌, ap, List, map, refl, sym, CallTable, ProcessState, Tree, ℕ}
use Rattle.pua_jointly.specs.JointPrograms.{acting_of, worst}
use Rattle.pua_jointly.specs.declared.counting.Actor.{Actor}
use Rattle.pua_texts.specs.Members.{named_by}
use Rattle.pua_tool.specs.BesideFound.{actor_seen, part_by, part_seen, silent_of}
use Rattle.pua_tool.specs.BesideTexts.{states}
use Rattle.pua_tool.specs.declared.helped.Part.{Part}
use Rattle.pua_tool.proofs.BesideFound.{Begun, begun, found_told, none_told, parts_by, seen_parts}
use Rattle.pua_tool.proofs.helped.find_living.Goals as goal

-- those who act, as they were made of the parts
who_act : (table : CallTable) (h : ProcessState) (named : List (ℕ × ProcessState)) (parts : List Part) (actors : List Actor) →
    map part_seen parts ≡ part_by table h ∷ map (λ member. part_by table member.1) named → map actor_seen actors ≡ map (λ (part : Part). silent_of (part_seen part)) parts →
    Begun table actors (h ∷ states named)
who_act table h named parts actors are seen =
    begun table actors (h ∷ states named) (seen ∙ seen_parts table (h ∷ states named) parts (are ∙ parts_by table h named))

pub unreachable-requires : goal.unreachable-requires
unreachable-requires g c =
    let table : CallTable = c.args.table.now in
    let h : ProcessState = c.args.process.now in
    let named = named_by c.args.living.now in
    let parts : List Part = c.as_slice.result.now in
    let actors : List Actor = c.as_slice-2.result.now in
    let told : List Actor = c.as_slice-told.result.now in
    let began = who_act table h named parts actors (ap (map part_seen) c.as_slice.ensures.value ∙ c.in_ok-parts.ensures)
    (ap (map actor_seen) c.as_slice-2.ensures.value ∙ c.in_ok-actors.ensures) in
    let acting = c.in_ok-counted.ensures.acting began.silent in
    none_told h (states named) told
    (ap (λ (ms : List Actor). map (λ m. m.process) (map acting_of ms)) c.as_slice-told.ensures.value ∙ acting.same ∙ began.processes)
    c.in_default.ensures.cases

pub returns : goal.returns
returns g c =
    let t : Tree = g.T.FileTree.content c.args.tree.now in
    let table : CallTable = c.args.table.now in
    let h : ProcessState = c.args.process.now in
    let named = named_by c.args.living.now in
    let parts : List Part = c.as_slice.result.now in
    let actors : List Actor = c.as_slice-2.result.now in
    let told : List Actor = c.as_slice-told.result.now in
    let is : told ≡ c.in_ok-counted.counted.actors.items = c.as_slice-told.ensures.value in
    let began = who_act table h named parts actors (ap (map part_seen) c.as_slice.ensures.value ∙ c.in_ok-parts.ensures)
    (ap (map actor_seen) c.as_slice-2.ensures.value ∙ c.in_ok-actors.ensures) in
    found_told t table h (states named) c.in_ok-counted.counted.facts _ actors c.in_ok-counted.counted.actors.items c.in-Some.own.now _
    c.program.result (sym is ∙ c.in-Some.ensures.cases.0) began (c.in_ok-counted.ensures.acting began.silent)
    (c.in_ok-counted.ensures.facts began.silent) (c.in_ok-counted.ensures.programs began.silent) c.program.ensures refl
    (c.worst.ensures ∙ ap (λ (ms : List Actor). worst (map acting_of ms)) is) c.in_ok-rows.ensures.rows
