use Rattle.pua_texts.proofs.Common.{ap, get_or, kept_at, sym, ◌∙◌}
use Rattle.pua_script.specs.Worlds.{world_of}
use Rattle.pua_texts.specs.ListLines.{list_text}
use Rattle.pua_texts.specs.ObjectLines.{heading_now, process_list}
use Rattle.pua_texts.proofs.OneByOne.{one_more}
use Rattle.pua_texts.proofs.object_lists.begin_objects.Goals as goal

pub loop-number-preserved : goal.loop-number-preserved
loop-number-preserved g c =
    let w = world_of c.args.world.now in
    let table = c.args.world.now.table in
    let numbers = c.args.numbers.now in
    let number = get_or numbers c.loop-number.number-index 0 in
    let process = c.in-Some.process.now in
    let list = c.in_ok-list.list in
    let listed = ap (λ t. list_text t list) (sym c.tree.ensures) ∙ c.in_ok-list.ensures
    ∙ (λ j. process_list (heading_now c.args.rules number) (c.table.ensures j) (c.tree.ensures j) process) in
    one_more (kept_at w) (λ number. process_list (heading_now c.args.rules number) table w.tree) w.tree numbers c.loop-number.number-index _
    c.loop-number-test.true c.loop-number.lists.items c.push_back.new.self.items list process c.loop-number.invariant (sym c.in-Some.ensures)
    c.in_ok-push_back.ensures.items listed
