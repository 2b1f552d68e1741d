use Rattle.pua_texts.proofs.Common.{◌≡◌, ap, kept_at, ℕ, List, Option, ProcessState, sym, Some, ◌∙◌, []}
use Rattle.std.specs.Option.{option_map_or}
use Rattle.pua_calls.specs.Calls.{CallTable}
use Rattle.pua_calls.specs.declared.rules.Rules.{Rules}
use Rattle.pua_script.specs.Replay.{World}
use Rattle.pua_script.specs.Worlds.{world_of}
use Rattle.pua_texts.specs.ListLines.{ListState, list_text, lists_text}
use Rattle.pua_texts.specs.ObjectLines.{heading_before, image_list_of, process_list}
use Rattle.pua_texts.proofs.Outcomes.{if_ok}
use Rattle.pua_texts.proofs.object_lists.begin_image.Goals as goal

-- the list of a process that was made, alone
made_alone : (line : ℕ) (rules : Rules) (table : CallTable) (w : World) (number : ℕ) (h : ProcessState) (lists : List ListState) (list : ListState) →
    lists_text w.tree lists ≡ list_text w.tree list → list_text w.tree list ≡ process_list (heading_before line rules number) table w.tree h →
    kept_at w number ≡ Some h → lists_text w.tree lists ≡ image_list_of line rules table w number
made_alone line rules table w number h lists list alone listed made =
    alone ∙ listed ∙ ap (λ (o : Option ProcessState). option_map_or (process_list (heading_before line rules number) table w.tree) o []) (sym made)

pub returns : goal.returns
returns g c =
    let w = world_of c.args.world.now in
    let table = c.args.world.now.table in
    let list = c.in_ok-list.list in
    let process = c.in-Some.process.now in
    let head = heading_before c.args.line c.args.rules c.args.number in
    let listed : list_text w.tree list ≡ process_list head table w.tree process = ap (λ t. list_text t list) (sym c.tree.ensures)
    ∙ c.in_ok-list.ensures ∙ (λ j. process_list head (c.table.ensures j) (c.tree.ensures j) process) in
    if_ok c.alone.result (λ lists is.
    made_alone c.args.line c.args.rules table w c.args.number process lists.items list (is w.tree) listed (sym c.in-Some.ensures))
    c.alone.ensures
