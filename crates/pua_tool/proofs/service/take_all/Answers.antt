use Rattle.pua_tool.proofs.Common.{◌∷◌, [], refl, rules}
use Rattle.pua_io.proofs.ForCallers.{asks_then, whole_asked}
use Rattle.pua_tool.specs.Performed.{inputs_of, table_names}
use Rattle.pua_tool.proofs.service.take_all.Goals as goal

pub returns-in_err-tree-clause-untaken : goal.returns-in_err-tree-clause-untaken
returns-in_err-tree-clause-untaken g c = search rules

pub returns-in_err-tree-clause-asks : goal.returns-in_err-tree-clause-asks
returns-in_err-tree-clause-asks g c =
    let command = c.args.command.now in
    record {
      front = command.tree.now ∷ [];
      rest = command.script.now ∷ table_names command.table;
      parts = refl;
      asks = c.in_err-tree.ensures.asks;
    }

pub returns-in_err-script-clause-asks : goal.returns-in_err-script-clause-asks
returns-in_err-script-clause-asks g c =
    let command = c.args.command.now in
    record {
      front = command.tree.now ∷ command.script.now ∷ [];
      rest = table_names command.table;
      parts = refl;
      asks = asks_then _ _ _ (command.tree.now ∷ []) (command.script.now ∷ []) c.in_ok-tree.ensures.asks c.in_err-script.ensures.asks;
    }

pub returns-in_err-table-clause-asks : goal.returns-in_err-table-clause-asks
returns-in_err-table-clause-asks g c =
    let command = c.args.command.now in
    whole_asked _ _ (inputs_of command)
    (asks_then _ _ _ (command.tree.now ∷ []) (command.script.now ∷ table_names command.table) c.in_ok-tree.ensures.asks
    (asks_then _ _ _ (command.script.now ∷ []) (table_names command.table) c.in_ok-script.ensures.asks c.in_err-table.ensures.asks))

pub returns-clause-tree : goal.returns-clause-tree
returns-clause-tree g c = search rules

pub returns-clause-script : goal.returns-clause-script
returns-clause-script g c = search rules

pub returns-clause-inputs : goal.returns-clause-inputs
returns-clause-inputs g c =
    let command = c.args.command.now in
    asks_then _ _ _ (command.tree.now ∷ []) (command.script.now ∷ table_names command.table) c.in_ok-tree.ensures.asks
    (asks_then _ _ _ (command.script.now ∷ []) (table_names command.table) c.in_ok-script.ensures.asks c.in_ok-table.ensures.asks)

pub returns-clause-asks : goal.returns-clause-asks
returns-clause-asks g c =
    let command = c.args.command.now in
    whole_asked _ _ (inputs_of command)
    (asks_then _ _ _ (command.tree.now ∷ []) (command.script.now ∷ table_names command.table) c.in_ok-tree.ensures.asks
    (asks_then _ _ _ (command.script.now ∷ []) (table_names command.table) c.in_ok-script.ensures.asks c.in_ok-table.ensures.asks))
