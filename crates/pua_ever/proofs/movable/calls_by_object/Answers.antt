use Rattle.pua_ever.proofs.Common.{refl, ap, ◌∙◌, list_any, IsMissing, can_move, lasting_dir, removable_dir}
use Rattle.pua_ever.proofs.Common.{is_allowed_under}
use Rattle.pua_calls.specs.Calls.{file_by_rules}
use Rattle.pua_calls.specs.declared.call.Call.TheVariants.{Stat}
use Rattle.pua_policy.specs.Verdict.{Is}
use Rattle.pua_ever.specs.Movable.{all_destinations}
use Rattle.pua_ever.proofs.Under.{some_moves, under_dirs, under_files, under_made}
use Rattle.pua_ever.proofs.movable.calls_by_object.Goals as goal

pub returns : goal.returns
returns c = λ t on dirs names opens.
    let h = c.args.process.now in
    let table = c.args.table.now in
    let found = c.args.found.now in
    let moves = c.moves_any-moves.ensures ∙ ap (list_any (can_move table h)) c.deref.ensures.value
    ∙ some_moves t table h on found.dirs.items found.entrances.items found.names.items dirs IsMissing Stat names opens in
    record {
      dir = λ call. c.on_dirs-dir.ensures lasting_dir refl call ∙
          under_dirs t table h on found.dirs.items found.entrances.items found.names.items dirs lasting_dir call;
      emptied = λ call. c.on_dirs-emptied.ensures removable_dir refl call ∙
          under_dirs t table h on found.dirs.items found.entrances.items found.names.items dirs removable_dir call;
      others = λ call. c.on_dirs-others.ensures IsMissing refl call ∙
          under_dirs t table h on found.dirs.items found.entrances.items found.names.items dirs IsMissing call;
      nodes = λ kind call. c.calls_by_kind-nodes.ensures kind call ∙
          under_files t table h on found.dirs.items found.entrances.items found.names.items dirs (Is kind) call names opens c.moves_any-moves.result moves;
      new_file = λ call. c.on_node-new_file.ensures call
          ∙ ap (λ kind. is_allowed_under table h (all_destinations found c.moves_any-moves.result) (Is kind) call) (c.file.ensures
          ∙ ap file_by_rules c.rules.ensures)
          ∙ under_files t table h on found.dirs.items found.entrances.items found.names.items dirs (Is (file_by_rules table.whose)) call names opens
          c.moves_any-moves.result moves;
      made = λ call. c.on_names-made.ensures call ∙
          under_made t table h on found.dirs.items found.entrances.items found.names.items dirs IsMissing call names;
    }
