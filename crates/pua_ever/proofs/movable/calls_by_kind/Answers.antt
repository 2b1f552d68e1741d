use Rattle.pua_ever.proofs.Common.{◌≡◌, ◌∷◌, [], Call, Kind, has, is_allowed_under}
use Rattle.std.specs.Prelude.{slice_index}
use Rattle.pua_tree.specs.Kinds.{about_kind}
use Rattle.pua_tree.specs.declared.node.Kind.TheVariants.{Dir, File, Prog, Link, Known}
use Rattle.pua_tree.specs.declared.node.FileType.TheVariants.{Plain, Sock, Fifo, Dev}
use Rattle.pua_policy.specs.Verdict.{Is}
use Rattle.pua_ever.specs.Movable.{all_destinations}
use Rattle.pua_ever.proofs.movable.calls_by_kind.Goals as goal

pub returns : goal.returns
returns c = on_kind
  where
    on_kind : (kind : Kind) (call : Call) → has (slice_index (c.on_node.result ∷ c.on_node-2.result ∷ c.on_node-3.result ∷ c.on_node-4.result
        ∷ c.on_node-5.result ∷ c.on_node-6.result ∷ c.on_node-7.result ∷ c.on_node-8.result ∷ []) (about_kind kind).number) call
        ≡ is_allowed_under c.args.table.now c.args.process.now (all_destinations c.args.found.now c.args.moves) (Is kind) call
    on_kind Dir = c.on_node.ensures
    on_kind File = c.on_node-2.ensures
    on_kind Prog = c.on_node-3.ensures
    on_kind Link = c.on_node-4.ensures
    on_kind (Known Plain) = c.on_node-5.ensures
    on_kind (Known Sock) = c.on_node-6.ensures
    on_kind (Known Fifo) = c.on_node-7.ensures
    on_kind (Known Dev) = c.on_node-8.ensures
