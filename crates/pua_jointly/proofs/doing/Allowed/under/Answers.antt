use Rattle.pua_jointly.proofs.Common.{◌≡◌, Call, covered_verdict, empty_tree, has, is_allowed, Kind, Object}
use Rattle.pua_tree.specs.declared.node.Kind.TheVariants.{Dir, File, Prog, Link, Known}
use Rattle.pua_tree.specs.declared.node.FileType.TheVariants.{Plain, Sock, Fifo, Dev}
use Rattle.pua_policy.specs.Objects.{object_seen}
use Rattle.pua_policy.specs.declared.object.Object as seen
use Rattle.pua_policy.specs.declared.object.Object.TheVariants.{Missing, Node, Removable}
use Rattle.pua_jointly.specs.JointCovers.{calls_on}
use Rattle.pua_jointly.specs.declared.doing.Allowed.{Allowed}
use Rattle.pua_jointly.proofs.doing.Allowed.under.Goals as goal

pub returns : goal.returns
returns c =
    let made : Allowed = record {
      missing = c.allowed.result;
      removable = c.allowed-2.result;
      dir = c.on_kind.result;
      file = c.on_kind-2.result;
      program = c.on_kind-3.result;
      link = c.on_kind-4.result;
      plain = c.on_kind-5.result;
      socket = c.on_kind-6.result;
      fifo = c.on_kind-7.result;
      device = c.on_kind-8.result;
    } in
    let So : seen.Object → Type 0 = λ object. (judged : Object) → object ≡ object_seen empty_tree judged → (call : Call) →
    has (calls_on made object) call ≡ is_allowed (covered_verdict empty_tree c.args.table.now c.args.process.now call c.args.cover.now judged) in
    let on_node : (kind : Kind) → So (Node kind) = λ kind. elim kind as (λ k. So (Node k)) [
      | Dir ↦ c.on_kind.ensures
      | File ↦ c.on_kind-2.ensures
      | Prog ↦ c.on_kind-3.ensures
      | Link ↦ c.on_kind-4.ensures
      | Known type ↦ elim type as (λ u. So (Node (Known u))) [
        | Plain ↦ c.on_kind-5.ensures
        | Sock ↦ c.on_kind-6.ensures
        | Fifo ↦ c.on_kind-7.ensures
        | Dev ↦ c.on_kind-8.ensures
      ]
    ] in
    λ object. elim object as So [
      | Missing ↦ c.allowed.ensures empty_tree
      | Node kind ↦ on_node kind
      | Removable ↦ c.allowed-2.ensures empty_tree
    ]
