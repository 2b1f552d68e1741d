use Rattle.pua_policy.proofs.Common.{◌≡◌, Call, Tree, [], ◌∷◌}
use Rattle.pua_tree.specs.declared.node.Kind.TheVariants as kind
use Rattle.pua_tree.specs.declared.node.FileType.TheVariants.{Plain, Sock, Fifo, Dev}
use Rattle.pua_calls.specs.CallSets.{has}
use Rattle.std.specs.Prelude.{slice_index}
use Rattle.pua_policy.specs.AllowedCalls.{place_of_object}
use Rattle.pua_policy.specs.Objects.{object_seen}
use Rattle.pua_policy.specs.Verdict.{Object as Judged, covered_verdict, is_allowed}
use Rattle.pua_policy.specs.declared.answer.Cover.TheVariants.{All}
use Rattle.pua_policy.specs.declared.object.Object as seen
use Rattle.pua_policy.specs.declared.object.Object.TheVariants as see
use Rattle.pua_policy.proofs.allowed_calls.AllowedCalls.new.Goals as goal

pub returns : goal.returns
returns c = record {
  everything = λ t object judged as_seen call. by t object judged as_seen call;
  permitted = c.all_within.ensures;
}
  where
    by : (t : Tree) (object : seen.Object) (judged : Judged) → object ≡ object_seen t judged → (call : Call) →
        has (slice_index (c.allowed.result ∷ c.allowed-2.result ∷ c.allowed-3.result ∷ c.allowed-4.result ∷ c.allowed-5.result
        ∷ c.allowed-6.result ∷ c.allowed-7.result ∷ c.allowed-8.result ∷ c.allowed-9.result ∷ c.allowed-10.result ∷ []) (place_of_object object)) call
        ≡ is_allowed (covered_verdict t c.args.table.now c.args.process.now call All judged)
    by t (see.Node kind.Dir) = c.allowed.ensures t
    by t (see.Node kind.File) = c.allowed-2.ensures t
    by t (see.Node kind.Prog) = c.allowed-3.ensures t
    by t (see.Node kind.Link) = c.allowed-4.ensures t
    by t (see.Node (kind.Known Plain)) = c.allowed-5.ensures t
    by t (see.Node (kind.Known Sock)) = c.allowed-6.ensures t
    by t (see.Node (kind.Known Fifo)) = c.allowed-7.ensures t
    by t (see.Node (kind.Known Dev)) = c.allowed-8.ensures t
    by t see.Removable = c.allowed-9.ensures t
    by t see.Missing = c.allowed-10.ensures t
