use Rattle.pua_ever.proofs.Common.{◌≡◌, take, empty_tree, has, object_seen, Object, Call, is_allowed_under}
use Rattle.pua_ever.proofs.movable.under.Given as goal

-- of the covers so far each gave its calls
abbrev pub invariant-loop-cover : goal.invariant-loop-cover
invariant-loop-cover l = record {
  so_far : (judged : Object) → l.object ≡ object_seen empty_tree judged
      → (call : Call) → has l.calls call ≡ is_allowed_under l.table l.process (take l.cover-index l.covers) judged call;
}
