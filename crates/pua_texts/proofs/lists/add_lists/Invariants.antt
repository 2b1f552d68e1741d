use Rattle.pua_texts.proofs.Common.{◌≡◌, ◌++◌, length}
use Rattle.pua_texts.specs.ListLines.{lists_text}
use Rattle.pua_texts.proofs.Passing.{Passing}
use Rattle.pua_texts.proofs.lists.add_lists.Given as goal

-- the front and the lists so far are added, and the others are still to come
abbrev pub invariant-loop-list : goal.invariant-loop-list
invariant-loop-list g l = record {
  tree : l.places.tree ≡ l.fn.places.tree;
  lists : Passing (l.front ++ lists_text l.fn.places.tree l.fn.lists.items) (lists_text l.fn.places.tree l.lists.items)
      l.fn.block l.block (g.S.Sink.written l.fn.sink) (g.S.Sink.written l.sink) (g.S.Sink.failed l.fn.sink) (g.S.Sink.failed l.sink);
}

abbrev pub decreases-loop-list : goal.decreases-loop-list
decreases-loop-list g l = length l.lists.items
