use Rattle.pua_texts.proofs.Common.{[], Ok, Err, refl, sym, ap, subst, ◌∙◌, err_from_is_err_and, Tree, Passes}
use Rattle.std.proofs.lemmas.List.{nil_from_length}
use Rattle.pua_texts.specs.ListLines.{list_text, lists_text}
use Rattle.pua_texts.proofs.Passing.{passes_none, passes_front, passing_fails, passing_last, passing_more}
use Rattle.pua_texts.proofs.lists.add_lists.Goals as goal

pub returns-in_err-add_text : goal.returns-in_err-add_text
returns-in_err-add_text g c =
    let p = err_from_is_err_and c.from_residual.result c.from_residual.ensures.1 in
    rw p.1 (passes_front c.args.front.now (lists_text c.args.places.now.tree c.args.lists.now.items) _ [] [] p.0 _ _ _ _
    c.in_err-add_text.ensures)

pub loop-list-init : goal.loop-list-init
loop-list-init g c = record {
  tree = refl;
  lists = record {
    done = c.args.front.now;
    parts = refl;
    passes = c.in_ok-add_text.ensures;
  };
}

pub loop-list-preserved : goal.loop-list-preserved
loop-list-preserved g c =
    let t = c.args.places.now.tree in
    let inv = c.loop-list.invariant in
    record {
      tree = c.add_to.ensures.tree ∙ inv.tree;
      lists = passing_more _ _ (list_text t c.in-Some.list) (lists_text t c.pop_front.new.self.items) _ _ _ _ _ _ _ _ _ inv.lists
          (ap (lists_text t) c.in-Some.ensures.items)
          (subst (λ (u : Tree). Passes (list_text u c.in-Some.list) (Ok tt) c.loop-list.block c.add_to.new.block
          (g.S.Sink.written c.loop-list.sink) (g.S.Sink.written c.add_to.new.sink) (g.S.Sink.failed c.loop-list.sink)
          (g.S.Sink.failed c.add_to.new.sink)) inv.tree c.in_ok-add_to.ensures.list);
    }

pub returns-in_err-add_to : goal.returns-in_err-add_to
returns-in_err-add_to g c =
    let t = c.args.places.now.tree in
    let inv = c.loop-list.invariant in
    let p = err_from_is_err_and c.from_residual-in_err-add_to.result c.from_residual-in_err-add_to.ensures.1 in
    rw p.1 (passing_fails _ _ (list_text t c.in-Some.list) (lists_text t c.pop_front.new.self.items) _ _ [] [] p.0 _ _ _ _ _ _ inv.lists
    (ap (lists_text t) c.in-Some.ensures.items)
    (subst (λ (u : Tree). Passes (list_text u c.in-Some.list) (Err p.0) c.loop-list.block [] (g.S.Sink.written c.loop-list.sink)
    (g.S.Sink.written c.add_to.new.sink) (g.S.Sink.failed c.loop-list.sink) (g.S.Sink.failed c.add_to.new.sink)) inv.tree
    c.in_err-add_to.ensures.list))

pub returns : goal.returns
returns g c =
    passing_last _ _ [] _ _ c.loop-list.block (Ok tt) _ _ _ _ _ _ c.loop-list.invariant.lists
    (ap (lists_text c.args.places.now.tree) (nil_from_length c.loop-list.lists.items (sym c.loop-list.lists.ok.0 ∙
    c.in_default.ensures.cases.0)))
    (passes_none c.loop-list.block (g.S.Sink.written c.loop-list.sink) (g.S.Sink.failed c.loop-list.sink))
