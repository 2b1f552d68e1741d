use Rattle.pua_since.proofs.Common.{◌≡◌, ◌++◌, ◌+◌, ◌∙◌, [], suc, sym, ap, subst, flat_map, append-nil, string_bytes, inl, inr, ◌⊎◌}
use Rattle.pua_since.proofs.Common.{iter_rest, with_end, state_after_all, world_of, AreWatched}
use Rattle.pua_why.specs.Texts.{why_lines}
use Rattle.pua_since.proofs.RunWithReasons.{IsTurn, all_told, none_told, past_all, turned}
use Rattle.pua_since.proofs.reason_lines.lines_text.Goals as goal
use Rattle.std.proofs.lemmas.List.{nil_from_length}

pub loop-done-init : goal.loop-done-init
loop-done-init g c =
    let requests : iter_rest c.into_iter-done-iterator.result.iter.a ≡ c.args.requests.now = cc in
    let told : iter_rest c.into_iter-done-iterator.result.iter.b ≡ c.args.answers.now = cc in
    let count : c.into_iter-done-iterator.result.count ≡ 0 = cc in
    none_told c.args.world.now c.args.watches.now c.args.requests.now c.args.answers.now c.args.places.now _ _ _ _ _ requests told
    c.iter-left.ensures.rest count c.new-text.ensures.bytes

pub loop-done-preserved : goal.loop-done-preserved
loop-done-preserved g c =
    let steps = c.in-Some.ensures.steps in
    let turn : IsTurn c.loop-done.world c.loop-done.watches c.serve.new.world c.serve.new.self c.in-Some.request.now c.in-Some.answer.now
    c.next_line-line.result (c.in-Some.done + 1) (string_bytes c.loop-done.text) (string_bytes c.push_line.new.text) = record {
      kept = c.serve.ensures.kept;
      world = c.in_ok-serve.ensures.world;
      watched = c.in_ok-serve.ensures.watched;
      told = c.in_ok-push_line.ensures;
    } in
    turned c.args.world.now c.args.watches.now c.args.requests.now c.args.answers.now c.args.places.now c.loop-done.world
    c.loop-done.watches
    (iter_rest c.loop-done.done-iterator.iter.a) (iter_rest c.loop-done.done-iterator.iter.b) (iter_rest c.loop-done.left)
    c.loop-done.done-iterator.count (string_bytes c.loop-done.text)
    c.in-Some.request.now (iter_rest c.next.new.self.iter.a) c.in-Some.answer.now (iter_rest c.next.new.self.iter.b)
    (iter_rest c.next_line-line.new.left) c.next.new.self.count c.next_line-line.result
    c.serve.new.world c.serve.new.self (string_bytes c.push_line.new.text) c.loop-done.invariant steps.0.0 steps.0.1 steps.2
    c.next_line-line.ensures.line c.next_line-line.ensures.left
    (subst (λ k. IsTurn c.loop-done.world c.loop-done.watches c.serve.new.world c.serve.new.self c.in-Some.request.now c.in-Some.answer.now
    c.next_line-line.result (k + 1) (string_bytes c.loop-done.text) (string_bytes c.push_line.new.text))
    steps.1 turn)

pub returns : goal.returns
returns g c =
    let steps = c.in-None.ensures.steps in
    let so = c.loop-done.invariant in
    let empty : (iter_rest c.loop-done.done-iterator.iter.a ≡ []) ⊎ (iter_rest c.loop-done.done-iterator.iter.b ≡ []) =
    elim steps.0 [ inl x ↦ inl (nil_from_length _ x.1.0) | inr x ↦ inr (nil_from_length _ x.1.0) ] in
    record {
      text = λ told are at.
          let none = all_told _ _ _ _ _ _ _ _ _ _ _ _ so empty told in
          sym ((so.lines told are at).0
          ∙ ap (λ left. string_bytes c.loop-done.text
          ++ flat_map with_end (why_lines c.args.world.now.table (world_of c.args.world.now) so.past (suc c.loop-done.done-iterator.count) left)) none
          ∙ append-nil (string_bytes c.loop-done.text));
      watched = λ told are.
          let none = all_told _ _ _ _ _ _ _ _ _ _ _ _ so empty told in
          let all = past_all _ _ _ _ _ _ _ _ _ _ _ _ so none in
          subst (λ (X : Type 0). X) (λ i. AreWatched c.args.world.now.table (world_of c.args.world.now) (all i) (none i) c.loop-done.watches)
          (so.watched told are);
      world = λ told.
          let all = past_all _ _ _ _ _ _ _ _ _ _ _ _ so (all_told _ _ _ _ _ _ _ _ _ _ _ _ so empty told) in
          so.world ∙ ap (state_after_all c.args.world.now) all;
      kept = so.kept;
    }
