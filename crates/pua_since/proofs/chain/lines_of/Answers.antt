use Rattle.pua_since.proofs.Common.{◌≡◌, ◌∙◌, ◌++◌, ◌∷◌, [], sym, ap, map, flat_map, append_assoc, append-nil, string_bytes, inl, inr, ◌⊎◌}
use Rattle.pua_since.proofs.Common.{iter_rest, with_end, WorldState, apply_to, state_after_all, world_of, Asked, reason, fact_seen, date_of}
use Rattle.pua_since.proofs.Common.{reason_tail, answer_words, subst}
use Rattle.std.proofs.lemmas.Slice.Zip.{Zip-more, either_empty_from_Zip}
use Rattle.pua_why.specs.Texts.{fact_dated}
use Rattle.pua_since.proofs.Chained.{chained, dated_lines, none_left, one_line}
use Rattle.pua_since.proofs.chain.lines_of.Goals as goal

pub loop-fact-init : goal.loop-fact-init
loop-fact-init g c =
    let facts : iter_rest c.into_iter-fact-iterator.result.a ≡ c.args.passed.now = cc in
    let lines : iter_rest c.into_iter-fact-iterator.result.b ≡ c.args.dates.now.facts.items = cc in
    record {
      tree = c.in-Ok.ensures ∙ c.tree.ensures;
      told = sym (λ i. c.new-text.ensures.bytes i ++ flat_map with_end (dated_lines c.args.world.now.tree (map fact_seen (facts i))
          (lines i)));
    }

pub loop-fact-preserved : goal.loop-fact-preserved
loop-fact-preserved g c =
    let t = c.args.world.now.tree in
    let rest = Zip-more c.loop-fact.fact-iterator c.next.new.self c.next.result (
      c.in-Some.fact,
      c.in-Some.line,
    ) c.in-Some.is c.next.ensures.steps in
    record {
      tree = c.push_fact.ensures.tree ∙ c.loop-fact.invariant.tree;
      told = one_line t (fact_seen c.in-Some.fact.now) c.in-Some.line.now (map fact_seen (iter_rest c.next.new.self.a))
          (iter_rest c.next.new.self.b) _
          (string_bytes c.loop-fact.text) (string_bytes c.push_fact.new.text) (string_bytes c.push_str.new.self)
          (c.loop-fact.invariant.told ∙
          (λ i. string_bytes c.loop-fact.text ++ flat_map with_end (dated_lines t (map fact_seen (rest.0 i)) (rest.1 i))))
          (c.in_ok-push_fact.ensures.text (c.loop-fact.invariant.tree ∙ sym c.tree-in-loop-fact.ensures)
          ∙ (λ i. string_bytes c.loop-fact.text ++ fact_dated (c.tree-in-loop-fact.ensures i) c.in-Some.line.now
          (fact_seen c.in-Some.fact.now)))
          c.in_ok-push_str.ensures.bytes;
    }

pub returns : goal.returns
returns g c s done at told are dated =
    let t = c.args.world.now.tree in
    let asked : Asked = record { process = c.process-process.result; action = c.action-action.result.now } in
    let same : asked ≡ c.args.request.now =
    λ i. record { process = c.process-process.ensures.process i; action = c.action-action.ensures.action i } in
    let empty : (map fact_seen (iter_rest c.loop-fact.fact-iterator.a) ≡ []) ⊎ (iter_rest c.loop-fact.fact-iterator.b ≡ []) =
    by (either_empty_from_Zip c.loop-fact.fact-iterator c.next.new.self c.next.result c.in-None.is c.next.ensures.steps) in
    let so_far : flat_map with_end (dated_lines t (map fact_seen c.args.passed.now) c.args.dates.now.facts.items)
    ≡ string_bytes c.loop-fact.text =
    c.loop-fact.invariant.told ∙ ap (λ lines. string_bytes c.loop-fact.text ++ flat_map with_end lines) (none_left t _ _ empty) ∙
    append-nil (string_bytes c.loop-fact.text) in
    let Says : WorldState → Asked → Type 0 = λ v ask. c.args.answer ≡ (apply_to v ask).0 → string_bytes c.push_answer.new.text ≡ string_bytes c.loop-fact.text
    ++ (answer_words v.table (world_of v) ask
    ++ reason_tail v.table (world_of v) ask (date_of (reason v.table (world_of v) ask) c.args.dates.now.answer)) in
    let answered : Says (state_after_all s done) c.args.request.now =
    subst (λ (X : Type 0). X) (λ i. Says (at i) (same i)) c.in_ok-push_answer.ensures in
    c.in_ok-push_str-2.ensures.bytes
    ∙ ap (λ text. text ++ 10 ∷ []) (answered told)
    ∙ append_assoc (string_bytes c.loop-fact.text) _ (10 ∷ [])
    ∙ chained s.table (world_of s) done c.args.request.now (map fact_seen c.args.passed.now) c.args.dates.now t
    (string_bytes c.loop-fact.text) (ap (λ v. v.tree) at) are dated (sym so_far)
  where
    by : (iter_rest c.loop-fact.fact-iterator.a ≡ []) ⊎ (iter_rest c.loop-fact.fact-iterator.b ≡ []) →
        (map fact_seen (iter_rest c.loop-fact.fact-iterator.a) ≡ []) ⊎ (iter_rest c.loop-fact.fact-iterator.b ≡ [])
    by (inl none) = inl (ap (map fact_seen) none)
    by (inr none) = inr none
