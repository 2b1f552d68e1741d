use Rattle.pua_texts.proofs.Common.{◌≤◌, ◌+◌, ◌++◌, ◌∷◌, [], ℕ, List, get_or, sym, ap, ◌∙◌, append_assoc, append-nil, arith, if◌then◌else◌}
use Rattle.pua_texts.proofs.Common.{call_name, calls, Stat}
use Rattle.pua_calls.specs.Calls.{call_count}
use Rattle.pua_texts.proofs.ObjectLines.{calls_left, calls_all, call_taken, call_left, calls_done}
use Rattle.pua_texts.proofs.calls_text.add_names.Goals.{then-contains, else-contains}
use Rattle.pua_texts.proofs.calls_text.add_names.Goals as goal

pub loop-call-preserved : goal.loop-call-preserved
loop-call-preserved c =
    let set : ℕ = c.args.calls in
    let i : ℕ = c.loop-call.call-index in
    let block : List ℕ = c.loop-call.block in
    let before : List ℕ = if c.loop-call.is_first then [] else 44 ∷ [] in
    elim c.if-contains.branch [
      | then-contains w ↦ rw (w.block-is, w.is_first-is) (record {
        short = omega (arith, w.add_next.ensures.short, c.loop-call.invariant.short);
        names =
            ap (λ t. t ++ calls_left set (44 ∷ []) (i + 1)) w.add_next.ensures.name
            ∙ append_assoc block (before ++ call_name (get_or calls i Stat)) (calls_left set (44 ∷ []) (i + 1))
            ∙ ap (λ t. block ++ t) (sym (call_taken set before i c.loop-call-test.true (sym c.contains.ensures ∙ w.if-contains.true)))
            ∙ c.loop-call.invariant.names;
      })
      | else-contains w ↦ rw (w.block-is, w.is_first-is) (record {
        short = omega (arith, c.loop-call.invariant.short);
        names = ap (λ t. block ++ t) (sym (call_left set before i c.loop-call-test.true (sym c.contains.ensures ∙ w.if-contains.false))) ∙
            c.loop-call.invariant.names;
      })
    ]

pub returns-clause-names : goal.returns-clause-names
returns-clause-names c =
    let set : ℕ = c.args.calls in
    let i : ℕ = c.loop-call.call-index in
    let before : List ℕ = if c.loop-call.is_first then [] else 44 ∷ [] in
    let past : call_count ≤ i = omega (arith, c.loop-call-test.false) in
    sym (append-nil c.loop-call.block)
    ∙ ap (λ t. c.loop-call.block ++ t) (sym (calls_done set before i past))
    ∙ c.loop-call.invariant.names
    ∙ ap (λ t. c.args.block.now ++ t) (calls_all set)
