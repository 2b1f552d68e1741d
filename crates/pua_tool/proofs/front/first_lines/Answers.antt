use Rattle.std.proofs.Common.{◌-◌, ◌+◌, ◌<◌, ◌≡◌, ◌∙◌, ℕ, List, Some, ap, arith, length, drop, subst, sym}
use Rattle.std.proofs.lemmas.Bool.{eqb-false, eqb-true}
use Rattle.pua_tool.specs.Fronts.{line_size, lines_size}
use Rattle.pua_tool.proofs.Fronts.{Leads, begun, ends, goes_on, lacks, some_left}
use Rattle.pua_tool.proofs.front.first_lines.Goals as goal

pub loop-init : goal.loop-init
loop-init c = record { leads = begun c.args.count (c.args.count - 0) c.args.bytes.now (omega arith); within = omega arith }

pub returns-then-is_empty : goal.returns-then-is_empty
returns-then-is_empty c =
    lacks (c.args.count - c.loop.counter) c.args.count c.loop.end c.args.bytes.now (omega (arith, c.loop-test.true))
    (ap length (sym c.split_at.ensures.back)
    ∙ eqb-true (length c.split_at.result.1.now) 0 (sym c.is_empty.ensures ∙ c.if-is_empty.true)) c.loop.invariant.leads

pub loop-preserved : goal.loop-preserved
loop-preserved c =
    let bytes = c.args.bytes.now in
    let some : 0 < length (drop c.loop.end bytes) =
    subst (λ (l : List ℕ). 0 < length l) c.split_at.ensures.back
    (some_left (length c.split_at.result.1.now)
    (eqb-false (length c.split_at.result.1.now) 0 (sym c.is_empty.ensures ∙ c.if-is_empty.false))) in
    let size : line_size (drop c.loop.end bytes) ≡ c.line_size-end.result =
    sym (c.line_size-end.ensures.size ∙ ap line_size c.split_at.ensures.back) in
    record {
      leads = subst (λ (k : ℕ). Leads (c.args.count - (c.loop.counter + 1)) (c.loop.end + k) bytes (lines_size c.args.count bytes)) size
          (goes_on (c.args.count - c.loop.counter) (c.args.count - (c.loop.counter + 1)) c.loop.end bytes (lines_size c.args.count bytes)
          (omega (arith, c.loop-test.true)) some c.loop.invariant.leads);
      within = omega (arith, c.line_size-end.ensures.within, c.split_at.ensures.back_len, c.loop.invariant.within);
    }

pub returns : goal.returns
returns c =
    ap (λ (l : List ℕ). Some l) c.split_at-2.ensures.front
    ∙ ends (c.args.count - c.loop.counter) c.args.count c.loop.end c.args.bytes.now (omega (arith, c.loop-test.false)) c.loop.invariant.leads
