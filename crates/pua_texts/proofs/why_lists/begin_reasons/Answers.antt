use Rattle.pua_texts.proofs.Common.{◌≡◌, List, ℕ, ◌+◌, ◌++◌, drop, get_or, map, sym, ap, ◌∙◌, take_all, arith, flat_map, Option, Some}
use Rattle.pua_texts.proofs.Common.{kept_at, veil_date, veils_at, veil_dates, why_lists_of, world_left}
use Rattle.pua_texts.specs.ObjectLines.{heading_now}
use Rattle.pua_texts.specs.WhyLines.{why_list}
use Rattle.pua_texts.proofs.OneByOne.{one_more}
use Rattle.pua_texts.proofs.VeilDates.{length_dates, some_dated}
use Rattle.pua_texts.proofs.why_lists.begin_reasons.Goals as goal

pub loop-number-preserved : goal.loop-number-preserved
loop-number-preserved g c = λ p same ruled dated.
    let numbers = c.args.numbers.now in
    let i = c.loop-number.number-index in
    let process = c.in-Some.process.now in
    let left = c.loop-number.left.now in
    let now = c.loop-number.invariant p same ruled dated in
    let number = get_or numbers i 0 in
    let made : kept_at (world_left p) number ≡ Some process = (λ j. kept_at (sym same j) number) ∙ sym c.in-Some.ensures in
    let own : List (Option ℕ) = veil_dates p number process.veils in
    let rest = map (veil_date p.table p.world p.asks) (flat_map (veils_at c.args.world.now) (drop (i + 1) numbers)) in
    let is : left ≡ own ++ rest =
    some_dated p c.args.world.now numbers i _ c.loop-number-test.true left process (sym c.in-Some.ensures) made c.known.ensures now.0 in
    let split = c.in_ok-own.ensures own rest (length_dates p number process.veils) is in
    let listed = c.in_ok-list.ensures p (c.tree.ensures ∙ (λ j. (same j).tree)) (c.table.ensures ∙ ruled) split.0 in (
      split.1,
      one_more (kept_at (world_left p)) (λ process. why_list (heading_now c.args.rules process) p) (world_left p).tree numbers i _
          c.loop-number-test.true c.loop-number.lists.items c.push_back.new.self.items c.in_ok-list.list process now.1 made
          c.in_ok-push_back.ensures.items listed,
    )

pub returns : goal.returns
returns g c = λ p same ruled dated.
    (c.loop-number.invariant p same ruled dated).1 ∙
    ap (why_lists_of c.args.rules p) (take_all c.loop-number.number-index c.args.numbers.now (omega (arith, c.loop-number-test.false)))
