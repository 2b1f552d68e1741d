use Rattle.pua_steps.proofs.Common.{ℕ, zero, suc, ◌≡◌, ◌<◌, ◌≤◌, ◌+◌, ◌-◌, ◌^◌, ◌∙◌, refl, ap, List, length, min, get_or, take}
use Rattle.pua_steps.proofs.Common.{Bool, Some, nat_lt, sym, arith, within, Entry, Span, Lists}
use Rattle.std.proofs.Common.{◌/◌}
use Rattle.std.proofs.Common.{ltb-true, pow-suc}
use Rattle.std.proofs.lemmas.Bool.{ltb-false}
use Rattle.std.proofs.lemmas.Option.{slice_get-get_or}
use Rattle.std.specs.List.{slice_get}
use Rattle.pua_steps.specs.Table.{is_before}
use Rattle.std.proofs.lemmas.List.{length-take, length-drop, get_or-take, get_or-drop}
use Rattle.pua_steps.proofs.Finding.{no_entry, upward, before_place, after_place}
use Rattle.pua_steps.proofs.counted.CountedLists.count_before.Goals as goal

-- half of what is left needs one look fewer
halved : (n w x : ℕ) → 0 < w → w < 2 ^ n → x ≤ w / 2 → (m : ℕ) × ((n ≡ suc m) × (x < 2 ^ m))
halved zero w x some small less = absurd (omega (arith, some, small))
halved (suc m) w x some small less = (m, (refl, omega (arith, small, less, pow-suc 2 m)))

-- the entries of a list, by their places among those of all lists

span_length : (es : List Entry) (place end : ℕ) → place ≤ end → end ≤ length es → length (within es place end) ≡ end - place
span_length es place end order inside = length-drop place (take end es) ∙ ap (λ n. n - place) (length-take end es) ∙ few
  where
    few : min end (length es) - place ≡ end - place
    few = omega (arith, inside)

span_at : (es : List Entry) (place end i : ℕ) → place + i < end → get_or (within es place end) i no_entry ≡ get_or es (place + i) no_entry
span_at es place end i low = get_or-drop place (take end es) i no_entry ∙ get_or-take end es (place + i) no_entry low

-- whether an entry of a list stands before a letter
at_middle : (ls old : Lists) (s : Span) (m letter : ℕ) (before : Bool) → before ≡ is_before letter (slice_get ls.entries.items (s.place + m))
    → ls ≡ old → s.place ≤ s.end → s.end ≤ length old.entries.items → m < length (within old.entries.items s.place s.end)
    → before ≡ nat_lt (get_or (within old.entries.items s.place s.end) m no_entry).letter letter
at_middle ls old s m letter before is same order inside low =
    let es : List Entry = old.entries.items in
    let there : s.place + m < s.end = omega (arith, low, order, span_length es s.place s.end order inside) in
    is ∙ ap (λ (l : Lists). is_before letter (slice_get l.entries.items (s.place + m))) same
    ∙ ap (is_before letter) (slice_get-get_or es (s.place + m) no_entry (omega (arith, there, inside)) ∙
    ap Some (sym (span_at es s.place s.end m there)))

pub loop-low-init : goal.loop-low-init
loop-low-init c = record {
  lists = refl;
  order = omega arith;
  few = omega (
    arith,
    span_length c.args.self.now.lists.entries.items c.args.span.place c.args.span.end c.requires.order c.requires.inside,
  );
  below = λ k less. absurd (omega (arith, less));
  above = λ k low less. absurd (omega (
    arith,
    low,
    less,
    span_length c.args.self.now.lists.entries.items c.args.span.place c.args.span.end c.requires.order c.requires.inside,
  ));
  raised = omega arith;
  halves = (64, (omega (arith, c.requires.inside), omega arith));
}

pub loop-low-preserved-then-is_before : goal.loop-low-preserved-then-is_before
loop-low-preserved-then-is_before c =
    let inv = c.loop-low.invariant in
    let low : ℕ = c.loop-low.low in
    let high : ℕ = c.loop-low.high in
    let m : ℕ = low + (high - low) / 2 in
    let xs : List Entry = within c.args.self.now.lists.entries.items c.args.span.place c.args.span.end in
    let is = at_middle _ _ c.args.span m c.args.letter c.is_before.result c.is_before.ensures.before inv.lists c.requires.order
    c.requires.inside (omega (arith, c.loop-low-test.true, inv.few)) in
    let here = ltb-true (get_or xs m no_entry).letter c.args.letter (sym is ∙ c.if-is_before.true) in
    let far = inv.halves in
    let half = halved far.0 (high - low) (high - (m + 1)) (omega (arith, c.loop-low-test.true)) far.1.0 (omega (
      arith,
      c.loop-low-test.true,
    )) in
    record {
      lists = c.is_before.ensures.lists ∙ inv.lists;
      order = omega (arith, c.loop-low-test.true);
      few = inv.few;
      below = λ k less. omega (
        arith,
        here,
        upward 0 xs no_entry c.requires.rises k m (omega (arith, less)) (omega (arith, c.loop-low-test.true, inv.few)),
      );
      above = inv.above;
      raised = omega (arith, inv.raised, c.is_before.ensures.raised);
      halves = (half.0, (half.1.1, omega (arith, half.1.0, far.1.1, c.is_before.ensures.reads)));
    }

pub loop-low-preserved : goal.loop-low-preserved
loop-low-preserved c =
    let inv = c.loop-low.invariant in
    let low : ℕ = c.loop-low.low in
    let high : ℕ = c.loop-low.high in
    let m : ℕ = low + (high - low) / 2 in
    let xs : List Entry = within c.args.self.now.lists.entries.items c.args.span.place c.args.span.end in
    let is = at_middle _ _ c.args.span m c.args.letter c.is_before.result c.is_before.ensures.before inv.lists c.requires.order
    c.requires.inside (omega (arith, c.loop-low-test.true, inv.few)) in
    let here = ltb-false (get_or xs m no_entry).letter c.args.letter (sym is ∙ c.if-is_before.false) in
    let far = inv.halves in
    let half = halved far.0 (high - low) (m - low) (omega (arith, c.loop-low-test.true)) far.1.0 (omega arith) in
    record {
      lists = c.is_before.ensures.lists ∙ inv.lists;
      order = omega arith;
      few = omega (arith, c.loop-low-test.true, inv.few);
      below = inv.below;
      above = λ k least less. omega (arith, here, upward 0 xs no_entry c.requires.rises m k (omega (arith, least)) less);
      raised = omega (arith, inv.raised, c.is_before.ensures.raised);
      halves = (half.0, (half.1.1, omega (arith, half.1.0, far.1.1, c.is_before.ensures.reads)));
    }

pub returns-clause-low : goal.returns-clause-low
returns-clause-low c =
    let xs : List Entry = within c.args.self.now.lists.entries.items c.args.span.place c.args.span.end in
    let inv = c.loop-low.invariant in
    before_place c.args.letter c.loop-low.low xs no_entry (omega (arith, inv.order, inv.few)) inv.below

pub returns-clause-high : goal.returns-clause-high
returns-clause-high c =
    let xs : List Entry = within c.args.self.now.lists.entries.items c.args.span.place c.args.span.end in
    let inv = c.loop-low.invariant in
    after_place c.args.letter c.loop-low.low xs no_entry (λ k low less. inv.above k (omega (arith, low, c.loop-low-test.false)) less)
