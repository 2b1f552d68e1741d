use Rattle.pua_steps.proofs.Common.{◌≡◌, ◌+◌, ◌∷◌, [], true, refl, ap, sym, subst, ◌∙◌, arith, narrow_of, rest_of, live_of, branches}
use Rattle.pua_steps.proofs.Common.{entrance, IsCounted, IsOpen, Frame, Lists, Steps, Visit}
use Rattle.pua_steps.specs.declared.live.Live as table
use Rattle.pua_steps.specs.Ready.{is_idle}
use Rattle.pua_steps.proofs.Seeks.{counted_none, counted_one, looks_zero, found, passed, none_found}
use Rattle.pua_steps.proofs.tables.Tables.next_visit.Goals as goal

-- what the same tables with another count leave of a frame
module _ (t u : Steps) (ls ms : Lists) (steps : u ≡ t) (lists : ms ≡ ls) (f : Frame) where
  rest_on : (v : Visit) (g : Frame) → rest_of u ms f ≡ v ∷ rest_of u ms g → rest_of t ls f ≡ v ∷ rest_of t ls g
  rest_on v g h = subst (λ (t : Steps). rest_of t ls f ≡ v ∷ rest_of t ls g) steps
      (subst (λ (ls : Lists). rest_of u ls f ≡ v ∷ rest_of u ls g) lists h)

  rest_over : rest_of u ms f ≡ [] → rest_of t ls f ≡ []
  rest_over h = subst (λ (t : Steps). rest_of t ls f ≡ []) steps (subst (λ (ls : Lists). rest_of u ls f ≡ []) lists h)

pub loop-visit-init : goal.loop-visit-init
loop-visit-init c = record {
  steps = refl;
  live = refl;
  lists = refl;
  waits = c.requires.open;
  so_far = (0, (counted_none _, looks_zero _));
}

pub returns-then-not-is_idle-clause-next : goal.returns-then-not-is_idle-clause-next
returns-then-not-is_idle-clause-next c =
    let t = c.args.self.now.steps in
    let v = c.args.self.now.live in
    let ls = c.args.self.now.counted.lists in
    let inv = c.loop-visit.invariant in
    let far = inv.so_far in
    let left = c.args.left in
    let rest = rest_on t c.loop-visit.self.steps ls c.loop-visit.self.counted.lists inv.steps inv.lists c.loop-visit.frame c.in-Some.visit
    c.visit.new.frame c.in-Some.ensures.rest in
    let behind = c.entrance-behind.ensures
    ∙ ap (λ (v : table.Live). entrance (live_of v) left c.in-Some.visit.behind) (c.visit.ensures.live ∙ inv.live) in
    let x : Visit = record { letter = c.in-Some.visit.letter; calls = c.in-Some.visit.calls; behind = c.entrance-behind.result } in (
      far.0 + 1,
      (
        counted_one c.args.self.now.counted.reads far.0 c.loop-visit.self.counted.reads c.visit.new.self.counted.reads far.1.0
            c.in-Some.ensures.reads,
        record {
          next = (
            omega arith,
            found (narrow_of t v) (live_of v) left (branches (narrow_of t v) (live_of v) left (rest_of t ls c.args.frame.now)) far.0
                (rest_of t ls c.loop-visit.frame) (rest_of t ls c.visit.new.frame) c.in-Some.visit x far.1.1 rest
                (λ i. record { letter = c.in-Some.visit.letter; calls = c.in-Some.visit.calls; behind = behind i }),
          );
        },
      ),
    )

pub loop-visit-preserved : goal.loop-visit-preserved
loop-visit-preserved c =
    let t = c.args.self.now.steps in
    let v = c.args.self.now.live in
    let ls = c.args.self.now.counted.lists in
    let inv = c.loop-visit.invariant in
    let far = inv.so_far in
    let left = c.args.left in
    let rest = rest_on t c.loop-visit.self.steps ls c.loop-visit.self.counted.lists inv.steps inv.lists c.loop-visit.frame c.in-Some.visit
    c.visit.new.frame c.in-Some.ensures.rest in
    let behind = c.entrance-behind.ensures
    ∙ ap (λ (v : table.Live). entrance (live_of v) left c.in-Some.visit.behind) (c.visit.ensures.live ∙ inv.live) in
    let x : Visit = record { letter = c.in-Some.visit.letter; calls = c.in-Some.visit.calls; behind = c.entrance-behind.result } in
    let idle : is_idle x ≡ true = sym c.is_idle.ensures ∙ c.if-not-is_idle.false in
    record {
      steps = c.visit.ensures.steps ∙ inv.steps;
      live = c.visit.ensures.live ∙ inv.live;
      lists = c.visit.ensures.lists ∙ inv.lists;
      waits = subst (λ (t : Steps). IsOpen t ls c.visit.new.frame) inv.steps
          (subst (λ (ls : Lists). IsOpen c.loop-visit.self.steps ls c.visit.new.frame) inv.lists c.visit.ensures.open);
      so_far = (
        far.0 + 1,
        (
          counted_one c.args.self.now.counted.reads far.0 c.loop-visit.self.counted.reads c.visit.new.self.counted.reads far.1.0
              c.in-Some.ensures.reads,
          passed (narrow_of t v) (live_of v) left (branches (narrow_of t v) (live_of v) left (rest_of t ls c.args.frame.now)) far.0
              (rest_of t ls c.loop-visit.frame) (rest_of t ls c.visit.new.frame) c.in-Some.visit x far.1.1 rest
              (λ i. record { letter = c.in-Some.visit.letter; calls = c.in-Some.visit.calls; behind = behind i }) idle,
        ),
      );
    }

pub returns-clause-next : goal.returns-clause-next
returns-clause-next c =
    let t = c.args.self.now.steps in
    let v = c.args.self.now.live in
    let ls = c.args.self.now.counted.lists in
    let inv = c.loop-visit.invariant in
    let far = inv.so_far in
    let left = c.args.left in (
      far.0,
      (
        subst (λ k. IsCounted c.args.self.now.counted.reads far.0 k) (sym c.in_default.ensures.reads) far.1.0,
        record {
          next = none_found (narrow_of t v) (live_of v) left (branches (narrow_of t v) (live_of v) left (rest_of t ls c.args.frame.now))
              far.0 (rest_of t ls c.loop-visit.frame) far.1.1
              (rest_over t c.loop-visit.self.steps ls c.loop-visit.self.counted.lists inv.steps inv.lists c.loop-visit.frame
              c.in_default.ensures.rest);
        },
      ),
    )
