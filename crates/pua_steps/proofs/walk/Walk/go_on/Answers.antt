use Rattle.pua_steps.proofs.Common.{◌≡◌, ◌+◌, [], length, refl, sym, ap, ◌∙◌, arith, narrow_of, rest_of, live_of, calls_of, looks, trail}
use Rattle.pua_steps.proofs.Common.{rests_of, ahead}
use Rattle.pua_steps.proofs.Seeks.{counted_none, counted_more, looks_zero, looks-looks, looks-length}
use Rattle.pua_steps.proofs.Front.{front_none, front_more}
use Rattle.pua_steps.proofs.Turning.{given_by}
use Rattle.pua_steps.proofs.Opened.{turned_on, turned_off}
use Rattle.pua_steps.proofs.walk.Walk.go_on.Goals as goal

pub words-init : goal.words-init
words-init c = record {
  ready = c.requires;
  same = record { steps = refl; live = refl; lists = refl; limit = refl };
  unchanged = front_none c.args.self.now.unchanged c.args.self.now.word.items c.requires.unchanged;
  stays = λ some. (refl, refl, refl);
  so_far = (0, (counted_none _, looks_zero _));
}

pub returns-in-Some-clause-next : goal.returns-in-Some-clause-next
returns-in-Some-clause-next c =
    let a = c.words.self in
    let far = c.words.invariant.so_far in (
      far.0,
      (
        far.1.0,
        record {
          next = far.1.1 ∙ ap (looks far.0) (given_by (narrow_of a.tables.steps a.tables.live) (live_of a.tables.live) a.limit
              (rest_of a.tables.steps a.tables.counted.lists) a.word.items a.calls c.take_first.new.calls c.in-Some.call a.behind a.frames.items
              c.in-Some.ensures.2);
        },
      ),
    )

pub returns-then-not-advance-clause-next : goal.returns-then-not-advance-clause-next
returns-then-not-advance-clause-next c =
    let a = c.words.self in
    let far = c.words.invariant.so_far in
    let got = c.advance.ensures.next in
    let off = turned_off _ c.advance.result c.advance.new.self got.0 got.1.1 c.if-not-advance.true in
    let same = ap (λ k. ahead (narrow_of a.tables.steps a.tables.live) (live_of a.tables.live) a.limit a.word.items (calls_of k) a.behind
    (rests_of a.tables.steps a.tables.counted.lists a.frames.items)) (sym c.in_default.ensures.0) in (
      far.0 + got.0,
      (
        counted_more c.args.self.now.tables.counted.reads far.0 got.0 a.tables.counted.reads c.advance.new.self.tables.counted.reads far.1.0 got.1.0,
        record { next = (far.1.1 ∙ ap (looks far.0) (same ∙ off.0) ∙ looks-looks far.0 got.0 [], off.1) },
      ),
    )

pub words-smaller : goal.words-smaller
words-smaller c =
    let a = c.words.self in
    let b = c.advance.new.self in
    let got = c.advance.ensures.next in
    let on = turned_on _ c.advance.result b got.0 got.1.1 c.if-not-advance.false in
    let same = ap (λ k. ahead (narrow_of a.tables.steps a.tables.live) (live_of a.tables.live) a.limit a.word.items (calls_of k) a.behind
    (rests_of a.tables.steps a.tables.counted.lists a.frames.items)) (sym c.in_default.ensures.0) in
    let long : length (trail a) ≡ length (looks got.0 (trail b)) = ap length (same ∙ on.1) in
    omega (arith, long, looks-length got.0 (trail b), on.0)

pub words-preserved : goal.words-preserved
words-preserved c =
    let a = c.words.self in
    let b = c.advance.new.self in
    let far = c.words.invariant.so_far in
    let got = c.advance.ensures.next in
    let on = turned_on _ c.advance.result b got.0 got.1.1 c.if-not-advance.false in
    let same = ap (λ k. ahead (narrow_of a.tables.steps a.tables.live) (live_of a.tables.live) a.limit a.word.items (calls_of k) a.behind
    (rests_of a.tables.steps a.tables.counted.lists a.frames.items)) (sym c.in_default.ensures.0) in
    record {
      ready = c.advance.ensures.ready;
      same = record {
        steps = c.advance.ensures.same.steps ∙ c.words.invariant.same.steps;
        live = c.advance.ensures.same.live ∙
            c.words.invariant.same.live;
        lists = c.advance.ensures.same.lists ∙ c.words.invariant.same.lists;
        limit = c.advance.ensures.same.limit ∙ c.words.invariant.same.limit;
      };
      unchanged = front_more c.args.self.now.unchanged a.unchanged b.unchanged c.args.self.now.word.items a.word.items b.word.items
          c.words.invariant.unchanged c.advance.ensures.unchanged;
      stays = λ some. absurd (some (sym (c.words.invariant.stays some).2 ∙ c.in_default.ensures.1));
      so_far = (
        far.0 + got.0,
        (
          counted_more c.args.self.now.tables.counted.reads far.0 got.0 a.tables.counted.reads c.advance.new.self.tables.counted.reads far.1.0 got.1.0,
          far.1.1 ∙
              ap (looks far.0) (same ∙ on.1) ∙ looks-looks far.0 got.0 (trail b),
        ),
      );
    }

pub returns-in-Some-clause-stays : goal.returns-in-Some-clause-stays
returns-in-Some-clause-stays c = λ some. ((c.words.invariant.stays some).0, (c.words.invariant.stays some).1)

pub returns-then-not-advance-clause-stays : goal.returns-then-not-advance-clause-stays
returns-then-not-advance-clause-stays c = λ some. absurd (some (sym (c.words.invariant.stays some).2 ∙ c.in_default.ensures.1))
