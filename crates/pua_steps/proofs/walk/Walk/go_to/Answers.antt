use Rattle.pua_steps.proofs.Common.{◌≡◌, ◌+◌, ◌-◌, ◌<◌, ◌≤◌, ◌∷◌, ℕ, List, length, drop, get_or, None, true, refl, sym, ap, ◌∙◌, arith}
use Rattle.pua_steps.proofs.Common.{subst, drop_more, drop_of_length-le, IfSome, calls_of, pairs_after, IsState, narrow_of, live_of}
use Rattle.pua_steps.proofs.Common.{pairs_of, ahead, rests_of, to_give, Steps, Walk}
use Rattle.pua_steps.specs.Resuming.{to_give_after}
use Rattle.pua_steps.proofs.Narrowing.{prunes}
use Rattle.pua_steps.proofs.Costing.{states_of}
use Rattle.pua_steps.proofs.Base.{all_at_index}
use Rattle.pua_steps.proofs.Opened.{below_limit}
use Rattle.pua_steps.proofs.Resume.{give_start, give_here, give_dead}
use Rattle.pua_steps.proofs.walk.Walk.go_to.Goals as goal

pub loop-letter-init : goal.loop-letter-init
loop-letter-init c =
    let a : Walk = c.args.self.now in
    let t = a.tables.steps in
    let way : List ℕ = c.args.word.now in
    let call : ℕ = c.args.call in
    let fresh = c.requires.fresh in
    let ready = c.requires.ready in
    let stands = states_of (λ s. IsState t s) (λ s. live_of a.tables.live (a.limit - length a.word.items) s ≡ true) a.behind ready.behind in
    record {
      ready = ready;
      same = record { steps = refl; live = refl; lists = refl; limit = refl };
      reads = omega arith;
      raised = omega arith;
      index = omega arith;
      so_far = (λ i. to_give (narrow_of t a.tables.live) (live_of a.tables.live) a.limit (fresh.0 i) a.calls a.behind
          (rests_of t a.tables.counted.lists (fresh.1 i)) way call)
          ∙ give_start (narrow_of t a.tables.live) (live_of a.tables.live) a.limit (λ s. IsState t s)
          (prunes t a.tables.live a.limit ready.sound.table ready.sound.sized) a.calls a.behind way call stands
          ∙ sym (λ i. pairs_after (
            way,
            call,
          ) (pairs_of (ahead (narrow_of t a.tables.live) (live_of a.tables.live) a.limit (fresh.0 i) (calls_of a.calls) a.behind
          (rests_of t a.tables.counted.lists (fresh.1 i)))));
    }

pub returns-in_default-clause-left : goal.returns-in_default-clause-left
returns-in_default-clause-left c =
    let a : Walk = c.loop-letter.self in
    let t = a.tables.steps in
    let way : List ℕ = c.args.word.now in
    let d : ℕ = c.loop-letter.letter-index in
    let call : ℕ = c.args.call in
    let inv = c.loop-letter.invariant in
    let split = drop_more way d 0 c.loop-letter-test.true in
    let none : a.behind ≡ None = c.in_default.is in
    let rests = rests_of t a.tables.counted.lists a.frames.items in
    let g = narrow_of t a.tables.live in
    let v = live_of a.tables.live in
    sym (ap (λ w. to_give_after a w call) split
    ∙ ap (λ o. to_give g v a.limit a.word.items a.calls o rests (get_or way d 0 ∷ drop (d + 1) way) call) none
    ∙ give_dead g v a.limit (λ s. IsState t s) (prunes t a.tables.live a.limit inv.ready.sound.table inv.ready.sound.sized) a.word.items
    a.calls rests call (get_or way d 0) (drop (d + 1) way)
    ∙ ap (λ o. pairs_of (ahead g v a.limit a.word.items (calls_of 0) o rests)) (sym none))
    ∙ inv.so_far

pub descend-requires-clause-short : goal.descend-requires-clause-short
descend-requires-clause-short c =
    let a : Walk = c.loop-letter.self in
    let ready = c.loop-letter.invariant.ready in
    let stands = subst (λ o. IfSome o (λ s. IsState a.tables.steps s × (live_of a.tables.live (a.limit - length a.word.items) s ≡ true)))
    c.in-Some.is ready.behind in
    below_limit a.tables.steps a.tables.live a.limit (length a.word.items) c.in-Some.state ready.sound.sized stands.0 stands.1

pub descend-requires-clause-letter : goal.descend-requires-clause-letter
descend-requires-clause-letter c =
    let a : Walk = c.loop-letter.self in
    let there = all_at_index (λ i. i < c.args.self.now.tables.steps.letters) c.args.word.now 0 c.requires.word c.loop-letter.letter-index
    c.loop-letter-test.true in
    subst (λ (t : Steps). get_or c.args.word.now c.loop-letter.letter-index 0 < t.letters) (sym c.loop-letter.invariant.same.steps) there

pub loop-letter-preserved : goal.loop-letter-preserved
loop-letter-preserved c =
    let a : Walk = c.loop-letter.self in
    let way : List ℕ = c.args.word.now in
    let d : ℕ = c.loop-letter.letter-index in
    let inv = c.loop-letter.invariant in
    let split = drop_more way d 0 c.loop-letter-test.true in
    record {
      ready = c.descend.ensures.ready;
      same = record {
        steps = c.descend.ensures.same.steps ∙ inv.same.steps;
        live = c.descend.ensures.same.live ∙ inv.same.live;
        lists = c.descend.ensures.same.lists ∙ inv.same.lists;
        limit = c.descend.ensures.same.limit ∙ inv.same.limit;
      };
      reads = omega (arith, c.descend.ensures.reads, inv.reads);
      raised = omega (arith, c.descend.ensures.raised, inv.raised);
      index = omega (arith, c.loop-letter-test.true);
      so_far = sym (ap (λ w. to_give_after a w c.args.call) split ∙ c.descend.ensures.gives (drop (d + 1) way) c.args.call) ∙ inv.so_far;
    }

pub returns-clause-left : goal.returns-clause-left
returns-clause-left c =
    let a : Walk = c.loop-letter.self in
    let t = a.tables.steps in
    let way : List ℕ = c.args.word.now in
    let d : ℕ = c.loop-letter.letter-index in
    let inv = c.loop-letter.invariant in
    let past : length way ≤ d = omega (arith, c.loop-letter-test.false) in
    let stands = states_of (λ s. IsState t s) (λ s. live_of a.tables.live (a.limit - length a.word.items) s ≡ true) a.behind
    inv.ready.behind in
    sym (ap (λ w. to_give_after a w c.args.call) (drop_of_length-le way past)
    ∙ give_here (narrow_of t a.tables.live) (live_of a.tables.live) a.limit (λ s. IsState t s)
    (prunes t a.tables.live a.limit inv.ready.sound.table inv.ready.sound.sized) a.word.items a.calls
    (rests_of t a.tables.counted.lists a.frames.items) c.args.call a.behind c.calls_after-self.result stands c.calls_after-self.ensures.after)
    ∙ inv.so_far

pub returns-in_default-clause-reads : goal.returns-in_default-clause-reads
returns-in_default-clause-reads c = omega (arith, c.loop-letter.invariant.reads, c.loop-letter-test.true)

pub returns-clause-reads : goal.returns-clause-reads
returns-clause-reads c = omega (arith, c.loop-letter.invariant.reads, c.loop-letter.invariant.index)

pub returns-in_default-clause-raised : goal.returns-in_default-clause-raised
returns-in_default-clause-raised c = c.loop-letter.invariant.raised

pub returns-clause-raised : goal.returns-clause-raised
returns-clause-raised c = c.loop-letter.invariant.raised
