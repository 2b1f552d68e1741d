use Rattle.pua_steps.proofs.Common.{call_count, ◌<◌, ◌^◌, ℕ, List, true, ◌≡◌, ◌+◌, ◌-◌, ◌≤◌, length, take, set, vec_capacity, [], ◌∷◌, ◌++◌, refl, sym}
use Rattle.pua_steps.proofs.Common.{arith, ◌∙◌, ap, subst, length_push, common_steps, IfSome, option_to_list, IsState, IsOpen, narrow_of}
use Rattle.pua_steps.proofs.Common.{rest_of, live_of, calls_of, ahead, pending, IsCounted, looks, AreOpen, rests_of, Frame, Steps, Lists}
use Rattle.pua_steps.proofs.Entering.{entered_ready}
use Rattle.pua_steps.specs.declared.live.Live as table
use Rattle.pua_steps.proofs.Seeks.{counted_none, counted_more, looks_zero, looks-looks}
use Rattle.pua_steps.proofs.WalkLists.{longer_none}
use Rattle.pua_steps.proofs.Front.{longer_popped, front_by, front_gone}
use Rattle.pua_steps.proofs.Turning.{front_taken, last_set, last_split, taken_by, left_by, none_left, all_over}
use Rattle.pua_steps.proofs.Moved.{moved_table, moved_sized, moved_listed, moved_open}
use Rattle.pua_steps.proofs.walk.Walk.turn.Goals as goal
use Rattle.pua_steps.proofs.Base.{all_front}

pub loop-self-init : goal.loop-self-init
loop-self-init c = record {
  same = record { steps = refl; live = refl; lists = refl; limit = refl };
  sound = c.requires.sound;
  states = c.requires.states;
  calls = c.requires.calls;
  behind = c.requires.behind;
  framed = c.requires.framed;
  most = c.requires.most;
  unchanged = refl;
  front = longer_none c.args.self.now.word.items;
  so_far = (0, (counted_none _, looks_zero _));
}

pub next_visit-requires-clause-open : goal.next_visit-requires-clause-open
next_visit-requires-clause-open c =
    let a = c.loop-self.self in
    let k : ℕ = c.len-deepest.result - 1 in
    let f : Frame = c.index_mut.result.now in
    let front : List Frame = take k a.frames.items in
    let split : a.frames.items ≡ front ++ f ∷ [] = last_split a.frames.items k f (grind (arith, common_steps)) c.index_mut.ensures.value in
    (all_front (λ f. IsOpen a.tables.steps a.tables.counted.lists f) front f (subst (AreOpen a.tables.steps a.tables.counted.lists) split
    c.loop-self.invariant.states)).1

pub returns-in-Some-clause-next : goal.returns-in-Some-clause-next
returns-in-Some-clause-next c =
    let a = c.loop-self.self in
    let b = c.go_by.new.self in
    let far = c.loop-self.invariant.so_far in
    let got = c.in-Some.ensures.next in
    let k : ℕ = c.len-deepest.result - 1 in
    let f : Frame = c.index_mut.result.now in
    let front : List Frame = take k a.frames.items in
    let split : a.frames.items ≡ front ++ f ∷ [] = last_split a.frames.items k f (grind (arith, common_steps)) c.index_mut.ensures.value in
    let low : k ≡ length front = omega (arith, ap length split, length_push front f, c.len-deepest.ensures) in
    let pushed : b.frames.items ≡ front ++ c.next_visit.new.frame ∷ [] =
    ap (λ v. v.items) c.go_by.ensures.frames ∙ ap (λ (fs : List Frame). set fs k c.next_visit.new.frame) split ∙
    last_set front f c.next_visit.new.frame k low in
    let even : length front ≡ length a.word.items = omega (arith, ap length split, length_push front f, c.loop-self.invariant.framed) in
    let e =
    far.1.1
    ∙ ap (looks far.0) (taken_by (narrow_of a.tables.steps a.tables.live) (live_of a.tables.live) a.limit
    (rest_of a.tables.steps a.tables.counted.lists) a.word.items a.frames.items front f got.0 split even (a.limit - k - 1) (omega (
      arith,
      c.len-deepest.ensures,
      c.loop-self.invariant.framed,
    )) c.in-Some.visit c.next_visit.new.frame b.word.items b.frames.items b.calls
    b.behind
    got.1.1.next.1 pushed c.go_by.ensures.word c.go_by.ensures.calls c.go_by.ensures.behind)
    ∙ looks-looks far.0 got.0 _
    ∙ ap (λ (t : Steps). looks (far.0 + got.0) (ahead (narrow_of t a.tables.live) (live_of a.tables.live) a.limit b.word.items
    (calls_of b.calls) b.behind (rests_of t a.tables.counted.lists b.frames.items))) (sym (c.go_by.ensures.steps ∙ c.next_visit.ensures.steps))
    ∙ ap (λ (v : table.Live). looks (far.0 + got.0) (ahead (narrow_of b.tables.steps v) (live_of v) a.limit b.word.items (calls_of b.calls)
    b.behind (rests_of b.tables.steps a.tables.counted.lists b.frames.items))) (sym (c.go_by.ensures.live ∙ c.next_visit.ensures.live))
    ∙ ap (λ n. looks (far.0 + got.0) (ahead (narrow_of b.tables.steps b.tables.live) (live_of b.tables.live) n b.word.items
    (calls_of b.calls) b.behind (rests_of b.tables.steps a.tables.counted.lists b.frames.items))) (sym c.go_by.ensures.limit)
    ∙ ap (λ (ls : Lists). looks (far.0 + got.0) (ahead (narrow_of b.tables.steps b.tables.live) (live_of b.tables.live) b.limit b.word.items
    (calls_of b.calls) b.behind (rests_of b.tables.steps ls b.frames.items))) (sym (c.go_by.ensures.lists ∙ c.next_visit.ensures.lists))
    in (
      far.0 + got.0,
      (
        subst (λ k. IsCounted c.args.self.now.tables.counted.reads (far.0 + got.0) k) (sym c.go_by.ensures.reads)
            (counted_more c.args.self.now.tables.counted.reads far.0 got.0 a.tables.counted.reads c.next_visit.new.self.counted.reads far.1.0 got.1.0),
        record { next = (omega (arith, got.1.1.next.0), e); over = λ h. absurd cc },
      ),
    )

pub loop-self-preserved : goal.loop-self-preserved
loop-self-preserved c =
    let a = c.loop-self.self in
    let inv = c.loop-self.invariant in
    let far = inv.so_far in
    let got = c.in_default.ensures.next in
    let t : Steps = a.tables.steps in
    let u : Steps = c.next_visit.new.self.steps in
    let v : table.Live = a.tables.live in
    let w : table.Live = c.next_visit.new.self.live in
    let ls : Lists = a.tables.counted.lists in
    let ms : Lists = c.next_visit.new.self.counted.lists in
    let k : ℕ = c.len-deepest.result - 1 in
    let f : Frame = c.index_mut.result.now in
    let front : List Frame = take k a.frames.items in
    let split : a.frames.items ≡ front ++ f ∷ [] = last_split a.frames.items k f (grind (arith, common_steps)) c.index_mut.ensures.value in
    let rest : List Frame = c.pop.new.self.items in
    let low : k ≡ length front = omega (arith, ap length split, length_push front f, c.len-deepest.ensures) in
    let g : Frame = c.next_visit.new.frame in
    let whole : set a.frames.items k g ≡ front ++ g ∷ [] = ap (λ (fs : List Frame). set fs k g) split ∙ last_set front f g k low in
    let size : length (set a.frames.items k g) ≡ length front + 1 = ap length whole ∙ length_push front g in
    let many : k ≡ length rest = grind (arith, common_steps, size, low) in
    let popped : rest ≡ front = sym (front_taken rest (option_to_list c.pop.result) k many) ∙
    ap (take k) (sym c.pop.ensures.items ∙ whole) ∙ front_taken front (g ∷ []) k low in
    let last : a.frames.items ≡ rest ++ f ∷ [] = split ∙ ap (λ fs. fs ++ f ∷ []) (sym popped) in
    let even : length rest ≡ length a.word.items = omega (arith, ap length last, length_push rest f, inv.framed) in
    let e =
    far.1.1
    ∙ ap (looks far.0) (left_by (narrow_of a.tables.steps a.tables.live) (live_of a.tables.live) a.limit
    (rest_of a.tables.steps a.tables.counted.lists) a.word.items a.frames.items rest f got.0 last even (a.limit - k - 1) (omega (
      arith,
      c.len-deepest.ensures,
      c.loop-self.invariant.framed,
    )) c.pop-in-loop-self.new.self.items c.pop-in-loop-self.result
    got.1.1.next c.pop-in-loop-self.ensures.items)
    ∙ looks-looks far.0 got.0 (pending (narrow_of t v) (live_of v) a.limit 0 c.pop-in-loop-self.new.self.items (rests_of t ls rest))
    ∙ sym (λ i. looks (far.0 + got.0) (pending (narrow_of (c.next_visit.ensures.steps i) (c.next_visit.ensures.live i))
    (live_of (c.next_visit.ensures.live i)) a.limit 0 c.pop-in-loop-self.new.self.items
    (rests_of (c.next_visit.ensures.steps i) (c.next_visit.ensures.lists i) rest))) in
    record {
      same = record {
        steps = c.next_visit.ensures.steps ∙ inv.same.steps;
        live = c.next_visit.ensures.live ∙ inv.same.live;
        lists = c.next_visit.ensures.lists ∙ inv.same.lists;
        limit = inv.same.limit;
      };
      sound = record {
        table = moved_table t u v w ls ms c.next_visit.ensures.steps c.next_visit.ensures.live c.next_visit.ensures.lists
            inv.sound.table;
        sized = moved_sized t u v w ls ms c.next_visit.ensures.steps c.next_visit.ensures.live c.next_visit.ensures.lists
            a.limit inv.sound.sized;
        listed =
            moved_listed t u v w ls ms c.next_visit.ensures.steps c.next_visit.ensures.live c.next_visit.ensures.lists a.limit
            inv.sound.listed;
        room = record { words = grind (arith, common_steps); frames = grind (arith, common_steps) };
      };
      states = moved_open t u v w ls ms c.next_visit.ensures.steps c.next_visit.ensures.live c.next_visit.ensures.lists rest
          (all_front (λ f. IsOpen a.tables.steps a.tables.counted.lists f) rest f (subst (AreOpen a.tables.steps a.tables.counted.lists) last
          inv.states)).0;
      calls = inv.calls;
      behind = inv.behind;
      framed = grind (arith, common_steps);
      most = omega (arith, ap length last, length_push rest f, inv.most);
      unchanged = inv.unchanged;
      front = longer_popped c.pop-in-loop-self.new.self.items a.word.items c.args.self.now.word.items c.pop-in-loop-self.result
          c.pop-in-loop-self.ensures.items inv.front;
      so_far = (
        far.0 + got.0,
        (counted_more c.args.self.now.tables.counted.reads far.0 got.0 a.tables.counted.reads c.next_visit.new.self.counted.reads far.1.0 got.1.0, e),
      );
    }

pub returns-clause-next : goal.returns-clause-next
returns-clause-next c =
    let a = c.loop-self.self in
    let inv = c.loop-self.invariant in
    let far = inv.so_far in
    let none : length a.frames.items ≡ 0 = grind (arith, common_steps) in (
      far.0,
      (
        far.1.0,
        record {
          next = far.1.1 ∙ ap (looks far.0) (none_left (narrow_of a.tables.steps a.tables.live) (live_of a.tables.live) a.limit
              (rest_of a.tables.steps a.tables.counted.lists) a.word.items a.frames.items none);
          over = λ _. all_over (narrow_of a.tables.steps a.tables.live) (live_of a.tables.live) a.limit
              (rest_of a.tables.steps a.tables.counted.lists) a.word.items a.calls a.behind a.frames.items inv.calls inv.behind none;
        },
      ),
    )

pub returns-in-Some-clause-ready : goal.returns-in-Some-clause-ready
returns-in-Some-clause-ready c =
    let a = c.loop-self.self in
    let b = c.go_by.new.self in
    let inv = c.loop-self.invariant in
    let given = c.in-Some.ensures.given in
    let k : ℕ = c.len-deepest.result - 1 in
    let f : Frame = c.index_mut.result.now in
    let front : List Frame = take k a.frames.items in
    let split : a.frames.items ≡ front ++ f ∷ [] = last_split a.frames.items k f (grind (arith, common_steps)) c.index_mut.ensures.value in
    let low : k ≡ length front = omega (arith, ap length split, length_push front f, c.len-deepest.ensures) in
    let pushed : b.frames.items ≡ front ++ c.next_visit.new.frame ∷ [] =
    ap (λ v. v.items) c.go_by.ensures.frames ∙ ap (λ (fs : List Frame). set fs k c.next_visit.new.frame) split ∙
    last_set front f c.next_visit.new.frame k low in
    let even : length front ≡ length a.word.items = omega (arith, ap length split, length_push front f, inv.framed) in
    let short : length a.word.items < a.limit = omega (arith, ap length split, length_push front f, even, inv.most) in
    let left : a.limit - k - 1 ≡ a.limit - length a.word.items - 1 = omega (arith, c.len-deepest.ensures, inv.framed) in
    let stands = subst (λ o. IfSome o (λ s. IsState a.tables.steps s ×
    (live_of a.tables.live (a.limit - length a.word.items - 1) s ≡ true))) (sym c.go_by.ensures.behind)
    (subst (λ n. IfSome c.in-Some.visit.behind (λ s. IsState a.tables.steps s × (live_of a.tables.live n s ≡ true))) left given.behind) in
    entered_ready a.tables.steps a.tables.live a.tables.counted.lists a.limit a.word.items front c.next_visit.new.frame c.in-Some.visit.letter b
    inv.sound.table inv.sound.sized inv.sound.listed
    (all_front (λ f. IsOpen a.tables.steps a.tables.counted.lists f) front f (subst (AreOpen a.tables.steps a.tables.counted.lists) split inv.states)).0
    c.next_visit.ensures.open
    (subst (λ n. n < 2 ^ call_count) (sym c.go_by.ensures.calls) given.calls) stands even short (c.go_by.ensures.steps ∙
    c.next_visit.ensures.steps) (c.go_by.ensures.live ∙ c.next_visit.ensures.live) (c.go_by.ensures.lists ∙
    c.next_visit.ensures.lists) c.go_by.ensures.limit
    (omega (arith, inv.sound.room.words, c.go_by.ensures.room)) (subst (λ v. a.limit ≤ vec_capacity v) (sym c.go_by.ensures.frames)
    inv.sound.room.frames) c.go_by.ensures.word pushed (omega (arith, c.go_by.ensures.unchanged, c.min-self.ensures, c.len.ensures))

pub returns-in-Some-clause-unchanged : goal.returns-in-Some-clause-unchanged
returns-in-Some-clause-unchanged c =
    let a = c.loop-self.self in
    let old = c.args.self.now in
    let b = c.go_by.new.self in
    front_by old.unchanged b.unchanged old.word.items a.word.items (c.in-Some.visit.letter ∷ []) b.word.items c.loop-self.invariant.front
    c.go_by.ensures.word (omega (arith, c.go_by.ensures.unchanged, c.min-self.ensures, c.len.ensures))
    (omega (arith, c.go_by.ensures.unchanged, c.min-self.ensures, c.loop-self.invariant.unchanged))

pub returns-clause-unchanged : goal.returns-clause-unchanged
returns-clause-unchanged c = front_gone c.args.self.now.unchanged 0 c.args.self.now.word.items c.loop-self.self.word.items refl
