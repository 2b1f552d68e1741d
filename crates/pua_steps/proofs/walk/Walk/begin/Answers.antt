use Rattle.pua_steps.proofs.Common.{ℕ, ◌∙◌, refl, length, sym, ap, arith, subst, narrow_of, live_of, calls_of, pairs_of, ahead, AreOpen}
use Rattle.pua_steps.proofs.Common.{rests_of}
use Rattle.pua_steps.proofs.Narrowing.{whole_tested, tested_is}
use Rattle.pua_steps.proofs.walk.Walk.begin.Goals as goal

pub returns : goal.returns
returns c =
    let t = c.args.tables.steps in
    let v = c.args.tables.live in
    let ls = c.args.tables.counted.lists in
    let limit : ℕ = c.args.limit in
    let word = c.in_ok-word.ensures.items in
    let frames = c.in_ok-frames.ensures.items in
    record {
      ready = record {
        sound = record {
          table = c.requires.table;
          sized = c.requires.sized;
          listed = c.requires.listed;
          room = record { words = c.in_ok-word.ensures.capacity; frames = c.in_ok-frames.ensures.capacity };
        };
        states = subst (AreOpen t ls) (sym frames) tt;
        calls = c.requires.calls;
        behind = tested_is t v limit (length c.in_ok-word.word.items) c.args.base c.entrance-behind.result (ap length word) c.requires.base
            c.entrance-behind.ensures;
        framed = ap length frames ∙ sym (ap length word);
        within = omega (arith, ap length word);
        unchanged = omega arith;
      };
      of = (refl, refl);
      fresh = (word, frames);
      left = (λ i. pairs_of (ahead (narrow_of t v) (live_of v) limit (word i) (calls_of c.args.calls) c.entrance-behind.result
          (rests_of t ls (frames i))))
          ∙ whole_tested t v limit c.args.calls c.args.base c.entrance-behind.result c.requires.table c.requires.sized c.requires.base
          c.entrance-behind.ensures;
    }
