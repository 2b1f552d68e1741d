use Rattle.pua_steps.proofs.Common.{◌++◌, sym, ap, ◌∙◌, List, ℕ, on_word, narrow_of, live_of, calls_of, pairs_of, rests_of, ahead}
use Rattle.pua_steps.proofs.Sets.{no_calls}
use Rattle.pua_steps.proofs.Turns.{given_all}
use Rattle.pua_steps.proofs.walk.Walk.take_calls.Goals as goal

pub returns-clause-pairs : goal.returns-clause-pairs
returns-clause-pairs c =
    let a = c.args.self.now in
    given_all (narrow_of a.tables.steps a.tables.live) (live_of a.tables.live) a.limit a.word.items
    (rests_of a.tables.steps a.tables.counted.lists a.frames.items) a.behind (calls_of a.calls)
    ∙ ap (λ (cs : List ℕ). on_word a.word.items (calls_of a.calls) ++ pairs_of (ahead (narrow_of a.tables.steps a.tables.live)
    (live_of a.tables.live) a.limit a.word.items cs a.behind (rests_of a.tables.steps a.tables.counted.lists a.frames.items))) (sym no_calls)
