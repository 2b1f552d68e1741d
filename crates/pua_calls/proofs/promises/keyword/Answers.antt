use Rattle.pua_calls.proofs.Keywords.{promise_of-first, promise_of-then}
use Rattle.pua_calls.proofs.promises.keyword.Goals as goal

pub returns-in-Some : goal.returns-in-Some
returns-in-Some c =
    promise_of-first (λ flag. (flag.name.now, flag.value.0)) c.flags.result.now c.split_at.result.0.now c.split_at.result.1.now
    c.args.word.now c.in-Some.keyword.0 c.split_at.ensures.by_index.0 (c.flags.ensures tt) c.in-Some.ensures

pub returns-in-None : goal.returns-in-None
returns-in-None c =
    promise_of-then (λ flag. (flag.name.now, flag.value.0)) c.flags.result.now c.split_at.result.0.now c.split_at.result.1.now
    c.args.word.now _ c.split_at.ensures.by_index.0 (c.flags.ensures tt) c.in-None.ensures c.keyword_among-in-None.ensures
