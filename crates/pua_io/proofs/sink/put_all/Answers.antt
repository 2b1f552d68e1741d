use Rattle.std.proofs.lemmas.Result.{err_from_is_err_and}
use Rattle.pua_io.proofs.Putting.{has_put_more, has_put_front}
use Rattle.pua_io.proofs.sink.put_all.Goals as goal

pub returns-in_err-count-clause-front : goal.returns-in_err-count-clause-front
returns-in_err-count-clause-front g c =
    let p = err_from_is_err_and c.from_residual.result c.from_residual.ensures.1 in
    rw p.1 (has_put_front _ _ _ _ _ c.loop-rest.invariant.put c.in_err-count.ensures.nothing)

pub loop-rest-preserved : goal.loop-rest-preserved
loop-rest-preserved g c = record {
  put = has_put_more _ _ _ _ _ _ c.loop-rest.invariant.put c.in_ok-count.ensures.adds;
  unfailed = cc (c.in_ok-count.ensures.unfailed, c.loop-rest.invariant.unfailed);
}
