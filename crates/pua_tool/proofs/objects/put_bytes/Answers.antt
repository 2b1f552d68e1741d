use Rattle.pua_tool.proofs.Common.{err_from_is_err_and, refl}
use Rattle.pua_tool.proofs.TextAnswers.{all_told}
use Rattle.pua_tool.proofs.objects.put_bytes.Goals as goal

pub returns-in_err-put_all : goal.returns-in_err-put_all
returns-in_err-put_all g c =
    let p = err_from_is_err_and c.from_residual.result c.from_residual.ensures.1 in
    rw (p.1, p.2) (c.args.bytes.now, refl, c.in_err-put_all.ensures.front, c.in_err-put_all.ensures.failed)

pub returns : goal.returns
returns g c =
    all_told c.args.bytes.now (g.S.Sink.written c.args.sink.now) (g.S.Sink.written c.put_all.new.sink) (g.S.Sink.failed c.args.sink.now)
    (g.S.Sink.failed c.put_all.new.sink)
    c.in_ok-put_all.ensures.whole
    c.in_ok-put_all.ensures.unfailed
