use Rattle.pua_tool.proofs.Common.{Ok, List, ℕ, subst, AnswersTo}
use Rattle.pua_tool.proofs.objects.put_text.Goals as goal

pub returns : goal.returns
returns g c = subst
    (λ (b : List ℕ). AnswersTo g.S.Sink.written g.S.Sink.failed (Ok b) c.put_bytes.result c.args.sink.now c.put_bytes.new.sink)
    c.as_bytes.ensures.value c.put_bytes.ensures
