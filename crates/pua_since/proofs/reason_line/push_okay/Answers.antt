use Rattle.std.proofs.lemmas.Result.{on_ok_weaker}
use Rattle.pua_since.proofs.Answered.{okay_pushed}
use Rattle.pua_since.proofs.reason_line.push_okay.Goals as goal

pub returns : goal.returns
returns g c =
    on_ok_weaker c.push_opener.result (λ told.
    okay_pushed _ _ _ _ _ c.in_ok-push_str.ensures.bytes told c.in-Ok.ensures) c.push_opener.ensures
