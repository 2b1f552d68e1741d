use Rattle.pua_why.proofs.Common.{on_ok_weaker}
use Rattle.pua_why.proofs.Adding.{then_more}
use Rattle.pua_why.proofs.texts.push_opened.Goals as goal

pub returns : goal.returns
returns c = on_ok_weaker c.push_promises.result (then_more _ _ _ _ _ c.in_ok-push_str.ensures.bytes) c.push_promises.ensures
