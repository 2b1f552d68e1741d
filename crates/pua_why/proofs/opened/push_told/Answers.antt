use Rattle.pua_why.proofs.Common.{on_ok_weaker}
use Rattle.pua_why.proofs.Adding.{then_more}
use Rattle.pua_why.proofs.opened.push_told.Goals as goal

pub returns : goal.returns
returns c = on_ok_weaker c.push_opener.result (then_more _ _ _ _ _ c.in_ok-push_word.ensures) c.push_opener.ensures
