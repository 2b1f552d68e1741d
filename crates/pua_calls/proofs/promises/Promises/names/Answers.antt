use Rattle.pua_calls.proofs.Common.{◌∙◌, ap}
use Rattle.pua_calls.specs.Promises.{keywords_of}
use Rattle.pua_calls.proofs.promises.Promises.names.Goals as goal

pub returns : goal.returns
returns c = c.in_ok-lent_names.ensures ∙ ap keywords_of c.self.view_is
