use Rattle.pua_path.proofs.Common.{Ok, sym, ap, ◌∙◌}
use Rattle.pua_path.specs.Walks.{founds_seen}
use Rattle.pua_path.proofs.resolver.resolve.Goals as goal

pub returns-in-Ok-clause-exact : goal.returns-in-Ok-clause-exact
returns-in-Ok-clause-exact g c = ap (λ found. Ok found) c.found.ensures ∙ sym (ap founds_seen c.in-Ok.is) ∙ c.resolve_lent.ensures.exact
