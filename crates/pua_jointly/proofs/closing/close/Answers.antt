use Rattle.pua_jointly.proofs.Common.{◌∙◌, ap}
use Rattle.std.specs.Prelude.{◌*◌}
use Rattle.pua_jointly.proofs.Gaining.{none_known}
use Rattle.pua_jointly.proofs.closing.close.Goals as goal

pub loop-init : goal.loop-init
loop-init g c = record {
  full = c.add_some-4.ensures.full ∙ c.add_some-3.ensures.full ∙ c.add_some-2.ensures.full ∙ c.add_some.ensures.full
      ∙ c.in-Ok.ensures.full ∙ c.in-Some.ensures.1 ∙ ap (λ n. c.args.rows * n) c.columns.ensures;
  reached = c.add_some-4.ensures.reached (c.add_some-3.ensures.reached (c.add_some-2.ensures.reached
      (c.add_some.ensures.reached (λ at bit known. absurd (none_known c.in-Ok.told.items c.in-Ok.ensures.none at bit known)))));
}
