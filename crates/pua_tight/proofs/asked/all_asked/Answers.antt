use Rattle.std.proofs.Common.{◌∙◌, ap}
use Rattle.std.specs.Prelude.{bit_or, flat_map}
use Rattle.pua_calls.specs.Calls.{calls, rule_of}
use Rattle.pua_calls.specs.Promises.{proc, unveil}
use Rattle.pua_tight.proofs.PromisesTogether.{all_together, added}
use Rattle.pua_tight.proofs.asked.all_asked.Goals as goal

pub returns : goal.returns
returns c =
    let t = c.args.table.now in
    c.union-2.ensures ∙ ap (bit_or proc) c.union.ensures
    ∙ all_together t.rename.old.needs.alternatives t.rename.new.needs.alternatives t.link.old.needs.alternatives t.link.new.needs.alternatives
    (flat_map (λ call. (rule_of t call).alternatives) calls) proc unveil _ _ _ _ _ c.called-asked.ensures
    (c.with_sets-asked.ensures ∙ added _ (c.alternatives.ensures ∙ ap (λ n. n.needs.alternatives) (c.new_name.ensures ∙ ap (λ p. p.new) c.link-link.ensures)))
    (c.with_sets-asked-2.ensures ∙ added _ (c.alternatives-2.ensures ∙ ap (λ n. n.needs.alternatives) (c.old_name.ensures ∙ ap (λ p. p.old) c.link-link.ensures)))
    (c.with_sets-asked-3.ensures ∙ added _ (c.alternatives-3.ensures ∙ ap (λ n. n.needs.alternatives) (c.new_name-2.ensures ∙ ap (λ p. p.new) c.rename-rename.ensures)))
    (c.with_sets-asked-4.ensures ∙ added _ (c.alternatives-4.ensures ∙ ap (λ n. n.needs.alternatives) (c.old_name-2.ensures ∙ ap (λ p. p.old) c.rename-rename.ensures)))
