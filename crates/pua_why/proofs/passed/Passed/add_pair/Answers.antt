use Rattle.pua_why.proofs.Common.{[], ◌∷◌, ◌++◌, ap, ◌∙◌, on_ok_weaker, promising, Old, New, Needs, facts_named, facts_under, name_trace}
use Rattle.pua_why.proofs.Needing.{both_named}
use Rattle.pua_why.proofs.passed.Passed.add_pair.Goals as goal

pub returns : goal.returns
returns g c =
    let t = g.T.FileTree.content c.args.tree.now in
    let need = c.args.need.now in
    let held = c.alternatives.ensures ∙ ap (λ name. name.needs.alternatives) c.old_name.ensures in
    let held_new = c.alternatives-2.ensures ∙ ap (λ name. name.needs.alternatives) c.new_name.ensures in
    on_ok_weaker c.add_names.result (λ so.
    both_named c.args.self.now c.add-2.new.self _ c.in-Holds.set c.in-Holds-promising.other Old
    (name_trace need.old t c.args.process.now c.args.ending c.args.old.now)
    (λ old. facts_named New (name_trace need.new t c.args.process.now c.args.ending c.args.new.now) λ new.
    facts_under Old t c.args.process.now old need.old.needs.perms (facts_under New t c.args.process.now new need.new.needs.perms []))
    (promising c.args.process.now need.old.needs.alternatives) (promising c.args.process.now need.new.needs.alternatives)
    (c.in-Holds.ensures ∙ ap (promising c.args.process.now) held)
    (c.in-Holds-promising.ensures ∙ ap (promising c.args.process.now) held_new)
    (c.in_ok-add.ensures ∙ ap (λ set. c.args.self.now ++ Needs set ∷ []) c.union.ensures) (so)) c.add_names.ensures
