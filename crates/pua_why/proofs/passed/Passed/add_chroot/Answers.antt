use Rattle.pua_why.proofs.Common.{[], ◌∷◌, on_ok_weaker, rule_of, promising, Sole, call_trace, facts_under}
use Rattle.pua_calls.specs.Promises.{id}
use Rattle.pua_calls.specs.declared.call.Call.TheVariants as call
use Rattle.pua_why.proofs.Needing.{promised_named}
use Rattle.pua_why.proofs.passed.Passed.add_chroot.Goals as goal

pub returns-in_ok-add-in-Holds : goal.returns-in_ok-add-in-Holds
returns-in_ok-add-in-Holds g c =
    let t = g.T.FileTree.content c.args.tree.now in
    let rule = rule_of c.args.table.now call.Chdir in
    on_ok_weaker c.add_object.result (λ so.
    promised_named c.args.self.now c.add.new.self _ c.in-Holds.set Sole (call_trace t c.args.process.now call.Chdir c.args.path.now)
    (λ object. facts_under Sole t c.args.process.now object rule.perms []) (promising c.args.process.now (id ∷ []))
    c.in-Holds.ensures c.in_ok-add-in-Holds.ensures (so))
    c.add_object.ensures
