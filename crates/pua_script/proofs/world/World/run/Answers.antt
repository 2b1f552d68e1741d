use Rattle.pua_script.proofs.WorldsLeft.{run_served, run_held, run_in_part}
use Rattle.pua_script.proofs.world.World.run.Goals as goal

pub returns-clause-served : goal.returns-clause-served
returns-clause-served g c = run_served c.args.self.now c.serve_each.new.self c.args.script.now (λ v. v.items) c.serve_each.result
    c.serve_each.ensures

pub returns-clause-held : goal.returns-clause-held
returns-clause-held g c =
    run_held c.args.self.now c.serve_each.new.self c.args.script.now (λ v. v.items) c.serve_each.result c.serve_each.ensures

pub returns-clause-in_part : goal.returns-clause-in_part
returns-clause-in_part g c = run_in_part c.args.self.now c.serve_each.new.self c.args.script.now (λ v. v.items) c.serve_each.result
    c.serve_each.ensures
