use Rattle.pua_script.proofs.Common.{◌≡◌, false, rules, subst, sym, true}
use Rattle.std.specs.Prelude.{codes}
use Rattle.pua_tree.specs.Names.{same_bytes}
use Rattle.std.proofs.Common.{tests}
use Rattle.pua_script.specs.Added.{IsActionAdded}
use Rattle.pua_script.specs.Scripts.{action_by}
use Rattle.pua_script.proofs.Reading.{files_hold, files_take}
use Rattle.pua_script.proofs.descriptor.read_three.Goals as goal

pub returns-then-eq : goal.returns-then-eq
returns-then-eq c =
    let word = c.args.word.now in
    let named : same_bytes word (codes "hold") ≡ true = search (rules, tests) in
    subst (λ form. IsActionAdded (action_by c.args.origin.line form) c.args.origin.process c.args.requests.now.items
    c.read_hold.new.requests.items c.read_hold.result)
    (sym (files_hold word c.args.a.now c.args.b.now c.args.c.now named)) c.read_hold.ensures

pub returns-then-eq-2 : goal.returns-then-eq-2
returns-then-eq-2 c =
    let word = c.args.word.now in
    let other : same_bytes word (codes "hold") ≡ false = search (rules, tests) in
    let named : same_bytes word (codes "take") ≡ true = search (rules, tests) in
    subst (λ form. IsActionAdded (action_by c.args.origin.line form) c.args.origin.process c.args.requests.now.items
    c.read_take.new.requests.items c.read_take.result)
    (sym (files_take word c.args.a.now c.args.b.now c.args.c.now other named)) c.read_take.ensures
