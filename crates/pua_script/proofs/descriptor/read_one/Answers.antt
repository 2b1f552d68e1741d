use Rattle.pua_script.proofs.Common.{◌≡◌, false, rules, subst, sym, true}
use Rattle.std.specs.Prelude.{codes}
use Rattle.pua_tree.specs.Names.{same_bytes}
use Rattle.std.proofs.Common.{tests}
use Rattle.pua_script.specs.Added.{IsActionAdded}
use Rattle.pua_script.specs.Scripts.{action_by}
use Rattle.pua_script.proofs.Reading.{file_chroot}
use Rattle.pua_script.proofs.descriptor.read_one.Goals as goal

pub returns-then-eq-3 : goal.returns-then-eq-3
returns-then-eq-3 c =
    let word = c.args.word.now in
    let close : same_bytes word (codes "close") ≡ false = search (rules, tests) in
    let fchdir : same_bytes word (codes "fchdir") ≡ false = search (rules, tests) in
    let named : same_bytes word (codes "chroot") ≡ true = search (rules, tests) in
    subst (λ form. IsActionAdded (action_by c.args.origin.line form) c.args.origin.process c.args.requests.now.items
    c.read_chroot.new.requests.items c.read_chroot.result)
    (sym (file_chroot word c.args.a.now close fchdir named)) c.read_chroot.ensures
