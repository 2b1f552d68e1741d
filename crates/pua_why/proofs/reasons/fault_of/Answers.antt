use Rattle.pua_why.proofs.Common.{ap, sym, ◌∙◌, refused_by, faults}
use Rattle.pua_script.specs.Decide.{asker_for, decide_by}
use Rattle.pua_script.specs.declared.request.Action.TheVariants as actions
use Rattle.pua_why.specs.Reasons.{faults_of}
use Rattle.pua_why.proofs.Held.{holds_are_refused}
use Rattle.pua_why.proofs.reasons.fault_of.Goals as goal

pub returns-in-Rename : goal.returns-in-Rename
returns-in-Rename g c =
    let t = g.T.FileTree.content c.args.tree.now in
    c.rename_fault-fault.ensures ∙ ap (λ a. refused_by (decide_by faults c.args.table.now t
    (asker_for c.args.table.now c.args.process.now a (faults_of c.args.process.now)) a))
    ((λ i. actions.Rename (c.bytes-old.ensures i) (c.bytes-new.ensures i)) ∙ sym c.in-Rename.is)

pub returns-in-Link : goal.returns-in-Link
returns-in-Link g c =
    let t = g.T.FileTree.content c.args.tree.now in
    c.link_fault-fault.ensures ∙ ap (λ a. refused_by (decide_by faults c.args.table.now t
    (asker_for c.args.table.now c.args.process.now a (faults_of c.args.process.now)) a))
    ((λ i. actions.Link (c.bytes-old-in-Link.ensures i) (c.bytes-new-in-Link.ensures i)) ∙ sym c.in-Link.is)

pub returns-in-Uses : goal.returns-in-Uses
returns-in-Uses g c =
    let t = g.T.FileTree.content c.args.tree.now in
    c.uses_fault.ensures ∙ ap (λ a. refused_by (decide_by faults c.args.table.now t
    (asker_for c.args.table.now c.args.process.now a (faults_of c.args.process.now)) a))
    ((λ i. actions.Uses (c.sets.ensures i)) ∙ sym c.in-Uses.is)

pub returns-in-Chroot : goal.returns-in-Chroot
returns-in-Chroot g c =
    let t = g.T.FileTree.content c.args.tree.now in
    c.chroot_fault-fault.ensures ∙ ap (λ a. refused_by (decide_by faults c.args.table.now t
    (asker_for c.args.table.now c.args.process.now a (faults_of c.args.process.now)) a))
    ((λ i. actions.Chroot (c.bytes-in-Chroot.ensures i)) ∙ sym c.in-Chroot.is)

pub returns-in-Hold : goal.returns-in-Hold
returns-in-Hold g c =
    let t = g.T.FileTree.content c.args.tree.now in
    c.asked_fault-fault-in-Hold.ensures ∙ holds_are_refused c.args.table.now t c.args.process.now c.in-Hold.number
    c.in-Hold.call c.bytes-in-Hold.result.now
    ∙ ap (λ a. refused_by (decide_by faults c.args.table.now t
    (asker_for c.args.table.now c.args.process.now a (faults_of c.args.process.now)) a))
    ((λ i. actions.Hold c.in-Hold.number c.in-Hold.call (c.bytes-in-Hold.ensures i)) ∙ sym c.in-Hold.is)
