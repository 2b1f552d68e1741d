use Rattle.pua_script.proofs.Common.{◌≡◌, ℕ, List, ap, refl, ProcessState, Tree, asker_of, come_of, Granted}
use Rattle.pua_script.specs.Judged.{decision_by}
use Rattle.pua_script.proofs.Doing.{as_same, as_edit, attempts_edit, attempts_same}
use Rattle.pua_script.proofs.granted.make.Goals as goal

-- what a change comes to over a tree
comes : (t : Tree) (processes : List (ℕ × ProcessState)) (h : ProcessState) (a b : Granted) → a ≡ b →
    come_of (record { tree = t; processes = processes }) h (decision_by (asker_of h) a)
    ≡ come_of (record { tree = t; processes = processes }) h (decision_by (asker_of h) b)
comes t processes h a b is = ap (λ x. come_of (record { tree = t; processes = processes }) h (decision_by (asker_of h) x)) is

pub returns-in-AddNode-clause-exact : goal.returns-in-AddNode-clause-exact
returns-in-AddNode-clause-exact g c = λ processes.
    let t = g.T.FileTree.content c.args.tree.now in
    attempts_same t _ c.args.process.now c.add.result _ _ _ (comes t processes c.args.process.now _ _ c.in-AddNode.is)
    (attempts_edit t _ c.args.process.now c.add.result _ _ (c.add.ensures.exact c.args.process.now) refl)

pub returns-in-ShiftRow-clause-exact : goal.returns-in-ShiftRow-clause-exact
returns-in-ShiftRow-clause-exact g c = λ processes.
    let t = g.T.FileTree.content c.args.tree.now in
    attempts_same t _ c.args.process.now c.shift.result _ _ _ (comes t processes c.args.process.now _ _ c.in-ShiftRow.is)
    (attempts_edit t _ c.args.process.now c.shift.result _ _ (c.shift.ensures.exact c.args.process.now) refl)

pub returns-in-TieRow-clause-exact : goal.returns-in-TieRow-clause-exact
returns-in-TieRow-clause-exact g c = λ processes.
    let t = g.T.FileTree.content c.args.tree.now in
    attempts_same t _ c.args.process.now c.tie.result _ _ _ (comes t processes c.args.process.now _ _ c.in-TieRow.is)
    (attempts_edit t _ c.args.process.now c.tie.result _ _ (c.tie.ensures.exact c.args.process.now) refl)

pub returns-in-CutRow-clause-exact : goal.returns-in-CutRow-clause-exact
returns-in-CutRow-clause-exact g c = λ processes.
    let t = g.T.FileTree.content c.args.tree.now in
    as_same t _ c.args.process.now c.cut.result _ _ _ (comes t processes c.args.process.now _ _ c.in-CutRow.is) (as_edit t _ c.args.process.now c.cut.result _ _ (c.cut.ensures c.args.process.now) refl)

pub returns-in-Pledge-clause-exact : goal.returns-in-Pledge-clause-exact
returns-in-Pledge-clause-exact g c = λ processes.
    let t = g.T.FileTree.content c.args.tree.now in
    as_same t t c.args.process.now c.pledge.result _ _ _ (comes t processes c.args.process.now _ _ c.in-Pledge.is)
    (c.pledge.ensures (record { tree = t; processes = processes }))

pub returns-in-Unveil-clause-exact : goal.returns-in-Unveil-clause-exact
returns-in-Unveil-clause-exact g c = λ processes.
    let t = g.T.FileTree.content c.args.tree.now in
    attempts_same t t c.args.process.now c.unveil.result _ _ _ (comes t processes c.args.process.now _ _ c.in-Unveil.is)
    (c.unveil.ensures.exact (record { tree = t; processes = processes }))
