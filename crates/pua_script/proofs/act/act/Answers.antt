use Rattle.pua_script.proofs.Common.{◌≡◌, sym, ap, ◌∙◌, Ok, Tree, CallTable, ProcessState, Decision, Action, asker_of}
use Rattle.pua_calls.specs.declared.rules.Rules.{Rules}
use Rattle.pua_script.specs.declared.request.Given.{Given}
use Rattle.pua_script.specs.declared.request.Action.TheVariants.{Pledge}
use Rattle.pua_script.specs.Decide.{decide, decide_pledge, decide_uses}
use Rattle.pua_script.specs.declared.granted.Granted.TheVariants as granted
use Rattle.pua_script.proofs.Acting.{acts}
use Rattle.pua_script.proofs.act.act.Goals as goal

-- a pledge is decided by whose rules the table is of
pledges_by : (table : CallTable) (t : Tree) (p : ProcessState) (whose : Rules) (x y : Given) (d : Decision) (action : Action) →
    whose ≡ table.whose → action ≡ Pledge x y → d ≡ decide_pledge (asker_of p) whose x y → d ≡ decide table t p action
pledges_by table t p whose x y d action same is e =
    e ∙ ap (λ rules. decide_pledge (asker_of p) rules x y) same ∙ sym (ap (decide table t p) is)

pub returns-in-Pledge-clause-exact : goal.returns-in-Pledge-clause-exact
returns-in-Pledge-clause-exact g c alone =
    let t = g.T.FileTree.content c.args.tree.now in
    acts c.args.table.now t c.args.process.now c.args.action.now c.decide_pledge-granted.result
    (pledges_by c.args.table.now t c.args.process.now _ _ _ _ c.args.action.now c.rules.ensures c.in-Pledge.is
    (c.decide_pledge-granted.ensures (asker_of c.args.process.now))) _ _ c.answer.result c.answer.ensures.exact

pub returns-in-Lock-clause-exact : goal.returns-in-Lock-clause-exact
returns-in-Lock-clause-exact g c alone =
    let t = g.T.FileTree.content c.args.tree.now in
    acts c.args.table.now t c.args.process.now c.args.action.now c.decide_lock-granted.result
    (c.decide_lock-granted.ensures ∙ sym (ap (decide c.args.table.now t c.args.process.now) c.in-Lock.is)) _ _
    c.answer-in-Lock.result c.answer-in-Lock.ensures.exact

pub returns-in-Exit-clause-exact : goal.returns-in-Exit-clause-exact
returns-in-Exit-clause-exact g c alone =
    let t = g.T.FileTree.content c.args.tree.now in
    acts c.args.table.now t c.args.process.now c.args.action.now (Ok granted.Exit)
    (sym (ap (decide c.args.table.now t c.args.process.now) c.in-Exit.is)) _ _ c.answer-in-Exit.result
    c.answer-in-Exit.ensures.exact

pub returns-in-Uses-clause-exact : goal.returns-in-Uses-clause-exact
returns-in-Uses-clause-exact g c alone =
    let t = g.T.FileTree.content c.args.tree.now in
    acts c.args.table.now t c.args.process.now c.args.action.now c.decide_uses-granted.result
    (c.decide_uses-granted.ensures ∙ ap (λ sets. decide_uses (asker_of c.args.process.now) sets) c.sets.ensures
    ∙ sym (ap (decide c.args.table.now t c.args.process.now) c.in-Uses.is)) _ _
    c.answer-in-Uses.result c.answer-in-Uses.ensures.exact

pub returns-in-Close-clause-exact : goal.returns-in-Close-clause-exact
returns-in-Close-clause-exact g c alone =
    let t = g.T.FileTree.content c.args.tree.now in
    acts c.args.table.now t c.args.process.now c.args.action.now c.decide_close-granted.result
    (c.decide_close-granted.ensures ∙ sym (ap (decide c.args.table.now t c.args.process.now) c.in-Close.is)) _ _
    c.answer-in-Close.result c.answer-in-Close.ensures.exact

pub returns-in-Fchdir-clause-exact : goal.returns-in-Fchdir-clause-exact
returns-in-Fchdir-clause-exact g c alone =
    let t = g.T.FileTree.content c.args.tree.now in
    acts c.args.table.now t c.args.process.now c.args.action.now c.decide_fchdir-granted.result
    (c.decide_fchdir-granted.ensures ∙ sym (ap (decide c.args.table.now t c.args.process.now) c.in-Fchdir.is)) _ _
    c.answer-in-Fchdir.result c.answer-in-Fchdir.ensures.exact

pub returns-in-Hold-clause-exact : goal.returns-in-Hold-clause-exact
returns-in-Hold-clause-exact g c alone = rw (c.in-Hold.is, ← c.bytes-in-Hold.ensures) c.hold.ensures.exact

pub returns-in-Chroot-clause-exact : goal.returns-in-Chroot-clause-exact
returns-in-Chroot-clause-exact g c alone = rw (c.in-Chroot.is, ← c.bytes-in-Chroot.ensures) c.chroot.ensures.exact

pub returns-in-Comment-clause-exact : goal.returns-in-Comment-clause-exact
returns-in-Comment-clause-exact g c alone =
    let t = g.T.FileTree.content c.args.tree.now in
    acts c.args.table.now t c.args.process.now c.args.action.now (Ok granted.NoChange)
    (sym (ap (decide c.args.table.now t c.args.process.now) c.in-Comment.is)) _ _ c.answer-in-Comment.result
    c.answer-in-Comment.ensures.exact

pub returns-in-Unveil-clause-exact : goal.returns-in-Unveil-clause-exact
returns-in-Unveil-clause-exact g c alone = rw (c.in-Unveil.is, ← c.bytes-in-Unveil.ensures) c.unveil.ensures.exact

pub returns-in-OnPath-clause-exact : goal.returns-in-OnPath-clause-exact
returns-in-OnPath-clause-exact g c alone = rw (c.in-OnPath.is, ← c.bytes.ensures) c.call_on.ensures.exact

pub returns-in-Symlink-clause-exact : goal.returns-in-Symlink-clause-exact
returns-in-Symlink-clause-exact g c alone =
    rw (c.in-Symlink.is, ← c.bytes-in-Symlink.ensures, ← c.bytes-in-Symlink-2.ensures) c.symlink.ensures.exact

pub returns-in-Rename-clause-exact : goal.returns-in-Rename-clause-exact
returns-in-Rename-clause-exact g c alone =
    rw (c.in-Rename.is, ← c.bytes-in-Rename.ensures, ← c.bytes-in-Rename-2.ensures) c.rename.ensures.exact

pub returns-in-Link-clause-exact : goal.returns-in-Link-clause-exact
returns-in-Link-clause-exact g c alone =
    rw (c.in-Link.is, ← c.bytes-in-Link.ensures, ← c.bytes-in-Link-2.ensures) c.link.ensures.exact
