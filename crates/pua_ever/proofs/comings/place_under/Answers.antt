use Rattle.pua_ever.proofs.Common.{◌∙◌, ap, subst, sym, look, option_map, At, Others, Slot, Top, Whole, None≢Some, same_Some}
use Rattle.pua_ever.specs.Comings.{IsMovedTo}
use Rattle.pua_ever.specs.EverList.{dir_at, subject_at}
use Rattle.pua_ever.proofs.ComingRows.{named_under, others_under, slot_under, whole_under}
use Rattle.pua_ever.proofs.comings.place_under.Goals as goal

pub returns-in-Root : goal.returns-in-Root
returns-in-Root g c = λ about object well moved at on.
    let t = g.T.FileTree.content c.args.tree.now in
    let h = c.args.process.now in
    let table = c.args.table.now in
    let name = option_map (λ name. name.now) c.args.name in
    whole_under t h object c.args.cover well table c.dir_under.result about on 0 Top
    (c.dir_under.ensures (subst (λ place. IsMovedTo t table h (dir_at place) c.args.to) c.in-Root.is moved))
    (same_Some (At (Whole 0 Top)) about (ap (subject_at t name) (sym c.in-Root.is) ∙ at))

pub returns-in-Dir : goal.returns-in-Dir
returns-in-Dir g c = λ about object well moved at on.
    let t = g.T.FileTree.content c.args.tree.now in
    let h = c.args.process.now in
    let table = c.args.table.now in
    let name = option_map (λ name. name.now) c.args.name in
    named_under t h object c.args.cover well table c.dir_under-in-Dir.result about on c.in-Dir.dir c.in-Dir.field-1 name
    (c.dir_under-in-Dir.ensures (subst (λ place. IsMovedTo t table h (dir_at place) c.args.to) c.in-Dir.is moved))
    (ap (subject_at t name) (sym c.in-Dir.is) ∙ at)

pub returns-in-Others : goal.returns-in-Others
returns-in-Others g c = λ about object well moved at on.
    let t = g.T.FileTree.content c.args.tree.now in
    let h = c.args.process.now in
    let table = c.args.table.now in
    let name = option_map (λ name. name.now) c.args.name in
    others_under t h object c.args.cover well table c.dir_under-in-Others.result about on c.in-Others.dir
    (c.dir_under-in-Others.ensures (subst (λ place. IsMovedTo t table h (dir_at place) c.args.to) c.in-Others.is moved))
    (same_Some (Others c.in-Others.dir) about (ap (subject_at t name) (sym c.in-Others.is) ∙ at))

pub returns-in-Some : goal.returns-in-Some
returns-in-Some g c = λ about object well moved at on.
    let t = g.T.FileTree.content c.args.tree.now in
    let h = c.args.process.now in
    let table = c.args.table.now in
    let dir = c.in-Name.dir in
    let name = c.in-Some.name.now in
    slot_under t h object c.args.cover well table c.name_under.result about on dir name (look t dir name)
    (λ living. c.name_under.ensures well living (subst (λ place. IsMovedTo t table h (dir_at place) c.args.to) c.in-Name.is moved))
    (same_Some (At (Slot dir name (look t dir name))) about
    (sym (λ i. subject_at t (option_map (λ name. name.now) (c.in-Some.is i)) (c.in-Name.is i)) ∙ at))

pub returns-in-None : goal.returns-in-None
returns-in-None g c = λ about object well moved at on.
    absurd (None≢Some about
    (sym (λ i. subject_at (g.T.FileTree.content c.args.tree.now) (option_map (λ name. name.now) (c.in-None.is i)) (c.in-Name.is i)) ∙ at))
