use Rattle.pua_ever.proofs.Common.{◌≡◌, not, refl, sym, ap, subst, ◌∙◌, look, Whole, Slot, Named, Top, SubjectFits, subject_given, At, Others}
use Rattle.pua_ever.proofs.Common.{covers_descend, is_ever_allowed}
use Rattle.pua_objects.specs.Items.{object_on, cover_on}
use Rattle.pua_ever.specs.Ever.{stays_on}
use Rattle.pua_ever.specs.Prospects.{IsMovableAt}
use Rattle.pua_ever.proofs.Named.{name_calls}
use Rattle.pua_ever.proofs.prospects.Prospects.calls_on.Goals as goal

pub returns-in-Root : goal.returns-in-Root
returns-in-Root g c = λ about well needs found movable fits on call.
    let t = g.T.FileTree.content c.args.tree.now in
    let h = c.args.process.now in
    let same : At (Whole 0 Top) ≡ about = sym (ap (subject_given t) c.in-Root.is) ∙ on.subject in
    c.on_dir.ensures t Top needs found (subst (λ s. IsMovableAt t c.args.table.now h s c.args.movable.now) (sym same) movable) well.root refl
    (on.cover ∙ ap (cover_on t h) (sym same) ∙ (covers_descend t h well).directory 0 Top well.root)
    (on.object ∙ ap (object_on t) (sym same))
    call
    ∙ ap (λ s. is_ever_allowed t c.args.table.now h s call) same

pub returns-in-Dir : goal.returns-in-Dir
returns-in-Dir g c = λ about well needs found movable fits on call.
    let t = g.T.FileTree.content c.args.tree.now in
    let h = c.args.process.now in
    let dir = c.in-Dir.dir in
    let way = Named c.in-Dir.field-1 c.in-Dir.field-2.now in
    let same : At (Whole dir way) ≡ about = sym (ap (subject_given t) c.in-Dir.is) ∙ on.subject in
    let here : SubjectFits t (At (Whole dir way)) = subst (SubjectFits t) (sym same) fits in
    c.on_dir-in-Dir.ensures t way needs found (subst (λ s. IsMovableAt t c.args.table.now h s c.args.movable.now) (sym same) movable) here.0 (ap not c.is_mount.ensures)
    (on.cover ∙ ap (cover_on t h) (sym same) ∙ (covers_descend t h well).directory dir way here.0)
    (on.object ∙ ap (object_on t) (sym same))
    call
    ∙ ap (λ s. is_ever_allowed t c.args.table.now h s call) same

pub returns-in-Name : goal.returns-in-Name
returns-in-Name g c = λ about well needs found movable fits on call.
    let t = g.T.FileTree.content c.args.tree.now in
    let h = c.args.process.now in
    let dir = c.in-Name.dir in
    let name = c.in-Name.name.now in
    let same : At (Slot dir name (look t dir name)) ≡ about = sym (ap (subject_given t) c.in-Name.is) ∙ on.subject in
    name_calls t well c.args.table.now h dir name (look t dir name) (subst (SubjectFits t) (sym same) fits) c.args.item.now.object
    c.is_turned_at-turned.result c.args.item.now.cover c.on_name.result
    (on.object ∙ ap (object_on t) (sym same))
    (c.is_turned_at-turned.ensures h found.turned)
    (on.cover ∙ ap (cover_on t h) (sym same))
    (λ kind seen call. c.on_name.ensures t (stays_on t h dir) kind found
    (subst (λ s. IsMovableAt t c.args.table.now h s c.args.movable.now) (sym same) movable) seen call)
    call
    ∙ ap (λ s. is_ever_allowed t c.args.table.now h s call) same

pub returns-in-Others : goal.returns-in-Others
returns-in-Others g c = λ about well needs found movable fits on call.
    let t = g.T.FileTree.content c.args.tree.now in
    let h = c.args.process.now in
    let same : Others c.in-Others.dir ≡ about = sym (ap (subject_given t) c.in-Others.is) ∙ on.subject in
    c.on_others.ensures t (subst (λ s. IsMovableAt t c.args.table.now h s c.args.movable.now) (sym same) movable)
    (on.cover ∙ ap (cover_on t h) (sym same)) call
    ∙ ap (λ s. is_ever_allowed t c.args.table.now h s call) same
