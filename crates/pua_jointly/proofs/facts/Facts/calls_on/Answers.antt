use Rattle.pua_jointly.proofs.Common.{◌≡◌, ◌∙◌, ap, At, look, Others, Slot, Stands, subject_given, subst, sym, Whole}
use Rattle.pua_objects.specs.Items.{SubjectFits}
use Rattle.pua_path.specs.declared.found.Way.TheVariants.{Named, Top}
use Rattle.pua_jointly.specs.JointCalls.{AreCallsOf}
use Rattle.pua_jointly.specs.JointSetting.{IsEntryOf}
use Rattle.pua_jointly.proofs.JointTold.{slot_lives, slot_plain}
use Rattle.pua_jointly.proofs.facts.Facts.calls_on.Goals as goal

pub returns-in-Root : goal.returns-in-Root
returns-in-Root c = λ t crew a about is fits on there.
    let same : At (Whole 0 Top) ≡ about = sym (ap (subject_given t) c.in-Root.is) ∙ on.subject in
    subst (λ s. AreCallsOf t c.args.table.now crew a (Stands s) c.calls_on_dir.result) same
    (c.calls_on_dir.ensures t crew a Top is is.facts_are.worked.0.root)

pub returns-in-Dir : goal.returns-in-Dir
returns-in-Dir c = λ t crew a about is fits on there.
    let dir = c.in-Dir.dir in
    let way = Named c.in-Dir.field-1 c.in-Dir.field-2.now in
    let same : At (Whole dir way) ≡ about = sym (ap (subject_given t) c.in-Dir.is) ∙ on.subject in
    let here : SubjectFits t (At (Whole dir way)) = subst (SubjectFits t) (sym same) fits in
    subst (λ s. AreCallsOf t c.args.table.now crew a (Stands s) c.calls_on_dir-in-Dir.result) same
    (c.calls_on_dir-in-Dir.ensures t crew a way is here.0)

pub returns-in-Others : goal.returns-in-Others
returns-in-Others c = λ t crew a about is fits on there.
    let dir = c.in-Others.dir in
    let same : Others dir ≡ about = sym (ap (subject_given t) c.in-Others.is) ∙ on.subject in
    let here : SubjectFits t (Others dir) = subst (SubjectFits t) (sym same) fits in
    subst (λ s. AreCallsOf t c.args.table.now crew a (Stands s) c.calls_on_others.result) same (c.calls_on_others.ensures t crew a is here)

pub returns-in-Name : goal.returns-in-Name
returns-in-Name c = λ t crew a about is fits on there.
    let dir = c.in-Name.dir in
    let name = c.in-Name.name.now in
    let same : At (Slot dir name (look t dir name)) ≡ about = sym (ap (subject_given t) c.in-Name.is) ∙ on.subject in
    let here : SubjectFits t (At (Slot dir name (look t dir name))) = subst (SubjectFits t) (sym same) fits in
    subst (λ s. AreCallsOf t c.args.table.now crew a (Stands s) c.calls_on_name.result) same
    (c.calls_on_name.ensures t crew a is (slot_lives t dir name (look t dir name) here.0) (slot_plain t dir name (look t dir name) here.0)
    (subst (λ s. IsEntryOf c.args.self.now.crew.entries.items s c.args.entry) c.in-Name.is there))
