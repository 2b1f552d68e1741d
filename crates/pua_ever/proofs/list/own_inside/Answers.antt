use Rattle.pua_ever.proofs.Common.{◌≡◌, ◌==◌, ◌&&◌, ◌∙◌, ℕ, Bool, ap, List, not, own_spot, same_Some, Some, Spot, subject_given, SubjectFits, subst, sym}
use Rattle.pua_ever.proofs.Common.{At, Named, Tree, WellFormed, Whole}
use Rattle.std.specs.Borrow.{Bor}
use Rattle.pua_tree.specs.Tree.{is_within}
use Rattle.pua_policy.specs.States.{root_dir}
use Rattle.pua_objects.specs.Roots.{dir_of}
use Rattle.pua_objects.specs.declared.item.Subject as given
use Rattle.pua_objects.specs.declared.item.Subject.TheVariants.{Dir}
use Rattle.pua_ever.proofs.InsideTrees.{row_inside}
use Rattle.pua_ever.proofs.list.own_inside.Goals as goal

-- the name at which a directory stands, by whether that is at or below the root
dir_inside : (t : Tree) → WellFormed t → (root : ℕ) (inside : Bool) (s : given.Subject) (id dir : ℕ) (name : Bor (List ℕ)) →
    s ≡ Dir id dir name → SubjectFits t (subject_given t s) → inside ≡ is_within t (dir_of (subject_given t s)) root →
    (spot : Spot) → own_spot (subject_given t s) ≡ Some spot → (inside && not (id == root)) ≡ is_within t spot.0 root
dir_inside t well root inside s id dir name is fits marked spot at =
    let there : SubjectFits t (At (Whole id (Named dir name.now))) = subst (λ s. SubjectFits t (subject_given t s)) is fits in
    let same : (dir, name.now) ≡ spot = same_Some (dir, name.now) spot (sym (ap (λ s. own_spot (subject_given t s)) is) ∙ at) in
    ap (λ b. b && not (id == root)) (marked ∙ ap (λ s. is_within t (dir_of (subject_given t s)) root) is)
    ∙ row_inside t well root (dir, name.now) id there.1.1 there.0
    ∙ ap (λ (s : Spot). is_within t s.0 root) same

pub returns-then-item : goal.returns-then-item
returns-then-item c = λ t well told spot at.
    let root : ℕ = root_dir c.args.process.now in
    let item = c.args.item.now in
    c.ne.ensures ∙ ap (λ start. not (c.in-Dir.id == start.root)) c.start.ensures.state
    ∙ sym (ap (λ b. b && not (c.in-Dir.id == root)) c.if-item.true)
    ∙ dir_inside t well root item.inside item.item.subject c.in-Dir.id c.in-Dir.field-1 c.in-Dir.field-2 c.in-Dir.is told.fits told.inside spot at

pub returns-else-item : goal.returns-else-item
returns-else-item c = λ t well told spot at.
    let root : ℕ = root_dir c.args.process.now in
    let item = c.args.item.now in
    c.if-item.false ∙ sym (ap (λ b. b && not (c.in-Dir.id == root)) c.if-item.false)
    ∙ dir_inside t well root item.inside item.item.subject c.in-Dir.id c.in-Dir.field-1 c.in-Dir.field-2 c.in-Dir.is told.fits told.inside spot at
