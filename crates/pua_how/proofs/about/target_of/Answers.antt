use Rattle.std.proofs.Common.{◌≡◌, ◌∙◌, ℕ, Option, Some, None, ap, refl, sym}
use Rattle.std.specs.Prelude.{option_map}
use Rattle.pua_objects.specs.Objects.{Subject}
use Rattle.pua_ever.specs.Ever.{Stands}
use Rattle.pua_ever.specs.EverList.{own_name, subject_at, thing_by}
use Rattle.pua_ever.specs.declared.list.EverAbout.{EverAbout}
use Rattle.pua_how.specs.Targets.{target_about}
use Rattle.pua_how.proofs.about.target_of.Goals as goal

through_thing : (last : ℕ) (o : Option Subject) →
    option_map (λ about. target_about last (Stands about)) o ≡ option_map (target_about last) (option_map Stands o)
through_thing last None = refl
through_thing last (Some about) = refl

pub returns-in-Stands : goal.returns-in-Stands
returns-in-Stands g c =
    let t = g.T.FileTree.content c.args.tree.now in
    let last = c.args.last in
    let name = own_name c.args.row.now in
    c.standing.ensures last
    ∙ through_thing last (subject_at t name c.in-Stands.place)
    ∙ ap (λ (about : EverAbout). option_map (target_about last) (thing_by t name about)) (sym c.in-Stands.is)
