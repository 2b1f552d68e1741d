use Rattle.pua_texts.proofs.Common.{◌++◌, ◌∷◌, [], sym, ap, ◌∙◌, place_names, reverse}
use Rattle.pua_why.specs.Texts.{dir_names}
use Rattle.pua_why.specs.TreePaths.{PathsState}
use Rattle.pua_texts.proofs.Climbing.{of_dir, of_slot}
use Rattle.pua_texts.proofs.places.VeilPaths.seek.Goals as goal

pub returns-in-Dir-clause-names : goal.returns-in-Dir-clause-names
returns-in-Dir-clause-names g c =
    c.find_dir.ensures.names ∙ ap (λ (s : PathsState). dir_names s.tree c.in-Dir.dir) c.self.view_is ∙
    of_dir c.args.self.now.tree c.in-Dir.dir ∙ ap (λ place. reverse (place_names c.args.self.now.tree place)) (sym c.in-Dir.is)

pub returns-in-Slot-clause-names : goal.returns-in-Slot-clause-names
returns-in-Slot-clause-names g c =
    c.find_spot.ensures.names ∙ ap (λ (s : PathsState). dir_names s.tree c.in-Slot.dir ++ c.in-Slot.name ∷ []) c.self.view_is ∙
    of_slot c.args.self.now.tree c.in-Slot.dir c.in-Slot.name ∙
    ap (λ place. reverse (place_names c.args.self.now.tree place)) (sym c.in-Slot.is)
