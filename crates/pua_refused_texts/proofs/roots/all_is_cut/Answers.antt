use Rattle.std.proofs.Common.{◌∙◌, refl, sym}
use Rattle.std.proofs.lemmas.Bool.{false≢true}
use Rattle.pua_refused_texts.proofs.Rooted.{root_tree, rooted}
use Rattle.pua_refused_texts.proofs.roots.all_is_cut.Goals as goal

pub unreachable-requires : goal.unreachable-requires
unreachable-requires c = false≢true (sym c.if-not-shows.true ∙ c.shows.ensures root_tree rooted tt
    (record { fits = (refl, tt); tells = record { subject = refl; object = refl; cover = refl }; veil = refl; inside = refl }))
