use Rattle.std.proofs.Common.{◌∙◌, refl, sym}
use Rattle.std.proofs.lemmas.Bool.{false≢true}
use Rattle.pua_refused_texts.proofs.Rooted.{root_tree, rooted}
use Rattle.pua_refused_texts.proofs.roots.outside_is_shown.Goals as goal

pub unreachable-requires : goal.unreachable-requires
unreachable-requires c = false≢true (sym (c.shows.ensures root_tree rooted c.new.ensures
    (record { fits = (refl, tt); tells = record { subject = refl; object = refl; cover = refl }; veil = refl; inside = refl })
    ∙ rw c.new.ensures refl) ∙ c.if-shows.true)
