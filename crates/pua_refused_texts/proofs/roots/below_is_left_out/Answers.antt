use Rattle.std.proofs.Common.{◌∙◌, refl, sym}
use Rattle.std.proofs.lemmas.Bool.{false≢true}
use Rattle.pua_refused_texts.proofs.Rooted.{root_tree, rooted}
use Rattle.pua_refused_texts.proofs.roots.below_is_left_out.Goals as goal

pub unreachable-requires : goal.unreachable-requires
unreachable-requires c = false≢true (sym c.if-not-shows.true ∙ c.shows.ensures root_tree rooted c.new.ensures
    (record {
      fits = rw c.new-2.ensures refl;
      tells = record { subject = refl; object = refl; cover = refl };
      veil = refl;
      inside = rw c.new-2.ensures refl;
    }) ∙ rw (c.new.ensures, c.new-2.ensures) refl)
