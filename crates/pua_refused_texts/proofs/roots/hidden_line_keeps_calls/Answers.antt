use Rattle.std.proofs.Common.{◌≡◌, ◌∙◌, refl, sym}
use Rattle.std.proofs.lemmas.Bool.{false≢true}
use Rattle.pua_calls.specs.declared.call.Call.TheVariants.{Stat}
use Rattle.pua_refused_texts.proofs.Rooted.{root_tree, rooted}
use Rattle.pua_refused_texts.proofs.roots.hidden_line_keeps_calls.Goals as goal

pub unreachable-requires : goal.unreachable-requires
unreachable-requires c =
    let state : c.set_root.new.self ≡ rooted = c.set_root.ensures.state ∙ rw (c.new-2.ensures, c.in-Ok.ensures.state) refl in
    let line = (c.shown_line-line.ensures _ _ root_tree c.new-allowed.ensures (rw (c.new-3.ensures, state) refl)
    (record {
      fits = (refl, tt);
      tells = record { subject = refl; object = refl; cover = rw state refl };
      veil = rw state refl;
      inside = rw state refl;
    })).calls Stat in
    false≢true (sym (c.contains.ensures ∙ line ∙ rw c.new-3.ensures refl) ∙ c.if-contains.true)
