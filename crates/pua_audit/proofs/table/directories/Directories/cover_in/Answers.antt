use Rattle.pua_audit.proofs.Common.{◌∙◌, ℕ, get_or, sym, ap, eqb-true, cover_in, DirectoriesState}
use Rattle.std.proofs.lemmas.List.Quantifiers.{position-Some}
use Rattle.pua_audit.proofs.table.directories.Directories.cover_in.Goals as goal

pub returns : goal.returns
returns c = λ t h covered.
    let place : ℕ = c.in_ok-place.place in
    let there = position-Some _ c.self.inside.numbers.keys place 0 (sym c.in_ok-place.ensures.index) in
    c.cover_at.ensures t h covered ∙ ap (cover_in t h) (ap (λ (d : DirectoriesState). get_or d.numbers place 0) (sym c.self.view_is) ∙
    sym (eqb-true _ _ there.1) ∙ c.number.ensures)
