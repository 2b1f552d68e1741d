use Rattle.pua_tree.proofs.Common.{◌∙◌, List, ℕ, Option, sym, ap, subst}
use Rattle.pua_tree.specs.NamedRows.{HeldRows, IsPlaceOf, key_at, row_of}
use Rattle.pua_tree.proofs.NamedRows.{not_named, found_by}
use Rattle.pua_tree.proofs.named_rows.NamedRows.get.Goals as goal

pub returns-in_default : goal.returns-in_default
returns-in_default c name place =
    let inside = subst (λ (rows : HeldRows). IsPlaceOf rows.names name c.args.place) (sym c.self.view_is) place in
    sym (not_named c.self.inside.names.keys c.self.inside.rows.entries c.self.invariant.1 (key_at (c.args.dir, name))
    (subst (IsPlaceOf c.self.inside.names.keys name) c.in_default.is inside))
    ∙ ap (λ (rows : HeldRows). row_of rows (c.args.dir, name)) c.self.view_is

pub returns : goal.returns
returns c name place =
    let inside = subst (λ (rows : HeldRows). IsPlaceOf rows.names name c.args.place) (sym c.self.view_is) place in
    c.copied.ensures ∙ c.get.ensures.value
    ∙ sym (found_by c.self.inside.names.keys c.self.invariant.0 (key_at (c.args.dir, name)) c.in-Some.name
    (subst (IsPlaceOf c.self.inside.names.keys name) c.in-Some.is inside) c.self.inside.rows.entries c.self.invariant.1)
    ∙ ap (λ (rows : HeldRows). row_of rows (c.args.dir, name)) c.self.view_is
