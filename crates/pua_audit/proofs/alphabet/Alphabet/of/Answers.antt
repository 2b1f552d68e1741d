use Rattle.pua_audit.proofs.Common.{◌≡◌, ◌∙◌, map, codes, sym, ap, subst, lent_entry, Spot, name_cmp, with_name, distinct_names, Rises}
use Rattle.pua_audit.proofs.Common.{with_names}
use Rattle.std.proofs.lemmas.Simd.{map-map}
use Rattle.pua_audit.proofs.Placing.{distinct_names-append}
use Rattle.pua_audit.proofs.Rising.{distinct_names_rise}
use Rattle.pua_audit.proofs.alphabet.Alphabet.of.Goals as goal

pub invariant_of-alphabet : goal.invariant_of-alphabet
invariant_of-alphabet c =
    let names = map (λ row. (lent_entry row).0.1) c.args.rows.now in
    let read : c.in_ok-letters.letters.items ≡ distinct_names names = c.in_ok-letters.ensures.names ∙
    ap (map (λ name. name.now)) c.as_slice.ensures.value ∙ c.in_ok-names.ensures in
    (subst (Rises name_cmp) (sym read) (distinct_names_rise names), c.in_ok-letters.ensures.known)

pub returns : goal.returns
returns c = λ t whole.
    let read : c.in_ok-letters.letters.items ≡ distinct_names (map (λ row. (lent_entry row).0.1) c.args.rows.now) =
    c.in_ok-letters.ensures.names ∙ ap (map (λ name. name.now)) c.as_slice.ensures.value ∙ c.in_ok-names.ensures in
    let same = sym (map-map (λ (row : Spot × _). row.0.1) lent_entry c.args.rows.now) ∙ ap (map (λ row. row.0.1)) whole in
    c.in_ok-add.ensures ∙ ap (λ letter. with_name letter c.add_names.new.self) c.in_ok-dots.ensures
    ∙ ap (with_name (codes "..")) (c.in_ok-add_names.ensures ∙ ap (with_names c.args.candidates.now) (read ∙ ap distinct_names same) ∙
    sym (distinct_names-append c.args.candidates.now (map (λ row. row.0.1) t.rows)))
