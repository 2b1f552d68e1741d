-- The spots of rows and of veils, gathered one after another.
use Rattle.pua_objects.proofs.Common.{◌≡◌, ◌<◌, ◌+◌, ℕ, List, [], ◌∷◌, ◌++◌, map, take, length, refl, sym, ap, subst, ◌∙◌, filter_map, ◌&&◌}
use Rattle.pua_objects.proofs.Common.{list_all, Spot, Place, veil_spot, AreAtNames}
use Rattle.std.proofs.Common.{slice_index_or, add-one}
use Rattle.std.specs.Prelude.{IsTrue}
use Rattle.std.specs.Borrow.{Bor}
use Rattle.std.proofs.lemmas.List.{map-append, append_assoc}
use Rattle.std.proofs.Math.Seq.{take-suc}
use Rattle.pua_policy.specs.declared.place.Place.TheVariants as place
use Rattle.pua_objects.specs.Laws.{is_place}

slots_more : (ps : List Place) (p : Place) → filter_map veil_spot (ps ++ p ∷ []) ≡ filter_map veil_spot ps ++ filter_map veil_spot (p ∷ [])
slots_more [] p = refl
slots_more (place.Slot dir name ∷ ps) p = ap (λ spots. (dir, name) ∷ spots) (slots_more ps p)
slots_more (place.Dir dir ∷ ps) p = slots_more ps p

abbrev seen : List (Bor Place) → List Place
seen ps = map (λ p. p.now) ps

-- one place more
pub veiled_more : (before now new : List Spot) (ps : List (Bor Place)) (p : Bor Place) (i : ℕ) → i < length ps → p ≡ slice_index_or ps i p →
    now ≡ before ++ filter_map veil_spot (seen (take i ps)) → new ≡ now ++ filter_map veil_spot (p.now ∷ []) →
    new ≡ before ++ filter_map veil_spot (seen (take (i + 1) ps))
veiled_more before now new ps p i within is so_far more =
    let taken : take (i + 1) ps ≡ take i ps ++ p ∷ [] = ap (λ n. take n ps) (add-one i) ∙ take-suc ps i p within ∙
    ap (λ x. take i ps ++ x ∷ []) (sym is) in
    more ∙ ap (λ xs. xs ++ filter_map veil_spot (p.now ∷ [])) so_far ∙
    append_assoc before (filter_map veil_spot (seen (take i ps))) (filter_map veil_spot (p.now ∷ []))
    ∙ ap (λ xs. before ++ xs) (sym (slots_more (seen (take i ps)) p.now) ∙
    ap (filter_map veil_spot) (sym (map-append (λ (q : Bor Place). q.now) (take i ps) (p ∷ [])))) ∙
    ap (λ qs. before ++ filter_map veil_spot (seen qs)) (sym taken)

joined : (ps qs : List Place) → AreAtNames ps → AreAtNames qs → AreAtNames (ps ++ qs)
joined [] qs first second = second
joined (p ∷ ps) qs first second = (first.0, joined ps qs first.1 second)

-- one place more is at a name
pub more_at_names : (ps : List (Bor Place)) (p : Bor Place) (i : ℕ) → i < length ps → p ≡ slice_index_or ps i p →
    AreAtNames (seen (take i ps)) → IsTrue (is_place p.now) → AreAtNames (seen (take (i + 1) ps))
more_at_names ps p i within is so_far here =
    let taken : take (i + 1) ps ≡ take i ps ++ p ∷ [] = ap (λ n. take n ps) (add-one i) ∙ take-suc ps i p within ∙
    ap (λ x. take i ps ++ x ∷ []) (sym is) in
    subst (λ qs. AreAtNames (seen qs)) (sym taken) (subst AreAtNames (sym (map-append (λ (q : Bor Place). q.now) (take i ps) (p ∷ [])))
    (joined (seen (take i ps)) (p.now ∷ []) so_far (here, tt)))

-- veils whose places are at names
pub at_names : (vs : List (Place × ℕ)) → AreAtNames (map (λ veil. veil.0) vs) → IsTrue (list_all (λ veil. is_place veil.0) vs)
at_names [] all = refl
at_names (v ∷ vs) all = ap (λ b. b && list_all (λ veil. is_place veil.0) vs) all.0 ∙ at_names vs all.1
