-- The names that lead to a place, from the root.
use Rattle.pua_texts.proofs.Common.{◌≡◌, ℕ, List, [], ◌∷◌, ◌++◌, sym, ap, ◌∙◌, reverse, Tree, place_names}
use Rattle.std.proofs.lemmas.List.{reverse-append, reverse-reverse}
use Rattle.pua_policy.specs.declared.place.Place.TheVariants.{Dir, Slot}
use Rattle.pua_why.specs.Texts.{dir_names}

pub of_dir : (t : Tree) (dir : ℕ) → dir_names t dir ≡ reverse (place_names t (Dir dir))
of_dir t dir = sym (reverse-reverse (dir_names t dir))

pub of_slot : (t : Tree) (dir : ℕ) (name : List ℕ) → dir_names t dir ++ name ∷ [] ≡ reverse (place_names t (Slot dir name))
of_slot t dir name =
    sym (reverse-append (name ∷ []) (reverse (dir_names t dir)) ∙ ap (λ names. names ++ name ∷ []) (reverse-reverse (dir_names t dir)))
