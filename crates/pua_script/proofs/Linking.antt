-- Steps in the proofs of links.
use Rattle.pua_script.proofs.Common.{◌≡◌, ℕ, List, [], ◌∷◌, Bool, true, false, not, cond, refl, ap, subst, ◌∙◌, arith, Option, Some, None}
use Rattle.pua_script.proofs.Common.{option_map, is_some, nat_lt, nat_le, and_parts, and_from, lt-ltb, le-leb, same_Some, Tree, Node}
use Rattle.pua_script.proofs.Common.{WellFormed, is_living, look, node_at, node_named, Found, Whole, Slot, NameFits, is_target, has_byte}
use Rattle.pua_script.proofs.Common.{path_fault, text_errno, LongText, LongComponent, NulInText}
use Rattle.std.specs.Prelude.{length}
use Rattle.std.proofs.lemmas.Bool.{ltb-false}
use Rattle.pua_tree.specs.Tree.{spot_cmp, is_dir_kind, row_fits}
use Rattle.pua_tree.proofs.ForCallers.{exact_spots}
use Rattle.pua_path.proofs.ForCallers.{list_all-find_key}
use Rattle.pua_tree.specs.Limits.{most_target}
use Rattle.pua_tree.specs.Names.{has_short_components}
use Rattle.pua_path.specs.Limits.{most_path}

-- the node of a row lives
pub row_lives : (t : Tree) → WellFormed t → (dir : ℕ) (name : List ℕ) (x : ℕ) → look t dir name ≡ Some x → is_living t x ≡ true
row_lives t well dir name x there =
    let fits = list_all-find_key spot_cmp exact_spots (row_fits t) (dir, name) t.rows x well.rows_fit there in
    (and_parts (is_living t x) _ (and_parts _ _ (and_parts _ _ fits).1).1).0

-- and so does a directory
dir_lives : (o : Option Node) → is_dir_kind (option_map (λ n. n.kind) o) ≡ true → is_some o ≡ true
dir_lives None is = cc
dir_lives (Some node) is = refl

-- what a path named lives
pub named_lives : (t : Tree) → WellFormed t → (object : Found) (x : ℕ) → NameFits t object → node_named object ≡ Some x →
    is_living t x ≡ true
named_lives t well (Whole dir way) x fits is = subst (λ y. is_living t y ≡ true) (same_Some dir x is) (dir_lives (node_at t dir) fits.fits)
named_lives t well (Slot dir name there) x fits is = row_lives t well dir name x (fits.named.1 ∙ is)

-- a link's text without fault is a target
target_free : (long short nul some : Bool) →
    option_map text_errno (cond long (Some LongText) (cond (not short) (Some LongComponent) (cond nul (Some NulInText) None))) ≡ None →
    (long ≡ false) × (short ≡ true) × (nul ≡ false)
target_free true short nul some e = cc
target_free false false nul some e = cc
target_free false true true some e = cc
target_free false true false some e = (refl, refl, refl)

pub target_is : (target : List ℕ) → path_fault target ≡ None → is_target target ≡ true
target_is [] e = cc
target_is (b ∷ more) e =
    let free = target_free (nat_lt most_path (length (b ∷ more))) (has_short_components (b ∷ more)) (has_byte 0 (b ∷ more)) true e in
    and_from (nat_lt 0 (length (b ∷ more))) _ (lt-ltb 0 (length (b ∷ more)) (omega arith))
    (and_from (nat_le (length (b ∷ more)) most_target) _
    (le-leb (length (b ∷ more)) most_path (ltb-false most_path (length (b ∷ more)) free.0))
    (and_from (not (has_byte 0 (b ∷ more))) _ (ap not free.2) free.1))
