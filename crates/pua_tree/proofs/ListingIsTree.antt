-- What a listing describes is a tree.
use Rattle.pua_tree.specs.declared.form.Form.{Form}
use Rattle.pua_tree.specs.declared.form.Form.TheVariants.{First, Second, Third}
use Rattle.pua_tree.specs.Listing.{knows_hard, most_listed_of, most_names_of}
use Rattle.pua_tree.proofs.Common.{◌<◌, ◌&&◌}
use Rattle.pua_tree.proofs.Common.{◌≡◌, ℕ, ◌+◌, true, false, ltb, List, [], ◌∷◌, ◌++◌, length, Option, Some, None, is_some, refl, sym}
use Rattle.pua_tree.proofs.Common.{subst, ◌∙◌, arith, append-nil, append_assoc, IsTrue, lt-ltb, and_parts, not-true, Node, WellFormed}
use Rattle.pua_tree.proofs.Common.{is_dir, is_living, look, target_fits, Entry, tree_of, entry_fits, entries_fit, made_fits, Follows}
use Rattle.pua_tree.proofs.Common.{Enters, Kind, Dir, File, Prog, Link, Known}
use Rattle.std.proofs.lemmas.Bool.{eqb-true}
use Rattle.pua_tree.specs.Listing.{rows_of_entries}
use Rattle.pua_tree.specs.Grammar.{kind_known, target_stands, mount_known}
use Rattle.pua_tree.proofs.Mounts.{mount_kept}
use Rattle.pua_tree.proofs.Raised.{grown_keeps}
use Rattle.pua_tree.proofs.Entries.{Fits, fits_parts, entries_rise, entries_push, earlier_dir_is_found, earlier_other_is_found}
use Rattle.pua_tree.proofs.Entries.{taken_is_found, rows_few, tree_push}

target_kept : (kind : Kind) (target : Option (List ℕ)) → IsTrue (target_stands kind target) → IsTrue (target_fits kind target)
target_kept Dir None h = refl
target_kept File None h = refl
target_kept Prog None h = refl
target_kept (Known type) None h = refl
target_kept Link None h = h
target_kept Dir (Some t) h = h
target_kept File (Some t) h = h
target_kept Prog (Some t) h = h
target_kept (Known type) (Some t) h = h
target_kept Link (Some t) h = (and_parts _ _ h).0

-- a listing's lines leave room in its tree
pub listed_few : (form : Form) → most_listed_of form < most_names_of form
listed_few First = omega arith
listed_few Second = omega arith
listed_few Third = omega arith

-- an entry that fits the earlier ones may be put into their tree
pub fit_follows : (form : Form) (es : List Entry) (e : Entry) → IsTrue (entries_fit form [] es) → Fits form es e → Follows (tree_of form es) e
fit_follows form es e h f = record {
  number = omega (arith, f.above);
  not_last = omega (arith, f.small);
  named = f.named;
  enters = enters e.made f.made;
}
  where
    in_dir : is_dir (tree_of form es) e.parent ≡ true
    in_dir = earlier_dir_is_found form es e.parent 0 (entries_rise form [] es h) ∙ f.in_dir

    free : is_some (look (tree_of form es) e.parent e.name) ≡ false
    free = taken_is_found es e.parent e.name ∙ f.free

    few : ltb (length (rows_of_entries es) + 1) (most_names_of form) ≡ true
    few = lt-ltb _ _ (omega (arith, rows_few es, f.room, listed_few form))

    small : ltb e.number 4294967295 ≡ true
    small = lt-ltb _ _ (omega (arith, f.small))

    enters : (m : Option Node) → IsTrue (made_fits form es e m) → Enters (tree_of form es) e m
    enters None made =
        let other = and_parts _ _ (earlier_other_is_found form es e.node 0 (entries_rise form [] es h) ∙ (and_parts (knows_hard form) _ made).1) in
        let living : is_living (tree_of form es) e.node ≡ true = other.0 in
        let no_dir : is_dir (tree_of form es) e.node ≡ false = not-true _ other.1 in
        rw (in_dir, living, no_dir, free, few) refl
    enters (Some node) made =
        let parts = and_parts _ (kind_known form node.kind && (target_stands node.kind node.target && mount_known form node)) made in
        let stands = and_parts (kind_known form node.kind) _ parts.1 in
        let kept = and_parts (target_stands node.kind node.target) _ stands.1 in (
          eqb-true e.node e.number parts.0,
          target_kept node.kind node.target kept.0,
          mount_kept form node kept.1,
          rw (in_dir, free, few, small) refl,
        )

root_is_tree : (form : Form) → WellFormed (tree_of form [])
root_is_tree form = record { rows_in_order = refl; nodes_in_order = refl; root = refl; rows_fit = refl; nodes_fit = refl; marks_fit = refl }

still_tree : (form : Form) (earlier es : List Entry) → IsTrue (entries_fit form [] earlier) → WellFormed (tree_of form earlier) →
    IsTrue (entries_fit form earlier es) → WellFormed (tree_of form (earlier ++ es))
still_tree form earlier [] a w h = subst (λ l. WellFormed (tree_of form l)) (sym (append-nil earlier)) w
still_tree form earlier (e ∷ es) a w h =
    let parts = and_parts (entry_fits form earlier e) (entries_fit form (earlier ++ e ∷ []) es) h in
    let fits = fits_parts form earlier e parts.0 in
    let grows : WellFormed (tree_of form (earlier ++ e ∷ [])) =
    subst WellFormed (sym (tree_push form earlier e a fits)) (grown_keeps (tree_of form earlier) e w (fit_follows form earlier e a fits)) in
    subst (λ l. WellFormed (tree_of form l)) (append_assoc earlier (e ∷ []) es)
    (still_tree form (earlier ++ e ∷ []) es (entries_push form [] earlier e a parts.0) grows parts.1)

-- the tree of entries each of which fits those before it
pub well_formed : (form : Form) (es : List Entry) → IsTrue (entries_fit form [] es) → WellFormed (tree_of form es)
well_formed form es h = still_tree form [] es refl (root_is_tree form) h
