-- What is true of the nodes of every tree.
use Rattle.pua_path.proofs.Common.{RootedTree, Start, above_in, has_root, seen_from, starts}
use Rattle.pua_path.proofs.Common.{◌≡◌, ℕ, zero, suc, Bool, true, false, List, [], ◌∷◌, Option, Some, None, length, refl, sym, ap, ◌∙◌}
use Rattle.pua_path.proofs.Common.{arith, ◌≤◌, ◌==◌, if◌then◌else◌, nat_lt, not, and_parts, list_all, Bor, has_byte}
use Rattle.pua_path.proofs.Common.{Tree, Node, Spot, node_at, is_dir, above, Kind, is_absolute, parts_of, is_readable, start_of}
use Rattle.std.proofs.Common.{◌&&◌, ◌||◌, eqb-true}
use Rattle.std.proofs.Common.{max, cond, fold, find, option_map, option_and_then, option_copied}
use Rattle.std.specs.Prelude.{nat_le, unwrap_or}
use Rattle.std.specs.Ordering.{nat_cmp, eq_by_cmp, is_eq}
use Rattle.std.specs.Cmp.{Equal-is}
use Rattle.std.specs.FinMap.{find as find_key, nat_cmp-IsAntisymmetric}
use Rattle.std.specs.declared.cmp.Ordering.{Ordering}
use Rattle.std.specs.declared.cmp.Ordering.TheVariants.{Equal}
use Rattle.pua_tree.specs.Names.{has_short_components, is_target}
use Rattle.pua_tree.specs.Tree.{WellFormed, target_at, parent, row_fits, node_fits, target_fits}
use Rattle.pua_tree.specs.Tree.{rows_fit_kind}
use Rattle.pua_tree.specs.declared.node.Kind.TheVariants.{Dir, File, Prog, Link, Known}
use Rattle.pua_path.specs.Bounds.{target_parts, most_parts}
use Rattle.pua_path.specs.declared.text.Ending.TheVariants as ending

-- what is found passes a test that all pass
pub find_passes : {A : Type 0} (p test : A → Bool) (xs : List A) (x : A) → list_all p xs ≡ true → find test xs ≡ Some x → p x ≡ true
find_passes p test [] x h e = cc
find_passes p test (y ∷ ys) x h e = by (find_passes p test ys x (and_parts (p y) (list_all p ys) h).1) (test y) e
  where
    by : (find test ys ≡ Some x → p x ≡ true) → (v : Bool) → cond v (Some y) (find test ys) ≡ Some x → p x ≡ true
    by more true e = let same : y ≡ x = cc in ap p (sym same) ∙ (and_parts (p y) (list_all p ys) h).0
    by more false e = more e

-- what is true of each entry is true of the one found by its key
pub list_all-find_key : {K X : Type 0} (R : K → K → Ordering) → ((a b : K) → R a b ≡ Equal → a ≡ b) →
    (q : (K × X) → Bool) (k : K) (es : List (K × X)) (x : X) → list_all q es ≡ true → find_key R k es ≡ Some x → q (k, x) ≡ true
list_all-find_key R exact q k [] x all e = cc
list_all-find_key R exact q k (y ∷ ys) x all e =
    elim (is_eq (R k y.0)) as (λ b. is_eq (R k y.0) ≡ b → cond b (Some y.1) (find_key R k ys) ≡ Some x → q (k, x) ≡ true) [
      | true ↦ λ same is.
          let key : k ≡ y.0 = exact k y.0 ((Equal-is (R k y.0)).0 same) in
          let value : y.1 ≡ x = cc in
          (λ i. q (key i, sym value i)) ∙ (and_parts (q y) (list_all q ys) all).0
      | false ↦ λ other is. list_all-find_key R exact q k ys x (and_parts (q y) (list_all q ys) all).1 is
    ] refl e

-- the directory above a directory lives
pub above_lives : (t : Tree) (d : ℕ) → WellFormed t → is_dir t (above t d) ≡ true
above_lives t zero w = w.root
above_lives t (suc d) w = by (find (λ row. row.1 == suc d) t.rows) refl
  where
    by : (r : Option (Spot × ℕ)) → find (λ row. row.1 == suc d) t.rows ≡ r →
        is_dir t (unwrap_or (option_map (λ spot. spot.0) (option_map (λ row. row.0) r)) 0) ≡ true
    by None e = w.root
    by (Some row) e = (and_parts (is_dir t row.0.0) _ (find_passes (row_fits t) (λ row. row.1 == suc d) t.rows row w.rows_fit e)).0

max_kept : (a : ℕ) (es : List (ℕ × Node)) → a ≤ fold (λ most entry. max most (target_parts entry.1.target)) a es
max_kept a [] = omega arith
max_kept a (entry ∷ es) = omega (arith, max_kept (max a (target_parts entry.1.target)) es)

most_counts : (x : ℕ) (node : Node) (a : ℕ) (es : List (ℕ × Node)) → find_key nat_cmp x es ≡ Some node →
    target_parts node.target ≤ fold (λ most entry. max most (target_parts entry.1.target)) a es
most_counts x node a [] e = cc
most_counts x node a (entry ∷ es) e = by (most_counts x node (max a (target_parts entry.1.target)) es) (eq_by_cmp nat_cmp x entry.0) e
  where
    by : (find_key nat_cmp x es ≡ Some node →
        target_parts node.target ≤ fold (λ most entry. max most (target_parts entry.1.target)) (max a (target_parts entry.1.target)) es) →
        (v : Bool) → cond v (Some entry.1) (find_key nat_cmp x es) ≡ Some node →
        target_parts node.target ≤ fold (λ most entry. max most (target_parts entry.1.target)) (max a (target_parts entry.1.target)) es
    by more true e =
        let same : entry.1 ≡ node = cc in
        let parts : target_parts entry.1.target ≡ target_parts node.target = ap (λ n. target_parts n.target) same in
        omega (arith, parts, max_kept (max a (target_parts entry.1.target)) es)
    by more false e = more e

fits_target : (kind : Kind) (target : List ℕ) → target_fits kind (Some target) ≡ true → is_target target ≡ true
fits_target Dir target h = cc
fits_target File target h = cc
fits_target Prog target h = cc
fits_target (Known type) target h = cc
fits_target Link target h = h

target_readable : (target : List ℕ) → is_target target ≡ true → is_readable target ≡ true
target_readable target h =
    let a = and_parts (nat_lt 0 (length target)) (nat_le (length target) 1023 && (not (has_byte 0 target) && has_short_components target)) h
    in
    (and_parts (nat_le (length target) 1023) (not (has_byte 0 target) && has_short_components target) a.1).1

-- the parts of a target can be read, and are few
pub target_stands : (t : Tree) (x : ℕ) (target : Option (List ℕ)) → WellFormed t → target ≡ target_at t x →
    (is_readable (unwrap_or target []) ≡ true) × (length (parts_of ending.Dot (unwrap_or target [])) ≤ most_parts t)
target_stands t x None w e = (refl, omega arith)
target_stands t x (Some target) w e = by (node_at t x) refl e
  where
    by : (n : Option Node) → node_at t x ≡ n → Some target ≡ option_and_then (λ node. node.target) n →
        (is_readable target ≡ true) × (length (parts_of ending.Dot target) ≤ most_parts t)
    by None f e = cc
    by (Some node) f e =
        let fits = list_all-find_key nat_cmp nat_cmp-IsAntisymmetric (node_fits t) x t.nodes node w.nodes_fit f in
        let kind_fits = (and_parts (target_fits node.kind node.target) (rows_fit_kind t x node.kind)
        (and_parts (nat_lt x t.next) (target_fits node.kind node.target && rows_fit_kind t x node.kind) fits).1).0 in
        let is : target_fits node.kind (Some target) ≡ true = ap (target_fits node.kind) e ∙ kind_fits in
        let counted : target_parts (Some target) ≤ most_parts t = rw (← e) at (most_counts x node 1 t.nodes f) in
        (target_readable target (fits_target node.kind target is), counted)

-- the same of a target that was read from the tree, or of none
pub seen_target : (t : Tree) (x : ℕ) (read : Option (Bor (List ℕ))) (nothing : Bor (List ℕ)) → WellFormed t →
    option_copied read ≡ target_at t x → nothing.now ≡ [] →
    (is_readable (unwrap_or read nothing).now ≡ true) × (length (parts_of ending.Dot (unwrap_or read nothing).now) ≤ most_parts t)
seen_target t x None nothing w e n = rw n (target_stands t x None w e)
seen_target t x (Some target) nothing w e n = target_stands t x (Some target.now) w e

-- a target starts at a living directory
pub start_lives : (t : Tree) (root dir : ℕ) (target : List ℕ) → is_dir t root ≡ true → is_dir t dir ≡ true →
    is_dir t (start_of root target dir) ≡ true
start_lives t root dir target r h = by (is_absolute target)
  where
    by : (v : Bool) → is_dir t (if v then root else dir) ≡ true
    by true = r
    by false = h

-- the directory above one by a living root lives
pub above_in_lives : (t : RootedTree) (dir : ℕ) → WellFormed t.tree → is_dir t.tree t.root ≡ true → is_dir t.tree (above_in t dir) ≡ true
above_in_lives t dir w r = by (not (t.root == 0) && (dir == t.root))
  where
    parent_lives : (v : Bool) → is_dir t.tree (unwrap_or (if v then Some (above t.tree dir) else None) 0) ≡ true
    parent_lives true = above_lives t.tree dir w
    parent_lives false = w.root

    by : (v : Bool) → is_dir t.tree (if v then t.root else unwrap_or (parent t.tree dir) 0) ≡ true
    by true = r
    by false = parent_lives (is_dir t.tree dir)

-- a root that was not removed lives
pub root_lives : (t : Tree) (root : ℕ) → WellFormed t → has_root t root ≡ true → is_dir t root ≡ true
root_lives t root w = by (root == 0) refl
  where
    by : (v : Bool) → (root == 0) ≡ v → (v || is_dir t root) ≡ true → is_dir t root ≡ true
    by true e h = rw (eqb-true root 0 e) w.root
    by false e h = h

-- and so does the root as paths see it
pub seen_root_lives : (t : Tree) (from : Start) → WellFormed t → is_dir t (seen_from t from).root ≡ true
seen_root_lives t from w = by (has_root t from.root) refl
  where
    by : (v : Bool) → has_root t from.root ≡ v → is_dir t (if v then from.root else 0) ≡ true
    by true h = root_lives t from.root w h
    by false h = w.root

-- and the directory where a text starts
pub text_start_lives : (t : Tree) (from : Start) (text : List ℕ) → WellFormed t → starts t from text ≡ true →
    is_dir t (start_of from.root text from.dir) ≡ true
text_start_lives t from text w = by (is_absolute text)
  where
    by : (v : Bool) → (if v then has_root t from.root else is_dir t from.dir) ≡ true → is_dir t (if v then from.root else from.dir) ≡ true
    by true h = root_lives t from.root w h
    by false h = h
