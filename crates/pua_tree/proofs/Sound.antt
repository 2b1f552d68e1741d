-- A well-formed tree by its look-ups, and climbing by the number of steps to the root.
use Rattle.pua_tree.proofs.Common.{◌≡◌, ◌≢◌, ℕ, zero, suc, ◌+◌, ◌≤◌, ◌<◌, true, false, ◌||◌, cond, T, List, length, Option, Some, None}
use Rattle.pua_tree.proofs.Common.{option_map, unwrap_or, is_some, ◌==◌, Bool, [], ◌∷◌, refl, sym, ap, subst, ◌∙◌, arith, inl, inr}
use Rattle.pua_tree.proofs.Common.{eqb-true, eq-eqb, eqb-false}
use Rattle.pua_tree.proofs.Common.{option_and_then, passes, list_any, nat_cmp, nat_cmp_total, is_sorted, nat_cmp-IsAntisymmetric}
use Rattle.pua_tree.proofs.Common.{is_sorted-where_key, and_parts, and_from, or_cases, false≢true, not-true, is_name, Node, Spot, Tree}
use Rattle.pua_tree.proofs.Common.{WellFormed, spot_cmp, kind_at, look, is_dir, is_dir_kind, is_living, above, climb_within, row_fits}
use Rattle.pua_tree.proofs.Common.{target_fits, Kind, Dir, File, Prog, Link, Known}
use Rattle.std.proofs.Common.{leb-true}
use Rattle.std.proofs.Common.{le-leb, ltb-true, lt-ltb, find}
use Rattle.std.specs.FinMap.{find as find_key}
use Rattle.std.specs.FinMap.Entries.{length_without}
use Rattle.std.proofs.lemmas.Bool.{or_from, or_left, or_right}
use Rattle.pua_tree.specs.Tree.{node_at, found_at, mark_fits}
use Rattle.pua_tree.specs.Tree.{spot_of, dir_spot, parent, rows_of, node_fits, rows_fit_kind}
use Rattle.pua_tree.proofs.Base.{holds, mapped, None≢Some}
use Rattle.pua_tree.proofs.Content.{spots_total, exact_spots}
use Rattle.pua_tree.proofs.Tallies.{tally, tally_counts, without, without_elsewhere, all_found, all_from_found, found_from_tally, only_key}

-- how many rows have the node
abbrev pub rows_with : Tree → ℕ → ℕ
rows_with t x = tally (λ y. y == x) t.rows

-- from the directory the root is reached by just so many steps up
abbrev pub Reaches : Tree → ℕ → ℕ → Type 0
Reaches t zero d = d ≡ 0
Reaches t (suc k) d = (d ≢ 0) × Reaches t k (above t d)

-- what a tree is, by its look-ups
pub record Sound (t : Tree) : Type 0 where
  pub rows_sorted : T (is_sorted spot_cmp t.rows)
  pub nodes_sorted : T (is_sorted nat_cmp t.nodes)
  pub root : is_dir t 0 ≡ true
  pub row : (s : Spot) (x : ℕ) → find_key spot_cmp s t.rows ≡ Some x → row_fits t (s, x) ≡ true
  pub node : (x : ℕ) (n : Node) → node_at t x ≡ Some n → (x < t.next) × (target_fits n.kind n.target ≡ true)
  pub marks : (x : ℕ) (n : Node) → node_at t x ≡ Some n → mark_fits (x, n) ≡ true
  pub unnamed_root : rows_with t 0 ≡ 0
  pub named : (x : ℕ) → is_living t x ≡ true → x ≢ 0 → 1 ≤ rows_with t x
  pub once : (d : ℕ) → is_dir t d ≡ true → d ≢ 0 → rows_with t d ≡ 1
  pub rooted : (d : ℕ) → is_dir t d ≡ true → d ≢ 0 → (k : ℕ) × Reaches t k d

-- the directory above one that stands in one row is that of the row
pub above_is : (t : Tree) (d : ℕ) (s : Spot) → d ≢ 0 → rows_with t d ≡ 1 → find_key spot_cmp s t.rows ≡ Some d → above t d ≡ s.0
above_is t zero s n l f = absurd (n refl)
above_is t (suc d) s n l f =
    ap (λ (o : Option Spot). unwrap_or (option_map (λ spot. spot.0) o) 0) (only_key spot_cmp spots_total exact_spots (λ y. y == suc d) s
    (suc d) t.rows l f (eq-eqb (suc d) (suc d) refl))

-- and is that of its spot
pub above_spot : (t : Tree) (d : ℕ) → d ≢ 0 → above t d ≡ unwrap_or (option_map (λ spot. spot.0) (spot_of t d)) 0
above_spot t zero n = absurd (n refl)
above_spot t (suc d) n = refl

-- a node without rows has no spot
no_spot : (x : ℕ) (rows : List (Spot × ℕ)) → tally (λ y. y == x) rows ≡ 0 → option_map (λ row. row.0) (find (λ row. row.1 == x) rows) ≡ None
no_spot x [] none = refl
no_spot x (row ∷ rows) none =
    elim (row.1 == x) as (λ b. cond b 1 0 + tally (λ y. y == x) rows ≡ 0 →
    option_map (λ r. r.0) (cond b (Some row) (find (λ r. r.1 == x) rows)) ≡ None) [
      | true ↦ λ some. absurd (omega arith)
      | false ↦ λ later. no_spot x rows (omega (arith, later))
    ] none

-- the number of steps is one
pub same_steps : (t : Tree) (j k d : ℕ) → Reaches t j d → Reaches t k d → j ≡ k
same_steps t zero zero d a b = refl
same_steps t zero (suc k) d a b = absurd (b.0 a)
same_steps t (suc j) zero d a b = absurd (a.0 b)
same_steps t (suc j) (suc k) d a b = ap suc (same_steps t j k (above t d) a.1 b.1)

-- a climb that reaches the root in its steps has it
pub climbed : (t : Tree) (k n d : ℕ) → k ≤ n → Reaches t k d → list_any (λ e. e == 0) (climb_within n t d) ≡ true
climbed t zero zero d l r = or_left (d == 0) false (eq-eqb d 0 r)
climbed t (suc k) zero d l r = absurd (omega arith)
climbed t k (suc n) zero l r = refl
climbed t zero (suc n) (suc d) l r = absurd (omega arith)
climbed t (suc k) (suc n) (suc d) l r = or_right (suc d == 0) _ (climbed t k n (above t (suc d)) (omega arith) r.1)

pub climbs : (t : Tree) (n d : ℕ) → list_any (λ e. e == 0) (climb_within n t d) ≡ true → (k : ℕ) × Reaches t k d
climbs t zero d h = (0, elim (or_cases (d == 0) false h) [ inl e ↦ eqb-true d 0 e | inr e ↦ absurd (false≢true e) ])
climbs t (suc n) zero h = (0, refl)
climbs t (suc n) (suc d) h =
    elim (or_cases (suc d == 0) _ h) [
      | inl e ↦ (let same = eqb-true (suc d) 0 e in absurd (omega arith))
      | inr e ↦ (let up = climbs t n (above t (suc d)) e in (suc up.0, (λ z. omega arith, up.1)))
    ]

-- whether a climb passes by a node, step by step
pub climb_here : (t : Tree) (n d x : ℕ) → (d == x) ≡ true → list_any (λ e. e == x) (climb_within n t d) ≡ true
climb_here t zero d x h = or_left (d == x) false h
climb_here t (suc n) zero x h = or_left (0 == x) false h
climb_here t (suc n) (suc d) x h = or_left (suc d == x) _ h

pub climb_root : (t : Tree) (n d x : ℕ) → (d == x) ≡ false → d ≡ 0 → list_any (λ e. e == x) (climb_within n t d) ≡ false
climb_root t zero d x h e = or_from (d == x) false h refl
climb_root t (suc n) zero x h e = or_from (0 == x) false h refl
climb_root t (suc n) (suc d) x h e = absurd (omega arith)

pub climb_more : (t : Tree) (n d x : ℕ) → (d == x) ≡ false → d ≢ 0 →
    list_any (λ e. e == x) (climb_within (suc n) t d) ≡ list_any (λ e. e == x) (climb_within n t (above t d))
climb_more t n zero x h z = absurd (z refl)
climb_more t n (suc d) x h z = ap (λ b. b || list_any (λ e. e == x) (climb_within n t (above t (suc d)))) h

pub climb_last : (t : Tree) (d x : ℕ) → list_any (λ e. e == x) (climb_within 0 t d) ≡ (d == x)
climb_last t d x = elim (d == x) as (λ b. (b || false) ≡ b) [ true ↦ refl | false ↦ refl ]

-- a row of a sound tree
abbrev pub InRow : Tree → Spot → ℕ → Type 0
InRow t s x = find_key spot_cmp s t.rows ≡ Some x

pub row_parts : (t : Tree) (s : Spot) (x : ℕ) → row_fits t (s, x) ≡ true →
    (is_dir t s.0 ≡ true) × (is_name s.1 ≡ true) × (is_living t x ≡ true) × (x ≢ 0)
row_parts t s x h =
    let a = and_parts _ _ h in
    let b = and_parts _ _ a.1 in
    let c = and_parts _ _ b.1 in
    (a.0, b.0, c.0, λ e. false≢true (sym (not-true _ c.1) ∙ eq-eqb x 0 e))

-- the entries of the other nodes
abbrev others : ℕ → List (ℕ × Node) → List (ℕ × Node)
others d es = without nat_cmp nat_cmp_total nat_cmp-IsAntisymmetric d es

one_fewer : (d : ℕ) (es : List (ℕ × Node)) → T (is_sorted nat_cmp es) → is_some (find_key nat_cmp d es) ≡ true →
    1 + length (others d es) ≡ length es
one_fewer d es h here = ap (λ b. cond b 1 0 + length (others d es)) (sym here) ∙ length_without nat_cmp nat_cmp_total d es h

where_dir : (b : Bool) (o : Option Spot) (s : Spot) → cond b o None ≡ Some s → (b ≡ true) × (o ≡ Some s)
where_dir true o s e = (refl, e)
where_dir false o s e = absurd (None≢Some s e)

module _ (t : Tree) (f : Sound t) where
  -- what a row says
  pub row_says : (s : Spot) (x : ℕ) → InRow t s x → (is_dir t s.0 ≡ true) × (is_name s.1 ≡ true) × (is_living t x ≡ true) × (x ≢ 0)
  row_says s x e = row_parts t s x (f.row s x e)

  -- the row in which a directory stands
  pub row_of : (d : ℕ) → is_dir t d ≡ true → d ≢ 0 → (s : Spot) × InRow t s d × (above t d ≡ s.0)
  row_of d h n =
      let l = f.once d h n in
      let g = found_from_tally spot_cmp spots_total exact_spots (λ y. y == d) t.rows f.rows_sorted (omega arith) in
      let e : InRow t g.0 d = g.2 ∙ ap Some (eqb-true g.1 d g.3) in
      (g.0, e, above_is t d g.0 n l e)

  -- its spot is that of the row
  pub spot_stands : (d : ℕ) (s : Spot) → is_dir t d ≡ true → d ≢ 0 → InRow t s d → spot_of t d ≡ Some s
  spot_stands d s h n e = only_key spot_cmp spots_total exact_spots (λ y. y == d) s d t.rows (f.once d h n) e (eq-eqb d d refl)

  -- the root has none
  pub root_spot : dir_spot t 0 ≡ None
  root_spot = ap (λ b. cond b (spot_of t 0) None) f.root ∙ no_spot 0 t.rows f.unnamed_root

  -- a directory without one is the root
  pub no_spot_root : (d : ℕ) → is_dir t d ≡ true → dir_spot t d ≡ None → d ≡ 0
  no_spot_root d h none = elim (d == 0) as (λ b. (d == 0) ≡ b → d ≡ 0) [
    | true ↦ λ e. eqb-true d 0 e
    | false ↦ λ e. (let row = row_of d h (eqb-false d 0 e) in
        absurd (None≢Some row.0 (sym none ∙ ap (λ b. cond b (spot_of t d) None) h ∙ spot_stands d row.0 h (eqb-false d 0 e) row.1)))
  ] refl

  -- and one that has one is no root, and stands in its directory
  pub spot_says : (d : ℕ) (s : Spot) → dir_spot t d ≡ Some s → (is_dir t d ≡ true) × (d ≢ 0) × (above t d ≡ s.0)
  spot_says d s e =
      let living = where_dir (is_dir t d) (spot_of t d) s e in
      let below = λ (z : d ≡ 0). None≢Some s (sym root_spot ∙ ap (dir_spot t) (sym z) ∙ e) in
      (living.0, below, above_spot t d below ∙ ap (λ (o : Option Spot). unwrap_or (option_map (λ spot. spot.0) o) 0) living.1)

  -- its parent is the directory of its spot
  pub parent_by_spot : (d : ℕ) (o : Option Spot) → d ≢ 0 → o ≡ dir_spot t d → option_map (λ (s : Spot). s.0) o ≡ parent t d
  parent_by_spot d o n e =
      ap (option_map (λ (s : Spot). s.0)) e ∙ elim (is_dir t d) as (λ b. is_dir t d ≡ b →
      option_map (λ (s : Spot). s.0) (cond b (spot_of t d) None) ≡ cond b (Some (above t d)) None) [
        | true ↦ λ h. (let row = row_of d h n in
            ap (option_map (λ (s : Spot). s.0)) (spot_stands d row.0 h n row.1) ∙ ap Some (sym row.2))
        | false ↦ λ _. refl
      ] refl

  -- above a directory stands one
  pub above_dir : (d : ℕ) → is_dir t d ≡ true → d ≢ 0 → is_dir t (above t d) ≡ true
  above_dir d h n =
      let r = row_of d h n in
      ap (is_dir t) r.2 ∙ (row_says r.0 d r.1).0

  living_dir : (d : ℕ) → is_dir t d ≡ true → is_some (find_key nat_cmp d t.nodes) ≡ true
  living_dir d h =
      elim (node_at t d) as (λ o. is_dir_kind (option_map (λ n. n.kind) o) ≡ true → is_some o ≡ true) [
        | None ↦ λ e. absurd (false≢true e)
        | Some n ↦ λ e. refl
      ] h

  -- a way of k steps has k directories and the root, which are all different: so as many nodes hold them
  steps_bound : (k d : ℕ) (es : List (ℕ × Node)) → T (is_sorted nat_cmp es)
      → ((j e : ℕ) → j ≤ k → Reaches t j e → is_dir t e ≡ true → is_some (find_key nat_cmp e es) ≡ true)
      → is_dir t d ≡ true → Reaches t k d → k < length es
  steps_bound zero d es h held dir r = omega (arith, one_fewer d es h (held 0 d (omega arith) r dir))
  steps_bound (suc k) d es h held dir r =
      let fewer = one_fewer d es h (held (suc k) d (omega arith) r dir) in
      let rest = steps_bound k (above t d) (others d es) (is_sorted-where_key nat_cmp _ es h)
      (λ j e l way de. ap is_some (without_elsewhere nat_cmp nat_cmp_total nat_cmp-IsAntisymmetric e d es (λ s. let steps =
      same_steps t j (suc k) d (subst (Reaches t j) s way) r in omega arith)) ∙ held j e (omega arith) way de)
      (above_dir d dir r.0) r.1 in
      omega arith

  -- the climb as long as there are nodes has the root
  pub climb_ends : (d : ℕ) → is_dir t d ≡ true → (k : ℕ) → Reaches t k d → k < length t.nodes
  climb_ends d dir k r = steps_bound k d t.nodes f.nodes_sorted (λ j e _ _ de. living_dir e de) dir r

living_node : (o : Option Node) → is_some o ≡ true → (n : Node) × (o ≡ Some n)
living_node None e = absurd (false≢true e)
living_node (Some n) e = (n, refl)

pub dir_kind : (k : Kind) → is_dir_kind (Some k) ≡ true → k ≡ Dir
dir_kind Dir e = refl
dir_kind File e = absurd (false≢true e)
dir_kind Prog e = absurd (false≢true e)
dir_kind Link e = absurd (false≢true e)
dir_kind (Known type) e = absurd (false≢true e)

dir_node : (o : Option Node) → is_dir_kind (option_map (λ n. n.kind) o) ≡ true → (n : Node) × (o ≡ Some n) × (n.kind ≡ Dir)
dir_node None e = absurd (false≢true e)
dir_node (Some n) e = (n, refl, dir_kind n.kind e)

named_by : (t : Tree) (x : ℕ) (k : Kind) → x ≢ 0 → rows_fit_kind t x k ≡ true → 1 ≤ rows_of t x
named_by t zero k n h = absurd (n refl)
named_by t (suc x) Dir n h = let rows = eqb-true (rows_of t (suc x)) 1 (and_parts _ _ h).0 in omega arith
named_by t (suc x) File n h = leb-true 1 _ h
named_by t (suc x) Prog n h = leb-true 1 _ h
named_by t (suc x) Link n h = leb-true 1 _ h
named_by t (suc x) (Known type) n h = leb-true 1 _ h

once_by : (t : Tree) (x : ℕ) → x ≢ 0 → rows_fit_kind t x Dir ≡ true → (rows_of t x ≡ 1) × ((k : ℕ) × Reaches t k x)
once_by t zero n h = absurd (n refl)
once_by t (suc x) n h =
    let parts = and_parts _ _ h in
    (eqb-true (rows_of t (suc x)) 1 parts.0, climbs t (length t.nodes) (suc x) parts.1)

fits_by : (t : Tree) → Sound t → (x : ℕ) (k : Kind) → is_living t x ≡ true → (k ≡ Dir → is_dir t x ≡ true) → rows_fit_kind t x k ≡ true
fits_by t f zero k living dir = eq-eqb (rows_of t 0) 0 (sym (tally_counts (λ y. y == 0) t.rows) ∙ f.unnamed_root)
fits_by t f (suc x) Dir living dir =
    let way = f.rooted (suc x) (dir refl) (λ z. omega arith) in
    and_from _ _ (eq-eqb (rows_of t (suc x)) 1 (sym (tally_counts (λ y. y == suc x) t.rows) ∙ f.once (suc x) (dir refl) (λ z. omega arith)))
    (let enough = climb_ends t f (suc x) (dir refl) way.0 way.1 in climbed t way.0 (length t.nodes) (suc x) (omega arith) way.1)
fits_by t f (suc x) File living dir =
    le-leb 1 _ (subst (λ r. 1 ≤ r) (tally_counts (λ y. y == suc x) t.rows) (f.named (suc x) living (λ z. omega arith)))
fits_by t f (suc x) Prog living dir =
    le-leb 1 _ (subst (λ r. 1 ≤ r) (tally_counts (λ y. y == suc x) t.rows) (f.named (suc x) living (λ z. omega arith)))
fits_by t f (suc x) Link living dir =
    le-leb 1 _ (subst (λ r. 1 ≤ r) (tally_counts (λ y. y == suc x) t.rows) (f.named (suc x) living (λ z. omega arith)))
fits_by t f (suc x) (Known type) living dir =
    le-leb 1 _ (subst (λ r. 1 ≤ r) (tally_counts (λ y. y == suc x) t.rows) (f.named (suc x) living (λ z. omega arith)))

node_parts : (t : Tree) (x : ℕ) (n : Node) → node_fits t (x, n) ≡ true → (x < t.next) × (target_fits n.kind n.target ≡ true) ×
    (rows_fit_kind t x n.kind ≡ true)
node_parts t x n h =
    let a = and_parts _ _ h in
    let b = and_parts _ _ a.1 in
    (ltb-true x t.next a.0, b.0, b.1)

pub sound_from : (t : Tree) → WellFormed t → Sound t
sound_from t w = record {
  rows_sorted = passes _ w.rows_in_order;
  nodes_sorted = passes _ w.nodes_in_order;
  root = w.root;
  row = all_found spot_cmp spots_total exact_spots (row_fits t) t.rows w.rows_fit;
  node = λ x n e. (let parts = node_parts t x n (fits x n e) in (parts.0, parts.1));
  marks = all_found nat_cmp nat_cmp_total nat_cmp-IsAntisymmetric mark_fits t.nodes w.marks_fit;
  unnamed_root = (let n = dir_node (node_at t 0) w.root in tally_counts (λ y. y == 0) t.rows ∙
      eqb-true (rows_of t 0) 0 (rows_fit 0 n.0 n.1));
  named = λ x living z. (let n = living_node (node_at t x) living in
      subst (λ r. 1 ≤ r) (sym (tally_counts (λ y. y == x) t.rows)) (named_by t x n.0.kind z (rows_fit x n.0 n.1)));
  once = λ d dir z. tally_counts (λ y. y == d) t.rows ∙ (dir_fits d dir z).0;
  rooted = λ d dir z. (dir_fits d dir z).1;
}
  where
    fits : (x : ℕ) (n : Node) → node_at t x ≡ Some n → node_fits t (x, n) ≡ true
    fits = all_found nat_cmp nat_cmp_total nat_cmp-IsAntisymmetric (node_fits t) t.nodes w.nodes_fit

    rows_fit : (x : ℕ) (n : Node) → node_at t x ≡ Some n → rows_fit_kind t x n.kind ≡ true
    rows_fit x n e = (node_parts t x n (fits x n e)).2

    dir_fits : (d : ℕ) → is_dir t d ≡ true → d ≢ 0 → (rows_of t d ≡ 1) × ((k : ℕ) × Reaches t k d)
    dir_fits d dir z =
        let n = dir_node (node_at t d) dir in
        once_by t d z (subst (λ k. rows_fit_kind t d k ≡ true) n.2 (rows_fit d n.0 n.1))

pub well_formed_from : (t : Tree) → Sound t → WellFormed t
well_formed_from t f = record {
  rows_in_order = holds _ f.rows_sorted;
  nodes_in_order = holds _ f.nodes_sorted;
  root = f.root;
  rows_fit = all_from_found spot_cmp spots_total exact_spots (row_fits t) t.rows f.rows_sorted f.row;
  nodes_fit = all_from_found nat_cmp nat_cmp_total nat_cmp-IsAntisymmetric (node_fits t) t.nodes f.nodes_sorted
      (λ x n e. and_from _ _ (lt-ltb x t.next (f.node x n e).0) (and_from _ _ (f.node x n e).1
      (fits_by t f x n.kind (ap is_some e) (λ k. ap (λ o. is_dir_kind (option_map (λ m. m.kind) o)) e ∙
      ap (λ j. is_dir_kind (Some j)) k))));
  marks_fit = all_from_found nat_cmp nat_cmp_total nat_cmp-IsAntisymmetric mark_fits t.nodes f.nodes_sorted f.marks;
}

-- bytes that are no name's are found nowhere
pub only_names_found : (t : Tree) (dir : ℕ) (bytes : List ℕ) → WellFormed t → is_name bytes ≡ false → found_at t dir bytes ≡ None
only_names_found t dir bytes w other = by (look t dir bytes) refl
  where
    by : (o : Option ℕ) → look t dir bytes ≡ o → option_and_then {U = ℕ × Kind} (λ x. option_map (λ kind. (x, kind)) (kind_at t x)) o ≡ None
    by None here = refl
    by (Some x) here = absurd (false≢true (sym other ∙ (row_says t (sound_from t w) (dir, bytes) x here).1))

-- nodes that are the same are directories both or neither
pub same_dir : (t u : Tree) (x : ℕ) → node_at u x ≡ node_at t x → is_dir u x ≡ is_dir t x
same_dir t u x e = ap (λ o. is_dir_kind (option_map (λ n. n.kind) o)) e

-- what is found lives in a living directory
pub found_says : (t : Tree) (dir : ℕ) (name : List ℕ) (found : ℕ × Kind) → WellFormed t → found_at t dir name ≡ Some found →
    (is_dir t dir ≡ true) × (look t dir name ≡ Some found.0) × (kind_at t found.0 ≡ Some found.1)
found_says t dir name found w e = by (look t dir name) refl e
  where
    by : (o : Option ℕ) → look t dir name ≡ o
        → option_and_then {U = ℕ × Kind} (λ x. option_map (λ kind. (x, kind)) (kind_at t x)) o ≡ Some found
        → (is_dir t dir ≡ true) × (look t dir name ≡ Some found.0) × (kind_at t found.0 ≡ Some found.1)
    by None here e = absurd (None≢Some found e)
    by (Some x) here e =
        let kind = mapped (λ (k : Kind). (x, k)) (kind_at t x) found e in
        let node : x ≡ found.0 = ap (λ (f : ℕ × Kind). f.0) kind.2 in (
          (row_says t (sound_from t w) (dir, name) x here).0,
          here ∙ ap Some node,
          ap (kind_at t) (sym node) ∙ kind.1 ∙ ap (λ (f : ℕ × Kind). Some f.1) kind.2,
        )

-- where nothing is found, no row stands
pub nothing_found : (t : Tree) (dir : ℕ) (name : List ℕ) → WellFormed t → found_at t dir name ≡ None → look t dir name ≡ None
nothing_found t dir name w e = by (look t dir name) refl e
  where
    lives : (x : ℕ) (o : Option Node) → is_some o ≡ true
        → ◌≡◌ {A = Option (ℕ × Kind)} (option_map (λ kind. (x, kind)) (option_map (λ n. n.kind) o)) None → false ≡ true
    lives x None h e = h
    lives x (Some n) h e = absurd (None≢Some (x, n.kind) (sym e))

    by : (o : Option ℕ) → look t dir name ≡ o
        → option_and_then {U = ℕ × Kind} (λ x. option_map (λ kind. (x, kind)) (kind_at t x)) o ≡ None → o ≡ None
    by None here e = refl
    by (Some x) here e =
        absurd (false≢true (lives x (node_at t x) (row_says t (sound_from t w) (dir, name) x here).2 e))
