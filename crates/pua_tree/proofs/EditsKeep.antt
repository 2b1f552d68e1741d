-- What an edit leaves is a tree.
use Rattle.pua_tree.proofs.Common.{◌≡◌, ◌≢◌, ◌⊎◌, ℕ, zero, suc, ◌+◌, ◌≤◌, ◌<◌, Bool, true, false, not, ◌&&◌, cond, T, List, length, Option}
use Rattle.pua_tree.proofs.Common.{Some, None, option_map, Ok, Err, is_some, ◌==◌, refl, sym, ap, subst, ◌∙◌, arith, inl, inr, eqb-true}
use Rattle.pua_tree.proofs.Common.{eq-eqb, list_any, nat_cmp, nat_cmp_total, is_sorted, nat_cmp-IsAntisymmetric, is_sorted-put}
use Rattle.pua_tree.proofs.Common.{is_sorted-where_key, and_from, and_parts, false≢true, eqb-false, is_name, Node, Spot, Tree, WellFormed}
use Rattle.pua_tree.proofs.Common.{spot_cmp, is_dir, is_dir_kind, is_living, look, above, climb_within, row_fits, target_fits, with_row}
use Rattle.pua_tree.proofs.Common.{without_row, without_unnamed, with_row_moved}
use Rattle.std.proofs.Common.{ne_eqb}
use Rattle.std.specs.FinMap.{find as find_key}
use Rattle.std.proofs.lemmas.Bool.{or_parts, not-false}
use Rattle.pua_tree.specs.Tree.{node_at, climb, mount_fits, mark_fits}
use Rattle.pua_tree.proofs.Mounts.{mark_from}
use Rattle.pua_tree.specs.Tree.{has_no_row, rows_of}
use Rattle.pua_tree.specs.Edits.{without_node, with_new, add, tie, cut, cut_found, shift}
use Rattle.pua_tree.specs.Edits.{shift_found, is_full_dir, is_inside, is_same_node, is_full_dir_there, has_room}
use Rattle.pua_tree.specs.Edits.{has_name_room}
use Rattle.pua_tree.specs.Laws.{EditsKeepTrees}
use Rattle.pua_tree.specs.declared.fault.TreeFault.TheVariants.{Missing, Taken, NotDir, NotEmpty, Inside, Full, IsDir}
use Rattle.pua_tree.proofs.Base.{same_Some, Some≢None, none, same_Ok, past, tested}
use Rattle.pua_tree.proofs.Content.{spots_total, exact_spots}
use Rattle.pua_tree.proofs.Tallies.{one, one_at, tally_counts, tally-put, tally-without, same_or_other, put_here, put_elsewhere}
use Rattle.pua_tree.proofs.Tallies.{without_here, without_elsewhere, found_from_tally, tally_found, none_found}
use Rattle.pua_tree.proofs.Sound.{Sound, Reaches, InRow, rows_with, above_is, row_parts, row_says, row_of, above_dir, climb_ends}
use Rattle.pua_tree.proofs.Sound.{sound_from, well_formed_from}

same_spot_or_other : (s r : Spot) → (s ≡ r) ⊎ (s ≢ r)
same_spot_or_other s r = elim (same_or_other spot_cmp spots_total exact_spots s r) [ inl e ↦ inl e.0 | inr e ↦ inr e.0 ]

same_number_or_other : (x y : ℕ) → (x ≡ y) ⊎ (x ≢ y)
same_number_or_other x y = elim (same_or_other nat_cmp nat_cmp_total nat_cmp-IsAntisymmetric x y) [ inl e ↦ inl e.0 | inr e ↦ inr e.0 ]

-- a directory lives
pub is_living_dir : (t : Tree) (d : ℕ) → is_dir t d ≡ true → is_living t d ≡ true
is_living_dir t d h =
    elim (node_at t d) as (λ o. is_dir_kind (option_map (λ n. n.kind) o) ≡ true → is_some o ≡ true) [
      | None ↦ λ e. absurd (false≢true e)
      | Some n ↦ λ e. refl
    ] h

row_made : (t : Tree) (s : Spot) (x : ℕ) → is_dir t s.0 ≡ true → is_name s.1 ≡ true → is_living t x ≡ true → x ≢ 0 →
    row_fits t (s, x) ≡ true
row_made t s x dir name living n = and_from _ _ dir (and_from _ _ name (and_from _ _ living (ap not (ne_eqb x 0 n))))

-- the same number, counted as one row
one_same : (x : ℕ) → one (λ y. y == x) x ≡ 1
one_same x = ap (λ b. cond b 1 0) (eq-eqb x x refl)

one_other : (x y : ℕ) → y ≢ x → one (λ z. z == x) y ≡ 0
one_other x y n = ap (λ b. cond b 1 0) (ne_eqb y x n)

-- where climbing steps are the same in two trees, so are the ways
same_way : (t u : Tree) (P : ℕ → Type 0) → ((d : ℕ) → P d → d ≢ 0 → (above u d ≡ above t d) × P (above t d)) → (k d : ℕ) → P d →
    Reaches t k d → Reaches u k d
same_way t u P step zero d p r = r
same_way t u P step (suc k) d p r =
    let up = step d p r.0 in
    (r.0, subst (Reaches u k) (sym up.0) (same_way t u P step k (above t d) up.1 r.1))

-- the root is reached from each directory
way_up : (t : Tree) → Sound t → (d : ℕ) → is_dir t d ≡ true → (k : ℕ) × Reaches t k d
way_up t f d h = elim (same_number_or_other d 0) [ inl e ↦ (0, e) | inr n ↦ f.rooted d h n ]

-- a number that is not living is no row's node
pub no_rows : (t : Tree) → Sound t → (x : ℕ) → is_living t x ≡ false → rows_with t x ≡ 0
no_rows t f x h =
    elim (rows_with t x) as (λ n. rows_with t x ≡ n → n ≡ 0) [
      | zero ↦ λ e. refl
      | suc n ↦ λ e. (let g = found_from_tally spot_cmp spots_total exact_spots (λ y. y == x) t.rows f.rows_sorted (omega arith) in
          absurd (false≢true (sym h ∙ (row_says t f g.0 x (g.2 ∙ ap Some (eqb-true g.1 x g.3))).2)))
    ] refl

-- the next number is not living
pub next_is_new : (t : Tree) → Sound t → is_living t t.next ≡ false
next_is_new t f =
    elim (node_at t t.next) as (λ o. node_at t t.next ≡ o → is_some o ≡ false) [
      | None ↦ λ e. refl
      | Some n ↦ λ e. (let below = (f.node t.next n e).0 in absurd (omega arith))
    ] refl

not_next : (t : Tree) → Sound t → (x : ℕ) → is_living t x ≡ true → x ≢ t.next
not_next t f x h e = false≢true (sym (next_is_new t f) ∙ ap (is_living t) (sym e) ∙ h)

pub next_not_root : (t : Tree) → Sound t → t.next ≢ 0
next_not_root t f e = not_next t f 0 (is_living_dir t 0 f.root) (sym e)

-- adding a node
module _ (t : Tree) (f : Sound t) (dir : ℕ) (name : List ℕ) (node : Node) (free : look t dir name ≡ None) (in_dir : is_dir t dir ≡ true)
  where
    abbrev grown : Tree
    grown = with_new t dir name node

    new_at : node_at grown t.next ≡ Some node
    new_at = put_here nat_cmp nat_cmp_total nat_cmp-IsAntisymmetric t.next node t.nodes

    old_at : (x : ℕ) → x ≢ t.next → node_at grown x ≡ node_at t x
    old_at x n = put_elsewhere nat_cmp nat_cmp_total nat_cmp-IsAntisymmetric x t.next node t.nodes n

    old_dir : (d : ℕ) → is_dir t d ≡ true → is_dir grown d ≡ true
    old_dir d h = ap (λ o. is_dir_kind (option_map (λ n. n.kind) o)) (old_at d (not_next t f d (is_living_dir t d h))) ∙ h

    old_living : (x : ℕ) → is_living t x ≡ true → is_living grown x ≡ true
    old_living x h = ap is_some (old_at x (not_next t f x h)) ∙ h

    was_living : (x : ℕ) → x ≢ t.next → is_living grown x ≡ true → is_living t x ≡ true
    was_living x n h = ap is_some (sym (old_at x n)) ∙ h

    was_dir : (x : ℕ) → x ≢ t.next → is_dir grown x ≡ true → is_dir t x ≡ true
    was_dir x n h = ap (λ o. is_dir_kind (option_map (λ m. m.kind) o)) (sym (old_at x n)) ∙ h

    new_row : InRow grown (dir, name) t.next
    new_row = put_here spot_cmp spots_total exact_spots (dir, name) t.next t.rows

    old_row : (s : Spot) → s ≢ (dir, name) → find_key spot_cmp s grown.rows ≡ find_key spot_cmp s t.rows
    old_row s n = put_elsewhere spot_cmp spots_total exact_spots s (dir, name) t.next t.rows n

    kept_row : (s : Spot) (x : ℕ) → InRow t s x → InRow grown s x
    kept_row s x e = old_row s (λ here. Some≢None x (sym e ∙ ap (λ r. find_key spot_cmp r t.rows) here ∙ free)) ∙ e

    grown_rows : (x : ℕ) → rows_with grown x ≡ rows_with t x + one (λ y. y == x) t.next
    grown_rows x =
        let gone : one_at (λ y. y == x) (look t dir name) ≡ 0 = ap (one_at (λ y. y == x)) free in
        omega (arith, tally-put spot_cmp spots_total exact_spots (λ y. y == x) (dir, name) t.next t.rows f.rows_sorted)

    old_rows : (x : ℕ) → x ≢ t.next → rows_with grown x ≡ rows_with t x
    old_rows x n = omega (arith, grown_rows x, one_other x t.next (λ e. n (sym e)))

    new_rows : rows_with grown t.next ≡ 1
    new_rows = omega (arith, grown_rows t.next, one_same t.next, no_rows t f t.next (next_is_new t f))

    kept_way : (k d : ℕ) → is_dir t d ≡ true → Reaches t k d → Reaches grown k d
    kept_way = same_way t grown (λ d. is_dir t d ≡ true) (λ d h n.
        let r = row_of t f d h n in (
          above_is grown d r.0 n (old_rows d (not_next t f d (is_living_dir t d h)) ∙ f.once d h n) (kept_row r.0 d r.1) ∙ sym r.2,
          above_dir t f d h n,
        ))

    pub add_keeps : is_name name ≡ true → target_fits node.kind node.target ≡ true → mount_fits node ≡ true → Sound grown
    add_keeps is_one fits mounts = record {
      rows_sorted = is_sorted-put spot_cmp spots_total (dir, name) t.next t.rows f.rows_sorted;
      nodes_sorted = is_sorted-put nat_cmp nat_cmp_total t.next node t.nodes f.nodes_sorted;
      root = old_dir 0 f.root;
      row = λ s x e. elim (same_spot_or_other s (dir, name)) [
        | inl here ↦ (let number : t.next ≡ x = same_Some t.next x (sym new_row ∙ ap (λ r. find_key spot_cmp r grown.rows) (sym here) ∙
            e) in
            subst (λ r. row_fits grown (r, x) ≡ true) (sym here) (subst (λ y. row_fits grown ((dir, name), y) ≡ true) number
            (row_made grown (dir, name) t.next (old_dir dir in_dir) is_one (ap is_some new_at) (next_not_root t f))))
        | inr there ↦ (let says = row_says t f s x (sym (old_row s there) ∙ e) in
            row_made grown s x (old_dir s.0 says.0) says.1 (old_living x says.2) says.3)
      ];
      node = λ x n e. elim (same_number_or_other x t.next) [
        | inl new ↦ (let made : node ≡ n = same_Some node n (sym new_at ∙ ap (node_at grown) (sym new) ∙ e) in
            (omega arith, subst (λ m. target_fits m.kind m.target ≡ true) made fits))
        | inr old ↦ (let says = f.node x n (sym (old_at x old) ∙ e) in (omega arith, says.1))
      ];
      marks = λ x n e. elim (same_number_or_other x t.next) [
        | inl new ↦ (let made : node ≡ n = same_Some node n (sym new_at ∙ ap (node_at grown) (sym new) ∙ e) in
            mark_from x n (subst (λ m. mount_fits m ≡ true) made mounts) (λ root. next_not_root t f (sym new ∙ root)))
        | inr old ↦ f.marks x n (sym (old_at x old) ∙ e)
      ];
      unnamed_root = old_rows 0 (λ e. next_not_root t f (sym e)) ∙ f.unnamed_root;
      named = λ x living n. elim (same_number_or_other x t.next) [
        | inl new ↦ (let rows = ap (rows_with grown) new ∙ new_rows in omega arith)
        | inr old ↦ (let rows = old_rows x old in let some = f.named x (was_living x old living) n in omega arith)
      ];
      once = λ d h n. elim (same_number_or_other d t.next) [
        | inl new ↦ ap (rows_with grown) new ∙ new_rows
        | inr old ↦ old_rows d old ∙ f.once d (was_dir d old h) n
      ];
      rooted = λ d h n. elim (same_number_or_other d t.next) [
        | inl new ↦ (let up = way_up t f dir in_dir in (
          suc up.0,
          (
            n,
            subst (Reaches grown up.0) (sym (ap (above grown) new ∙
                above_is grown t.next (dir, name) (next_not_root t f) new_rows new_row)) (kept_way up.0 dir in_dir up.1),
          ),
        ))
        | inr old ↦ (let way = f.rooted d (was_dir d old h) n in (way.0, kept_way way.0 d (was_dir d old h) way.1))
      ];
    }

-- giving a node a further name
module _ (t : Tree) (f : Sound t) (dir : ℕ) (name : List ℕ) (x : ℕ) (free : look t dir name ≡ None) (in_dir : is_dir t dir ≡ true)
    (living : is_living t x ≡ true) (no_dir : is_dir t x ≡ false) where
  abbrev tied : Tree
  tied = with_row t dir name x

  not_tied : (d : ℕ) → is_dir t d ≡ true → d ≢ x
  not_tied d h e = false≢true (sym no_dir ∙ ap (is_dir t) (sym e) ∙ h)

  tied_row : InRow tied (dir, name) x
  tied_row = put_here spot_cmp spots_total exact_spots (dir, name) x t.rows

  stays_row : (s : Spot) → s ≢ (dir, name) → find_key spot_cmp s tied.rows ≡ find_key spot_cmp s t.rows
  stays_row s n = put_elsewhere spot_cmp spots_total exact_spots s (dir, name) x t.rows n

  still_row : (s : Spot) (y : ℕ) → InRow t s y → InRow tied s y
  still_row s y e = stays_row s (λ here. Some≢None y (sym e ∙ ap (λ r. find_key spot_cmp r t.rows) here ∙ free)) ∙ e

  tied_rows : (y : ℕ) → rows_with tied y ≡ rows_with t y + one (λ z. z == y) x
  tied_rows y =
      let gone : one_at (λ z. z == y) (look t dir name) ≡ 0 = ap (one_at (λ z. z == y)) free in
      omega (arith, tally-put spot_cmp spots_total exact_spots (λ z. z == y) (dir, name) x t.rows f.rows_sorted)

  as_before : (y : ℕ) → y ≢ x → rows_with tied y ≡ rows_with t y
  as_before y n = omega (arith, tied_rows y, one_other y x (λ e. n (sym e)))

  still_way : (k d : ℕ) → is_dir t d ≡ true → Reaches t k d → Reaches tied k d
  still_way = same_way t tied (λ d. is_dir t d ≡ true) (λ d h n.
      let r = row_of t f d h n in
      (above_is tied d r.0 n (as_before d (not_tied d h) ∙ f.once d h n) (still_row r.0 d r.1) ∙ sym r.2, above_dir t f d h n))

  pub tie_keeps : is_name name ≡ true → Sound tied
  tie_keeps is_one = record {
    rows_sorted = is_sorted-put spot_cmp spots_total (dir, name) x t.rows f.rows_sorted;
    nodes_sorted = f.nodes_sorted;
    root = f.root;
    row = λ s y e. elim (same_spot_or_other s (dir, name)) [
      | inl here ↦ (let number : x ≡ y = same_Some x y (sym tied_row ∙ ap (λ r. find_key spot_cmp r tied.rows) (sym here) ∙ e) in
          subst (λ r. row_fits tied (r, y) ≡ true) (sym here) (subst (λ z. row_fits tied ((dir, name), z) ≡ true) number
          (row_made tied (dir, name) x in_dir is_one living (λ e. not_tied 0 f.root (sym e)))))
      | inr there ↦ f.row s y (sym (stays_row s there) ∙ e)
    ];
    node = f.node;
    marks = f.marks;
    unnamed_root = as_before 0 (not_tied 0 f.root) ∙ f.unnamed_root;
    named = λ y lives n. (let rows = tied_rows y in let some = f.named y lives n in omega arith);
    once = λ d h n. as_before d (not_tied d h) ∙ f.once d h n;
    rooted = λ d h n. (let way = f.rooted d h n in (way.0, still_way way.0 d h way.1));
  }

-- a tree except one node, which may stand in no row if nothing stands in it
record Loose (t : Tree) (y : ℕ) : Type 0 where
  rows_sorted : T (is_sorted spot_cmp t.rows)
  nodes_sorted : T (is_sorted nat_cmp t.nodes)
  root : is_dir t 0 ≡ true
  row : (s : Spot) (x : ℕ) → InRow t s x → row_fits t (s, x) ≡ true
  node : (x : ℕ) (n : Node) → node_at t x ≡ Some n → (x < t.next) × (target_fits n.kind n.target ≡ true)
  marks : (x : ℕ) (n : Node) → node_at t x ≡ Some n → mark_fits (x, n) ≡ true
  unnamed_root : rows_with t 0 ≡ 0
  named : (x : ℕ) → is_living t x ≡ true → x ≢ 0 → x ≢ y → 1 ≤ rows_with t x
  once : (d : ℕ) → is_dir t d ≡ true → d ≢ 0 → d ≢ y → rows_with t d ≡ 1
  rooted : (d : ℕ) → is_dir t d ≡ true → d ≢ 0 → d ≢ y → (k : ℕ) × Reaches t k d
  not_root : y ≢ 0
  alone : (s : Spot) (x : ℕ) → InRow t s x → s.0 ≢ y
  gone : is_dir t y ≡ true → rows_with t y ≡ 0

sound_where_named : (t : Tree) (y : ℕ) → Loose t y → (is_living t y ≡ true → 1 ≤ rows_with t y) → Sound t
sound_where_named t y l some = record {
  rows_sorted = l.rows_sorted;
  nodes_sorted = l.nodes_sorted;
  root = l.root;
  row = l.row;
  node = l.node;
  marks = l.marks;
  unnamed_root = l.unnamed_root;
  named = λ x living n. elim (same_number_or_other x y) [
    | inl e ↦ subst (λ z. 1 ≤ rows_with t z) (sym e) (some (ap (is_living t) (sym e) ∙ living))
    | inr other ↦ l.named x living n other
  ];
  once = λ d h n. elim (same_number_or_other d y) [ inl e ↦ absurd (not_dir d h e) | inr other ↦ l.once d h n other ];
  rooted = λ d h n. elim (same_number_or_other d y) [ inl e ↦ absurd (not_dir d h e) | inr other ↦ l.rooted d h n other ];
}
  where
    not_dir : (d : ℕ) → is_dir t d ≡ true → d ≡ y → ⊥
    not_dir d h e =
        let dir : is_dir t y ≡ true = ap (is_dir t) (sym e) ∙ h in
        let none = l.gone dir in
        let one_row = some (is_living_dir t y dir) in
        omega arith

-- taking the one node away
module _ (t : Tree) (y : ℕ) (l : Loose t y) (none : rows_with t y ≡ 0) where
  abbrev thinned : Tree
  thinned = without_node t y

  gone_at : node_at thinned y ≡ None
  gone_at = without_here nat_cmp nat_cmp_total nat_cmp-IsAntisymmetric y t.nodes

  left_at : (x : ℕ) → x ≢ y → node_at thinned x ≡ node_at t x
  left_at x n = without_elsewhere nat_cmp nat_cmp_total nat_cmp-IsAntisymmetric x y t.nodes n

  left_node : (x : ℕ) (n : Node) → node_at thinned x ≡ Some n → (x ≢ y) × (node_at t x ≡ Some n)
  left_node x n e =
      elim (same_number_or_other x y) [
        | inl here ↦ absurd (Some≢None n (sym e ∙ ap (node_at thinned) here ∙ gone_at))
        | inr other ↦ (other, sym (left_at x other) ∙ e)
      ]

  left_living : (x : ℕ) → is_living thinned x ≡ true → (x ≢ y) × (is_living t x ≡ true)
  left_living x h =
      elim (same_number_or_other x y) [
        | inl here ↦ absurd (false≢true (ap is_some (sym (ap (node_at thinned) here ∙ gone_at)) ∙ h))
        | inr other ↦ (other, ap is_some (sym (left_at x other)) ∙ h)
      ]

  left_dir : (x : ℕ) → is_dir thinned x ≡ true → (x ≢ y) × (is_dir t x ≡ true)
  left_dir x h =
      let other = (left_living x (is_living_dir thinned x h)).0 in
      (other, ap (λ o. is_dir_kind (option_map (λ m. m.kind) o)) (sym (left_at x other)) ∙ h)

  still_dir : (x : ℕ) → x ≢ y → is_dir t x ≡ true → is_dir thinned x ≡ true
  still_dir x n h = ap (λ o. is_dir_kind (option_map (λ m. m.kind) o)) (left_at x n) ∙ h

  thinned_keeps : Sound thinned
  thinned_keeps = record {
    rows_sorted = l.rows_sorted;
    nodes_sorted = is_sorted-where_key nat_cmp _ t.nodes l.nodes_sorted;
    root = still_dir 0 (λ e. l.not_root (sym e)) l.root;
    row = λ s x e.
        (let says = row_parts t s x (l.row s x e) in
        let other : x ≢ y = λ here. (let some = tally_found spot_cmp spots_total exact_spots (λ z. z == y) s x t.rows e (eq-eqb x y here) in
        omega arith) in
        row_made thinned s x (still_dir s.0 (l.alone s x e) says.0) says.1 (ap is_some (left_at x other) ∙ says.2) says.3);
    node = λ x n e. l.node x n (left_node x n e).1;
    marks = λ x n e. l.marks x n (left_node x n e).1;
    unnamed_root = l.unnamed_root;
    named = λ x living n. (let old = left_living x living in l.named x old.1 n old.0);
    once = λ d h n. (let old = left_dir d h in l.once d old.1 n old.0);
    rooted = λ d h n. (let old = left_dir d h in l.rooted d old.1 n old.0);
  }

unnamed_goes : (t : Tree) (y : ℕ) → Loose t y → Sound (without_unnamed t y)
unnamed_goes t y l =
    elim (rows_of t y == 0) as (λ b. (rows_of t y == 0) ≡ b → Sound (cond b (without_node t y) t)) [
      | true ↦ λ e. thinned_keeps t y l (tally_counts (λ z. z == y) t.rows ∙ eqb-true (rows_of t y) 0 e)
      | false ↦ λ e. sound_where_named t y l
          (λ _. some (rows_with t y) (λ z. eqb-false (rows_of t y) 0 e (sym (tally_counts (λ v. v == y) t.rows) ∙ z)))
    ] refl
  where
    some : (n : ℕ) → n ≢ 0 → 1 ≤ n
    some n z = omega arith

-- where nothing stands in a node, no row's directory is that node
stands_in_none : (t : Tree) → Sound t → (y : ℕ) → is_full_dir t y ≡ false → (s : Spot) (x : ℕ) → InRow t s x → s.0 ≢ y
stands_in_none t f y h s x e here =
    let dir : is_dir t y ≡ true = ap (is_dir t) (sym here) ∙ (row_says t f s x e).0 in
    let empty : list_any (λ row. row.0.0 == y) t.rows ≡ false =
    none_in (list_any (λ row. row.0.0 == y) t.rows) (ap (λ b. b && not (has_no_row t y)) (sym dir) ∙ h) in
    false≢true (sym (none_found spot_cmp spots_total exact_spots (λ row. row.0.0 == y) t.rows empty s x e) ∙ eq-eqb s.0 y here)
  where
    none_in : (b : Bool) → not (not b) ≡ false → b ≡ false
    none_in true h = h
    none_in false h = h

-- taking a row away
module _ (t : Tree) (f : Sound t) (dir : ℕ) (name : List ℕ) (x : ℕ) (found : look t dir name ≡ Some x) where
  abbrev cleared : Tree
  cleared = without_row t dir name

  cleared_row : (s : Spot) (z : ℕ) → InRow cleared s z → InRow t s z
  cleared_row s z e =
      elim (same_spot_or_other s (dir, name)) [
        | inl here ↦ absurd (Some≢None z (sym e ∙ ap (λ r. find_key spot_cmp r cleared.rows) here ∙
            without_here spot_cmp spots_total exact_spots (dir, name) t.rows))
        | inr other ↦ sym (without_elsewhere spot_cmp spots_total exact_spots s (dir, name) t.rows other) ∙ e
      ]

  other_row : (s : Spot) (z : ℕ) → z ≢ x → InRow t s z → InRow cleared s z
  other_row s z n e =
      without_elsewhere spot_cmp spots_total exact_spots s (
        dir,
        name,
      ) t.rows (λ here. n (same_Some z x (sym e ∙ ap (λ r. find_key spot_cmp r t.rows) here ∙ found))) ∙ e

  cleared_rows : (z : ℕ) → rows_with cleared z + one (λ y. y == z) x ≡ rows_with t z
  cleared_rows z = subst (λ o. rows_with cleared z + one_at (λ y. y == z) o ≡ rows_with t z) found
      (tally-without spot_cmp spots_total exact_spots (λ y. y == z) (dir, name) t.rows f.rows_sorted)

  other_rows : (z : ℕ) → z ≢ x → rows_with cleared z ≡ rows_with t z
  other_rows z n = omega (arith, cleared_rows z, one_other z x (λ e. n (sym e)))

  module _ (empty : is_full_dir t x ≡ false) where
    cleared_way : (k d : ℕ) → (is_dir t d ≡ true) × (d ≢ x) → Reaches t k d → Reaches cleared k d
    cleared_way = same_way t cleared (λ d. (is_dir t d ≡ true) × (d ≢ x)) (λ d h n.
        let r = row_of t f d h.0 n in (
          above_is cleared d r.0 n (other_rows d h.1 ∙ f.once d h.0 n) (other_row r.0 d h.1 r.1) ∙ sym r.2,
          (above_dir t f d h.0 n, λ e. stands_in_none t f x empty r.0 d r.1 (sym r.2 ∙ e)),
        ))

    cut_loosens : Loose cleared x
    cut_loosens =
        let says = row_says t f (dir, name) x found in
        record {
          rows_sorted = is_sorted-where_key spot_cmp _ t.rows f.rows_sorted;
          nodes_sorted = f.nodes_sorted;
          root = f.root;
          row = λ s z e. f.row s z (cleared_row s z e);
          node = f.node;
          marks = f.marks;
          unnamed_root = other_rows 0 (λ e. says.3 (sym e)) ∙ f.unnamed_root;
          named = λ z living n other. subst (λ r. 1 ≤ r) (sym (other_rows z other)) (f.named z living n);
          once = λ d h n other. other_rows d other ∙ f.once d h n;
          rooted = λ d h n other. (let way = f.rooted d h n in (way.0, cleared_way way.0 d (h, other) way.1));
          not_root = says.3;
          alone = λ s z e. stands_in_none t f x empty s z (cleared_row s z e);
          gone = λ h. (let all = cleared_rows x in let here = one_same x in let once = f.once x h says.3 in omega arith);
        }

    pub cut_keeps : Sound (without_unnamed cleared x)
    cut_keeps = unnamed_goes cleared x cut_loosens

-- moving a row to a spot at which nothing stands but y
module _ (t : Tree) (f : Sound t) (from : ℕ) (name : List ℕ) (to : ℕ) (new_name : List ℕ) (x y : ℕ)
    (found : look t from name ≡ Some x) (apart : x ≢ y) (there : (z : ℕ) → look t to new_name ≡ Some z → z ≡ y)
    (in_dir : is_dir t to ≡ true) (to_other : to ≢ y) (is_one : is_name new_name ≡ true) (outside : is_inside t x to ≡ false)
    (not_root : y ≢ 0) (alone : (s : Spot) (z : ℕ) → InRow t s z → s.0 ≢ y) (held : is_dir t y ≡ true → look t to new_name ≡ Some y) where
  abbrev shifted : Tree
  shifted = with_row (without_row t from name) to new_name x

  abbrev between : Tree
  between = without_row t from name

  spots_apart : (s : Spot) → s ≡ (to, new_name) → s ≢ (from, name)
  spots_apart s e h = apart (there x (ap (λ r. find_key spot_cmp r t.rows) (sym e ∙ h) ∙ found))

  spot_apart : ◌≢◌ {A = Spot} (to, new_name) (from, name)
  spot_apart = spots_apart (to, new_name) refl

  new_place : InRow shifted (to, new_name) x
  new_place = put_here spot_cmp spots_total exact_spots (to, new_name) x between.rows

  shifted_row : (s : Spot) (z : ℕ) → s ≢ (to, new_name) → InRow shifted s z → InRow t s z
  shifted_row s z n e =
      cleared_row t f from name x found s z (sym (put_elsewhere spot_cmp spots_total exact_spots s (to, new_name) x between.rows n) ∙ e)

  moved_row : (s : Spot) (z : ℕ) → z ≢ x → z ≢ y → InRow t s z → InRow shifted s z
  moved_row s z n m e =
      put_elsewhere spot_cmp spots_total exact_spots s (
        to,
        new_name,
      ) x between.rows (λ here. m (there z (ap (λ r. find_key spot_cmp r t.rows) (sym here) ∙ e)))
      ∙ other_row t f from name x found s z n e

  new_spot : find_key spot_cmp (to, new_name) between.rows ≡ look t to new_name
  new_spot = without_elsewhere spot_cmp spots_total exact_spots (to, new_name) (from, name) t.rows spot_apart

  shifted_rows : (z : ℕ) → rows_with shifted z + one_at (λ v. v == z) (look t to new_name) ≡ rows_with t z
  shifted_rows z =
      let put_one = tally-put spot_cmp spots_total exact_spots (λ v. v == z) (
        to,
        new_name,
      ) x between.rows (is_sorted-where_key spot_cmp _ t.rows f.rows_sorted) in
      let took = cleared_rows t f from name x found z in
      let spot : one_at (λ v. v == z) (find_key spot_cmp (to, new_name) between.rows) ≡ one_at (λ v. v == z) (look t to new_name) =
      ap (one_at (λ v. v == z)) new_spot in
      omega arith

  none_there : (z : ℕ) → z ≢ y → one_at (λ v. v == z) (look t to new_name) ≡ 0
  none_there z n =
      elim (look t to new_name) as (λ o. look t to new_name ≡ o → one_at (λ v. v == z) o ≡ 0) [
        | None ↦ λ e. refl
        | Some w ↦ λ e. one_other z w (λ same. n (sym same ∙ there w e))
      ] refl

  same_rows : (z : ℕ) → z ≢ y → rows_with shifted z ≡ rows_with t z
  same_rows z n = omega (arith, shifted_rows z, none_there z n)

  -- a directory that the climb to the root passes by the node that moves
  abbrev Avoids : ℕ → Type 0
  Avoids d = (n : ℕ) × (k : ℕ) × (k ≤ n) × Reaches t k d × (list_any (λ e. e == x) (climb_within n t d) ≡ false) × (is_dir t d ≡ true) ×
      (d ≢ y)

  avoids_up : (d n k : ℕ) → d ≢ 0 → k ≤ n → Reaches t k d → list_any (λ e. e == x) (climb_within n t d) ≡ false
      → (d ≢ x) × (m : ℕ) × (j : ℕ) × (j ≤ m) × Reaches t j (above t d) × (list_any (λ e. e == x) (climb_within m t (above t d)) ≡ false)
  avoids_up zero n k z l r h = absurd (z refl)
  avoids_up (suc d) n zero z l r h = absurd (z r)
  avoids_up (suc d) zero (suc k) z l r h = absurd (omega arith)
  avoids_up (suc d) (suc n) (suc k) z l r h =
      let parts = or_parts (suc d == x) _ h in
      (λ e. false≢true (sym parts.0 ∙ eq-eqb (suc d) x e), n, k, omega arith, r.1, parts.1)

  same_above : (d : ℕ) → is_dir t d ≡ true → d ≢ 0 → d ≢ x → d ≢ y → (above shifted d ≡ above t d) × (above t d ≢ y)
  same_above d h z n m =
      let r = row_of t f d h z in
      (above_is shifted d r.0 z (same_rows d m ∙ f.once d h z) (moved_row r.0 d n m r.1) ∙ sym r.2, λ e. alone r.0 d r.1 (sym r.2 ∙ e))

  avoids_more : (d : ℕ) → Avoids d → d ≢ 0 → (above shifted d ≡ above t d) × Avoids (above t d)
  avoids_more d p z =
      let up = avoids_up d p.0 p.1 z p.2 p.3 p.4 in
      let one = same_above d p.5 z up.0 p.6 in
      (one.0, (up.1, up.2, up.3, up.4, up.5, above_dir t f d p.5 z, one.1))

  moving : (is_dir t from ≡ true) × (is_name name ≡ true) × (is_living t x ≡ true) × (x ≢ 0)
  moving = row_says t f (from, name) x found

  -- from a directory's new place the root is reached without it
  way_from_place : is_dir t x ≡ true → (k : ℕ) × Reaches shifted k to
  way_from_place h =
      let up = way_up t f to in_dir in
      let enough = climb_ends t f to in_dir up.0 up.1 in
      let free : list_any (λ e. e == x) (climb t to) ≡ false = ap (λ b. b && list_any (λ e. e == x) (climb t to)) (sym h) ∙ outside in
      (up.0, same_way t shifted Avoids avoids_more up.0 to (length t.nodes, up.0, omega arith, up.1, free, in_dir, to_other) up.1)

  shifted_way : (k d : ℕ) → is_dir t d ≡ true → d ≢ y → Reaches t k d → (j : ℕ) × Reaches shifted j d
  shifted_way zero d h m r = (0, r)
  shifted_way (suc k) d h m r =
      elim (same_number_or_other d x) [
        | inl here ↦ (let dir : is_dir t x ≡ true = ap (is_dir t) (sym here) ∙ h in
            let up = way_from_place dir in
            let place : above shifted d ≡ to = ap (above shifted) here ∙ above_is shifted x (to, new_name) moving.3 (same_rows x apart ∙
            f.once x dir moving.3) new_place in
            (suc up.0, (r.0, subst (Reaches shifted up.0) (sym place) up.1)))
        | inr other ↦ (let one = same_above d h r.0 other m in
            let up = shifted_way k (above t d) (above_dir t f d h r.0) one.1 r.1 in
            (suc up.0, (r.0, subst (Reaches shifted up.0) (sym one.0) up.1)))
      ]

  shift_loosens : Loose shifted y
  shift_loosens = record {
    rows_sorted = is_sorted-put spot_cmp spots_total (to, new_name) x between.rows (is_sorted-where_key spot_cmp _ t.rows f.rows_sorted);
    nodes_sorted = f.nodes_sorted;
    root = f.root;
    row = λ s z e. elim (same_spot_or_other s (to, new_name)) [
      | inl here ↦ (let number : x ≡ z = same_Some x z (sym new_place ∙ ap (λ r. find_key spot_cmp r shifted.rows) (sym here) ∙ e) in
          subst (λ r. row_fits shifted (r, z) ≡ true) (sym here) (subst (λ v. row_fits shifted ((to, new_name), v) ≡ true) number
          (row_made shifted (to, new_name) x in_dir is_one moving.2 moving.3)))
      | inr other ↦ f.row s z (shifted_row s z other e)
    ];
    node = f.node;
    marks = f.marks;
    unnamed_root = same_rows 0 (λ e. not_root (sym e)) ∙ f.unnamed_root;
    named = λ z living n other. subst (λ r. 1 ≤ r) (sym (same_rows z other)) (f.named z living n);
    once = λ d h n other. same_rows d other ∙ f.once d h n;
    rooted = λ d h n other. (let way = f.rooted d h n in shifted_way way.0 d h other way.1);
    not_root = not_root;
    alone = λ s z e. elim (same_spot_or_other s (to, new_name)) [
      | inl here ↦ λ same. to_other (ap (λ (r : Spot). r.0) (sym here) ∙ same)
      | inr other ↦ alone s z (shifted_row s z other e)
    ];
    gone = λ h.
        (let all = shifted_rows y in
        let here : one_at (λ v. v == y) (look t to new_name) ≡ 1 = ap (one_at (λ v. v == y)) (held h) ∙ one_same y in
        let once = f.once y h not_root in omega arith);
  }

module _ (t : Tree) (f : Sound t) (from : ℕ) (name : List ℕ) (to : ℕ) (new_name : List ℕ) (x : ℕ)
    (found : look t from name ≡ Some x) (in_dir : is_dir t to ≡ true) (is_one : is_name new_name ≡ true) (outside : is_inside t x to
    ≡ false) where
  says : (is_dir t from ≡ true) × (is_name name ≡ true) × (is_living t x ≡ true) × (x ≢ 0)
  says = row_says t f (from, name) x found

  moved_keeps : (there : Option ℕ) → look t to new_name ≡ there → is_same_node x there ≡ false → is_full_dir_there t there ≡ false →
      Sound (with_row_moved t from name to new_name x there)
  moved_keeps None e apart empty =
      let loose = shift_loosens t f from name to new_name x t.next found (not_next t f x says.2) (λ z h. absurd (Some≢None z (sym h ∙ e)))
      in_dir (not_next t f to (is_living_dir t to in_dir)) is_one outside (next_not_root t f)
      (λ s z h. not_next t f s.0 (is_living_dir t s.0 (row_says t f s z h).0))
      (λ h. absurd (false≢true (sym (next_is_new t f) ∙ is_living_dir t t.next h))) in
      sound_where_named _ t.next loose (λ h. absurd (false≢true (sym (next_is_new t f) ∙ h)))
  moved_keeps (Some y) e apart empty =
      unnamed_goes _ y (shift_loosens t f from name to new_name x y found (eqb-false x y apart) (λ z h. same_Some z y (sym h ∙ e))
      in_dir (stands_in_none t f y empty (to, new_name) y e) is_one outside (row_says t f (to, new_name) y e).3
      (stands_in_none t f y empty) (λ _. e))

next_stays : (t : Tree) (y : ℕ) → (without_unnamed t y).next ≡ t.next
next_stays t y = elim (rows_of t y == 0) as (λ b. (cond b (without_node t y) t).next ≡ t.next) [ true ↦ refl | false ↦ refl ]

abbrev Kept : Tree → Tree → Type 0
Kept t after = WellFormed after × (t.next ≤ after.next)

adding : (t after : Tree) (dir x : ℕ) (name : List ℕ) (node : Node) → WellFormed t → is_name name ≡ true →
    target_fits node.kind node.target ≡ true → mount_fits node ≡ true
    → add t dir name node ≡ Ok (x, after) → Kept t after
adding t after dir x name node w is_one fits mounts e =
    let f = sound_from t w in
    let a = past (not (is_dir t dir)) NotDir _ (x, after) e in
    let b = past (is_some (look t dir name)) Taken _ (x, after) a.1 in
    let grown = with_new t dir name node in
    let is : grown ≡ after = ap (λ (p : ℕ × Tree). p.1) (tested (has_room t) Full (t.next, grown) (x, after) b.1).1 in
    subst (Kept t) is (
      well_formed_from grown (add_keeps t f dir name node (none (look t dir name) b.0) (not-false (is_dir t dir) a.0)
          is_one fits mounts),
      omega arith,
    )

tying : (t after : Tree) (dir x : ℕ) (name : List ℕ) → WellFormed t → is_name name ≡ true → tie t dir name x ≡ Ok after → Kept t after
tying t after dir x name w is_one e =
    let f = sound_from t w in
    let a = past (not (is_dir t dir)) NotDir _ after e in
    let b = past (not (is_living t x)) Missing _ after a.1 in
    let c = past (is_dir t x) IsDir _ after b.1 in
    let d = past (is_some (look t dir name)) Taken _ after c.1 in
    let tied = with_row t dir name x in
    let is : tied ≡ after = (tested (has_name_room t) Full tied after d.1).1 in
    subst (Kept t) is (
      well_formed_from tied (tie_keeps t f dir name x (none (look t dir name) d.0) (not-false (is_dir t dir) a.0)
          (not-false (is_living t x) b.0) c.0 is_one),
      omega arith,
    )

cutting : (t after : Tree) (dir x : ℕ) (name : List ℕ) → WellFormed t → cut t dir name ≡ Ok (x, after) → Kept t after
cutting t after dir x name w e = found (look t dir name) refl (past (not (is_dir t dir)) NotDir _ (x, after) e).1
  where
    found : (o : Option ℕ) → look t dir name ≡ o → cut_found t dir name o ≡ Ok (x, after) → Kept t after
    found None is h = absurd (cc)
    found (Some y) is h =
        let a = past (is_full_dir t y) NotEmpty _ (x, after) h in
        let left = without_unnamed (without_row t dir name) y in
        let same : left ≡ after = ap (λ (p : ℕ × Tree). p.1) (same_Ok (y, left) (x, after) a.1) in
        let next = next_stays (without_row t dir name) y in
        subst (Kept t) same (well_formed_from left (cut_keeps t (sound_from t w) dir name y is a.0), omega arith)

next_moved : (t : Tree) (from : ℕ) (name : List ℕ) (to : ℕ) (new_name : List ℕ) (x : ℕ) (there : Option ℕ) →
    (with_row_moved t from name to new_name x there).next ≡ t.next
next_moved t from name to new_name x None = refl
next_moved t from name to new_name x (Some y) = next_stays (with_row (without_row t from name) to new_name x) y

shifting : (t after : Tree) (from to : ℕ) (name new_name : List ℕ) → WellFormed t → is_name new_name ≡ true →
    shift t from name to new_name ≡ Ok after → Kept t after
shifting t after from to name new_name w is_one e = found (look t from name) refl start.1
  where
    start : (not (is_dir t from && is_dir t to) ≡ false) × (shift_found t from name to new_name (look t from name) (look t to new_name)
        ≡ Ok after)
    start = past (not (is_dir t from && is_dir t to)) NotDir _ after e

    both : (is_dir t from ≡ true) × (is_dir t to ≡ true)
    both = and_parts (is_dir t from) (is_dir t to) (not-false _ start.0)

    found : (o : Option ℕ) → look t from name ≡ o → shift_found t from name to new_name o (look t to new_name) ≡ Ok after → Kept t after
    found None is h = absurd (cc)
    found (Some x) is h = moves (is_same_node x (look t to new_name)) refl h
      where
        left : Tree
        left = with_row_moved t from name to new_name x (look t to new_name)

        moves : (b : Bool) → is_same_node x (look t to new_name) ≡ b →
            cond b (Ok t) (cond (is_inside t x to) (Err Inside) (cond (is_full_dir_there t (look t to new_name)) (Err NotEmpty) (Ok left)))
            ≡ Ok after → Kept t after
        moves true same g = subst (Kept t) (same_Ok t after g) (w, omega arith)
        moves false other g =
            let a = past (is_inside t x to) Inside _ after g in
            let b = past (is_full_dir_there t (look t to new_name)) NotEmpty _ after a.1 in
            let next = next_moved t from name to new_name x (look t to new_name) in
            subst (Kept t) (same_Ok left after b.1) (
              well_formed_from left (moved_keeps t (sound_from t w) from name to new_name x is both.1 is_one a.0 (look t to new_name) refl
                  other b.0),
              omega arith,
            )

pub edits_keep_trees : EditsKeepTrees
edits_keep_trees = record { adding = adding; tying = tying; cutting = cutting; shifting = shifting }
