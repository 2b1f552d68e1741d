-- The order of lines has each row once, and after that of its directory.
use Rattle.pua_listing.proofs.Common.{◌≡◌, ◌≢◌, ℕ, zero, suc, ◌+◌, ◌≤◌, Bool, true, false, not, ◌&&◌, ◌||◌, ◌==◌, List, [], ◌∷◌, ◌++◌}
use Rattle.pua_listing.proofs.Common.{length, Option, Some, None, refl, sym, ap, subst, ◌∙◌, arith, inl, inr, append_assoc, append-nil}
use Rattle.pua_listing.proofs.Common.{list_all, list_any, and_parts, and_from, or_cases, false≢true, eq-eqb, eqb-true}
use Rattle.pua_listing.proofs.Common.{Row, rows_under, rows_from, in_order, Tree, Spot, spot_cmp, is_dir, Sound, spots_total}
use Rattle.pua_listing.proofs.Common.{exact_spots, one, count}
use Rattle.std.specs.FinMap.{find as find_key}
use Rattle.std.proofs.lemmas.Bool.{eqb-false, or_left, or_right}
use Rattle.std.proofs.lemmas.Bool.Decides.{nat_tests}
use Rattle.std.proofs.lemmas.List.{length-append}
use Rattle.std.proofs.lemmas.List.Folds.{list_any-append}
use Rattle.pua_tree.specs.Tree.{above}
use Rattle.pua_tree.proofs.ForCallers.{all_from_found, none_found, row_says, row_of, above_dir, Reaches, tally_counts}
use Rattle.pua_listing.proofs.Counting.{count_is, count-append, count-filter, count-all, count_few, count_more, count_same, count_either}
use Rattle.pua_listing.proofs.Counting.{any_counted, counted_any, counted_all, count_none, count_where_all}

-- the directory is the root, or the node of one of these rows
abbrev pub is_entered : List Row → ℕ → Bool
is_entered done d = d == 0 || list_any (λ row. row.1 == d) done

-- each row after those before it stands in a directory that is entered
abbrev pub all_enter : List Row → List Row → Bool
all_enter done [] = true
all_enter done (row ∷ rows) = is_entered done row.0.0 && all_enter (done ++ row ∷ []) rows

-- a row that is found counts
pub found_counted : (p : Row → Bool) (rows : List Row) (s : Spot) (x : ℕ) → find_key spot_cmp s rows ≡ Some x → p (s, x) ≡ true → 1 ≤ count p rows
found_counted p rows s x f h =
    elim (list_any p rows) as (λ b. list_any p rows ≡ b → 1 ≤ count p rows) [
      | true ↦ λ e. any_counted p rows e
      | false ↦ λ e. absurd (false≢true (sym (none_found spot_cmp spots_total exact_spots p rows e s x f) ∙ h))
    ] refl

turned : (m n : ℕ) → (m == n) ≡ (n == m)
turned m n = grind (arith, nat_tests)

or_behind : (a b c : Bool) → (a || (b || (c || false))) ≡ ((a || b) || c)
or_behind true b c = refl
or_behind false true c = refl
or_behind false false true = refl
or_behind false false false = refl

or_false : (b : Bool) → (b || false) ≡ b
or_false true = refl
or_false false = refl

no_and_not : (b : Bool) → (b && not b) ≡ false
no_and_not true = refl
no_and_not false = refl

pub is_entered-push : (done : List Row) (row : Row) (d : ℕ) → is_entered (done ++ row ∷ []) d ≡ (is_entered done d || (row.1 == d))
is_entered-push done row d =
    ap (λ b. (d == 0) || b) (list_any-append (λ (r : Row). r.1 == d) done (row ∷ []))
    ∙ or_behind (d == 0) (list_any (λ r. r.1 == d) done) (row.1 == d)

-- what stands at a spot is this node
abbrev is_node : Option ℕ → ℕ → Bool
is_node None x = false
is_node (Some y) x = y == x

is_node_found : (o : Option ℕ) (x : ℕ) → is_node o x ≡ true → o ≡ Some x
is_node_found None x h = absurd (false≢true h)
is_node_found (Some y) x h = ap Some (eqb-true y x h)

-- the rows have this row
abbrev pub has : List Row → Row → Bool
has rows row = is_node (find_key spot_cmp row.0 rows) row.1

pub has_found : (rows : List Row) (s : Spot) (x : ℕ) → find_key spot_cmp s rows ≡ Some x → has rows (s, x) ≡ true
has_found rows s x e = ap (λ o. is_node o x) e ∙ eq-eqb x x refl

pub found_has : (rows : List Row) (row : Row) → has rows row ≡ true → find_key spot_cmp row.0 rows ≡ Some row.1
found_has rows row h = is_node_found (find_key spot_cmp row.0 rows) row.1 h

module _ (t : Tree) (f : Sound t) where
  pub has_all : list_all (has t.rows) t.rows ≡ true
  has_all = all_from_found spot_cmp spots_total exact_spots (has t.rows) t.rows f.rows_sorted (has_found t.rows)

  -- a directory stands in one row
  pub once : (d : ℕ) → is_dir t d ≡ true → d ≢ 0 → count (λ (row : Row). row.1 == d) t.rows ≡ 1
  once d dir n = count_is (λ (row : Row). row.1 == d) t.rows ∙ sym (tally_counts (λ y. y == d) t.rows) ∙ f.once d dir n

  -- the rows so far and those that wait are all in directories that are entered, each once
  abbrev pub Walks : List Row → List Row → Type 0
  Walks done waiting = (p : Row → Bool) → count p done + count p waiting ≡ count (λ row. is_entered done row.0.0 && p row) t.rows

  pub waiting_row : (done waiting : List Row) (row : Row) → Walks done (row ∷ waiting) → find_key spot_cmp row.0 t.rows ≡ Some row.1
  waiting_row done waiting row w =
      let all = w (λ r. not (has t.rows r)) in
      let none = counted_all (has t.rows) t.rows has_all in
      let few = count_more (λ (r : Row). is_entered done r.0.0 && not (has t.rows r)) (λ r. not (has t.rows r)) t.rows
      (λ r h. (and_parts (is_entered done r.0.0) (not (has t.rows r)) h).1) in
      elim (has t.rows row) as (λ b. has t.rows row ≡ b → one (not b) ≡ 0 → find_key spot_cmp row.0 t.rows ≡ Some row.1) [
        | true ↦ λ e _. found_has t.rows row e
        | false ↦ λ e z. absurd (omega arith)
      ] refl (omega (arith, all, none, few))

  pub waiting_enters : (done waiting : List Row) (row : Row) → Walks done (row ∷ waiting) → is_entered done row.0.0 ≡ true
  waiting_enters done waiting row w =
      let all = w (λ r. not (is_entered done r.0.0)) in
      let none = count_none (λ (r : Row). is_entered done r.0.0 && not (is_entered done r.0.0)) t.rows
      (λ r. no_and_not (is_entered done r.0.0)) in
      elim (is_entered done row.0.0) as (λ b. one (not b) ≡ 0 → b ≡ true) [
        | true ↦ λ _. refl
        | false ↦ λ z. absurd (omega arith)
      ] (omega (arith, all, none))

  pub begins : Walks [] (rows_under t.rows 0)
  begins p =
      let under = count-filter p (λ (r : Row). r.0.0 == 0) t.rows in
      let same = count_same (λ (r : Row). is_entered [] r.0.0 && p r) (λ r. (r.0.0 == 0) && p r) t.rows
      (λ r. ap (λ b. b && p r) (or_false (r.0.0 == 0))) in
      omega (arith, under, same)

  -- no row is in a directory that is entered, and in the one that is entered now
  apart : (done waiting : List Row) (row : Row) → Walks done (row ∷ waiting) →
      list_all (λ r. not (is_entered done r.0.0 && (r.0.0 == row.1))) t.rows ≡ true
  apart done waiting row w = all_from_found spot_cmp spots_total exact_spots (λ r. not (is_entered done r.0.0 && (r.0.0 == row.1))) t.rows
      f.rows_sorted one_by_one
    where
      not_again : is_dir t row.1 ≡ true → is_entered done row.1 ≡ true → ⊥
      not_again dir h =
          let own = row_says t f row.0 row.1 (waiting_row done waiting row w) in
          elim (or_cases (row.1 == 0) (list_any (λ (r : Row). r.1 == row.1) done) h) [
            | inl root ↦ own.3 (eqb-true row.1 0 root)
            | inr some ↦ (let before = any_counted (λ (r : Row). r.1 == row.1) done some in
                let now : one (row.1 == row.1) ≡ 1 = ap one (eq-eqb row.1 row.1 refl) in
                let all = w (λ r. r.1 == row.1) in
                let few = count_more (λ (r : Row). is_entered done r.0.0 && (r.1 == row.1)) (λ r. r.1 == row.1) t.rows
                (λ r h. (and_parts (is_entered done r.0.0) (r.1 == row.1) h).1) in
                let only = once row.1 dir own.3 in
                omega (arith, before, now, all, few, only))
          ]

      one_by_one : (s : Spot) (x : ℕ) → find_key spot_cmp s t.rows ≡ Some x → not (is_entered done s.0 && (s.0 == row.1)) ≡ true
      one_by_one s x e =
          elim (is_entered done s.0 && (s.0 == row.1)) as (λ b. (is_entered done s.0 && (s.0 == row.1)) ≡ b → not b ≡ true) [
            | true ↦ λ h. (let both = and_parts _ _ h in
                let same = eqb-true s.0 row.1 both.1 in
                absurd (not_again (ap (is_dir t) (sym same) ∙ (row_says t f s x e).0) (ap (is_entered done) (sym same) ∙ both.0)))
            | false ↦ λ _. refl
          ] refl

  pub goes_on : (done waiting : List Row) (row : Row) → Walks done (row ∷ waiting) → Walks (done ++ row ∷ []) (rows_under t.rows row.1 ++ waiting)
  goes_on done waiting row w p =
      let a = count-append p done (row ∷ []) in
      let b = count-append p (rows_under t.rows row.1) waiting in
      let c = count-filter p (λ (r : Row). r.0.0 == row.1) t.rows in
      let all = w p in
      let both = count_either (λ (r : Row). is_entered done r.0.0) (λ r. r.0.0 == row.1) p t.rows (apart done waiting row w) in
      let same = count_same (λ (r : Row). is_entered (done ++ row ∷ []) r.0.0 && p r) (λ r. (is_entered done r.0.0 || (r.0.0 == row.1)) && p r)
      t.rows (λ r. ap (λ e. e && p r) (is_entered-push done row r.0.0 ∙ ap (λ e. is_entered done r.0.0 || e) (turned row.1 r.0.0))) in
      omega (arith, a, b, c, all, both, same)

  -- a walk that is long enough ends
  pub ends : (n : ℕ) (done waiting : List Row) → Walks done waiting → length t.rows ≤ n + length done →
      Walks (done ++ rows_from n t.rows waiting) []
  ends zero done [] w h = subst (λ ds. Walks ds []) (sym (append-nil done)) w
  ends zero done (row ∷ waiting) w h =
      let all = w (λ _. true) in
      let a = count-all done in
      let few = count_few (λ (r : Row). is_entered done r.0.0 && true) t.rows in
      absurd (omega (arith, all, a, few, h))
  ends (suc n) done [] w h = subst (λ ds. Walks ds []) (sym (append-nil done)) w
  ends (suc n) done (row ∷ waiting) w h =
      let more = length-append done (row ∷ []) in
      subst (λ ds. Walks ds []) (append_assoc done (row ∷ []) (rows_from n t.rows (rows_under t.rows row.1 ++ waiting)))
      (ends n (done ++ row ∷ []) (rows_under t.rows row.1 ++ waiting) (goes_on done waiting row w) (omega (arith, more, h)))

  pub all_waiting_enter : (n : ℕ) (done waiting : List Row) → Walks done waiting → all_enter done (rows_from n t.rows waiting) ≡ true
  all_waiting_enter zero done waiting w = refl
  all_waiting_enter (suc n) done [] w = refl
  all_waiting_enter (suc n) done (row ∷ waiting) w = and_from _ _ (waiting_enters done waiting row w)
      (all_waiting_enter n (done ++ row ∷ []) (rows_under t.rows row.1 ++ waiting) (goes_on done waiting row w))

  -- at its end each directory is entered
  pub entered : (done : List Row) → Walks done [] → (k d : ℕ) → Reaches t k d → is_dir t d ≡ true → is_entered done d ≡ true
  entered done w zero d r dir = or_left (d == 0) _ (eq-eqb d 0 r)
  entered done w (suc k) d r dir =
      let row = row_of t f d dir r.0 in
      let up = entered done w k (above t d) r.1 (above_dir t f d dir r.0) in
      let there = found_counted (λ (z : Row). is_entered done z.0.0 && (z.1 == d)) t.rows row.0 d row.1
      (and_from _ _ (ap (is_entered done) (sym row.2) ∙ up) (eq-eqb d d refl)) in
      or_right (d == 0) _ (counted_any (λ (z : Row). z.1 == d) done (omega (arith, w (λ z. z.1 == d), there)))

  all_entered : (done : List Row) → Walks done [] → list_all (λ row. is_entered done row.0.0) t.rows ≡ true
  all_entered done w = all_from_found spot_cmp spots_total exact_spots (λ row. is_entered done row.0.0) t.rows f.rows_sorted
      (λ s x e. (let dir = (row_says t f s x e).0 in
      elim (s.0 == 0) as (λ b. (s.0 == 0) ≡ b → is_entered done s.0 ≡ true) [
        | true ↦ λ z. or_left (s.0 == 0) _ z
        | false ↦ λ z. (let way = f.rooted s.0 dir (eqb-false s.0 0 z) in entered done w way.0 s.0 way.1 dir)
      ] refl))

  -- so it has each row once
  pub has_each_once : (done : List Row) → Walks done [] → (p : Row → Bool) → count p done ≡ count p t.rows
  has_each_once done w p = omega (arith, w p, count_where_all (λ (row : Row). is_entered done row.0.0) p t.rows (all_entered done w))

  order_walks : Walks (in_order t) []
  order_walks = ends (length t.rows) [] (rows_under t.rows 0) begins (omega arith)

  pub order_counts : (p : Row → Bool) → count p (in_order t) ≡ count p t.rows
  order_counts = has_each_once (in_order t) order_walks

  pub order_enters : all_enter [] (in_order t) ≡ true
  order_enters = all_waiting_enter (length t.rows) [] (rows_under t.rows 0) begins
