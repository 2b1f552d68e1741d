-- What edits at or below a root leave of a tree: the rows outside of it stay, and what is at or below it was, or is new.
use Rattle.pua_ever.proofs.Common.{◌≡◌, ◌≢◌, ◌⊎◌, ◌≤◌, ◌<◌, ℕ, zero, suc, List, Bool, true, false, cond, refl, sym, ap, subst, ◌∙◌, inl, inr}
use Rattle.pua_ever.proofs.Common.{arith, Option, Some, None, Ok, Err, is_some, not, ◌&&◌, ◌||◌, ◌==◌, nat_cmp, nat_cmp_total}
use Rattle.pua_ever.proofs.Common.{nat_cmp-IsAntisymmetric, false≢true, eq-eqb, eqb-true, same_Some, Tree, Node, WellFormed, Spot, spot_cmp}
use Rattle.pua_ever.proofs.Common.{is_dir, is_living, look, node_at, above, Reaches, sound_from, row_says, row_of, spots_total, exact_spots}
use Rattle.pua_ever.proofs.Common.{same_dir, CallTable, ProcessState, tree_left, is_below}
use Rattle.pua_tree.specs.Tree.{is_within}
use Rattle.pua_tree.specs.Edits.{with_row, without_row, without_unnamed, with_new, add, tie, cut, cut_found, shift, shift_found, with_row_moved}
use Rattle.pua_tree.specs.Edits.{is_full_dir, is_full_dir_there, is_inside, is_same_node, has_room, has_name_room}
use Rattle.pua_tree.specs.declared.fault.TreeFault.TheVariants.{Missing, Taken, NotDir, NotEmpty, Inside, Full, IsDir}
use Rattle.pua_tree.proofs.ForCallers.{above_dir, same_or_other, put_here, put_elsewhere, without_elsewhere}
use Rattle.pua_policy.specs.States.{new_process}
use Rattle.pua_script.specs.Replay.{edit_effect, edited_tree}
use Rattle.pua_ever.specs.EnclosedForEver.{KeepInside}
use Rattle.pua_objects.specs.Roots.{stays_in}
use Rattle.pua_ever.proofs.Covers.{living_dir, below_next}
use Rattle.pua_ever.proofs.Grown.{same_look, lives_same, same_next, at_or_not, was_there}
use Rattle.pua_ever.proofs.Inside.{goes_down, lives_within, root_within}
use Rattle.pua_ever.proofs.Quiet.{above_row, below_self, below_up, root_below, way_up}

-- ---- what is above a directory is not below it

-- the number of steps to the root is one
same_steps : (t : Tree) (j k d : ℕ) → Reaches t j d → Reaches t k d → j ≡ k
same_steps t zero zero d a b = refl
same_steps t zero (suc k) d a b = absurd (b.0 a)
same_steps t (suc j) zero d a b = absurd (a.0 b)
same_steps t (suc j) (suc k) d a b = ap suc (same_steps t j k (above t d) a.1 b.1)

-- a directory is not within another, if it is not below it
not_within : (t : Tree) (d root : ℕ) → is_below t root d ≡ false → is_within t d root ≡ false
not_within t d root out = by (is_dir t d)
  where
    by : (b : Bool) → (b && is_below t root d) ≡ false
    by true = out
    by false = refl

module _ (t : Tree) (well : WellFormed t) where
  -- from what is below another directory it takes no fewer steps
  no_fewer : (y j : ℕ) → Reaches t j y → (k d : ℕ) → Reaches t k d → is_dir t d ≡ true → is_below t y d ≡ true → j ≤ k
  no_fewer y j way zero d root is below = by (0 == y) refl
    where
      at_root : (j : ℕ) → Reaches t j y → y ≡ 0 → j ≤ 0
      at_root zero r e = omega arith
      at_root (suc j) r e = absurd (r.0 e)

      by : (b : Bool) → (0 == y) ≡ b → j ≤ 0
      by true e = at_root j way (sym (eqb-true 0 y e))
      by false e =
          let other : y ≢ 0 = λ z. false≢true (sym e ∙ eq-eqb 0 y (sym z)) in
          absurd (false≢true (sym (ap (is_below t y) root ∙ root_below t well y other) ∙ below))
  no_fewer y j way (suc k) d up is below = by (d == y) refl (no_fewer y j way k (above t d) up.1)
    where
      by : (b : Bool) → (d == y) ≡ b → (is_dir t (above t d) ≡ true → is_below t y (above t d) ≡ true → j ≤ k) → j ≤ suc k
      by true e more =
          let same : j ≡ suc k = same_steps t j (suc k) d (subst (Reaches t j) (sym (eqb-true d y e)) way) up in
          omega (arith, same)
      by false e more =
          let fewer = more (above_dir t (sound_from t well) d is up.0) (sym (below_up t well y d e up.0 is) ∙ below) in
          omega (arith, fewer)

  above_outside : (d : ℕ) → is_dir t d ≡ true → d ≢ 0 → is_below t d (above t d) ≡ false
  above_outside d is other = by (way_up t well 0 d is).0 (way_up t well 0 d is).1
    where
      at : (k : ℕ) → Reaches t k (above t d) → (b : Bool) → is_below t d (above t d) ≡ b → is_below t d (above t d) ≡ false
      at k way false e = e
      at k way true e =
          let fewer = no_fewer d (suc k) (other, way) k (above t d) way (above_dir t (sound_from t well) d is other) e in
          absurd (omega (arith, fewer))

      by : (k : ℕ) → Reaches t k d → is_below t d (above t d) ≡ false
      by zero way = absurd (other way)
      by (suc k) way = at k way.1 (is_below t d (above t d)) refl

  -- a directory that stands in a row is at or below another, and isn't that, where the row's directory is at or below it
  pub row_inside : (root : ℕ) (s : Spot) (x : ℕ) → look t s.0 s.1 ≡ Some x → is_dir t x ≡ true →
      (is_within t x root && not (x == root)) ≡ is_within t s.0 root
  row_inside root s x row is = by (x == root) refl
    where
      says : (is_dir t s.0 ≡ true) × (x ≢ 0)
      says = ((row_says t (sound_from t well) s x row).0, (row_says t (sound_from t well) s x row).3)

      above_is : above t x ≡ s.0
      above_is = above_row t well root s x row is

      none : (b : Bool) → (b && false) ≡ false
      none true = refl
      none false = refl

      all : (b : Bool) → (b && true) ≡ b
      all true = refl
      all false = refl

      by : (b : Bool) → (x == root) ≡ b → (is_within t x root && not (x == root)) ≡ is_within t s.0 root
      by true e =
          ap (λ b. is_within t x root && not b) e ∙ none (is_within t x root)
          ∙ sym (not_within t s.0 root (ap (λ y. is_below t y s.0) (sym (eqb-true x root e)) ∙ ap (is_below t x) (sym above_is)
          ∙ above_outside x is says.1))
      by false e =
          ap (λ b. is_within t x root && not b) e ∙ all (is_within t x root)
          ∙ (λ i. is i && below_up t well root x e says.1 is i)
          ∙ (λ i. sym says.0 i && is_below t root (above_is i))

-- ---- one edit

module _ (table : CallTable) (t : Tree) (h : ProcessState) (root : ℕ) (IsWay : Spot → Spot → ℕ → Type 0) where
  abbrev In : ℕ → Type 0
  In dir = is_within t dir root ≡ true

  -- it is new, or stood in a row at or below the root from where there was a way
  abbrev pub FromInside : Spot → ℕ → Type 0
  FromInside s x = (x ≡ t.next) ⊎ ((r : Spot) × (look t r.0 r.1 ≡ Some x) × (is_within t r.0 root ≡ true) × IsWay s r x)

  pub record Turns (u : Tree) : Type 0 where
    pub rows : (s : Spot) (x : ℕ) → look u s.0 s.1 ≡ Some x →
        (look t s.0 s.1 ≡ Some x) ⊎ ((is_within t s.0 root ≡ true) × FromInside s x)
    pub outer : (s : Spot) (x : ℕ) → look t s.0 s.1 ≡ Some x → is_within t s.0 root ≡ false → look u s.0 s.1 ≡ Some x
    pub nodes : (x : ℕ) → is_living u x ≡ true → (node_at u x ≡ node_at t x) ⊎ (x ≡ t.next)
    pub next : t.next ≤ u.next

  pub turns_none : Turns t
  turns_none = record { rows = λ s x e. inl e; outer = λ s x e out. e; nodes = λ x l. inl refl; next = omega arith }

  -- a spot outside of the root is none inside
  apart : (s : Spot) (dir : ℕ) (name : List ℕ) → In dir → is_within t s.0 root ≡ false → s ≡ (dir, name) → ⊥
  apart s dir name inner out same = false≢true (sym out ∙ ap (λ (r : Spot). is_within t r.0 root) same ∙ inner)

  pub turns_add : (dir : ℕ) (name : List ℕ) (node : Node) → In dir → Turns (tree_left t (edit_effect h (add t dir name node)))
  turns_add dir name node inner = by (is_dir t dir) (look t dir name) (has_room t)
    where
      turned : Turns (with_new t dir name node)
      turned = record {
        rows = λ s x e. elim (at_or_not table t h s (dir, name)) [
          | inl same ↦ inr (
            ap (λ (r : Spot). is_within t r.0 root) same ∙ inner,
            inl (same_Some x t.next (sym e ∙ ap (λ (r : Spot). look (with_new t dir name node) r.0 r.1) same ∙
                put_here spot_cmp spots_total exact_spots (dir, name) t.next t.rows)),
          )
          | inr other ↦ inl (sym (put_elsewhere spot_cmp spots_total exact_spots s (dir, name) t.next t.rows other) ∙ e)
        ];
        outer = λ s x e out. put_elsewhere spot_cmp spots_total exact_spots s (dir, name) t.next t.rows (apart s dir name inner out) ∙ e;
        nodes = λ x l. elim (same_or_other nat_cmp nat_cmp_total nat_cmp-IsAntisymmetric x t.next) [
          | inl same ↦ inr same.0
          | inr other ↦ inl (put_elsewhere nat_cmp nat_cmp_total nat_cmp-IsAntisymmetric x t.next node t.nodes other.0)
        ];
        next = omega arith;
      }

      by : (a : Bool) (o : Option ℕ) (room : Bool) →
          Turns (tree_left t (edit_effect h
          (cond (not a) (Err NotDir) (cond (is_some o) (Err Taken) (cond room (Ok (t.next, with_new t dir name node)) (Err Full))))))
      by false o room = turns_none
      by true (Some y) room = turns_none
      by true None false = turns_none
      by true None true = turned

  pub turns_tie : (dir : ℕ) (name : List ℕ) (x : ℕ) → In dir → FromInside (dir, name) x →
      Turns (tree_left t (edited_tree h (tie t dir name x)))
  turns_tie dir name y inner from = by (is_dir t dir) (is_living t y) (is_dir t y) (look t dir name) (has_name_room t)
    where
      turned : Turns (with_row t dir name y)
      turned = record {
        rows = λ s x e. elim (at_or_not table t h s (dir, name)) [
          | inl same ↦ (let is : y ≡ x = same_Some y x (sym (put_here spot_cmp spots_total exact_spots (dir, name) y t.rows) ∙
              ap (λ (r : Spot). look (with_row t dir name y) r.0 r.1) (sym same) ∙ e) in
              inr (
                ap (λ (r : Spot). is_within t r.0 root) same ∙ inner,
                subst (λ (r : Spot). FromInside r x) (sym same) (subst (FromInside (dir, name)) is from),
              ))
          | inr other ↦ inl (sym (put_elsewhere spot_cmp spots_total exact_spots s (dir, name) y t.rows other) ∙ e)
        ];
        outer = λ s x e out. put_elsewhere spot_cmp spots_total exact_spots s (dir, name) y t.rows (apart s dir name inner out) ∙ e;
        nodes = λ x l. inl refl;
        next = omega arith;
      }

      by : (a b c : Bool) (o : Option ℕ) (room : Bool) →
          Turns (tree_left t (edited_tree h
          (cond (not a) (Err NotDir)
          (cond (not b) (Err Missing)
          (cond c (Err IsDir) (cond (is_some o) (Err Taken) (cond room (Ok (with_row t dir name y)) (Err Full))))))))
      by false b c o room = turns_none
      by true false c o room = turns_none
      by true true true o room = turns_none
      by true true false (Some z) room = turns_none
      by true true false None false = turns_none
      by true true false None true = turned

  pub turns_cut : (dir : ℕ) (name : List ℕ) → In dir → Turns (tree_left t (edit_effect h (cut t dir name)))
  turns_cut dir name inner = by (is_dir t dir) (look t dir name)
    where
      gone : (y : ℕ) → Turns (without_unnamed (without_row t dir name) y)
      gone y = record {
        rows = λ s x e. inl (was_there table t h (dir, name) s x (sym (same_look table t h (without_row t dir name) s y) ∙ e));
        outer = λ s x e out. same_look table t h (without_row t dir name) s y ∙
            without_elsewhere spot_cmp spots_total exact_spots s (dir, name) t.rows (apart s dir name inner out) ∙ e;
        nodes = λ x l. inl (lives_same table t h (without_row t dir name) x y l);
        next = let same = same_next table t h (without_row t dir name) y in omega arith;
      }

      found : (y : ℕ) (full : Bool) →
          Turns (tree_left t (edit_effect h (cond full (Err NotEmpty) (Ok (y, without_unnamed (without_row t dir name) y)))))
      found y true = turns_none
      found y false = gone y

      by : (a : Bool) (o : Option ℕ) → Turns (tree_left t (edit_effect h (cond (not a) (Err NotDir) (cut_found t dir name o))))
      by false o = turns_none
      by true None = turns_none
      by true (Some y) = found y (is_full_dir t y)

  module _ (from to : ℕ) (name new_name : List ℕ) (inner : In from) (inner_to : In to) (x : ℕ) (here : look t from name ≡ Some x)
      (way : IsWay (to, new_name) (from, name) x) where
    abbrev turned : Tree
    turned = with_row (without_row t from name) to new_name x

    rows_turned : (s : Spot) (z : ℕ) → look turned s.0 s.1 ≡ Some z →
        (look t s.0 s.1 ≡ Some z) ⊎ ((is_within t s.0 root ≡ true) × FromInside s z)
    rows_turned s z e = elim (at_or_not table t h s (to, new_name)) [
      | inl same ↦ (let is : x ≡ z =
          same_Some x z (sym (put_here spot_cmp spots_total exact_spots (to, new_name) x (without_row t from name).rows) ∙
          ap (λ (r : Spot). look turned r.0 r.1) (sym same) ∙ e) in
          inr (
            ap (λ (r : Spot). is_within t r.0 root) same ∙ inner_to,
            subst (λ (r : Spot). FromInside r z) (sym same) (subst (FromInside (to, new_name)) is (inr ((from, name), here, inner, way))),
          ))
      | inr other ↦ inl (was_there table t h (from, name) s z
          (sym (put_elsewhere spot_cmp spots_total exact_spots s (to, new_name) x (without_row t from name).rows other) ∙ e))
    ]

    outer_turned : (s : Spot) (z : ℕ) → look t s.0 s.1 ≡ Some z → is_within t s.0 root ≡ false → look turned s.0 s.1 ≡ Some z
    outer_turned s z e out =
        put_elsewhere spot_cmp spots_total exact_spots s (to, new_name) x (without_row t from name).rows (apart s to new_name inner_to out)
        ∙ without_elsewhere spot_cmp spots_total exact_spots s (from, name) t.rows (apart s from name inner out) ∙ e

    shifts : (there : Option ℕ) → Turns (with_row_moved t from name to new_name x there)
    shifts None = record { rows = rows_turned; outer = outer_turned; nodes = λ z l. inl refl; next = omega arith }
    shifts (Some y) = record {
      rows = λ s z e. rows_turned s z (sym (same_look table t h turned s y) ∙ e);
      outer = λ s z e out. same_look table t h turned s y ∙ outer_turned s z e out;
      nodes = λ z l. inl (lives_same table t h turned z y l);
      next = let same = same_next table t h turned y in omega arith;
    }

    shifts_found : (a b c : Bool) (there : Option ℕ) →
        Turns (tree_left t (edited_tree h
        (cond a (Ok t) (cond b (Err Inside) (cond c (Err NotEmpty) (Ok (with_row_moved t from name to new_name x there)))))))
    shifts_found true b c there = turns_none
    shifts_found false true c there = turns_none
    shifts_found false false true there = turns_none
    shifts_found false false false there = shifts there

  pub turns_shift : (from to : ℕ) (name new_name : List ℕ) → In from → In to →
      ((x : ℕ) → look t from name ≡ Some x → IsWay (to, new_name) (from, name) x) → Turns (tree_left t (edited_tree h (shift t from name to new_name)))
  turns_shift from to name new_name inner inner_to way = by (is_dir t from && is_dir t to) (look t from name) refl
    where
      by : (a : Bool) (o : Option ℕ) → look t from name ≡ o →
          Turns (tree_left t (edited_tree h (cond (not a) (Err NotDir) (shift_found t from name to new_name o (look t to new_name)))))
      by false o e = turns_none
      by true None e = turns_none
      by true (Some x) e =
          shifts_found from to name new_name inner inner_to x e (way x e) (is_same_node x (look t to new_name)) (is_inside t x to)
          (is_full_dir_there t (look t to new_name)) (look t to new_name)

-- ---- what is at or below the root after such an edit

module _ (table : CallTable) (t u : Tree) (h : ProcessState) (root : ℕ) (well : WellFormed t) (well_then : WellFormed u)
    (lives : is_dir t root ≡ true) (IsWay : Spot → Spot → ℕ → Type 0) (turns : Turns table t h root IsWay u) where
  given : (x : ℕ) → is_living t x ≡ true → x < t.next
  given x l = below_next t h well x l

  -- a directory of then was one, or is new
  was_or_new : (d : ℕ) → is_dir u d ≡ true → (is_dir t d ≡ true) ⊎ (d ≡ t.next)
  was_or_new d is = elim (turns.nodes d (living_dir u h well_then d is)) [
    | inl same ↦ inl (sym (same_dir t u d same) ∙ is)
    | inr new ↦ inr new
  ]

  -- what stood in a row and is a directory was one
  was_dir : (r : Spot) (d : ℕ) → look t r.0 r.1 ≡ Some d → is_dir u d ≡ true → is_dir t d ≡ true
  was_dir r d row is = elim (was_or_new d is) [
    | inl was ↦ was
    | inr new ↦ (let below = given d (row_says t (sound_from t well) r d row).2 in absurd (omega (arith, below, new)))
  ]

  -- the root stays where it is
  pub root_stays : is_dir u root ≡ true
  root_stays = by (root == 0) refl
    where
      by : (b : Bool) → (root == 0) ≡ b → is_dir u root ≡ true
      by true e = ap (is_dir u) (eqb-true root 0 e) ∙ well_then.root
      by false e =
          let other : root ≢ 0 = λ z. false≢true (sym e ∙ eq-eqb root 0 z) in
          let row = row_of t (sound_from t well) root lives other in
          let out = not_within t row.0.0 root (ap (is_below t root) (sym row.2) ∙ above_outside t well root lives other) in
          let row_then = turns.outer row.0 root row.1 out in
          let living = (row_says u (sound_from u well_then) row.0 root row_then).2 in
          elim (turns.nodes root living) [
            | inl same ↦ same_dir t u root same ∙ lives
            | inr new ↦ (let below = given root (living_dir t h well root lives) in absurd (omega (arith, below, new)))
          ]

  abbrev pub Fate : ℕ → Type 0
  Fate d = ((is_dir t d ≡ true) × (is_within u d root ≡ is_within t d root)) ⊎ ((d ≡ t.next) × (is_within u d root ≡ true))

  at_top : is_within u 0 root ≡ is_within t 0 root
  at_top = by (0 == root) refl
    where
      both : is_below u root 0 ≡ is_below t root 0 → is_within u 0 root ≡ is_within t 0 root
      both same = ap (λ b. b && is_below u root 0) well_then.root ∙ same ∙ sym (ap (λ b. b && is_below t root 0) well.root)

      by : (b : Bool) → (0 == root) ≡ b → is_within u 0 root ≡ is_within t 0 root
      by true e = both (below_self u well_then root 0 e well_then.root ∙ sym (below_self t well root 0 e well.root))
      by false e =
          let other : root ≢ 0 = λ z. false≢true (sym e ∙ eq-eqb 0 root (sym z)) in
          both (root_below u well_then root other ∙ sym (root_below t well root other))

  -- a directory is within as that above it is
  as_above : (v : Tree) (good : WellFormed v) (d : ℕ) → is_dir v d ≡ true → d ≢ 0 → (d == root) ≡ false →
      is_within v d root ≡ is_within v (above v d) root
  as_above v good d is below other =
      ap (λ b. b && is_below v root d) is ∙ below_up v good root d other below is
      ∙ sym (ap (λ b. b && is_below v root (above v d)) (above_dir v (sound_from v good) d is below))

  fate_in : (steps d : ℕ) → Reaches u steps d → is_dir u d ≡ true → Fate d
  fate_in zero d top is = subst Fate (sym top) (inl (well.root, at_top))
  fate_in (suc steps) d up is =
      by (d == root) refl (fate_in steps (above u d) up.1 (above_dir u (sound_from u well_then) d is up.0))
    where
      row : (s : Spot) × (look u s.0 s.1 ≡ Some d) × (above u d ≡ s.0)
      row = row_of u (sound_from u well_then) d is up.0

      -- that of the row is within, if it was
      over_in : Fate (above u d) → is_within t row.0.0 root ≡ true → is_within u (above u d) root ≡ true
      over_in (inl same) inner = same.1 ∙ ap (λ e. is_within t e root) row.2 ∙ inner
      over_in (inr new) inner = new.1

      stayed : (d == root) ≡ false → Fate (above u d) → look t row.0.0 row.0.1 ≡ Some d → Fate d
      stayed other (inl same) there =
          let was = was_dir row.0 d there is in
          inl (
            was,
            as_above u well_then d is up.0 other ∙ same.1
                ∙ ap (λ e. is_within t e root) (row.2 ∙ sym (above_row t well root row.0 d there was))
                ∙ sym (as_above t well d was up.0 other),
          )
      stayed other (inr new) there =
          let below = given row.0.0 (living_dir t h well row.0.0 (row_says t (sound_from t well) row.0 d there).0) in
          let is_new : row.0.0 ≡ t.next = sym row.2 ∙ new.0 in
          absurd (omega (arith, below, is_new))

      came : (d == root) ≡ false → Fate (above u d) → is_within t row.0.0 root ≡ true → FromInside table t h root IsWay row.0 d → Fate d
      came other over inner (inl new) = inr (new, as_above u well_then d is up.0 other ∙ over_in over inner)
      came other over inner (inr from) =
          let was = was_dir from.0 d from.1 is in
          inl (
            was,
            as_above u well_then d is up.0 other ∙ over_in over inner
                ∙ sym (goes_down t well root lives from.0 d from.1 was from.2),
          )

      by : (b : Bool) → (d == root) ≡ b → Fate (above u d) → Fate d
      by true same over =
          subst Fate (sym (eqb-true d root same))
          (inl (lives, root_within u well_then root root_stays ∙ sym (root_within t well root lives)))
      by false other over = elim (turns.rows row.0 d row.1) [
        | inl there ↦ stayed other over there
        | inr put ↦ came other over put.0 put.1
      ]

  pub fate : (d : ℕ) → is_dir u d ≡ true → Fate d
  fate d is = let way = way_up u well_then 0 d is in fate_in way.0 d way.1 is

  -- what stays in the root stays so
  pub still_stays : (d : ℕ) → stays_in t root d ≡ true → stays_in u root d ≡ true
  still_stays d stays = by (is_dir u d) refl
    where
      by : (b : Bool) → is_dir u d ≡ b → stays_in u root d ≡ true
      by false e = ap (λ b. not b || is_within u d root) e
      by true e = ap (λ b. not b || is_within u d root) e ∙ elim (fate d e) [
        | inl same ↦ same.1 ∙ sym (ap (λ b. not b || is_within t d root) same.0) ∙ stays
        | inr new ↦ new.1
      ]

  pub keeps_inside : KeepInside root t u
  keeps_inside = record {
    rows = turns.outer;
    dirs = λ d is. elim (fate d is) [ inl same ↦ inl same | inr new ↦ inr (let n = new.0 in omega (arith, n), new.1) ];
    names = λ s x e inner. elim (turns.rows s x e) [
      | inr put ↦ elim put.1 [ inl new ↦ inl (omega (arith, new)) | inr from ↦ inr (from.0, from.1, from.2) ]
      | inl there ↦ (let lived = (row_says t (sound_from t well) s x there).0 in
          elim (fate s.0 (lives_within u well_then root root_stays s.0 inner)) [
            | inl same ↦ inr (s, there, sym same.1 ∙ inner)
            | inr new ↦ (let below = given s.0 (living_dir t h well s.0 lived) in let n = new.0 in absurd (omega (arith, below, n)))
          ])
    ];
    next = turns.next;
  }

-- ---- one list of edits after another

pub keep_none : (root : ℕ) (t : Tree) → KeepInside root t t
keep_none root t = record { rows = λ s x e out. e; dirs = λ d is. inl (is, refl); names = λ s x e inner. inr (s, e, inner); next = omega arith }

pub keep_both : (root : ℕ) (t u v : Tree) → WellFormed t → WellFormed u → KeepInside root t u → KeepInside root u v → KeepInside root t v
keep_both root t u v well well_then first more = record {
  rows = λ s x e out. more.rows s x (first.rows s x e out) (still_out s x e out (first.rows s x e out));
  dirs = λ d is. elim (more.dirs d is) [
    | inl same ↦ elim (first.dirs d same.0) [
      | inl before ↦ inl (before.0, same.1 ∙ before.1)
      | inr new ↦ inr (new.0, same.1 ∙ new.1)
    ]
    | inr new ↦ (let from = new.0 in let less = first.next in inr (omega (arith, from, less), new.1))
  ];
  names = λ s x e inner. elim (more.names s x e inner) [
    | inl new ↦ (let less = first.next in inl (omega (arith, new, less)))
    | inr from ↦ first.names from.0 x from.1 from.2
  ];
  next = let a = first.next in let b = more.next in omega (arith, a, b);
}
  where
    still_out : (s : Spot) (x : ℕ) → look t s.0 s.1 ≡ Some x → is_within t s.0 root ≡ false → look u s.0 s.1 ≡ Some x →
        is_within u s.0 root ≡ false
    still_out s x e out row = elim (first.dirs s.0 (row_says u (sound_from u well_then) s x row).0) [
      | inl same ↦ same.1 ∙ out
      | inr new ↦ (let below = below_next t new_process well s.0 (living_dir t new_process well s.0 (row_says t (sound_from t well) s x e).0) in
          let from = new.0 in absurd (omega (arith, below, from)))
    ]
