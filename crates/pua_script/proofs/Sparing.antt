-- Rows beside those that an edit is about stay, with their nodes.
use Rattle.pua_script.proofs.Common.{◌≡◌, ◌≢◌, ℕ, List, Bool, true, false, not, ◌&&◌, cond, refl, sym, ap, ◌∙◌, inl, inr, arith, Option}
use Rattle.pua_script.proofs.Common.{Some, None, Ok, Err, is_some, ◌==◌, nat_cmp, nat_cmp_total, nat_cmp-IsAntisymmetric, false≢true}
use Rattle.pua_script.proofs.Common.{eqb-true, eq-eqb, Tree, Node, WellFormed, Spot, is_dir, is_living, look, node_at, with_row}
use Rattle.pua_script.proofs.Common.{without_row, without_unnamed, with_new, add, tie, cut, cut_found, shift, shift_found, with_row_moved}
use Rattle.pua_script.proofs.Common.{is_full_dir, is_full_dir_there, is_inside, is_same_node, has_room, has_name_room, put_elsewhere}
use Rattle.pua_script.proofs.Common.{sound_from, ProcessState, cover, edit_effect, edited_tree, tree_left, object_in, has_c}
use Rattle.pua_tree.specs.Tree.{spot_cmp, rows_of}
use Rattle.pua_tree.specs.Edits.{without_node}
use Rattle.pua_tree.specs.declared.fault.TreeFault.TheVariants.{Missing, Taken, NotDir, NotEmpty, Inside, Full, IsDir}
use Rattle.pua_tree.proofs.ForCallers.{spots_total, exact_spots, tally_counts, tally_found, same_or_other, without_elsewhere}
use Rattle.pua_tree.proofs.ForCallers.{Some≢None, row_says}
use Rattle.pua_script.proofs.Covering.{IsThere}

module _ (t : Tree) (h : ProcessState) where
  -- rows that are not covered with `c` are there afterwards
  abbrev pub Spares : Tree → Type 0
  Spares u = (s : Spot) (x : ℕ) → look t s.0 s.1 ≡ Some x → has_c (cover t h (object_in t s x)) ≡ false → IsThere t u s x

  -- if something stands at the spot, it is covered with `c`
  abbrev pub SpotHasC : Spot → Type 0
  SpotHasC spot = (x : ℕ) → look t spot.0 spot.1 ≡ Some x → has_c (cover t h (object_in t spot x)) ≡ true

  pub spares_all : Spares t
  spares_all s x here lacks = (here, refl)

  other_spot : (s spot : Spot) (x : ℕ) → SpotHasC spot → look t s.0 s.1 ≡ Some x → has_c (cover t h (object_in t s x)) ≡ false → s ≢ spot
  other_spot s spot x has here lacks e =
      false≢true (sym lacks ∙ ap (λ r. has_c (cover t h (object_in t r x))) e ∙ has x (sym (ap (λ r. look t r.0 r.1) e) ∙ here))

  -- a node that has a row stays where nodes without a row go
  named_stays : (v : Tree) (s : Spot) (x y : ℕ) → look v s.0 s.1 ≡ Some x → node_at (without_unnamed v y) x ≡ node_at v x
  named_stays v s x y here = by (rows_of v y == 0) refl
    where
      by : (b : Bool) → (rows_of v y == 0) ≡ b → node_at (cond b (without_node v y) v) x ≡ node_at v x
      by false e = refl
      by true e = elim (same_or_other nat_cmp nat_cmp_total nat_cmp-IsAntisymmetric x y) [
        | inl same ↦ (let some = tally_found spot_cmp spots_total exact_spots (λ z. z == y) s x v.rows here (eq-eqb x y same.0) in
            let count = tally_counts (λ z. z == y) v.rows in
            let none = eqb-true (rows_of v y) 0 e in absurd (omega arith))
        | inr other ↦ without_elsewhere nat_cmp nat_cmp_total nat_cmp-IsAntisymmetric x y v.nodes other.0
      ]

  same_look : (v : Tree) (s : Spot) (y : ℕ) → look (without_unnamed v y) s.0 s.1 ≡ look v s.0 s.1
  same_look v s y = elim (rows_of v y == 0) as (λ b. look (cond b (without_node v y) v) s.0 s.1 ≡ look v s.0 s.1) [
    | true ↦ refl
    | false ↦ refl
  ]

  pub spares_add : WellFormed t → (dir : ℕ) (name : List ℕ) (node : Node) → Spares (tree_left t (edit_effect h (add t dir name node)))
  spares_add well dir name node = by (is_dir t dir) (look t dir name) (has_room t) refl
    where
      grown : look t dir name ≡ None → Spares (with_new t dir name node)
      grown free s x here lacks =
          let says = row_says t (sound_from t well) s x here in (
            put_elsewhere spot_cmp spots_total exact_spots s (
              dir,
              name,
            ) t.next t.rows (λ e. Some≢None x (sym here ∙ ap (λ r. look t r.0 r.1) e ∙ free)) ∙ here,
            put_elsewhere nat_cmp nat_cmp_total nat_cmp-IsAntisymmetric x t.next node t.nodes (old x says.2),
          )
        where
          old : (x : ℕ) → is_living t x ≡ true → x ≢ t.next
          old x lives e = living_below (node_at t x) refl lives
            where
              living_below : (o : Option Node) → node_at t x ≡ o → is_some o ≡ true → ⊥
              living_below None is l = false≢true l
              living_below (Some n) is l = let below = ((sound_from t well).node x n is).0 in absurd (omega arith)

      by : (a : Bool) (o : Option ℕ) (room : Bool) → look t dir name ≡ o →
          Spares (tree_left t (edit_effect h
          (cond (not a) (Err NotDir) (cond (is_some o) (Err Taken) (cond room (Ok (t.next, with_new t dir name node)) (Err Full))))))
      by false o room e = spares_all
      by true (Some y) room e = spares_all
      by true None false e = spares_all
      by true None true e = grown e

  pub spares_tie : (dir : ℕ) (name : List ℕ) (y : ℕ) → Spares (tree_left t (edited_tree h (tie t dir name y)))
  spares_tie dir name y = by (is_dir t dir) (is_living t y) (is_dir t y) (look t dir name) (has_name_room t) refl
    where
      named : look t dir name ≡ None → Spares (with_row t dir name y)
      named free s x here lacks = (
        put_elsewhere spot_cmp spots_total exact_spots s (dir, name) y t.rows (λ e. Some≢None x (sym here ∙ ap (λ r. look t r.0 r.1) e ∙
            free)) ∙ here,
        refl,
      )

      by : (a b c : Bool) (o : Option ℕ) (room : Bool) → look t dir name ≡ o →
          Spares (tree_left t (edited_tree h
          (cond (not a) (Err NotDir)
          (cond (not b) (Err Missing)
          (cond c (Err IsDir) (cond (is_some o) (Err Taken) (cond room (Ok (with_row t dir name y)) (Err Full))))))))
      by false b c o room e = spares_all
      by true false c o room e = spares_all
      by true true true o room e = spares_all
      by true true false (Some z) room e = spares_all
      by true true false None false e = spares_all
      by true true false None true e = named e

  pub spares_cut : (dir : ℕ) (name : List ℕ) → SpotHasC (dir, name) → Spares (tree_left t (edit_effect h (cut t dir name)))
  spares_cut dir name has = by (is_dir t dir) (look t dir name)
    where
      gone : (y : ℕ) → Spares (without_unnamed (without_row t dir name) y)
      gone y s x here lacks =
          let stays = without_elsewhere spot_cmp spots_total exact_spots s (dir, name) t.rows (other_spot s (dir, name) x has here lacks) ∙
          here in
          (same_look (without_row t dir name) s y ∙ stays, named_stays (without_row t dir name) s x y stays)

      found : (y : ℕ) (full : Bool) →
          Spares (tree_left t (edit_effect h (cond full (Err NotEmpty) (Ok (y, without_unnamed (without_row t dir name) y)))))
      found y true = spares_all
      found y false = gone y

      by : (a : Bool) (o : Option ℕ) → Spares (tree_left t (edit_effect h (cond (not a) (Err NotDir) (cut_found t dir name o))))
      by false o = spares_all
      by true None = spares_all
      by true (Some y) = found y (is_full_dir t y)

  pub spares_shift : (from to : ℕ) (name new_name : List ℕ) → SpotHasC (from, name) → SpotHasC (to, new_name) →
      Spares (tree_left t (edited_tree h (shift t from name to new_name)))
  spares_shift from to name new_name has has_new = by (is_dir t from && is_dir t to) (look t from name)
    where
      turned : (x : ℕ) (s : Spot) (z : ℕ) → look t s.0 s.1 ≡ Some z → has_c (cover t h (object_in t s z)) ≡ false →
          look (with_row (without_row t from name) to new_name x) s.0 s.1 ≡ Some z
      turned x s z here lacks =
          put_elsewhere spot_cmp spots_total exact_spots s (to, new_name) x (without_row t from name).rows (other_spot s (
            to,
            new_name,
          ) z has_new here lacks)
          ∙ without_elsewhere spot_cmp spots_total exact_spots s (from, name) t.rows (other_spot s (from, name) z has here lacks) ∙ here

      shifts : (x : ℕ) (there : Option ℕ) → Spares (with_row_moved t from name to new_name x there)
      shifts x None s z here lacks = (turned x s z here lacks, refl)
      shifts x (Some y) s z here lacks =
          let stays = turned x s z here lacks in (
            same_look (with_row (without_row t from name) to new_name x) s y ∙ stays,
            named_stays (with_row (without_row t from name) to new_name x) s z y stays,
          )

      found : (x : ℕ) (a b c : Bool) (there : Option ℕ) →
          Spares (tree_left t (edited_tree h
          (cond a (Ok t) (cond b (Err Inside) (cond c (Err NotEmpty) (Ok (with_row_moved t from name to new_name x there)))))))
      found x true b c there = spares_all
      found x false true c there = spares_all
      found x false false true there = spares_all
      found x false false false there = shifts x there

      by : (a : Bool) (o : Option ℕ) →
          Spares (tree_left t (edited_tree h (cond (not a) (Err NotDir) (shift_found t from name to new_name o (look t to new_name)))))
      by false o = spares_all
      by true None = spares_all
      by true (Some x) = found x (is_same_node x (look t to new_name)) (is_inside t x to) (is_full_dir_there t (look t to new_name))
          (look t to new_name)
