-- What an edit leaves of devices.
use Rattle.pua_tree.proofs.Common.{◌≡◌, ◌≢◌, ℕ, zero, suc, ◌≤◌, ◌<◌, Bool, true, false, not, ◌&&◌, cond, List, length, Option, Some, None}
use Rattle.pua_tree.proofs.Common.{option_map, unwrap_or, Ok, Err, is_some, ◌==◌, refl, sym, ap, subst, ◌∙◌, arith, inl, inr, nat_cmp, nat_cmp_total}
use Rattle.pua_tree.proofs.Common.{nat_cmp-IsAntisymmetric, and_parts, false≢true, Node, Spot, Tree, WellFormed, spot_cmp, is_dir, is_dir_kind}
use Rattle.pua_tree.proofs.Common.{is_living, look, above, climb_within, with_row, without_row, without_unnamed, with_row_moved}
use Rattle.std.proofs.lemmas.Bool.{not-false}
use Rattle.std.specs.FinMap.{find as find_key}
use Rattle.pua_tree.specs.Tree.{node_at, climb, rows_of, is_mount, first_mount, device}
use Rattle.pua_tree.specs.Edits.{without_node, with_new, add, tie, cut, cut_found, shift, shift_found, is_full_dir, is_inside, is_same_node}
use Rattle.pua_tree.specs.Edits.{is_full_dir_there, has_room, has_name_room}
use Rattle.pua_tree.specs.Laws.{KeepsDevices, EditsKeepDevices}
use Rattle.pua_tree.specs.declared.fault.TreeFault.TheVariants.{Missing, Taken, NotDir, NotEmpty, Inside, Full, IsDir}
use Rattle.pua_tree.proofs.Base.{same_Some, Some≢None, same_Ok, past, tested}
use Rattle.pua_tree.proofs.Content.{spots_total, exact_spots}
use Rattle.pua_tree.proofs.Tallies.{same_or_other, put_here, put_elsewhere, without_here, without_elsewhere}
use Rattle.pua_tree.proofs.Mounts.{first_here, first_more}
use Rattle.pua_tree.proofs.Sound.{Sound, Reaches, InRow, sound_from, row_says, row_of, above_is, above_dir, climb_ends}
use Rattle.pua_tree.proofs.EditsKeep.{edits_keep_trees, is_living_dir, next_is_new}

-- what is found from the directory above is found from one, if no file system is mounted there
steadily : (t : Tree) (n d : ℕ) → d ≢ 0 →
    first_mount t (climb_within n t (above t d)) ≡ first_mount t (climb_within (suc n) t (above t d)) → (b : Bool) → is_mount t d ≡ b →
    first_mount t (climb_within (suc n) t d) ≡ first_mount t (climb_within (suc (suc n)) t d)
steadily t n d other up true here = first_here t (suc n) d here ∙ sym (first_here t (suc (suc n)) d here)
steadily t n d other up false none = first_more t n d none other ∙ up ∙ sym (first_more t (suc n) d none other)

-- a climb that reaches the root finds the same, whatever steps are left
steady : (t : Tree) (k n d : ℕ) → k ≤ n → Reaches t k d →
    first_mount t (climb_within n t d) ≡ first_mount t (climb_within (suc n) t d)
steady t zero zero d l r = ap (λ e. first_mount t (climb_within 0 t e)) r ∙ sym (ap (λ e. first_mount t (climb_within 1 t e)) r)
steady t zero (suc n) d l r = ap (λ e. first_mount t (climb_within (suc n) t e)) r ∙ sym (ap (λ e. first_mount t (climb_within (suc (suc n)) t e)) r)
steady t (suc k) zero d l r = absurd (omega arith)
steady t (suc k) (suc n) d l r = steadily t n d r.0 (steady t k n (above t d) (omega arith) r.1) (is_mount t d) refl

-- the device of a directory is the directory itself, where a file system is mounted, and else that of the one above
module _ (t : Tree) (f : Sound t) where
  pub device_here : (d : ℕ) → is_dir t d ≡ true → is_mount t d ≡ true → device t d ≡ d
  device_here d dir here = ap (λ b. cond b (first_mount t (climb t d)) 0) dir ∙ first_here t (length t.nodes) d here

  pub device_root : device t 0 ≡ 0
  device_root = by (is_dir t 0) (length t.nodes) (is_mount t 0)
    where
      last : (b : Bool) → ◌≡◌ {A = ℕ} (cond b 0 0) 0
      last true = refl
      last false = refl

      by : (a : Bool) (n : ℕ) (b : Bool) → ◌≡◌ {A = ℕ} (cond a (first_mount t (climb_within n t 0)) 0) 0
      by false n b = refl
      by true zero b = last (is_mount t 0)
      by true (suc n) b = last (is_mount t 0)

  up : (n k d : ℕ) → k < n → d ≢ 0 → is_mount t d ≡ false → Reaches t k (above t d) →
      first_mount t (climb_within (suc n) t d) ≡ first_mount t (climb_within (suc n) t (above t d))
  up n k d l other none r = first_more t n d none other ∙ steady t k n (above t d) (omega arith) r

  pub device_up : (d : ℕ) → is_dir t d ≡ true → d ≢ 0 → is_mount t d ≡ false → device t d ≡ device t (above t d)
  device_up d dir other none =
      let way = f.rooted d dir other in
      ap (λ b. cond b (first_mount t (climb t d)) 0) dir
      ∙ by (length t.nodes) way.0 way.1 (climb_ends t f d dir way.0 way.1)
      ∙ sym (ap (λ b. cond b (first_mount t (climb t (above t d))) 0) (above_dir t f d dir other))
    where
      by : (n k : ℕ) → Reaches t k d → k < n → first_mount t (climb_within n t d) ≡ first_mount t (climb_within n t (above t d))
      by zero k r l = absurd (omega arith)
      by (suc n) zero r l = absurd (other r)
      by (suc n) (suc k) r l = up n k d (omega arith) other none r.1

-- where each directory that lives on is the node that it was, and stands in a directory of its device, devices stay
module _ (t u : Tree) (f : Sound t) (g : Sound u)
    (same : (d : ℕ) → is_dir t d ≡ true → is_dir u d ≡ true → node_at u d ≡ node_at t d)
    (near : (s : Spot) (d : ℕ) → is_dir t d ≡ true → is_dir u d ≡ true → InRow u s d →
    (is_dir t s.0 ≡ true) × (is_mount t d ≡ false → device t s.0 ≡ device t d)) where
  by_mark : (d : ℕ) → is_dir t d ≡ true → is_dir u d ≡ true → d ≢ 0 →
      (is_mount t d ≡ false → device u (above u d) ≡ device t d) → (b : Bool) → is_mount t d ≡ b → device u d ≡ device t d
  by_mark d was is other up true here =
      device_here u g d is (ap (λ o. unwrap_or (option_map (λ (n : Node). n.mount) o) false) (same d was is) ∙ here) ∙
      sym (device_here t f d was here)
  by_mark d was is other up false none =
      device_up u g d is other (ap (λ o. unwrap_or (option_map (λ (n : Node). n.mount) o) false) (same d was is) ∙ none) ∙ up none

  from : (k d : ℕ) → Reaches u k d → is_dir t d ≡ true → is_dir u d ≡ true → device u d ≡ device t d
  from zero d r was is =
      ap (device u) r ∙ device_root u g ∙ sym (ap (device t) r ∙ device_root t f)
  from (suc k) d r was is =
      let row = row_of u g d is r.0 in
      let at = near row.0 d was is row.1 in
      let up = from k (above u d) r.1 (ap (is_dir t) row.2 ∙ at.0) (above_dir u g d is r.0) in
      by_mark d was is r.0 (λ none. up ∙ ap (device t) row.2 ∙ at.1 none) (is_mount t d) refl

  pub keeps : KeepsDevices t u
  keeps d was is = elim (same_or_other nat_cmp nat_cmp_total nat_cmp-IsAntisymmetric d 0) [
    | inl root ↦ ap (device u) root.0 ∙ device_root u g ∙ sym (ap (device t) root.0 ∙ device_root t f)
    | inr other ↦ (let way = g.rooted d is other.0 in from way.0 d way.1 was is)
  ]

-- a row that was there
module _ (t : Tree) (f : Sound t) where
  was_near : (s : Spot) (d : ℕ) → is_dir t d ≡ true → InRow t s d → (is_dir t s.0 ≡ true) × (is_mount t d ≡ false → device t s.0 ≡ device t d)
  was_near s d dir row =
      let says = row_says t f s d row in (
        says.0,
        λ none.
            ap (device t) (sym (above_is t d s says.3 (f.once d dir says.3) row)) ∙ sym (device_up t f d dir says.3 none),
      )

  was_row : (at s : Spot) (x : ℕ) → find_key spot_cmp s (without_row t at.0 at.1).rows ≡ Some x → InRow t s x
  was_row at s x e = elim (same_or_other spot_cmp spots_total exact_spots s at) [
    | inl here ↦ absurd (Some≢None x (sym e ∙ ap (λ r. find_key spot_cmp r (without_row t at.0 at.1).rows) here.0 ∙
        without_here spot_cmp spots_total exact_spots at t.rows))
    | inr other ↦ sym (without_elsewhere spot_cmp spots_total exact_spots s at t.rows other.0) ∙ e
  ]

-- nodes that are left are those that were
left_node : (v : Tree) (y d : ℕ) → is_dir (without_unnamed v y) d ≡ true → node_at (without_unnamed v y) d ≡ node_at v d
left_node v y d = by (rows_of v y == 0)
  where
    by : (b : Bool) → is_dir (cond b (without_node v y) v) d ≡ true → node_at (cond b (without_node v y) v) d ≡ node_at v d
    by false is = refl
    by true is = elim (same_or_other nat_cmp nat_cmp_total nat_cmp-IsAntisymmetric d y) [
      | inl same ↦ absurd (false≢true (ap (λ o. is_dir_kind (option_map (λ (n : Node). n.kind) o))
          (sym (ap (node_at (without_node v y)) same.0 ∙ without_here nat_cmp nat_cmp_total nat_cmp-IsAntisymmetric y v.nodes)) ∙ is))
      | inr other ↦ without_elsewhere nat_cmp nat_cmp_total nat_cmp-IsAntisymmetric d y v.nodes other.0
    ]

left_rows : (v : Tree) (y : ℕ) → (without_unnamed v y).rows ≡ v.rows
left_rows v y = elim (rows_of v y == 0) as (λ b. (cond b (without_node v y) v).rows ≡ v.rows) [ true ↦ refl | false ↦ refl ]

adding : (t after : Tree) (dir x : ℕ) (name : List ℕ) (node : Node) → WellFormed t → WellFormed after → add t dir name node ≡ Ok (x, after) →
    KeepsDevices t after
adding t after dir x name node w v e =
    let a = past (not (is_dir t dir)) NotDir _ (x, after) e in
    let b = past (is_some (look t dir name)) Taken _ (x, after) a.1 in
    let is : with_new t dir name node ≡ after = ap (λ (p : ℕ × Tree). p.1) (tested (has_room t) Full (t.next, with_new t dir name node) (x, after) b.1).1 in
    subst (KeepsDevices t) is (keeps t (with_new t dir name node) f (sound_from _ (subst WellFormed (sym is) v)) same near)
  where
    f : Sound t
    f = sound_from t w

    old : (d : ℕ) → is_dir t d ≡ true → d ≢ t.next
    old d dir new = false≢true (sym (next_is_new t f) ∙ ap (is_living t) (sym new) ∙ is_living_dir t d dir)

    same : (d : ℕ) → is_dir t d ≡ true → is_dir (with_new t dir name node) d ≡ true → node_at (with_new t dir name node) d ≡ node_at t d
    same d was is = put_elsewhere nat_cmp nat_cmp_total nat_cmp-IsAntisymmetric d t.next node t.nodes (old d was)

    near : (s : Spot) (d : ℕ) → is_dir t d ≡ true → is_dir (with_new t dir name node) d ≡ true → InRow (with_new t dir name node) s d →
        (is_dir t s.0 ≡ true) × (is_mount t d ≡ false → device t s.0 ≡ device t d)
    near s d was is row = elim (same_or_other spot_cmp spots_total exact_spots s (dir, name)) [
      | inl here ↦ absurd (old d was (sym (same_Some t.next d (sym (put_here spot_cmp spots_total exact_spots (dir, name) t.next t.rows) ∙
          ap (λ r. find_key spot_cmp r (with_new t dir name node).rows) (sym here.0) ∙ row))))
      | inr other ↦ was_near t f s d was (sym (put_elsewhere spot_cmp spots_total exact_spots s (dir, name) t.next t.rows other.0) ∙ row)
    ]

tying : (t after : Tree) (dir x : ℕ) (name : List ℕ) → WellFormed t → WellFormed after → tie t dir name x ≡ Ok after → KeepsDevices t after
tying t after dir x name w v e =
    let a = past (not (is_dir t dir)) NotDir _ after e in
    let b = past (not (is_living t x)) Missing _ after a.1 in
    let c = past (is_dir t x) IsDir _ after b.1 in
    let d = past (is_some (look t dir name)) Taken _ after c.1 in
    let is : with_row t dir name x ≡ after = (tested (has_name_room t) Full (with_row t dir name x) after d.1).1 in
    subst (KeepsDevices t) is (keeps t (with_row t dir name x) f (sound_from _ (subst WellFormed (sym is) v)) (λ d was is. refl) (near c.0))
  where
    f : Sound t
    f = sound_from t w

    near : is_dir t x ≡ false → (s : Spot) (d : ℕ) → is_dir t d ≡ true → is_dir (with_row t dir name x) d ≡ true → InRow (with_row t dir name x) s d →
        (is_dir t s.0 ≡ true) × (is_mount t d ≡ false → device t s.0 ≡ device t d)
    near none s d was is row = elim (same_or_other spot_cmp spots_total exact_spots s (dir, name)) [
      | inl here ↦ absurd (false≢true (sym none ∙ ap (is_dir t) (same_Some x d (sym (put_here spot_cmp spots_total exact_spots (dir, name) x t.rows) ∙
          ap (λ r. find_key spot_cmp r (with_row t dir name x).rows) (sym here.0) ∙ row)) ∙ was))
      | inr other ↦ was_near t f s d was (sym (put_elsewhere spot_cmp spots_total exact_spots s (dir, name) x t.rows other.0) ∙ row)
    ]

cutting : (t after : Tree) (dir x : ℕ) (name : List ℕ) → WellFormed t → WellFormed after → cut t dir name ≡ Ok (x, after) → KeepsDevices t after
cutting t after dir x name w v e = found (look t dir name) (past (not (is_dir t dir)) NotDir _ (x, after) e).1
  where
    f : Sound t
    f = sound_from t w

    found : (o : Option ℕ) → cut_found t dir name o ≡ Ok (x, after) → KeepsDevices t after
    found None h = absurd (cc)
    found (Some y) h =
        let left = without_unnamed (without_row t dir name) y in
        let is : left ≡ after = ap (λ (p : ℕ × Tree). p.1) (same_Ok (y, left) (x, after) (past (is_full_dir t y) NotEmpty _ (x, after) h).1) in
        subst (KeepsDevices t) is (keeps t left f (sound_from left (subst WellFormed (sym is) v))
        (λ d was lives. left_node (without_row t dir name) y d lives)
        (λ s d was lives row. was_near t f s d was (was_row t f (dir, name) s d
        (ap (find_key spot_cmp s) (sym (left_rows (without_row t dir name) y)) ∙ row))))

-- a directory moves on its own device
shifting : (t after : Tree) (from to : ℕ) (name new_name : List ℕ) → WellFormed t → WellFormed after → shift t from name to new_name ≡ Ok after →
    ((x : ℕ) → look t from name ≡ Some x → is_dir t x ≡ true → device t x ≡ device t to) → KeepsDevices t after
shifting t after from to name new_name w v e near = found (look t from name) refl start.1
  where
    f : Sound t
    f = sound_from t w

    start : (not (is_dir t from && is_dir t to) ≡ false) × (shift_found t from name to new_name (look t from name) (look t to new_name)
        ≡ Ok after)
    start = past (not (is_dir t from && is_dir t to)) NotDir _ after e

    in_dir : is_dir t to ≡ true
    in_dir = (and_parts (is_dir t from) (is_dir t to) (not-false _ start.0)).1

    found : (o : Option ℕ) → look t from name ≡ o → shift_found t from name to new_name o (look t to new_name) ≡ Ok after → KeepsDevices t after
    found None is h = absurd (cc)
    found (Some x) is h = moves (look t to new_name) h
      where
        moved : Tree
        moved = with_row (without_row t from name) to new_name x

        -- a row of the tree with the row moved
        beside : (s : Spot) (d : ℕ) → is_dir t d ≡ true → InRow moved s d →
            (is_dir t s.0 ≡ true) × (is_mount t d ≡ false → device t s.0 ≡ device t d)
        beside s d was row = elim (same_or_other spot_cmp spots_total exact_spots s (to, new_name)) [
          | inl here ↦ (let own : x ≡ d = same_Some x d (sym (put_here spot_cmp spots_total exact_spots (to, new_name) x (without_row t from name).rows) ∙
              ap (λ r. find_key spot_cmp r moved.rows) (sym here.0) ∙ row) in
              let place : s.0 ≡ to = ap (λ (r : Spot). r.0) here.0 in (
                ap (is_dir t) place ∙ in_dir,
                λ none. ap (device t) place ∙ sym (near x is (ap (is_dir t) own ∙ was)) ∙ ap (device t) own,
              ))
          | inr other ↦ was_near t f s d was (was_row t f (from, name) s d
              (sym (put_elsewhere spot_cmp spots_total exact_spots s (to, new_name) x (without_row t from name).rows other.0) ∙ row))
        ]

        left : (there : Option ℕ) → WellFormed (with_row_moved t from name to new_name x there) →
            KeepsDevices t (with_row_moved t from name to new_name x there)
        left None well = keeps t moved f (sound_from moved well) (λ d was lives. refl) (λ s d was lives row. beside s d was row)
        left (Some y) well =
            keeps t (without_unnamed moved y) f (sound_from (without_unnamed moved y) well)
            (λ d was lives. left_node moved y d lives)
            (λ s d was lives row. beside s d was (ap (find_key spot_cmp s) (sym (left_rows moved y)) ∙ row))

        moves : (there : Option ℕ) →
            cond (is_same_node x there) (Ok t) (cond (is_inside t x to) (Err Inside) (cond (is_full_dir_there t there) (Err NotEmpty)
            (Ok (with_row_moved t from name to new_name x there)))) ≡ Ok after → KeepsDevices t after
        moves there g = by (is_same_node x there) g
          where
            by : (b : Bool) →
                cond b (Ok t) (cond (is_inside t x to) (Err Inside) (cond (is_full_dir_there t there) (Err NotEmpty)
                (Ok (with_row_moved t from name to new_name x there)))) ≡ Ok after → KeepsDevices t after
            by true g = subst (KeepsDevices t) (same_Ok t after g) (λ d was lives. refl)
            by false g =
                let a = past (is_inside t x to) Inside _ after g in
                let b = past (is_full_dir_there t there) NotEmpty _ after a.1 in
                let same = same_Ok (with_row_moved t from name to new_name x there) after b.1 in
                subst (KeepsDevices t) same (left there (subst WellFormed (sym same) v))

pub edits_keep_devices : EditsKeepDevices
edits_keep_devices = record {
  adding = λ t after dir x name node w is_one fits mounts e. adding t after dir x name node w (edits_keep_trees.adding t after dir x name node w is_one fits mounts e).0 e;
  tying = λ t after dir x name w is_one e. tying t after dir x name w (edits_keep_trees.tying t after dir x name w is_one e).0 e;
  cutting = λ t after dir x name w e. cutting t after dir x name w (edits_keep_trees.cutting t after dir x name w e).0 e;
  shifting = λ t after from to name new_name w is_one near e. shifting t after from to name new_name w
      (edits_keep_trees.shifting t after from to name new_name w is_one e).0 e near;
}
