-- What one request makes of the rows and nodes of a tree, by the covers that the tree had.
use Rattle.pua_ever.proofs.Common.{◌≡◌, ◌≢◌, ◌⊎◌, ◌≤◌, ℕ, List, Bool, true, false, cond, refl, sym, ap, subst, ◌∙◌, inl, inr, arith, Option}
use Rattle.pua_ever.proofs.Common.{Some, None, Ok, Err, is_some, ◌==◌, option_map, nat_cmp, nat_cmp_total, nat_cmp-IsAntisymmetric}
use Rattle.pua_ever.proofs.Common.{false≢true, Tree, Node, Spot, spot_cmp, is_dir, is_living, look, node_at, kind_at, is_empty, empty_tree}
use Rattle.pua_ever.proofs.Common.{spots_total, exact_spots, Some≢None, same_Some, Slot, CallTable, ProcessState, IsMissing, cover}
use Rattle.pua_ever.proofs.Common.{covered_verdict, is_allowed, Cover, tree_left, has_c, cover_in, row_cover, can_link, can_move, New}
use Rattle.pua_ever.proofs.Common.{is_made_by, may_rename, Call, and_parts}
use Rattle.std.proofs.Common.{not, ◌&&◌}
use Rattle.pua_tree.specs.Tree.{rows_of, device, is_mount}
use Rattle.std.specs.Prelude.{unwrap_or}
use Rattle.pua_tree.specs.Edits.{with_row, without_row, without_node, without_unnamed, with_new, add, tie, cut, cut_found, shift}
use Rattle.pua_tree.specs.Edits.{shift_found, with_row_moved, is_full_dir, is_full_dir_there, is_inside, is_same_node, has_room}
use Rattle.pua_tree.specs.Edits.{has_name_room}
use Rattle.pua_tree.specs.declared.fault.TreeFault.TheVariants.{Missing, Taken, NotDir, NotEmpty, Inside, Full, IsDir}
use Rattle.pua_tree.proofs.ForCallers.{same_or_other, put_here, put_elsewhere, without_here, without_elsewhere}
use Rattle.pua_script.specs.Replay.{edit_effect, edited_tree}
pub use Rattle.pua_ever.specs.Ever.{new_kind}

-- what can be moved has `c`
pub moved_has_c : (table : CallTable) (h : ProcessState) (left : Cover) → can_move table h left ≡ true → has_c left ≡ true
moved_has_c table h left can = (and_parts (has_c left) _ (and_parts (may_rename table h) _ can).1).0

-- by such a call it is made
abbrev pub IsMaker : New → Call → Type 0
IsMaker made maker = (passes : Call → Bool) → passes maker ≡ true → is_made_by passes made ≡ true

module _ (table : CallTable) (t : Tree) (h : ProcessState) where
  -- what covers a name at which nothing stands
  abbrev pub name_cover : Spot → Cover
  name_cover s = cover t h (Slot s.0 s.1 None)

  -- it could be made at some name
  pub record Makes (made : New) : Type 0 where
    pub spot : Spot
    pub lives : is_dir t spot.0 ≡ true
    pub free : look t spot.0 spot.1 ≡ None
    pub maker : Call
    pub makes : IsMaker made maker
    pub allowed : is_allowed (covered_verdict empty_tree table h maker (name_cover spot) IsMissing) ≡ true
    pub covered : has_c (name_cover spot) ≡ true

  -- a row was written where the name, or the empty directory that stood there, is covered with `c`
  pub data Written (s : Spot) (x : ℕ) : Type 0 where
    by_name : has_c (name_cover s) ≡ true → Written s x
    by_turn : (y : ℕ) → look t s.0 s.1 ≡ Some y → is_empty t y ≡ true → has_c (cover_in t h y) ≡ true → is_dir t x ≡ true → Written s x

  -- its node is new, or has a row by which it can be moved, or is no directory and has a row by which link gives it a further name
  pub data From (x : ℕ) : Type 0 where
    is_new : x ≡ t.next → From x
    is_moved : (r : Spot) → look t r.0 r.1 ≡ Some x → can_move table h (row_cover t h r x) ≡ true → From x
    is_linked : (r : Spot) → look t r.0 r.1 ≡ Some x → is_dir t x ≡ false → can_link table h (kind_at t x) (row_cover t h r x) ≡ true →
        From x

  -- what moves, and what gives way to it, is on the device of the directory into which it moves
  abbrev pub row_device : Spot → ℕ → ℕ
  row_device r x = cond (is_dir t x) (device t x) (device t r.0)

  abbrev pub IsNear : (to x : ℕ) → From x → Type 0
  IsNear to x (is_new e) = Unit {0}
  IsNear to x (is_moved r e can) = row_device r x ≡ device t to
  IsNear to x (is_linked r e plain can) = device t r.0 ≡ device t to

  abbrev pub TurnsNear : (s : Spot) (x : ℕ) → Written s x → Type 0
  TurnsNear s x (by_name has) = Unit {0}
  TurnsNear s x (by_turn y at empty has is) = device t y ≡ device t s.0

  pub record Put (s : Spot) (x : ℕ) : Type 0 where
    pub lives : is_dir t s.0 ≡ true
    pub written : Written s x
    pub from : From x
    pub near : IsNear s.0 x from
    pub turns : TurnsNear s x written

  pub record Born (u : Tree) (x : ℕ) : Type 0 where
    pub new : x ≡ t.next
    pub made : New
    pub kinds : kind_at u x ≡ Some (new_kind table made)
    pub makes : Makes made
    -- it stands where it was made, and no file system is mounted there
    pub only : (s : Spot) → look u s.0 s.1 ≡ Some x → s ≡ makes.spot
    pub unmarked : is_mount u x ≡ false

  -- each row and each node of the later tree is one of the earlier, or came so
  pub record Grown (u : Tree) : Type 0 where
    pub rows : (s : Spot) (x : ℕ) → look u s.0 s.1 ≡ Some x → (look t s.0 s.1 ≡ Some x) ⊎ Put s x
    pub nodes : (x : ℕ) → is_living u x ≡ true → (node_at u x ≡ node_at t x) ⊎ Born u x
    pub next : t.next ≤ u.next
    -- a mount point stands where it stood
    pub mounts : (s : Spot) (x : ℕ) → look t s.0 s.1 ≡ Some x → is_mount t x ≡ true → look u s.0 s.1 ≡ Some x

  -- no mount point stands there
  abbrev pub IsPlain : Spot → Type 0
  IsPlain s = (y : ℕ) → look t s.0 s.1 ≡ Some y → is_mount t y ≡ false

  pub grown_all : Grown t
  grown_all = record { rows = λ s x e. inl e; nodes = λ x l. inl refl; next = omega arith; mounts = λ s x e mount. e }

  pub same_look : (v : Tree) (s : Spot) (y : ℕ) → look (without_unnamed v y) s.0 s.1 ≡ look v s.0 s.1
  same_look v s y = elim (rows_of v y == 0) as (λ b. look (cond b (without_node v y) v) s.0 s.1 ≡ look v s.0 s.1) [
    | true ↦ refl
    | false ↦ refl
  ]

  -- a node that lives still is as it was
  pub lives_same : (v : Tree) (x y : ℕ) → is_living (without_unnamed v y) x ≡ true → node_at (without_unnamed v y) x ≡ node_at v x
  lives_same v x y = by (rows_of v y == 0)
    where
      by : (b : Bool) → is_living (cond b (without_node v y) v) x ≡ true → node_at (cond b (without_node v y) v) x ≡ node_at v x
      by false lives = refl
      by true lives = elim (same_or_other nat_cmp nat_cmp_total nat_cmp-IsAntisymmetric x y) [
        | inl same ↦ absurd (false≢true (sym (ap is_some (ap (node_at (without_node v y)) same.0 ∙
            without_here nat_cmp nat_cmp_total nat_cmp-IsAntisymmetric y v.nodes)) ∙ lives))
        | inr other ↦ without_elsewhere nat_cmp nat_cmp_total nat_cmp-IsAntisymmetric x y v.nodes other.0
      ]

  pub same_next : (v : Tree) (y : ℕ) → (without_unnamed v y).next ≡ v.next
  same_next v y = elim (rows_of v y == 0) as (λ b. (cond b (without_node v y) v).next ≡ v.next) [ true ↦ refl | false ↦ refl ]

  pub at_or_not : (s spot : Spot) → (s ≡ spot) ⊎ (s ≢ spot)
  at_or_not s spot = elim (same_or_other spot_cmp spots_total exact_spots s spot) [ inl same ↦ inl same.0 | inr other ↦ inr other.0 ]

  pub grown_add : (made : New) (maker : Call) → IsMaker made maker → (dir : ℕ) (name : List ℕ) (node : Node) → node.kind ≡ new_kind table made
      → is_allowed (covered_verdict empty_tree table h maker (name_cover (dir, name)) IsMissing) ≡ true →
      has_c (name_cover (dir, name)) ≡ true
      → node.mount ≡ false → ((s : Spot) → look t s.0 s.1 ≡ Some t.next → ⊥)
      → Grown (tree_left t (edit_effect h (add t dir name node)))
  grown_add made maker makes dir name node is allowed has plain fresh = by (is_dir t dir) (look t dir name) (has_room t) refl refl
    where
      grown : is_dir t dir ≡ true → look t dir name ≡ None → Grown (with_new t dir name node)
      grown lives free = record {
        rows = λ s x e. elim (at_or_not s (dir, name)) [
          | inl same ↦ inr (record {
            lives = ap (λ (r : Spot). is_dir t r.0) same ∙ lives;
            written = by_name (ap (λ (r : Spot). has_c (name_cover r)) same ∙ has);
            from = is_new (same_Some x t.next (sym e ∙ ap (λ (r : Spot). look (with_new t dir name node) r.0 r.1) same ∙
                put_here spot_cmp spots_total exact_spots (dir, name) t.next t.rows));
            near = tt;
            turns = tt;
          })
          | inr other ↦ inl (sym (put_elsewhere spot_cmp spots_total exact_spots s (dir, name) t.next t.rows other) ∙ e)
        ];
        nodes = λ x l. elim (same_or_other nat_cmp nat_cmp_total nat_cmp-IsAntisymmetric x t.next) [
          | inl same ↦ inr (record {
            new = same.0;
            made = made;
            kinds = ap (kind_at (with_new t dir name node)) same.0 ∙
                ap (option_map (λ n. n.kind)) (put_here nat_cmp nat_cmp_total nat_cmp-IsAntisymmetric t.next node t.nodes) ∙ ap Some is;
            makes = record {
              spot = (dir, name);
              lives = lives;
              free = free;
              maker = maker;
              makes = makes;
              allowed = allowed;
              covered = has;
            };
            only = λ s e. elim (at_or_not s (dir, name)) [
              | inl here ↦ here
              | inr other ↦ absurd (fresh s (sym (put_elsewhere spot_cmp spots_total exact_spots s (dir, name) t.next t.rows other) ∙ e ∙ ap Some same.0))
            ];
            unmarked = ap (is_mount (with_new t dir name node)) same.0 ∙
                ap (λ o. unwrap_or (option_map (λ (n : Node). n.mount) o) false)
                (put_here nat_cmp nat_cmp_total nat_cmp-IsAntisymmetric t.next node t.nodes) ∙ plain;
          })
          | inr other ↦ inl (put_elsewhere nat_cmp nat_cmp_total nat_cmp-IsAntisymmetric x t.next node t.nodes other.0)
        ];
        next = omega arith;
        mounts = λ s x e mount. elim (at_or_not s (dir, name)) [
          | inl same ↦ absurd (Some≢None x (sym e ∙ ap (λ (r : Spot). look t r.0 r.1) same ∙ free))
          | inr other ↦ put_elsewhere spot_cmp spots_total exact_spots s (dir, name) t.next t.rows other ∙ e
        ];
      }

      by : (a : Bool) (o : Option ℕ) (room : Bool) → is_dir t dir ≡ a → look t dir name ≡ o →
          Grown (tree_left t (edit_effect h
          (cond (not a) (Err NotDir) (cond (is_some o) (Err Taken) (cond room (Ok (t.next, with_new t dir name node)) (Err Full))))))
      by false o room l e = grown_all
      by true (Some y) room l e = grown_all
      by true None false l e = grown_all
      by true None true l e = grown l e

  pub grown_tie : (dir : ℕ) (name : List ℕ) (x : ℕ) → Put (dir, name) x → Grown (tree_left t (edited_tree h (tie t dir name x)))
  grown_tie dir name y puts = by (is_dir t dir) (is_living t y) (is_dir t y) (look t dir name) (has_name_room t) refl
    where
      grown : look t dir name ≡ None → Grown (with_row t dir name y)
      grown free = record {
        rows = λ s x e. elim (at_or_not s (dir, name)) [
          | inl same ↦ (let is : y ≡ x = same_Some y x (sym (put_here spot_cmp spots_total exact_spots (dir, name) y t.rows) ∙
              ap (λ (r : Spot). look (with_row t dir name y) r.0 r.1) (sym same) ∙ e) in
              inr (subst (λ (r : Spot). Put r x) (sym same)
              (subst (Put (dir, name)) is puts)))
          | inr other ↦ inl (sym (put_elsewhere spot_cmp spots_total exact_spots s (dir, name) y t.rows other) ∙ e)
        ];
        nodes = λ x l. inl refl;
        next = omega arith;
        mounts = λ s x e mount. elim (at_or_not s (dir, name)) [
          | inl same ↦ absurd (Some≢None x (sym e ∙ ap (λ (r : Spot). look t r.0 r.1) same ∙ free))
          | inr other ↦ put_elsewhere spot_cmp spots_total exact_spots s (dir, name) y t.rows other ∙ e
        ];
      }

      by : (a b c : Bool) (o : Option ℕ) (room : Bool) → look t dir name ≡ o →
          Grown (tree_left t (edited_tree h
          (cond (not a) (Err NotDir)
          (cond (not b) (Err Missing)
          (cond c (Err IsDir) (cond (is_some o) (Err Taken) (cond room (Ok (with_row t dir name y)) (Err Full))))))))
      by false b c o room e = grown_all
      by true false c o room e = grown_all
      by true true true o room e = grown_all
      by true true false (Some z) room e = grown_all
      by true true false None false e = grown_all
      by true true false None true e = grown e

  -- a row that is there without another was there with it
  pub was_there : (spot s : Spot) (x : ℕ) → look (without_row t spot.0 spot.1) s.0 s.1 ≡ Some x → look t s.0 s.1 ≡ Some x
  was_there spot s x e = elim (at_or_not s spot) [
    | inl same ↦ absurd (Some≢None x (sym e ∙ ap (λ (r : Spot). look (without_row t spot.0 spot.1) r.0 r.1) same ∙
        without_here spot_cmp spots_total exact_spots spot t.rows))
    | inr other ↦ sym (without_elsewhere spot_cmp spots_total exact_spots s spot t.rows other) ∙ e
  ]

  -- what stands elsewhere is there without it
  still_there : (spot s : Spot) (x : ℕ) → s ≢ spot → look t s.0 s.1 ≡ Some x → look (without_row t spot.0 spot.1) s.0 s.1 ≡ Some x
  still_there spot s x other e = without_elsewhere spot_cmp spots_total exact_spots s spot t.rows other ∙ e

  -- and a mount point stands elsewhere than what is none
  apart : (spot s : Spot) (x : ℕ) → IsPlain spot → look t s.0 s.1 ≡ Some x → is_mount t x ≡ true → s ≢ spot
  apart spot s x plain e mount same = false≢true (sym (plain x (ap (λ (r : Spot). look t r.0 r.1) (sym same) ∙ e)) ∙ mount)

  pub grown_cut : (dir : ℕ) (name : List ℕ) → IsPlain (dir, name) → Grown (tree_left t (edit_effect h (cut t dir name)))
  grown_cut dir name plain = by (is_dir t dir) (look t dir name)
    where
      gone : (y : ℕ) → Grown (without_unnamed (without_row t dir name) y)
      gone y = record {
        rows = λ s x e. inl (was_there (dir, name) s x (sym (same_look (without_row t dir name) s y) ∙ e));
        nodes = λ x l. inl (lives_same (without_row t dir name) x y l);
        next = let same = same_next (without_row t dir name) y in omega arith;
        mounts = λ s x e mount. same_look (without_row t dir name) s y ∙
            still_there (dir, name) s x (apart (dir, name) s x plain e mount) e;
      }

      found : (y : ℕ) (full : Bool) →
          Grown (tree_left t (edit_effect h (cond full (Err NotEmpty) (Ok (y, without_unnamed (without_row t dir name) y)))))
      found y true = grown_all
      found y false = gone y

      by : (a : Bool) (o : Option ℕ) → Grown (tree_left t (edit_effect h (cond (not a) (Err NotDir) (cut_found t dir name o))))
      by false o = grown_all
      by true None = grown_all
      by true (Some y) = found y (is_full_dir t y)

  pub grown_shift : (from to : ℕ) (name new_name : List ℕ) (x : ℕ) → look t from name ≡ Some x → Put (to, new_name) x →
      is_mount t x ≡ false → IsPlain (to, new_name) → Grown (tree_left t (edited_tree h (shift t from name to new_name)))
  grown_shift from to name new_name x here puts none plain = by (is_dir t from && is_dir t to) (look t from name) here
    where
      turned : Tree
      turned = with_row (without_row t from name) to new_name x

      rows_turned : (s : Spot) (z : ℕ) → look turned s.0 s.1 ≡ Some z → (look t s.0 s.1 ≡ Some z) ⊎ Put s z
      rows_turned s z e = elim (at_or_not s (to, new_name)) [
        | inl same ↦ (let is : x ≡ z =
            same_Some x z (sym (put_here spot_cmp spots_total exact_spots (to, new_name) x (without_row t from name).rows) ∙
            ap (λ (r : Spot). look turned r.0 r.1) (sym same) ∙ e) in
            inr (subst (λ (r : Spot). Put r z) (sym same)
            (subst (Put (to, new_name)) is puts)))
        | inr other ↦ inl (was_there (
          from,
          name,
        ) s z (sym (put_elsewhere spot_cmp spots_total exact_spots s (to, new_name) x (without_row t from name).rows other) ∙ e))
      ]

      mounts_turned : (s : Spot) (z : ℕ) → look t s.0 s.1 ≡ Some z → is_mount t z ≡ true → look turned s.0 s.1 ≡ Some z
      mounts_turned s z e mount =
          put_elsewhere spot_cmp spots_total exact_spots s (to, new_name) x (without_row t from name).rows
          (apart (to, new_name) s z plain e mount) ∙
          still_there (from, name) s z
          (apart (from, name) s z (λ y at. ap (is_mount t) (same_Some y x (sym at ∙ here)) ∙ none) e mount) e

      shifts : (there : Option ℕ) → Grown (with_row_moved t from name to new_name x there)
      shifts None = record { rows = rows_turned; nodes = λ z l. inl refl; next = omega arith; mounts = mounts_turned }
      shifts (Some y) = record {
        rows = λ s z e. rows_turned s z (sym (same_look turned s y) ∙ e);
        nodes = λ z l. inl (lives_same turned z y l);
        next = let same = same_next turned y in omega arith;
        mounts = λ s z e mount. same_look turned s y ∙ mounts_turned s z e mount;
      }

      found : (a b c : Bool) (there : Option ℕ) →
          Grown (tree_left t (edited_tree h
          (cond a (Ok t) (cond b (Err Inside) (cond c (Err NotEmpty) (Ok (with_row_moved t from name to new_name x there)))))))
      found true b c there = grown_all
      found false true c there = grown_all
      found false false true there = grown_all
      found false false false there = shifts there

      by : (a : Bool) (o : Option ℕ) → o ≡ Some x →
          Grown (tree_left t (edited_tree h (cond (not a) (Err NotDir) (shift_found t from name to new_name o (look t to new_name)))))
      by false o e = grown_all
      by true None e = grown_all
      by true (Some z) e = subst
          (λ y. Grown (tree_left t (edited_tree h (shift_found t from name to new_name (Some y) (look t to new_name)))))
          (sym (same_Some z x e))
          (found (is_same_node x (look t to new_name)) (is_inside t x to) (is_full_dir_there t (look t to new_name)) (look t to new_name))
