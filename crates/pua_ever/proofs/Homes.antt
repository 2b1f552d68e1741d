-- Where what stands at or below a root came from, as long as it is moved and tied by processes that are enclosed for ever in it: from a
-- row at or below the root.
use Rattle.pua_ever.proofs.Common.{◌≡◌, ◌⊎◌, ◌<◌, ℕ, Bool, true, false, cond, refl, sym, ap, subst, ◌∙◌, inl, inr, arith, Some, None}
use Rattle.pua_ever.proofs.Common.{option_map, not, ◌&&◌, ◌||◌, is_none, false≢true, and_parts, and_from, or_left, or_right, same_Some}
use Rattle.pua_ever.proofs.Common.{None≢Some, Tree, WellFormed, Spot, is_dir, is_living, look, kind_at, sound_from, row_says, same_dir}
use Rattle.pua_ever.proofs.Common.{is_link_kind, is_kept, Found, Whole, Slot, Named, Followed, resolutions_fit, named_within_text, CallTable}
use Rattle.pua_ever.proofs.Common.{ProcessState, may_any, start, cover, cover_fault, has_c, row_cover, can_move, can_link, may_rename, is_yes}
use Rattle.pua_ever.proofs.Common.{NoCallNeedsError, EditsNeedC, VeilsStand, IsWithin, World}
use Rattle.pua_tree.specs.Tree.{is_within}
use Rattle.pua_path.specs.Fits.{IsOf, is_link, node_named, spot_named}
use Rattle.pua_path.specs.Resolution.{rooted}
use Rattle.pua_path.specs.declared.found.Last.{Last}
use Rattle.pua_path.specs.declared.found.Last.TheVariants.{Kept}
use Rattle.pua_path.specs.declared.text.Ending.TheVariants as ending
use Rattle.pua_calls.specs.TmpTable.{tmp_table}
use Rattle.pua_calls.proofs.ForCallers.{tmp_table_needs_no_error}
use Rattle.pua_script.specs.Confinement.{object_in}
use Rattle.pua_script.specs.Judged.{NameFits}
use Rattle.pua_script.specs.Decide.{is_elsewhere, is_whole}
use Rattle.pua_tree.specs.Laws.{KeepsDevices}
use Rattle.pua_tree.specs.Tree.{device}
use Rattle.pua_script.proofs.ForCallers.{c_from_cover, name_fits}
use Rattle.pua_ever.specs.EnclosedForEver.{KeepInside}
use Rattle.pua_ever.specs.Ever.{may_link}
use Rattle.pua_ever.proofs.Along.{link_within, move_within, same}
use Rattle.pua_ever.proofs.Covers.{below_next, living_dir}
use Rattle.pua_ever.proofs.Enclosing.{MovesBy, TiesBy}
use Rattle.pua_ever.proofs.Growing.{plain_at, row_named, standing}
use Rattle.pua_ever.proofs.Devices.{close_to, moves_close, named_device}
use Rattle.pua_ever.proofs.InsideTrees.{Turns, fate}
use Rattle.pua_ever.proofs.Origins.{Fixed, Stays, fixed_covered, same_then}

-- by this row its thing can be moved, or get a further name
abbrev pub CanLeave : CallTable → ProcessState → Tree → Spot → ℕ → Type 0
CanLeave table h t r x = (can_move table h (row_cover t h r x) ≡ true)
    ⊎ ((is_dir t x ≡ false) × (can_link table h (kind_at t x) (row_cover t h r x) ≡ true))

-- and so it does to a name on the device of the row
abbrev pub LeavesTo : CallTable → ProcessState → Tree → Spot → Spot → ℕ → Type 0
LeavesTo table h t to r x = CanLeave table h t r x × (is_dir t x ≡ false → device t r.0 ≡ device t to.0)

module _ (table : CallTable) (t0 : Tree) (h : ProcessState) (well0 : WellFormed t0) (stand : VeilsStand t0 h) (root : ℕ) where
  -- a row of the beginning on a device by which it could leave, at or below the root
  pub record Home (on x : ℕ) : Type 0 where
    pub row : Spot
    pub at : look t0 row.0 row.1 ≡ Some x
    pub inner : is_within t0 row.0 root ≡ true
    pub leaves : CanLeave table h t0 row x
    pub near : device t0 row.0 ≡ on

  -- what stands at or below the root, stood there in a row by which it can't be moved, or has such a row
  abbrev pub Homes : Tree → Type 0
  Homes u = (s : Spot) (x : ℕ) → look u s.0 s.1 ≡ Some x → is_within u s.0 root ≡ true → is_dir u x ≡ false → x < t0.next →
      Fixed table t0 h well0 stand s x ⊎ Home (device u s.0) x

  pub homes_first : Homes t0
  homes_first s x e inner other below = by (can_move table h (row_cover t0 h s x)) refl
    where
      by : (b : Bool) → can_move table h (row_cover t0 h s x) ≡ b → Fixed table t0 h well0 stand s x ⊎ Home (device t0 s.0) x
      by false stays = inl (e, stays)
      by true can = inr (record { row = s; at = e; inner = inner; leaves = inl can; near = refl })

  -- a row of the beginning is at or below the root as it is in a later tree
  pub inner_first : (u : Tree) → KeepInside root t0 u → (d : ℕ) → is_within u d root ≡ true → d < t0.next → is_within t0 d root ≡ true
  inner_first u kept d inner below = elim (kept.dirs d (and_parts (is_dir u d) _ inner).0) [
    | inl same_dirs ↦ sym same_dirs.1 ∙ inner
    | inr new ↦ (let from = new.0 in absurd (omega (arith, below, from)))
  ]

  -- the directory of a row of the beginning was given
  pub row_given : (r : Spot) (x : ℕ) → look t0 r.0 r.1 ≡ Some x → r.0 < t0.next
  row_given r x e = below_next t0 h well0 r.0 (living_dir t0 h well0 r.0 (row_says t0 (sound_from t0 well0) r x e).0)

  module _ (asking : CallTable) (asker : ProcessState) (t u : Tree) (k : Stays table t0 h well0 stand t) (well : WellFormed u)
      (lives : is_dir t root ≡ true) (turns : Turns asking t asker root (LeavesTo table h t) u)
      (keeps : KeepsDevices t u) (kept : KeepInside root t0 t) (homes : Homes t)
    where
      -- what stood in a row and is no directory was none
      was_plain : (r : Spot) (x : ℕ) → look t r.0 r.1 ≡ Some x → is_living u x ≡ true → is_dir u x ≡ false → is_dir t x ≡ false
      was_plain r x e living other = elim (turns.nodes x living) [
        | inl same_node ↦ sym (same_dir t u x same_node) ∙ other
        | inr new ↦ (let below = below_next t h k.well x (row_says t (sound_from t k.well) r x e).2 in absurd (omega (arith, below, new)))
      ]

      -- the home of what left a row
      left_home : (to : ℕ) (r : Spot) (x : ℕ) → look t r.0 r.1 ≡ Some x → is_within t r.0 root ≡ true → CanLeave table h t r x →
          device t r.0 ≡ to → Fixed table t0 h well0 stand r x ⊎ Home (device t r.0) x → Home to x
      left_home to r x e inner leaves on (inr home) = subst (λ n. Home n x) on home
      left_home to r x e inner (inl can) on (inl fixed) =
          absurd (false≢true (sym fixed.1 ∙ ap (can_move table h) (sym (fixed_covered table t0 h well0 stand t k r x e fixed)) ∙ can))
      left_home to r x e inner (inr ties) on (inl fixed) =
          let node = same_then table t0 h well0 stand t k r r x fixed.0 e in
          let covered = fixed_covered table t0 h well0 stand t k r x e fixed in
          record {
            row = r;
            at = fixed.0;
            inner = inner_first t kept r.0 inner (row_given r x fixed.0);
            leaves = inr (
              sym (same_dir t0 t x node) ∙ ties.0,
              (λ i. can_link table h (ap (option_map (λ n. n.kind)) (sym node) i) (sym covered i)) ∙ ties.1,
            );
            near = sym (k.devices r.0 (row_says t0 (sound_from t0 well0) r x fixed.0).0 (row_says t (sound_from t k.well) r x e).0) ∙ on;
          }

      pub homes_then : Homes u
      homes_then s x e inner other below = elim (turns.rows s x e) [
        | inl there ↦ on_it (row_says t (sound_from t k.well) s x there).0
            (homes s x there (still_inner there) (was_plain s x there living other) below)
        | inr put ↦ inr (elim put.1 [
          | inl new ↦ (let from = k.next in absurd (omega (arith, below, from, new)))
          | inr from ↦ (let plain = was_plain from.0 x from.1 living other in
              subst (λ n. Home n x) (sym (on (and_parts (is_dir t s.0) _ put.0).0))
              (left_home (device t s.0) from.0 x from.1 from.2 from.3.0 (from.3.1 plain) (homes from.0 x from.1 from.2 plain below)))
        ])
      ]
        where
          says : (is_dir u s.0 ≡ true) × (is_living u x ≡ true)
          says = let row = row_says u (sound_from u well) s x e in (row.0, row.2)

          living : is_living u x ≡ true
          living = says.1

          -- the directory is on its device
          on : is_dir t s.0 ≡ true → device u s.0 ≡ device t s.0
          on was = keeps s.0 was says.0

          on_it : is_dir t s.0 ≡ true → Fixed table t0 h well0 stand s x ⊎ Home (device t s.0) x →
              Fixed table t0 h well0 stand s x ⊎ Home (device u s.0) x
          on_it was (inl fixed) = inl fixed
          on_it was (inr home) = inr (subst (λ n. Home n x) (sym (on was)) home)

          still_inner : look t s.0 s.1 ≡ Some x → is_within t s.0 root ≡ true
          still_inner there = elim (fate asking t u asker root k.well well lives (LeavesTo table h t) turns s.0 says.0) [
            | inl same_dirs ↦ sym same_dirs.1 ∙ inner
            | inr new ↦ (let n = new.0 in
                let below_it = below_next t h k.well s.0 (living_dir t h k.well s.0 (row_says t (sound_from t k.well) s x there).0) in
                absurd (omega (arith, below_it, n)))
          ]

-- what a member moves, or gives a further name, could leave the row by which it was named, by all that was held at the beginning
module _ (table : CallTable) (sound : NoCallNeedsError table) (needs : EditsNeedC table) (now : ProcessState) (w : World) (a : ProcessState)
    (within : IsWithin now a) (well : WellFormed w.tree) where
  abbrev tmp : CallTable
  tmp = tmp_table table

  abbrev t : Tree
  t = w.tree

  same_row : (s : Spot) (x : ℕ) → row_cover t a s x ≡ row_cover t now s x
  same_row s x = same tmp (tmp_table_needs_no_error table sound) now a within t well (object_in t s x)

  moved_so : (s : Spot) (x : ℕ) → can_move tmp a (row_cover t a s x) ≡ true → can_move tmp now (row_cover t now s x) ≡ true
  moved_so s x can = ap (can_move tmp now) (sym (same_row s x)) ∙
      move_within tmp (tmp_table_needs_no_error table sound) now a within t well (row_cover t a s x) can

  tied_so : (s : Spot) (x : ℕ) → can_link tmp a (kind_at t x) (row_cover t a s x) ≡ true →
      can_link tmp now (kind_at t x) (row_cover t now s x) ≡ true
  tied_so s x can =
      let parts = and_parts (may_link tmp a) _ can in
      and_from (may_link tmp now) _ (link_within tmp (tmp_table_needs_no_error table sound) now a within t well parts.0)
      (ap (λ left. is_none (cover_fault left table.link.old.needs.perms)
      && (not (is_link_kind (kind_at t x)) || is_kept table.link.old.last)) (sym (same_row s x)) ∙ parts.1)

  -- to a name on its device
  stays_near : (old new : Found) (x : ℕ) → NameFits t old → node_named old ≡ Some x → is_elsewhere t old new ≡ false → (s : Spot) →
      spot_named old ≡ Some s → (r : Spot) → spot_named new ≡ Some r → is_dir t x ≡ false → device t s.0 ≡ device t r.0
  stays_near old new x fits named close s at r at_new plain =
      named_device t old x fits named s at plain ∙ close_to t old new close r at_new

  pub moves_from_home : MovesBy table w a (LeavesTo tmp now t)
  moves_from_home old new c d shift s at r at_new x row =
      let fits = name_fits t well (start a) ending.Dropped old table.rename.old.last d.old d.two.found_old in
      let is : x ≡ d.node = same_Some x d.node (sym row ∙ (standing table needs t a well d.old fits s at).1 ∙ d.two.named) in
      let held : may_rename tmp a ≡ true =
      and_from (is_yes (may_any a table.rename.old.needs.alternatives)) _ (ap is_yes d.two.promised_old) (ap is_yes d.two.promised_new) in
      let can : can_move tmp a (row_cover t a s d.node) ≡ true =
      ap (can_move tmp a) (row_named table needs t a well d.old d.node fits d.two.named s at) ∙
      and_from (may_rename tmp a) _ held
      (and_from (has_c (cover t a d.old)) _ (c_from_cover (cover t a d.old) table.rename.old.needs.perms needs.rename_old d.two.covered_old)
      (ap is_none d.two.covered_old)) in (
        inl (ap (λ y. can_move tmp now (row_cover t now s y)) is ∙ moved_so s d.node can),
        λ plain. stays_near d.old d.new d.node fits d.two.named (moves_close t d.old d.new d.node shift.kinds) s at r at_new
            (ap (is_dir t) (sym is) ∙ plain),
      )

  tied_from : (object : Found) (x : ℕ) → IsOf t table.link.old.last object → may_link tmp a ≡ true →
      cover_fault (cover t a object) table.link.old.needs.perms ≡ None → node_named object ≡ Some x → is_whole object ≡ false → (s : Spot) →
      spot_named object ≡ Some s → CanLeave tmp now t s x
  tied_from (Slot dir name (Some y)) x of held covered is other s at =
      subst (λ r. CanLeave tmp now t r x) (same_Some (dir, name) s at)
      (subst (CanLeave tmp now t (dir, name)) (same_Some y x is) (inr (plain, tied_so (dir, name) y gives)))
    where
      plain : is_dir t y ≡ false
      plain = plain_at table needs t a well dir name y of.fits

      under : row_cover t a (dir, name) y ≡ cover t a (Slot dir name (Some y))
      under = ap (λ b. cover t a (cond b (Whole y (Named dir name)) (Slot dir name (Some y)))) plain

      kept : (mode : Last) → (mode ≡ Followed → is_link t (Slot dir name (Some y)) ≡ false) →
          (not (is_link_kind (kind_at t y)) || is_kept mode) ≡ true
      kept Kept followed = or_right (not (is_link_kind (kind_at t y))) true refl
      kept Followed followed = or_left (not (is_link_kind (kind_at t y))) false (ap not (followed refl))

      gives : can_link tmp a (kind_at t y) (row_cover t a (dir, name) y) ≡ true
      gives =
          and_from (may_link tmp a) _ held
          (and_from (is_none (cover_fault (row_cover t a (dir, name) y) table.link.old.needs.perms)) _
          (ap (λ left. is_none (cover_fault left table.link.old.needs.perms)) under ∙ ap is_none covered)
          (kept table.link.old.last of.followed))
  tied_from (Slot dir name None) x of held covered is other s at = absurd (None≢Some x is)
  tied_from (Whole dir way) x of held covered is other s at = cc

  pub ties_from_home : TiesBy table w a (LeavesTo tmp now t)
  ties_from_home old new c d s at r at_new =
      let of_old = (resolutions_fit (rooted t 0) well well.root).whole (start a) ending.Dot old table.link.old.last d.old
      (named_within_text t (start a) ending.Dot old table.link.old.last d.old d.two.found_old) in
      let fits = name_fits t well (start a) ending.Dot old table.link.old.last d.old d.two.found_old in
      let held : may_link tmp a ≡ true =
      and_from (is_yes (may_any a table.link.old.needs.alternatives)) _ (ap is_yes d.two.promised_old) (ap is_yes d.two.promised_new) in (
        tied_from d.old d.node of_old held d.two.covered_old d.two.named d.no_dir s at,
        λ plain. stays_near d.old d.new d.node fits d.two.named d.near s at r at_new plain,
      )
