-- A request whose texts are bytes leaves a tree whose links lead to bytes.
use Rattle.pua_script.proofs.Common.{◌≡◌, ℕ, List, [], ◌∷◌, Bool, true, false, not, ◌&&◌, ◌||◌, cond, refl, sym, ap, subst, ◌∙◌, inl, inr}
use Rattle.pua_script.proofs.Common.{Option, Some, None, Result, Ok, Err, nat_le, ◌==◌, is_some, and_parts, nat_cmp, nat_cmp_total}
use Rattle.pua_script.proofs.Common.{nat_cmp-IsAntisymmetric, Tree, Node, WellFormed, Spot, is_dir, is_living, look, node_at, target_fits}
use Rattle.pua_script.proofs.Common.{with_row, without_row, without_unnamed, with_new, add, tie, cut, cut_found, shift, shift_found}
use Rattle.pua_script.proofs.Common.{with_row_moved, is_full_dir, is_full_dir_there, is_inside, is_same_node, has_room, has_name_room}
use Rattle.pua_script.proofs.Common.{TreeFault, put_here, put_elsewhere, None≢Some, spot_named, resolution_of_text, EAGAIN, Ending, Dot}
use Rattle.pua_script.proofs.Common.{Dropped, Found, Whole, Slot, CallTable, ending_of, last_of, ProcessState, start, most_processes}
use Rattle.pua_script.proofs.Common.{is_bytes, is_in_bytes, Change, AddNode, CutRow, ShiftRow, TieRow, CopyAs, World, Fails, Copies}
use Rattle.pua_script.proofs.Common.{edit_effect, edited_tree, kept_at, apply, change_effect, tree_left, Action, Last, TakeFile, Errno, OpenFile}
use Rattle.pua_script.proofs.Common.{is_pledged, sent_by, take_effect}
use Rattle.std.specs.Prelude.{length, option_and_then}
use Rattle.pua_tree.specs.Names.{is_name}
use Rattle.pua_tree.specs.Tree.{target_at, rows_of, mount_fits, is_dir_kind}
use Rattle.pua_tree.specs.Edits.{without_node}
use Rattle.pua_tree.specs.declared.fault.TreeFault.TheVariants.{Missing, Taken, NotDir, NotEmpty, Inside, Full, IsDir}
use Rattle.pua_tree.proofs.ForCallers.{edits_keep_trees, same_or_other, without_here, without_elsewhere}
use Rattle.pua_path.specs.declared.found.Way.TheVariants as way
use Rattle.pua_script.specs.Bytes.{are_in_bytes, IsByteTree, RequestsKeepTrees, ReplaysKeepTrees}
use Rattle.pua_script.proofs.Guarding.{grounds}
use Rattle.pua_script.proofs.Grounds.{LeadsToBytes, Grounds}
use Rattle.pua_script.proofs.Applied.{by_tree}
use Rattle.pua_script.proofs.Naming.{has_name, FoundNamed, text_named}

module _ (t : Tree) (is_tree : IsByteTree t) (h : ProcessState) where
  -- each node was there before
  abbrev Fewer : Tree → Type 0
  Fewer u = (x : ℕ) (n : Node) → node_at u x ≡ Some n → node_at t x ≡ Some n

  fewer_targets : (u : Tree) → Fewer u → (x : ℕ) (target : List ℕ) → target_at u x ≡ Some target → is_bytes target ≡ true
  fewer_targets u fewer x target = by (node_at u x) refl
    where
      by : (o : Option Node) → node_at u x ≡ o → option_and_then (λ n. n.target) o ≡ Some target → is_bytes target ≡ true
      by None e is = absurd (None≢Some target is)
      by (Some n) e is = is_tree.targets x target (ap (option_and_then (λ m. m.target)) (fewer x n e) ∙ is)

  fewer_unnamed : (v : Tree) (y : ℕ) → Fewer v → Fewer (without_unnamed v y)
  fewer_unnamed v y fewer x n = by (rows_of v y == 0)
    where
      by : (b : Bool) → node_at (cond b (without_node v y) v) x ≡ Some n → node_at t x ≡ Some n
      by false is = fewer x n is
      by true is = elim (same_or_other nat_cmp nat_cmp_total nat_cmp-IsAntisymmetric x y) [
        | inl same ↦ absurd (None≢Some n (sym (ap (λ z. node_at (without_node v y) z) same.0 ∙
            without_here nat_cmp nat_cmp_total nat_cmp-IsAntisymmetric y v.nodes) ∙ is))
        | inr other ↦ fewer x n (sym (without_elsewhere nat_cmp nat_cmp_total nat_cmp-IsAntisymmetric x y v.nodes other.0) ∙ is)
      ]

  fewer_self : Fewer t
  fewer_self x n is = is

  fewer_cut : (dir : ℕ) (name : List ℕ) → Fewer (tree_left t (edit_effect h (cut t dir name)))
  fewer_cut dir name = by (is_dir t dir) (look t dir name)
    where
      found : (y : ℕ) (full : Bool) →
          Fewer (tree_left t (edit_effect h (cond full (Err NotEmpty) (Ok (y, without_unnamed (without_row t dir name) y)))))
      found y true = fewer_self
      found y false = fewer_unnamed (without_row t dir name) y fewer_self

      by : (a : Bool) (o : Option ℕ) → Fewer (tree_left t (edit_effect h (cond (not a) (Err NotDir) (cut_found t dir name o))))
      by false o = fewer_self
      by true None = fewer_self
      by true (Some y) = found y (is_full_dir t y)

  fewer_tie : (dir : ℕ) (name : List ℕ) (y : ℕ) → Fewer (tree_left t (edited_tree h (tie t dir name y)))
  fewer_tie dir name y = by (is_dir t dir) (is_living t y) (is_dir t y) (is_some (look t dir name)) (has_name_room t)
    where
      by : (a b c d room : Bool) →
          Fewer (tree_left t (edited_tree h
          (cond (not a) (Err NotDir)
          (cond (not b) (Err Missing) (cond c (Err IsDir) (cond d (Err Taken) (cond room (Ok (with_row t dir name y)) (Err Full))))))))
      by false b c d room = fewer_self
      by true false c d room = fewer_self
      by true true true d room = fewer_self
      by true true false true room = fewer_self
      by true true false false false = fewer_self
      by true true false false true = fewer_self

  fewer_shift : (from to : ℕ) (name new_name : List ℕ) → Fewer (tree_left t (edited_tree h (shift t from name to new_name)))
  fewer_shift from to name new_name = by (is_dir t from && is_dir t to) (look t from name)
    where
      turned : ℕ → Tree
      turned x = with_row (without_row t from name) to new_name x

      shifts : (x : ℕ) (there : Option ℕ) → Fewer (with_row_moved t from name to new_name x there)
      shifts x None = fewer_self
      shifts x (Some y) = fewer_unnamed (with_row (without_row t from name) to new_name x) y fewer_self

      found : (x : ℕ) (a b c : Bool) (there : Option ℕ) →
          Fewer (tree_left t (edited_tree h
          (cond a (Ok t) (cond b (Err Inside) (cond c (Err NotEmpty) (Ok (with_row_moved t from name to new_name x there)))))))
      found x true b c there = fewer_self
      found x false true c there = fewer_self
      found x false false true there = fewer_self
      found x false false false there = shifts x there

      by : (a : Bool) (o : Option ℕ) →
          Fewer (tree_left t (edited_tree h (cond (not a) (Err NotDir) (shift_found t from name to new_name o (look t to new_name)))))
      by false o = fewer_self
      by true None = fewer_self
      by true (Some x) = found x (is_same_node x (look t to new_name)) (is_inside t x to) (is_full_dir_there t (look t to new_name))
          (look t to new_name)

  -- targets after a node was added
  module _ (dir : ℕ) (name : List ℕ) (node : Node) (leads : LeadsToBytes node) where
    grown_targets : (x : ℕ) (target : List ℕ) → target_at (with_new t dir name node) x ≡ Some target → is_bytes target ≡ true
    grown_targets x target is = elim (same_or_other nat_cmp nat_cmp_total nat_cmp-IsAntisymmetric x t.next) [
      | inl same ↦ leads target (sym (ap (option_and_then (λ m. m.target)) (ap (node_at (with_new t dir name node)) same.0 ∙
          put_here nat_cmp nat_cmp_total nat_cmp-IsAntisymmetric t.next node t.nodes)) ∙ is)
      | inr other ↦ is_tree.targets x target
          (sym (ap (option_and_then (λ m. m.target)) (put_elsewhere nat_cmp nat_cmp_total nat_cmp-IsAntisymmetric x t.next node t.nodes
          other.0)) ∙ is)
    ]

    added_targets : (x : ℕ) (target : List ℕ) → target_at (tree_left t (edit_effect h (add t dir name node))) x ≡ Some target →
        is_bytes target ≡ true
    added_targets = by (is_dir t dir) (is_some (look t dir name)) (has_room t)
      where
        by : (a b room : Bool) (x : ℕ) (target : List ℕ) →
            target_at (tree_left t
            (edit_effect h (cond (not a) (Err NotDir) (cond b (Err Taken) (cond room (Ok (t.next, with_new t dir name node)) (Err Full))))))
            x ≡ Some target → is_bytes target ≡ true
        by false b room = is_tree.targets
        by true true room = is_tree.targets
        by true false false = is_tree.targets
        by true false true = grown_targets

  well_edited : (r : Result (ℕ × Tree) TreeFault) → ((x : ℕ) (u : Tree) → r ≡ Ok (x, u) → WellFormed u) →
      WellFormed (tree_left t (edit_effect h r))
  well_edited (Ok p) each = each p.0 p.1 refl
  well_edited (Err fault) each = is_tree.tree

  well_edited_tree : (r : Result Tree TreeFault) → ((u : Tree) → r ≡ Ok u → WellFormed u) → WellFormed (tree_left t (edited_tree h r))
  well_edited_tree (Ok u) each = each u refl
  well_edited_tree (Err fault) each = is_tree.tree

  -- the name of a spot
  spot_is_name : (x : Found) → has_name x ≡ true → (s : Spot) → spot_named x ≡ Some s → is_name s.1 ≡ true
  spot_is_name (Whole dir (way.Named parent name)) named s e = let same : (parent, name) ≡ s = cc in
      subst (λ (r : Spot). is_name r.1 ≡ true) same named
  spot_is_name (Whole dir way.Dot) named s e = cc
  spot_is_name (Whole dir way.DotDot) named s e = cc
  spot_is_name (Whole dir way.Top) named s e = cc
  spot_is_name (Slot dir name y) named s e = let same : (dir, name) ≡ s = cc in subst (λ (r : Spot). is_name r.1 ≡ true) same named

-- what the spots and the node of a change must be
abbrev pub FitsBytes : Change → Type 0
FitsBytes (AddNode spot node) = (is_name spot.1 ≡ true) × (target_fits node.kind node.target ≡ true) × LeadsToBytes node × (node.mount ≡ false)
FitsBytes (ShiftRow old new) = is_name new.1 ≡ true
FitsBytes (TieRow spot x) = is_name spot.1 ≡ true
FitsBytes _ = Unit {0}

-- where no file system is mounted, none has to be a directory
pub bare : (node : Node) → node.mount ≡ false → mount_fits node ≡ true
bare node none = ap (λ b. cond b (is_dir_kind (Some node.kind)) true) none

module _ (w : World) (is_tree : IsByteTree w.tree) (h : ProcessState) where
  keeps : (c : Change) → FitsBytes c → IsByteTree (tree_left w.tree (change_effect w h c))
  keeps (AddNode spot node) fits = record {
    tree = well_edited w.tree is_tree h (add w.tree spot.0 spot.1 node)
        (λ x u e. (edits_keep_trees.adding w.tree u spot.0 x spot.1 node is_tree.tree fits.0 fits.1 (bare node fits.3) e).0);
    targets = added_targets w.tree is_tree h spot.0 spot.1 node fits.2;
  }
  keeps (CutRow spot) fits = record {
    tree = well_edited w.tree is_tree h (cut w.tree spot.0 spot.1)
        (λ x u e. (edits_keep_trees.cutting w.tree u spot.0 x spot.1 is_tree.tree e).0);
    targets = fewer_targets w.tree is_tree h (tree_left w.tree (change_effect w h (CutRow spot)))
        (fewer_cut w.tree is_tree h spot.0 spot.1);
  }
  keeps (ShiftRow old new) fits = record {
    tree = well_edited_tree w.tree is_tree h (shift w.tree old.0 old.1 new.0 new.1)
        (λ u e. (edits_keep_trees.shifting w.tree u old.0 new.0 old.1 new.1 is_tree.tree fits e).0);
    targets = fewer_targets w.tree is_tree h (tree_left w.tree (change_effect w h (ShiftRow old new)))
        (fewer_shift w.tree is_tree h old.0 new.0 old.1 new.1);
  }
  keeps (TieRow spot x) fits = record {
    tree = well_edited_tree w.tree is_tree h (tie w.tree spot.0 spot.1 x)
        (λ u e. (edits_keep_trees.tying w.tree u spot.0 x spot.1 is_tree.tree fits e).0);
    targets = fewer_targets w.tree is_tree h (tree_left w.tree (change_effect w h (TieRow spot x)))
        (fewer_tie w.tree is_tree h spot.0 spot.1 x);
  }
  keeps (CopyAs new) fits = by (is_some (kept_at w new) || nat_le most_processes (length w.processes))
    where
      by : (full : Bool) → IsByteTree (tree_left w.tree (cond full (Fails EAGAIN) (Copies new)))
      by true = is_tree
      by false = is_tree
  keeps (TakeFile number from theirs) fits = by (sent_by (is_pledged h) (kept_at w from) theirs)
    where
      by : (r : Result OpenFile Errno) → IsByteTree (tree_left w.tree (take_effect w h number r))
      by (Ok file) = is_tree
      by (Err errno) = is_tree
  keeps _ fits = is_tree

  found_named : (end : Ending) (path : List ℕ) (mode : Last) (x : Found) → is_bytes path ≡ true →
      resolution_of_text w.tree (start h) end path mode ≡ Ok x → has_name x ≡ true
  found_named end path mode x small found =
      subst (FoundNamed w.tree is_tree) found (text_named w.tree is_tree (start h) end path mode small)

  name_in_bytes : (end : Ending) (path : List ℕ) (mode : Last) (x : Found) (s : Spot) → is_bytes path ≡ true →
      resolution_of_text w.tree (start h) end path mode ≡ Ok x → spot_named x ≡ Some s → is_name s.1 ≡ true
  name_in_bytes end path mode x s small found at = spot_is_name w.tree is_tree h x (found_named end path mode x small found) s at

  pub fits_bytes : (table : CallTable) (action : Action) (c : Change) → Grounds table w.tree h action c → is_in_bytes action ≡ true →
      FitsBytes c
  fits_bytes table action (AddNode spot node) g small =
      let bytes = g.bytes small in
      (name_in_bytes (ending_of g.call) g.path (last_of g.call) g.object spot bytes.0 g.on.found g.at, g.target, bytes.1, g.mount)
  fits_bytes table action (ShiftRow from to) g small =
      name_in_bytes Dropped g.new_path table.rename.new.last g.new to (g.bytes small) g.two.found_new g.at_new
  fits_bytes table action (TieRow spot x) g small =
      name_in_bytes Dot g.new_path table.link.new.last g.new spot (g.bytes small) g.two.found_new g.at
  fits_bytes table action _ g small = tt

pub requests_keep_trees : RequestsKeepTrees
requests_keep_trees table w ask is_tree small =
    by_tree table w ask IsByteTree is_tree
    (λ h _ c guards. keeps w is_tree h c (fits_bytes w is_tree h table ask.action c (grounds table w.tree h ask.action c guards) small))

pub replays_keep_trees : ReplaysKeepTrees
replays_keep_trees table w [] is_tree small = is_tree.tree
replays_keep_trees table w (ask ∷ asks) is_tree small =
    let two = and_parts (is_in_bytes ask.action) (are_in_bytes asks) small in
    (is_tree.tree, replays_keep_trees table (apply table w ask).1 asks (requests_keep_trees table w ask is_tree two.0) two.1)
