-- What edits of a tree in slots rest on, by what the tree is.
use Rattle.pua_tree.proofs.Common.{◌≡◌, ◌≢◌, ℕ, ◌+◌, Bool, true, false, not, ◌==◌, cond, T, List, Option, Some, None, option_map}
use Rattle.pua_tree.proofs.Common.{is_some, refl, sym, ap, subst, ◌∙◌, arith, inl, inr, eqb, eqb-true, eq-eqb, Ok, IfSome, IsSome}
use Rattle.pua_tree.proofs.Common.{option_and_then}
use Rattle.pua_tree.proofs.Common.{nat_cmp, is_eq, find, put, is_sorted, where_key, is_sorted-put, is_sorted-where_key, same_entries}
use Rattle.pua_tree.proofs.Common.{false≢true, sum_by-zero, Tree, WellFormed, spot_cmp, is_dir, is_dir_kind, is_living, look, Entry, Enters}
use Rattle.pua_tree.proofs.Common.{grown_by, row_at, slot_of, node_in, made_of, held_rows, held_nodes, held_in_slots, rows_in, names_of}
use Rattle.pua_tree.proofs.Common.{AreConsistent, Dir, Slots, SlotNode, and_parts, Follows}
use Rattle.std.proofs.Common.{ne_eqb}
use Rattle.slab.specs.Slab.{get as slot_get}
use Rattle.pua_tree.specs.Tree as tree
use Rattle.pua_tree.specs.Tree.{root_alone}
use Rattle.pua_tree.specs.Numbering.{with_next}
use Rattle.pua_tree.specs.declared.numbering.Numbering.{Numbering}
use Rattle.pua_tree.specs.Edits.{tie}
use Rattle.pua_tree.specs.Reading.{said_node}
use Rattle.pua_tree.specs.declared.gathered.MadeNode.{MadeNode}
use Rattle.pua_tree.proofs.Raised.{raised_keeps}
use Rattle.pua_tree.proofs.Follows.{passes, free_where}
use Rattle.pua_tree.specs.declared.fault.TreeFault.TheVariants.{NotDir, Missing, IsDir}
use Rattle.pua_tree.specs.Slots.{one_at}
use Rattle.pua_tree.specs.Slots.{HasRow, IsNew, MayEnter, MayMove, MayStand, with_made}
use Rattle.pua_tree.proofs.Base.{mapped, none, past, same_Some}
use Rattle.pua_tree.proofs.Content.{spots_total, exact_spots}
use Rattle.pua_tree.proofs.Tallies.{tally_counts, all_from_found, same_or_other, put_here, put_elsewhere, without_here, without_elsewhere}
use Rattle.pua_tree.proofs.Tallies.{without_at}
use Rattle.pua_tree.proofs.InOrder.{counted-without}
use Rattle.pua_tree.proofs.Sound.{sound_from, row_says}
use Rattle.pua_tree.proofs.EditsKeep.{is_living_dir, no_rows, next_is_new, next_not_root}
use Rattle.pua_tree.proofs.SlotsHold.{rows_found, nodes_found, rows_sorted}

-- a row of the tree is one of the slots
found_row : (s : Slots) (numbering : Numbering) (t : Tree) (dir : ℕ) (name : List ℕ) (o : Option ℕ) → held_in_slots s numbering ≡ t →
    look t dir name ≡ o → row_at s (dir, name) ≡ o
found_row s numbering t dir name o e l = sym (rows_found s (dir, name)) ∙ ap (λ (u : Tree). look u dir name) e ∙ l

pub has_row : (s : Slots) (numbering : Numbering) (t : Tree) (dir : ℕ) (name : List ℕ) (x : ℕ) → AreConsistent s → held_in_slots s numbering ≡ t →
    look t dir name ≡ Some x → HasRow s (dir, name) x
has_row s numbering t dir name x kept e l = record { kept = kept; there = found_row s numbering t dir name (Some x) e l }

-- so is a living node
pub living_in : (s : Slots) (x : ℕ) → is_some (find nat_cmp x (held_nodes s)) ≡ true → IsSome (node_in s x)
living_in s x h = fused (node_in s x) ∙ ap is_some (sym (nodes_found s x)) ∙ h
  where
    fused : (o : Option SlotNode) → is_some o ≡ is_some (option_map made_of o)
    fused None = refl
    fused (Some n) = refl

pub row_living : (s : Slots) (numbering : Numbering) (dir x : ℕ) (name : List ℕ) → WellFormed (held_in_slots s numbering) → row_at s (dir, name) ≡ Some x →
    is_some (find nat_cmp x (held_nodes s)) ≡ true
row_living s numbering dir x name w e =
    (row_says (held_in_slots s numbering) (sound_from (held_in_slots s numbering) w) (dir, name) x (rows_found s (dir, name) ∙ e)).2

pub dir_found : (s : Slots) (numbering : Numbering) (x : ℕ) (n : SlotNode) → node_in s x ≡ Some n → n.kind ≡ Dir → is_dir (held_in_slots s numbering) x ≡ true
dir_found s numbering x n e k = ap (λ (o : Option tree.Node). is_dir_kind (option_map (λ m. m.kind) o)) (nodes_found s x ∙
    ap (λ (o : Option SlotNode). option_map made_of o) e) ∙ ap (λ j. is_dir_kind (Some j)) k

-- what is no directory may have further names
no_dir_may : (s : Slots) (numbering : Numbering) (x : ℕ) → WellFormed (held_in_slots s numbering) → is_dir (held_in_slots s numbering) x ≡ false → MayStand s x
no_dir_may s numbering x w other = record {
  not_root = λ e. false≢true (sym other ∙ ap (is_dir (held_in_slots s numbering)) e ∙ w.root);
  dir_once = λ n e k. absurd (false≢true (sym other ∙ dir_found s numbering x n e k));
}

pub tied_may_enter : (s : Slots) (numbering : Numbering) (t : Tree) (dir : ℕ) (name : List ℕ) (x : ℕ) → WellFormed t → AreConsistent s →
    held_in_slots s numbering ≡ t → look t dir name ≡ None → is_dir t x ≡ false → MayEnter s (dir, name) x
tied_may_enter s numbering t dir name x w kept e free other = record {
  kept = kept;
  free = found_row s numbering t dir name None e free;
  may = no_dir_may s numbering x (subst WellFormed (sym e) w) (ap (λ (u : Tree). is_dir u x) e ∙ other);
}

-- the numbering number is new in every way
module _ (s : Slots) (numbering : Numbering) (w : WellFormed (held_in_slots s numbering)) (kept : AreConsistent s) where
  new_number : is_living (held_in_slots s numbering) numbering.next ≡ false
  new_number = next_is_new (held_in_slots s numbering) (sound_from (held_in_slots s numbering) w)

  pub next_no_slot : slot_of s numbering.next ≡ None
  next_no_slot =
      elim (slot_of s numbering.next) as (λ o. slot_of s numbering.next ≡ o → o ≡ None) [
        | None ↦ λ e. refl
        | Some slot ↦ λ e. absurd (false≢true (sym new_number ∙ ap is_some (nodes_found s numbering.next) ∙
            mapped (node_in s numbering.next) (ap (λ (o : Option ℕ). is_some (option_and_then (slot_get s.nodes) o)) e ∙
            kept.filed.filled numbering.next slot e)))
      ] refl
    where
      mapped : (o : Option SlotNode) → is_some o ≡ true → is_some (option_map made_of o) ≡ true
      mapped None h = h
      mapped (Some n) h = refl

  pub next_no_names : names_of (held_rows s) numbering.next ≡ 0
  next_no_names = sym (tally_counts {K = tree.Spot} (λ y. y == numbering.next) (held_rows s)) ∙
      no_rows (held_in_slots s numbering) (sound_from (held_in_slots s numbering) w) numbering.next new_number

  pub next_no_rows : rows_in (held_rows s) numbering.next ≡ 0
  next_no_rows = eqb-true (rows_in (held_rows s) numbering.next) 0
      (sum_by-zero (λ (row : tree.Spot × ℕ). cond (row.0.0 == numbering.next) 1 0) (held_rows s)
      ∙ all_from_found spot_cmp spots_total exact_spots (λ row. eqb (cond (row.0.0 == numbering.next) 1 0) 0) (held_rows s) (rows_sorted s) (λ at x f.
      (let dir = (row_says (held_in_slots s numbering) (sound_from (held_in_slots s numbering) w) at x f).0 in
      let other : (at.0 == numbering.next) ≡ false =
      ne_eqb at.0 numbering.next (λ e. false≢true (sym new_number ∙
      is_living_dir (held_in_slots s numbering) numbering.next (ap (is_dir (held_in_slots s numbering)) (sym e) ∙ dir))) in
      ap (λ b. eqb (cond b 1 0) 0) other)))

  pub next_no_root : numbering.next ≢ 0
  next_no_root = next_not_root (held_in_slots s numbering) (sound_from (held_in_slots s numbering) w)

-- what a row that goes leaves
module _ (old new : Slots) (at : tree.Spot) (rows : held_rows new ≡ where_key spot_cmp (λ spot. not (is_eq (spot_cmp at spot)))
    (held_rows old)) where
  free_left : (spot : tree.Spot) → row_at old spot ≡ None → row_at new spot ≡ None
  free_left spot free =
      sym (rows_found new spot) ∙ ap (find spot_cmp spot) rows ∙ without_at spot_cmp spots_total exact_spots spot at (held_rows old)
      ∙ ap (λ o. cond (not (is_eq (spot_cmp at spot))) o None) (rows_found old spot ∙ free) ∙ either (not (is_eq (spot_cmp at spot)))
    where
      either : (b : Bool) → ◌≡◌ {A = Option ℕ} (cond b None None) None
      either true = refl
      either false = refl

  pub free_there : row_at new at ≡ None
  free_there = sym (rows_found new at) ∙ ap (find spot_cmp at) rows ∙ without_here spot_cmp spots_total exact_spots at (held_rows old)

  pub others_left : (spot : tree.Spot) → spot ≢ at → row_at new spot ≡ row_at old spot
  others_left spot n = sym (rows_found new spot) ∙ ap (find spot_cmp spot) rows ∙
      without_elsewhere spot_cmp spots_total exact_spots spot at (held_rows old) n ∙ rows_found old spot

  pub names_left : (x : ℕ) → row_at old at ≡ Some x → (y : ℕ) → names_of (held_rows new) y + one_at x y ≡ names_of (held_rows old) y
  names_left x there y =
      ap (λ r. names_of r y + one_at x y) rows
      ∙ counted-without spot_cmp spots_total exact_spots (λ row. row.1 == y) at x (held_rows old) (rows_sorted old) (rows_found old at ∙
      there)

-- nodes that are held alike are of one kind
pub kind_was : (old new : Slots) (x : ℕ) (n : SlotNode) → held_nodes new ≡ held_nodes old → node_in new x ≡ Some n → n.kind ≡ Dir →
    (m : SlotNode) × (node_in old x ≡ Some m) × (m.kind ≡ Dir)
kind_was old new x n nodes e k =
    let m = mapped made_of (node_in old x) (made_of n) (sym (nodes_found old x) ∙ ap (find nat_cmp x) (sym nodes) ∙ nodes_found new x ∙
    ap (λ (o : Option SlotNode). option_map made_of o) e) in
    (m.0, m.1, ap (λ (made : tree.Node). made.kind) m.2 ∙ k)

-- a directory that stood in one row stands in none after that row goes
stands_no_more : (old new : Slots) (at : tree.Spot) (x : ℕ) →
    held_rows new ≡ where_key spot_cmp (λ spot. not (is_eq (spot_cmp at spot))) (held_rows old) → held_nodes new ≡ held_nodes old →
    row_at old at ≡ Some x → x ≢ 0
    → ((n : SlotNode) → node_in old x ≡ Some n → n.kind ≡ Dir → names_of (held_rows old) x ≡ 1) → MayStand new x
stands_no_more old new at x rows nodes there not_root once = record {
  not_root = not_root;
  dir_once = λ n e k. (let was = kind_was old new x n nodes e k in
      let one_name = once was.0 was.1 was.2 in
      let here : one_at x x ≡ 1 = ap (λ b. cond b 1 0) (eq-eqb x x refl) in
      omega (arith, names_left old new at rows x there x, one_name, here));
}

-- so that it may come to another spot
pub moved_may_enter : (old new : Slots) (at to : tree.Spot) (x : ℕ) → MayMove old at to x → AreConsistent new
    → held_rows new ≡ where_key spot_cmp (λ spot. not (is_eq (spot_cmp at spot))) (held_rows old) → held_nodes new ≡ held_nodes old →
    MayEnter new to x
moved_may_enter old new at to x may kept rows nodes = record {
  kept = kept;
  free = free_left old new at rows to may.free;
  may = stands_no_more old new at x rows nodes may.has.there may.not_root may.dir_once;
}

-- a directory of a tree has one name
named_once : (s : Slots) (numbering : Numbering) (x : ℕ) → WellFormed (held_in_slots s numbering) → x ≢ 0 → (n : SlotNode) → node_in s x ≡ Some n →
    n.kind ≡ Dir → names_of (held_rows s) x ≡ 1
named_once s numbering x w nz n e k = sym (tally_counts {K = tree.Spot} (λ y. y == x) (held_rows s)) ∙
    (sound_from (held_in_slots s numbering) w).once x (dir_found s numbering x n e k) nz

-- and keeps it where another node's row goes
named_once_still : (old new : Slots) (numbering : Numbering) (at : tree.Spot) (y x : ℕ) → WellFormed (held_in_slots old numbering) →
    held_rows new ≡ where_key spot_cmp (λ spot. not (is_eq (spot_cmp at spot))) (held_rows old)
    → held_nodes new ≡ held_nodes old → row_at old at ≡ Some y → y ≢ x → x ≢ 0 → (n : SlotNode) → node_in new x ≡ Some n → n.kind ≡ Dir →
    names_of (held_rows new) x ≡ 1
named_once_still old new numbering at y x w rows nodes there other nz n e k =
    let was = kind_was old new x n nodes e k in
    let once = named_once old numbering x w nz was.0 was.1 was.2 in
    let apart : one_at y x ≡ 0 = ap (λ b. cond b 1 0) (ne_eqb y x other) in
    omega (arith, names_left old new at rows y there x, once, apart)

row_not_root : (s : Slots) (numbering : Numbering) (dir x : ℕ) (name : List ℕ) → WellFormed (held_in_slots s numbering) → row_at s (dir, name) ≡ Some x → x ≢ 0
row_not_root s numbering dir x name w e =
    (row_says (held_in_slots s numbering) (sound_from (held_in_slots s numbering) w) (dir, name) x (rows_found s (dir, name) ∙ e)).3

-- spots of different nodes differ
spots_apart : (t : Tree) (from : ℕ) (name : List ℕ) (to : ℕ) (new_name : List ℕ) (x : ℕ) → look t from name ≡ Some x →
    look t to new_name ≢ Some x → ◌≢◌ {A = tree.Spot} (from, name) (to, new_name)
spots_apart t from name to new_name x found other e = other (ap (λ (spot : tree.Spot). find spot_cmp spot t.rows) (sym e) ∙ found)

-- a row that may be moved
module _ (s : Slots) (numbering : Numbering) (t : Tree) (w : WellFormed t) (kept : AreConsistent s) (same : held_in_slots s numbering ≡ t) (from : ℕ)
    (name : List ℕ) (to : ℕ) (new_name : List ℕ) (x : ℕ) (found : look t from name ≡ Some x) where
  formed : WellFormed (held_in_slots s numbering)
  formed = subst WellFormed (sym same) w

  has_moved : HasRow s (from, name) x
  has_moved = has_row s numbering t from name x kept same found

  no_root : x ≢ 0
  no_root = row_not_root s numbering from x name formed has_moved.there

  pub may_move : look t to new_name ≡ None → MayMove s (from, name) (to, new_name) x
  may_move free = record {
    has = has_moved;
    free = found_row s numbering t to new_name None same free;
    not_root = no_root;
    dir_once = named_once s numbering x formed no_root;
  }

  -- to where another node's row was taken away
  pub may_move_there : (y : ℕ) → look t to new_name ≡ Some y → y ≢ x → (taken : Slots) → AreConsistent taken
      → held_rows taken ≡ where_key spot_cmp (λ spot. not (is_eq (spot_cmp (to, new_name) spot))) (held_rows s)
      → held_nodes taken ≡ held_nodes s → MayMove taken (from, name) (to, new_name) x
  may_move_there y there other taken still rows nodes = record {
    has = record {
      kept = still;
      there = others_left s taken (to, new_name) rows (from, name) (spots_apart t from name to new_name x found (λ e.
          other (same_Some y x (sym there ∙ e)))) ∙ has_moved.there;
    };
    free = free_there s taken (to, new_name) rows;
    not_root = no_root;
    dir_once = named_once_still s taken numbering (to, new_name) y x formed rows nodes (found_row s numbering t to new_name (Some y) same there)
        other no_root;
  }

-- a row put at a spot whose row was taken away is put in its place
pub put_over : (spot at : tree.Spot) (x : ℕ) (rows : List (tree.Spot × ℕ)) → T (is_sorted spot_cmp rows)
    → put spot_cmp spot x (where_key spot_cmp (λ other. not (is_eq (spot_cmp at other)))
    (where_key spot_cmp (λ other. not (is_eq (spot_cmp spot other))) rows))
    ≡ put spot_cmp spot x (where_key spot_cmp (λ other. not (is_eq (spot_cmp at other))) rows)
put_over spot at x rows h =
    let thinner = where_key spot_cmp (λ other. not (is_eq (spot_cmp spot other))) rows in
    let left = where_key spot_cmp (λ other. not (is_eq (spot_cmp at other))) thinner in
    let right = where_key spot_cmp (λ other. not (is_eq (spot_cmp at other))) rows in
    let thin : T (is_sorted spot_cmp left) = is_sorted-where_key spot_cmp _ thinner (is_sorted-where_key spot_cmp _ rows h) in
    same_entries spot_cmp spots_total exact_spots (put spot_cmp spot x left) (put spot_cmp spot x right)
    (is_sorted-put spot_cmp spots_total spot x left thin)
    (is_sorted-put spot_cmp spots_total spot x right (is_sorted-where_key spot_cmp _ rows h))
    (λ q. elim (same_or_other spot_cmp spots_total exact_spots q spot) [
      | inl s ↦ ap (λ p. find spot_cmp p (put spot_cmp spot x left)) s.0 ∙ put_here spot_cmp spots_total exact_spots spot x left
          ∙ sym (ap (λ p. find spot_cmp p (put spot_cmp spot x right)) s.0 ∙ put_here spot_cmp spots_total exact_spots spot x right)
      | inr s ↦ put_elsewhere spot_cmp spots_total exact_spots q spot x left s.0 ∙ without_at spot_cmp spots_total exact_spots q at thinner
          ∙ ap (λ o. cond (not (is_eq (spot_cmp at q))) o None) (without_elsewhere spot_cmp spots_total exact_spots q spot rows s.0)
          ∙ sym (put_elsewhere spot_cmp spots_total exact_spots q spot x right s.0 ∙ without_at spot_cmp spots_total exact_spots q at rows)
    ])

-- the root alone is a tree
pub root_is_tree : (room : ℕ) → WellFormed (root_alone room)
root_is_tree room = record { rows_in_order = refl; nodes_in_order = refl; root = refl; rows_fit = refl; nodes_fit = refl; marks_fit = refl }

tied_no_dir : (t : Tree) (dir x : ℕ) (name : List ℕ) (after : Tree) → tie t dir name x ≡ Ok after → is_dir t x ≡ false
tied_no_dir t dir x name after e =
    let in_dir = past (not (is_dir t dir)) NotDir _ after e in
    let lives = past (not (is_living t x)) Missing _ after in_dir.1 in
    (past (is_dir t x) IsDir _ after lives.1).0

-- what the slots have of an entry that may follow
module _ (s : Slots) (numbering : Numbering) (w : WellFormed (held_in_slots s numbering)) (kept : AreConsistent s) (e : Entry)
    (follows : Follows (held_in_slots s numbering) e) where
  raised : WellFormed (held_in_slots s (with_next numbering e.number))
  raised = raised_keeps (held_in_slots s numbering) e.number w follows.number

  free_spot : row_at s (e.parent, e.name) ≡ None
  free_spot = sym (rows_found s (e.parent, e.name)) ∙
      none _ (free_where (held_in_slots s numbering) e (passes (held_in_slots s numbering) e follows))

  -- its directory has a slot
  pub has_slot : IsSome (slot_of s e.parent)
  has_slot = slotted (slot_of s e.parent) (living_in s e.parent (is_living_dir (held_in_slots s numbering) e.parent
      (and_parts (is_dir (held_in_slots s numbering) e.parent) _ (passes (held_in_slots s numbering) e follows)).0))
    where
      slotted : (o : Option ℕ) → IsSome (option_and_then (slot_get s.nodes) o) → IsSome o
      slotted None h = h
      slotted (Some slot) h = refl

  new_node : e.node ≡ e.number → IsNew s e.node
  new_node same = record {
    no_slot = ap (slot_of s) same ∙ next_no_slot s (with_next numbering e.number) raised kept;
    no_rows = ap (rows_in (held_rows s)) same ∙ next_no_rows s (with_next numbering e.number) raised kept;
    no_names = ap (names_of (held_rows s)) same ∙ next_no_names s (with_next numbering e.number) raised kept;
  }

  pub new_where_made : (made : Option MadeNode) → Enters (held_in_slots s numbering) e (option_map said_node made) →
      IfSome made (λ _. IsNew s e.node)
  new_where_made None tied = tt
  new_where_made (Some made) added = new_node added.0

  may_enter : (after : Slots) (m : Option tree.Node) → Enters (held_in_slots s numbering) e m → held_rows after ≡ held_rows s →
      held_nodes after ≡ with_made e.node m (held_nodes s) → MayStand after e.node
  may_enter after None tied rows nodes =
      let no_dir = tied_no_dir (record (held_in_slots s numbering) { next = e.number + 1; room = numbering.room }) e.parent e.node e.name _ tied in
      record {
        not_root = λ z. false≢true (sym no_dir ∙ ap (is_dir (held_in_slots s numbering)) z ∙ w.root);
        dir_once = λ n f k. (let was = kind_was s after e.node n nodes f k in
            absurd (false≢true (sym no_dir ∙ dir_found s numbering e.node was.0 was.1 was.2)));
      }
  may_enter after (Some made) added rows nodes = record {
    not_root = λ z. next_no_root s (with_next numbering e.number) raised kept (sym added.0 ∙ z);
    dir_once = λ n f k. ap (λ r. names_of r e.node) rows ∙ (new_node added.0).no_names;
  }

  -- its row may come to its spot, once its node is made
  pub entry_may_enter : (after : Slots) (m : Option tree.Node) → Enters (held_in_slots s numbering) e m → AreConsistent after →
      held_rows after ≡ held_rows s → held_nodes after ≡ with_made e.node m (held_nodes s) → MayEnter after (e.parent, e.name) e.node
  entry_may_enter after m enters still rows nodes = record {
    kept = still;
    free = sym (rows_found after (e.parent, e.name)) ∙ ap (find spot_cmp (e.parent, e.name)) rows ∙ rows_found s (e.parent, e.name)
        ∙ free_spot;
    may = may_enter after m enters rows nodes;
  }

  pub grown_held : (after : Slots) (m : Option tree.Node) → Enters (held_in_slots s numbering) e m →
      held_rows after ≡ put spot_cmp (e.parent, e.name) e.node (held_rows s) → held_nodes after ≡ with_made e.node m (held_nodes s)
      → held_in_slots after (with_next numbering (e.number + 1)) ≡ grown_by (held_in_slots s numbering) e m
  grown_held after None tied rows nodes = λ i. record { rows = rows i; nodes = nodes i; next = e.number + 1; room = numbering.room }
  grown_held after (Some made) added rows nodes =
      let number_rows : held_rows after ≡ put spot_cmp (e.parent, e.name) e.number (held_rows s) = rows ∙
      ap (λ x. put spot_cmp (e.parent, e.name) x (held_rows s)) added.0 in
      let number_nodes : held_nodes after ≡ put nat_cmp e.number made (held_nodes s) = nodes ∙
      ap (λ x. put nat_cmp x made (held_nodes s)) added.0 in
      λ i. record { rows = number_rows i; nodes = number_nodes i; next = e.number + 1; room = numbering.room }
