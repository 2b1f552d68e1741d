-- Rows put into slots and taken out of them leave every node knowing how it stands.
use Rattle.pua_tree.proofs.Common.{◌≡◌, ◌≢◌, ℕ, ◌+◌, ◌-◌, ◌<◌, ◌^◌, true, false, not, ◌==◌, cond, List, length, Option, Some, None}
use Rattle.pua_tree.proofs.Common.{option_map, refl, sym, ap, ◌∙◌, arith, inl, inr, eqb-true, eq-eqb, IfSome, is_eq, find, put, where_key}
use Rattle.pua_tree.proofs.Common.{spot_cmp, node_in, made_of, held_rows, held_nodes, rows_in, names_of, AreConsistent, Dir, Slots}
use Rattle.pua_tree.proofs.Common.{SlotNode, subst, Kind}
use Rattle.std.proofs.lemmas.List.Sums.{count_by-le-length}
use Rattle.pua_tree.specs.Tree as tree
use Rattle.pua_tree.specs.Slots.{with_stance, one_at, row_gained}
use Rattle.pua_tree.specs.Slots.{row_lost, name_gained, name_lost, Restands, MayEnter, HasRow, IsFiled}
use Rattle.pua_tree.specs.declared.slots.Stance.{Stance}
use Rattle.pua_tree.specs.declared.spot.RowKey.{RowKey}
use Rattle.pua_tree.specs.declared.spot.RowNode.{RowNode}
use Rattle.pua_tree.specs.NamedRows.{HeldRows, key_at, spot_at, ChangesAt, KeepsNames}
use Rattle.pua_tree.specs.Slots.{row_in}
use Rattle.std.specs.Prelude.{Bool}
use Rattle.pua_tree.specs.contracts.spot.SpotPartialEq.TheImpl.{ghosts as spot_ghosts}
use Rattle.pua_tree.proofs.Base.{mapped, same_Some, Some≢None}
use Rattle.pua_tree.proofs.Content.{spots_total, exact_spots}
use Rattle.pua_tree.proofs.Tallies.{tally_counts, tally_found, same_or_other, put_here, put_elsewhere, without_here, without_elsewhere}
use Rattle.pua_tree.proofs.InOrder.{counted-put, counted-without}
use Rattle.pua_tree.proofs.SlotsHold.{rows_found, rows_sorted, rows_put, rows_taken, nodes_same}

pub each : {X : Type 0} {P : X → Type 0} (o : Option X) → ((x : X) → o ≡ Some x → P x) → IfSome o P
each None f = tt
each (Some x) f = f x refl

pub rows_by : (s t : Slots) → s.rows ≡ t.rows → held_rows s ≡ held_rows t
rows_by s t e = λ i. held_rows (record s { rows = e i })

pub row_by : (s t : Slots) → s.rows ≡ t.rows → (at : tree.Spot) → row_in s at ≡ row_in t at
row_by s t e at = λ i. row_in (record s { rows = e i }) at

-- how many names a node has, by what it knows
pub names_known : (s : Slots) (x names : ℕ) → AreConsistent s → IfSome (node_in s x) (λ node. names ≡ node.standing.names) →
    IfSome (node_in s x) (λ _. names ≡ names_of (held_rows s) x)
names_known s x names kept says = each (node_in s x) (λ node e.
    subst (λ (o : Option SlotNode). IfSome o (λ n. names ≡ n.standing.names)) e says ∙ kept.standing.names_counted x node e)

-- two changes of standings in turn
module _ (old mid new : Slots) (f g : ℕ → Stance → Stance) (a : Restands old mid f) (b : Restands mid new g) where
  abbrev changed : ℕ → SlotNode → SlotNode
  changed y n = with_stance (g y (f y n.standing)) n

  both : (y : ℕ) → node_in new y ≡ option_map (changed y) (node_in old y)
  both y = b.nodes y ∙ ap (option_map (λ n. with_stance (g y n.standing) n)) (a.nodes y) ∙ fused (node_in old y)
    where
      fused : (o : Option SlotNode) → option_map (λ n. with_stance (g y n.standing) n) (option_map (λ n. with_stance (f y n.standing) n) o)
          ≡ option_map (changed y) o
      fused None = refl
      fused (Some n) = refl

  was : (y : ℕ) (m : SlotNode) → node_in new y ≡ Some m → (n : SlotNode) × (node_in old y ≡ Some n) × (changed y n ≡ m)
  was y m e = mapped (changed y) (node_in old y) m (sym (both y) ∙ e)

  made_alike : (y : ℕ) → option_map made_of (node_in new y) ≡ option_map made_of (node_in old y)
  made_alike y = ap (λ (o : Option SlotNode). option_map made_of o) (both y) ∙ fused (node_in old y)
    where
      fused : (o : Option SlotNode) → option_map made_of (option_map (changed y) o) ≡ option_map made_of o
      fused None = refl
      fused (Some n) = refl

-- the node of a row has a name
pub named : (rows : List (tree.Spot × ℕ)) (at : tree.Spot) (x : ℕ) → find spot_cmp at rows ≡ Some x → names_of rows x ≢ 0
named rows at x f none =
    let some = tally_found spot_cmp spots_total exact_spots (λ y. y == x) at x rows f (eq-eqb x x refl) in
    omega (arith, some, tally_counts {K = tree.Spot} (λ y. y == x) rows, none)

-- what a row that is put asks of standings
module _ (old more : Slots) (at : tree.Spot) (x : ℕ) (kept : AreConsistent old) (small : length (held_rows old) < 2 ^ 63) where
  pub few_rows : IfSome (node_in old at.0) (λ node. node.standing.rows < 2 ^ 63)
  few_rows = each (node_in old at.0) (λ n e.
      let counted = kept.standing.rows_counted at.0 n e in
      let within = count_by-le-length (λ (row : tree.Spot × ℕ). row.0.0 == at.0) (held_rows old) in
      omega (arith, counted, within, small))

  pub few_names : Restands old more (row_gained at.0) → IfSome (node_in more x) (λ node. node.standing.names < 2 ^ 63)
  few_names a = each (node_in more x) (λ m e.
      let w = mapped (λ n. with_stance (row_gained at.0 x n.standing) n) (node_in old x) m (sym (a.nodes x) ∙ e) in
      let counted = kept.standing.names_counted x w.0 w.1 in
      let within = count_by-le-length (λ (row : tree.Spot × ℕ). row.1 == x) (held_rows old) in
      let names : w.0.standing.names ≡ m.standing.names = ap (λ (n : SlotNode). n.standing.names) w.2 in
      omega (arith, counted, within, small, names))

-- a row put
module _ (old more new : Slots) (rows : HeldRows) (at : tree.Spot) (x : ℕ) (key : RowKey) (enters : MayEnter old at x)
    (small : length (held_rows old) < 2 ^ 63)
    (row_more : IsFiled (record old { rows = rows }) → IfSome (node_in old at.0) (λ node. node.standing.rows < 2 ^ 63) →
    Restands (record old { rows = rows }) more (row_gained at.0))
    (name_more : IsFiled more → IfSome (node_in more x) (λ node. node.standing.names < 2 ^ 63) →
    Restands more new (name_gained key x)) where
  abbrev before_put : AreConsistent old
  before_put = enters.kept

  gained_row : Restands old more (row_gained at.0)
  gained_row = let gained = row_more (record { filled = before_put.filed.filled; apart = before_put.filed.apart; no_other = before_put.filed.no_other })
      (few_rows old more at x before_put small) in record { filed = gained.filed; nodes = gained.nodes }

  gained_name : Restands more new (name_gained key x)
  gained_name = name_more gained_row.filed (few_names old more at x before_put small gained_row)

  pub nodes_after_put : held_nodes new ≡ held_nodes old
  nodes_after_put = nodes_same old new (made_alike old more new (row_gained at.0) (name_gained key x) gained_row gained_name)

  module _ (kind : Kind) (changes : ChangesAt at (Some (record { node = x; kind = kind })) old.rows rows)
      (names : KeepsNames old.rows rows) (key_is : spot_at rows.names key ≡ Some at) (same_rows : new.rows ≡ rows) where
    abbrev placed : RowNode
    placed = record { node = x; kind = kind }

    none_there : find spot_cmp at (held_rows old) ≡ None
    none_there = rows_found old at ∙ enters.free

    pub rows_after_put : held_rows new ≡ put spot_cmp at x (held_rows old)
    rows_after_put = rows_by new (record old { rows = rows }) same_rows ∙ rows_put old (record old { rows = rows }) at placed changes

    stood : (y : ℕ) (m : SlotNode) → node_in new y ≡ Some m →
        (n : SlotNode) × (node_in old y ≡ Some n)
        × (changed old more new (row_gained at.0) (name_gained key x) gained_row gained_name y n ≡ m)
    stood = was old more new (row_gained at.0) (name_gained key x) gained_row gained_name

    pub kept_after_put : ((n : SlotNode) → node_in old x ≡ Some n → n.kind ≡ kind) → AreConsistent new
    kept_after_put kind_is = record {
      filed = gained_name.filed;
      standing = record {
        rows_counted = λ y m e. (let w = stood y m e in
            sym (ap (λ (n : SlotNode). n.standing.rows) w.2)
            ∙ ap (λ r. r + one_at at.0 y) (before_put.standing.rows_counted y w.0 w.1)
            ∙ sym (counted-put spot_cmp spots_total exact_spots (λ row. row.0.0 == y) at x (held_rows old) none_there)
            ∙ sym (ap (λ rows. rows_in rows y) rows_after_put));
        names_counted = λ y m e. (let w = stood y m e in
            sym (ap (λ (n : SlotNode). n.standing.names) w.2)
            ∙ ap (λ r. r + one_at x y) (before_put.standing.names_counted y w.0 w.1)
            ∙ sym (counted-put spot_cmp spots_total exact_spots (λ row. row.1 == y) at x (held_rows old) none_there)
            ∙ sym (ap (λ rows. names_of rows y) rows_after_put));
        dir_spot = λ spot y m f e d. (let w = stood y m e in
            let found : find spot_cmp spot (put spot_cmp at x (held_rows old)) ≡ Some y = ap (find spot_cmp spot) (sym rows_after_put) ∙
            f in
            let now : m.standing.key ≡ cond (x == y) key w.0.standing.key = sym (ap (λ (n : SlotNode). n.standing.key) w.2) in
            let kind : w.0.kind ≡ Dir = ap (λ (n : SlotNode). n.kind) w.2 ∙ d in
            ap (spot_at new.rows.names) now ∙ ap (λ r. spot_at r.names (cond (x == y) key w.0.standing.key)) same_rows ∙
            elim (same_or_other spot_cmp spots_total exact_spots spot at) [
              | inl s ↦ (let here : x ≡ y = same_Some x y (sym (put_here spot_cmp spots_total exact_spots at x (held_rows old)) ∙
                  ap (λ q. find spot_cmp q (put spot_cmp at x (held_rows old))) (sym s.0) ∙ found) in
                  ap (λ t. spot_at rows.names (cond t key w.0.standing.key)) (eq-eqb x y here) ∙ key_is ∙ ap Some (sym s.0))
              | inr s ↦ elsewhere spot y w.0 kind w.1
                  (sym (put_elsewhere spot_cmp spots_total exact_spots spot at x (held_rows old) s.0) ∙ found)
            ]);
      };
      kinds = λ q row m r e. (let w = stood row.node m e in
          sym (ap (λ (n : SlotNode). n.kind) w.2) ∙
          said q row w.0 w.1 (spot_ghosts.eq (key_at at) (key_at q)) (sym (changes (key_at q)) ∙
          sym (row_by new (record old { rows = rows }) same_rows q) ∙ r));
    }
      where
        elsewhere : (spot : tree.Spot) (y : ℕ) (n : SlotNode) → n.kind ≡ Dir → node_in old y ≡ Some n →
            find spot_cmp spot (held_rows old) ≡ Some y → spot_at rows.names (cond (x == y) key n.standing.key) ≡ Some spot
        elsewhere spot y n kind e row =
            elim (x == y) as (λ b. (x == y) ≡ b → spot_at rows.names (cond b key n.standing.key) ≡ Some spot) [
              | true ↦ λ t. (let here : x ≡ y = eqb-true x y t in
                  absurd (named (held_rows old) spot y row (ap (names_of (held_rows old)) (sym here) ∙
                  enters.may.dir_once n (ap (node_in old) here ∙ e) kind)))
              | false ↦ λ _. names n.standing.key spot (before_put.standing.dir_spot spot y n row e kind)
            ] refl

        said : (q : tree.Spot) (row : RowNode) (n : SlotNode) → node_in old row.node ≡ Some n → (here : Bool) →
            cond here (Some placed) (row_in old q) ≡ Some row → n.kind ≡ row.kind
        said q row n e true r =
            let same = same_Some placed row r in
            kind_is n (ap (λ (p : RowNode). node_in old p.node) same ∙ e) ∙ ap (λ (p : RowNode). p.kind) same
        said q row n e false r = before_put.kinds q row n r e

-- a row taken away
module _ (old more new : Slots) (rows : HeldRows) (at : tree.Spot) (x : ℕ)
    (has : HasRow old at x) (changes : ChangesAt at None old.rows rows) (same_names : rows.names ≡ old.rows.names)
    (row_less : IsFiled (record old { rows = rows }) → Restands (record old { rows = rows }) more (row_lost at.0))
    (name_less : IsFiled more → Restands more new (name_lost x)) (same_rows : new.rows ≡ rows) where
  abbrev before_take : AreConsistent old
  before_take = has.kept

  abbrev between : Slots
  between = record old { rows = rows }

  abbrev lost_row : Restands between more (row_lost at.0)
  lost_row = row_less (record { filled = before_take.filed.filled; apart = before_take.filed.apart; no_other = before_take.filed.no_other })

  abbrev lost_name : Restands more new (name_lost x)
  lost_name = name_less lost_row.filed

  found_there : find spot_cmp at (held_rows old) ≡ Some x
  found_there = rows_found old at ∙ has.there

  one_row_fewer : (y : ℕ) → rows_in (where_key spot_cmp (λ spot. not (is_eq (spot_cmp at spot))) (held_rows old)) y + one_at at.0 y
      ≡ rows_in (held_rows old) y
  one_row_fewer y = counted-without spot_cmp spots_total exact_spots (λ row. row.0.0 == y) at x (held_rows old) (rows_sorted old)
      found_there

  one_name_fewer : (y : ℕ) → names_of (where_key spot_cmp (λ spot. not (is_eq (spot_cmp at spot))) (held_rows old)) y + one_at x y
      ≡ names_of (held_rows old) y
  one_name_fewer y = counted-without spot_cmp spots_total exact_spots (λ row. row.1 == y) at x (held_rows old) (rows_sorted old) found_there

  rows_after_take : held_rows new ≡ where_key spot_cmp (λ spot. not (is_eq (spot_cmp at spot))) (held_rows old)
  rows_after_take = rows_by new between same_rows ∙ rows_taken old between at changes

  pub nodes_after_take : held_nodes new ≡ held_nodes old
  nodes_after_take = nodes_same old new (made_alike between more new (row_lost at.0) (name_lost x) lost_row lost_name)

  left : (y : ℕ) (m : SlotNode) → node_in new y ≡ Some m →
      (n : SlotNode) × (node_in old y ≡ Some n) × (changed between more new (row_lost at.0) (name_lost x) lost_row lost_name y n ≡ m)
  left = was between more new (row_lost at.0) (name_lost x) lost_row lost_name

  fewer : (n before after one_less : ℕ) → n ≡ before → after + one_less ≡ before → n - one_less ≡ after
  fewer n before after one_less e l = omega arith

  row_was : (spot : tree.Spot) (y : ℕ) → find spot_cmp spot (held_rows new) ≡ Some y → find spot_cmp spot (held_rows old) ≡ Some y
  row_was spot y f =
      let found : find spot_cmp spot (where_key spot_cmp (λ other. not (is_eq (spot_cmp at other))) (held_rows old)) ≡ Some y =
      ap (find spot_cmp spot) (sym rows_after_take) ∙ f in
      elim (same_or_other spot_cmp spots_total exact_spots spot at) [
        | inl s ↦ absurd (Some≢None y (sym found ∙
            ap (λ q. find spot_cmp q (where_key spot_cmp (λ other. not (is_eq (spot_cmp at other))) (held_rows old))) s.0 ∙
            without_here spot_cmp spots_total exact_spots at (held_rows old)))
        | inr s ↦ sym (without_elsewhere spot_cmp spots_total exact_spots spot at (held_rows old) s.0) ∙ found
      ]

  pub kept_after_take : AreConsistent new
  kept_after_take = record {
    filed = lost_name.filed;
    standing = record {
      rows_counted = λ y m e. (let w = left y m e in
          sym (ap (λ (n : SlotNode). n.standing.rows) w.2)
          ∙ fewer w.0.standing.rows (rows_in (held_rows old) y) _ (one_at at.0 y) (before_take.standing.rows_counted y w.0 w.1)
          (one_row_fewer y)
          ∙ sym (ap (λ rows. rows_in rows y) rows_after_take));
      names_counted = λ y m e. (let w = left y m e in
          sym (ap (λ (n : SlotNode). n.standing.names) w.2)
          ∙ fewer w.0.standing.names (names_of (held_rows old) y) _ (one_at x y) (before_take.standing.names_counted y w.0 w.1)
          (one_name_fewer y)
          ∙ sym (ap (λ rows. names_of rows y) rows_after_take));
      dir_spot = λ spot y m f e d. (let w = left y m e in
          ap (spot_at new.rows.names) (sym (ap (λ (n : SlotNode). n.standing.key) w.2))
          ∙ ap (λ r. spot_at r.names w.0.standing.key) same_rows ∙ ap (λ names. spot_at names w.0.standing.key) same_names
          ∙ before_take.standing.dir_spot spot y w.0 (row_was spot y f) w.1 (ap (λ (n : SlotNode). n.kind) w.2 ∙ d));
    };
    kinds = λ q row m r e. (let w = left row.node m e in
        sym (ap (λ (n : SlotNode). n.kind) w.2) ∙
        before_take.kinds q row w.0 (stayed (row_in old q) (spot_ghosts.eq (key_at at) (key_at q)) row (sym (changes (key_at q)) ∙
        sym (row_by new between same_rows q) ∙ r)) w.1);
  }
    where
      stayed : (was : Option RowNode) (here : Bool) (row : RowNode) → cond here None was ≡ Some row → was ≡ Some row
      stayed was true row r = absurd (Some≢None row (sym r))
      stayed was false row r = r
