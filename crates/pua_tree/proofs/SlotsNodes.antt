-- Nodes put into slots and taken out of them.
use Rattle.pua_tree.proofs.Common.{◌≡◌, ◌≢◌, ℕ, ◌+◌, true, false, ◌==◌, cond, Option, Some, None, is_some, refl, sym, ap, subst, ◌∙◌, arith}
use Rattle.pua_tree.proofs.Common.{eqb-true, eq-eqb, true≢false, IsSome, option_and_then, find, eqb-false, index_map_len, spot_cmp, slot_of}
use Rattle.pua_tree.proofs.Common.{node_in, held_rows, rows_in, names_of, AreConsistent, Slots, SlotNode}
use Rattle.std.proofs.Common.{ne_eqb}
use Rattle.slab.specs.Slab.{get as slot_get, slab_len, Updates}
use Rattle.std.specs.Option.{OnSome}
use Rattle.pua_tree.specs.NamedRows.{key_at, spot_at}
use Rattle.pua_tree.specs.Slots.{IsFiled}
use Rattle.pua_tree.proofs.Base.{same_Some, None≢Some}
use Rattle.pua_tree.specs.contracts.spot.SpotPartialEq.TheImpl.{ghosts as spot_ghosts}
use Rattle.pua_tree.proofs.Common.{lookup}
use Rattle.pua_tree.proofs.SlotsHold.{node_of_row, rows_found, rows_by_entries}
use Rattle.pua_tree.proofs.SlotsKeep.{named, rows_by, row_by}

-- what is found alike is kept alike
pub kept_alike : (old new : Slots) → old.rows.entries ≡ new.rows.entries → old.rows.names ≡ new.rows.names → ((x : ℕ) → node_in new x ≡ node_in old x) → IsFiled new →
    AreConsistent old → AreConsistent new
kept_alike old new entries names found filed kept = let rows = rows_by_entries new old (sym entries) in record {
  filed = filed;
  standing = record {
    rows_counted = λ x n e. kept.standing.rows_counted x n (sym (found x) ∙ e) ∙ ap (λ r. rows_in r x) (sym rows);
    names_counted = λ x n e. kept.standing.names_counted x n (sym (found x) ∙ e) ∙ ap (λ r. names_of r x) (sym rows);
    dir_spot = λ at x n f e d. ap (λ ns. spot_at ns n.standing.key) (sym names) ∙
        kept.standing.dir_spot at x n (ap (find spot_cmp at) (sym rows) ∙ f) (sym (found x) ∙ e) d;
  };
  kinds = λ at row n r e. kept.kinds at row n (ap (lookup (spot_ghosts.eq (key_at at))) entries ∙ r) (sym (found row.node) ∙ e);
}

pub filed_alike : (old new : Slots) → ((x : ℕ) → slot_of new x ≡ slot_of old x) →
    ((slot : ℕ) → slot_get new.nodes slot ≡ slot_get old.nodes slot)
    → slab_len new.nodes ≡ slab_len old.nodes → index_map_len new.numbers ≡ index_map_len old.numbers → IsFiled old → IsFiled new
filed_alike old new slots got nodes numbers f = record {
  filled = λ x slot e. ap is_some (got slot) ∙ f.filled x slot (sym (slots x) ∙ e);
  apart = λ x y slot e d. f.apart x y slot (sym (slots x) ∙ e) (sym (slots y) ∙ d);
  no_other = nodes ∙ f.no_other ∙ sym numbers;
}

pub found_alike : (old new : Slots) → ((x : ℕ) → slot_of new x ≡ slot_of old x) →
    ((slot : ℕ) → slot_get new.nodes slot ≡ slot_get old.nodes slot) → (x : ℕ) → node_in new x ≡ node_in old x
found_alike old new slots got x =
    ap (λ (o : Option ℕ). option_and_then (slot_get new.nodes) o) (slots x) ∙ by (slot_of old x)
  where
    by : (o : Option ℕ) → option_and_then (slot_get new.nodes) o ≡ option_and_then (slot_get old.nodes) o
    by None = refl
    by (Some slot) = got slot

-- a node put into a slot that had none, under a number that had none
module _ (old new : Slots) (x slot : ℕ) (node : SlotNode) (f : IsFiled old) (free : slot_of old x ≡ None)
    (numbered : (q : ℕ) → slot_of new q ≡ cond (x == q) (Some slot) (slot_of old q)) (vacant : slot_get old.nodes slot ≡ None)
    (put : Updates old.nodes new.nodes slot (Some node)) (more_nodes : slab_len new.nodes ≡ slab_len old.nodes + 1)
    (more_numbers : index_map_len new.numbers ≡ index_map_len old.numbers + 1) where
  not_vacant : (q s : ℕ) → slot_of old q ≡ Some s → s ≢ slot
  not_vacant q s e here = true≢false (sym (f.filled q s e) ∙ ap is_some (ap (slot_get old.nodes) here ∙ vacant))

  -- the slot of a number is the new one, or as it was
  slot_was : (q s : ℕ) → x ≢ q → slot_of new q ≡ Some s → slot_of old q ≡ Some s
  slot_was q s n e = sym (ap (λ b. cond b (Some slot) (slot_of old q)) (ne_eqb x q n)) ∙ sym (numbered q) ∙ e

  slot_is : (q s : ℕ) → x ≡ q → slot_of new q ≡ Some s → slot ≡ s
  slot_is q s n e = same_Some slot s (sym (ap (λ b. cond b (Some slot) (slot_of old q)) (eq-eqb x q n)) ∙ sym (numbered q) ∙ e)

  pub found_added : (q : ℕ) → node_in new q ≡ cond (q == x) (Some node) (node_in old q)
  found_added q =
      elim (x == q) as (λ b. (x == q) ≡ b → node_in new q ≡ cond (q == x) (Some node) (node_in old q)) [
        | true ↦ λ t. ap (λ (o : Option ℕ). option_and_then (slot_get new.nodes) o) (numbered q ∙
            ap (λ b. cond b (Some slot) (slot_of old q)) t) ∙ put.changed
            ∙ sym (ap (λ b. cond b (Some node) (node_in old q)) (eq-eqb q x (sym (eqb-true x q t))))
        | false ↦ λ t. ap (λ (o : Option ℕ). option_and_then (slot_get new.nodes) o) (numbered q ∙
            ap (λ b. cond b (Some slot) (slot_of old q)) t) ∙ other (slot_of old q) refl
            ∙ sym (ap (λ b. cond b (Some node) (node_in old q)) (ne_eqb q x (λ e. eqb-false x q t (sym e))))
      ] refl
    where
      other : (o : Option ℕ) → slot_of old q ≡ o →
          option_and_then (slot_get new.nodes) o ≡ option_and_then (slot_get old.nodes) (slot_of old q)
      other None e = ap (λ (p : Option ℕ). option_and_then (slot_get old.nodes) p) (sym e)
      other (Some s) e = put.others s (not_vacant q s e) ∙ ap (λ (p : Option ℕ). option_and_then (slot_get old.nodes) p) (sym e)

  pub filed_added : IsFiled new
  filed_added = record {
    filled = λ q s e. elim (x == q) as (λ b. (x == q) ≡ b → IsSome (slot_get new.nodes s)) [
      | true ↦ λ t. ap is_some (ap (slot_get new.nodes) (sym (slot_is q s (eqb-true x q t) e)) ∙ put.changed)
      | false ↦ λ t. (let was = slot_was q s (eqb-false x q t) e in ap is_some (put.others s (not_vacant q s was)) ∙ f.filled q s was)
    ] refl;
    apart = λ q r s e d. elim (x == q) as (λ b. (x == q) ≡ b → q ≡ r) [
      | true ↦ λ t. elim (x == r) as (λ b. (x == r) ≡ b → q ≡ r) [
        | true ↦ λ u. sym (eqb-true x q t) ∙ eqb-true x r u
        | false ↦ λ u. absurd (not_vacant r s (slot_was r s (eqb-false x r u) d) (sym (slot_is q s (eqb-true x q t) e)))
      ] refl
      | false ↦ λ t. elim (x == r) as (λ b. (x == r) ≡ b → q ≡ r) [
        | true ↦ λ u. absurd (not_vacant q s (slot_was q s (eqb-false x q t) e) (sym (slot_is r s (eqb-true x r u) d)))
        | false ↦ λ u. f.apart q r s (slot_was q s (eqb-false x q t) e) (slot_was r s (eqb-false x r u) d)
      ] refl
    ] refl;
    no_other = more_nodes ∙ ap (λ n. n + 1) f.no_other ∙ sym more_numbers;
  }

  pub kept_added : AreConsistent old → new.rows ≡ old.rows → rows_in (held_rows old) x ≡ 0 → names_of (held_rows old) x ≡ 0
      → node.standing.rows ≡ 0 → node.standing.names ≡ 0 → AreConsistent new
  kept_added kept same no_rows no_names zero_rows zero_names = let rows = rows_by new old same in record {
    filed = filed_added;
    standing = record {
      rows_counted = λ q n e. by q n e (λ m. m.standing.rows ≡ rows_in (held_rows new) q) (λ t. zero_rows ∙
          sym (ap (rows_in (held_rows new)) t ∙ ap (λ r. rows_in r x) rows ∙ no_rows)) (λ w. kept.standing.rows_counted q n w ∙
          ap (λ r. rows_in r q) (sym rows));
      names_counted = λ q n e. by q n e (λ m. m.standing.names ≡ names_of (held_rows new) q) (λ t. zero_names ∙
          sym (ap (names_of (held_rows new)) t ∙ ap (λ r. names_of r x) rows ∙ no_names)) (λ w. kept.standing.names_counted q n w ∙
          ap (λ r. names_of r q) (sym rows));
      dir_spot = λ at q n g e d. (let row : find spot_cmp at (held_rows old) ≡ Some q = ap (find spot_cmp at) (sym rows) ∙ g in
          by q n e (λ m. spot_at new.rows.names m.standing.key ≡ Some at) (λ t. absurd (named (held_rows old) at q row
          (ap (names_of (held_rows old)) t ∙ no_names))) (λ w. ap (λ r. spot_at r.names n.standing.key) same ∙
          kept.standing.dir_spot at q n row w d));
    };
    kinds = λ at row n r e. (let row_was = sym (row_by new old same at) ∙ r in
        by row.node n e (λ m. m.kind ≡ row.kind) (λ t. absurd (named (held_rows old) at row.node (rows_found old at ∙
        ap node_of_row row_was) (ap (names_of (held_rows old)) t ∙ no_names))) (λ w. kept.kinds at row n row_was w));
  }
    where
      by : (q : ℕ) (n : SlotNode) → node_in new q ≡ Some n → (P : SlotNode → Type 0) → (q ≡ x → P node) → (node_in old q ≡ Some n → P n) →
          P n
      by q n e P here there =
          elim (q == x) as (λ b. (q == x) ≡ b → P n) [
            | true ↦ λ t. subst P (same_Some node n (sym (found_added q ∙ ap (λ b. cond b (Some node) (node_in old q)) t) ∙ e))
                (here (eqb-true q x t))
            | false ↦ λ t. there (sym (found_added q ∙ ap (λ b. cond b (Some node) (node_in old q)) t) ∙ e)
          ] refl

-- a node taken out of its slot
module _ (old new : Slots) (x slot : ℕ) (f : IsFiled old) (had : slot_of old x ≡ Some slot)
    (numbered : (q : ℕ) → slot_of new q ≡ cond (x == q) None (slot_of old q))
    (taken : Updates old.nodes new.nodes slot None) (fewer_nodes : slab_len new.nodes + 1 ≡ slab_len old.nodes)
    (fewer_numbers : index_map_len new.numbers + 1 ≡ index_map_len old.numbers) where
  not_taken : (q s : ℕ) → x ≢ q → slot_of old q ≡ Some s → s ≢ slot
  not_taken q s n e here = n (f.apart x q slot had (e ∙ ap Some here))

  slot_left : (q s : ℕ) → slot_of new q ≡ Some s → (x ≢ q) × (slot_of old q ≡ Some s)
  slot_left q s e =
      elim (x == q) as (λ b. (x == q) ≡ b → (x ≢ q) × (slot_of old q ≡ Some s)) [
        | true ↦ λ t. absurd (None≢Some s (sym (numbered q ∙ ap (λ b. cond b None (slot_of old q)) t) ∙ e))
        | false ↦ λ t. (eqb-false x q t, sym (numbered q ∙ ap (λ b. cond b None (slot_of old q)) t) ∙ e)
      ] refl

  pub found_dropped : (q : ℕ) → node_in new q ≡ cond (q == x) None (node_in old q)
  found_dropped q =
      elim (x == q) as (λ b. (x == q) ≡ b → node_in new q ≡ cond (q == x) None (node_in old q)) [
        | true ↦ λ t. ap (λ (o : Option ℕ). option_and_then (slot_get new.nodes) o) (numbered q ∙ ap (λ b. cond b None (slot_of old q)) t)
            ∙ sym (ap (λ b. cond b None (node_in old q)) (eq-eqb q x (sym (eqb-true x q t))))
        | false ↦ λ t. ap (λ (o : Option ℕ). option_and_then (slot_get new.nodes) o) (numbered q ∙ ap (λ b. cond b None (slot_of old q)) t)
            ∙ other (eqb-false x q t) (slot_of old q) refl
            ∙ sym (ap (λ b. cond b None (node_in old q)) (ne_eqb q x (λ e. eqb-false x q t (sym e))))
      ] refl
    where
      other : x ≢ q → (o : Option ℕ) → slot_of old q ≡ o →
          option_and_then (slot_get new.nodes) o ≡ option_and_then (slot_get old.nodes) (slot_of old q)
      other n None e = ap (λ (p : Option ℕ). option_and_then (slot_get old.nodes) p) (sym e)
      other n (Some s) e = taken.others s (not_taken q s n e) ∙ ap (λ (p : Option ℕ). option_and_then (slot_get old.nodes) p) (sym e)

  pub filed_dropped : IsFiled new
  filed_dropped = record {
    filled = λ q s e. (let w = slot_left q s e in ap is_some (taken.others s (not_taken q s w.0 w.1)) ∙ f.filled q s w.1);
    apart = λ q r s e d. f.apart q r s (slot_left q s e).1 (slot_left r s d).1;
    no_other = (let same = f.no_other in omega (arith, fewer_nodes, fewer_numbers, same));
  }

-- what is left is kept
pub kept_dropped : (old new : Slots) (x : ℕ) → AreConsistent old → new.rows ≡ old.rows →
    ((q : ℕ) → node_in new q ≡ cond (q == x) None (node_in old q)) → IsFiled new → AreConsistent new
kept_dropped old new x kept same found filed = let rows = rows_by new old same in record {
  filed = filed;
  standing = record {
    rows_counted = λ q n e. kept.standing.rows_counted q n (was q n e) ∙ ap (λ r. rows_in r q) (sym rows);
    names_counted = λ q n e. kept.standing.names_counted q n (was q n e) ∙ ap (λ r. names_of r q) (sym rows);
    dir_spot = λ at q n g e d. ap (λ r. spot_at r.names n.standing.key) same ∙
        kept.standing.dir_spot at q n (ap (find spot_cmp at) (sym rows) ∙ g) (was q n e) d;
  };
  kinds = λ at row n r e. kept.kinds at row n (sym (row_by new old same at) ∙ r) (was row.node n e);
}
  where
    was : (q : ℕ) (n : SlotNode) → node_in new q ≡ Some n → node_in old q ≡ Some n
    was q n e = elim (q == x) as (λ b. (q == x) ≡ b → node_in old q ≡ Some n) [
      | true ↦ λ t. absurd (None≢Some n (sym (found q ∙ ap (λ b. cond b None (node_in old q)) t) ∙ e))
      | false ↦ λ t. sym (found q ∙ ap (λ b. cond b None (node_in old q)) t) ∙ e
    ] refl

pub when_some : {X P : Type 0} (o : Option X) → IsSome o → OnSome o P → P
when_some None some p = absurd (true≢false (sym some))
when_some (Some x) some p = p

-- a number taken out that had no slot
pub found_absent : (old new : Slots) (x : ℕ) → ((q : ℕ) → node_in new q ≡ node_in old q) → slot_of old x ≡ None → (q : ℕ) →
    node_in new q ≡ cond (q == x) None (node_in old q)
found_absent old new x same none q =
    same q ∙ elim (q == x) as (λ b. (q == x) ≡ b → node_in old q ≡ cond b None (node_in old q)) [
      | true ↦ λ t. ap (λ (o : Option ℕ). option_and_then (slot_get old.nodes) o) (ap (slot_of old) (eqb-true q x t) ∙ none)
      | false ↦ λ _. refl
    ] refl
