-- What the code finds for a place of a crew's table is what follows there.
use Rattle.pua_jointly.proofs.Common.{◌≡◌, ◌∙◌, ◌==◌, ◌||◌, ℕ, Bool, true, false, List, length, sym, ap, subst, false≢true, or_left, or_right}
use Rattle.pua_jointly.proofs.Common.{Option, Some, None, ProcessState, Spot, Tree, WellFormed, CallTable}
use Rattle.std.specs.Prelude.{slice_get, ◌/◌, ◌%◌}
use Rattle.std.specs.Int.{bit_at}
use Rattle.std.specs.Int.Bits.{bit_or}
use Rattle.std.proofs.lemmas.Nat.Bits.{bit_at-zero}
use Rattle.pua_jointly.specs.Closing.{has_bit}
use Rattle.pua_jointly.specs.Jointly.{Hand}
use Rattle.pua_jointly.specs.JointGround.{Ground, ground_of}
use Rattle.pua_jointly.specs.JointTable.{Entity, bit_says, entities, columns, hands_of, table_says, FollowsAt}
use Rattle.pua_jointly.specs.JointShape.{entity_of, column_of}
use Rattle.pua_jointly.specs.JointRounds.{by_agent_at_once, by_agent_word, by_watch_word, flag, is_full, part_at_once, part_word, row_word, side_at_once, side_word}
use Rattle.pua_jointly.specs.JointRounds.{taken_word}
use Rattle.pua_jointly.specs.JointSetup.{HasSide, IsCrew, dirs_of, side_of}
use Rattle.pua_jointly.specs.declared.crew.Crew.{Crew}
use Rattle.pua_jointly.specs.declared.crew.Entry.{Entry}
use Rattle.pua_jointly.specs.declared.crew.Side.{Side}
use Rattle.pua_jointly.specs.declared.crew.Watch.{Watch}
use Rattle.pua_jointly.proofs.Common.{None≢Some, refl}
use Rattle.pua_jointly.specs.declared.shape.Row.{Row}
use Rattle.pua_jointly.specs.declared.shape.Row.TheVariants as rows
use Rattle.pua_jointly.specs.declared.shape.Part.TheVariants as parts
use Rattle.pua_jointly.specs.declared.agent.Agent.{Agent}
use Rattle.pua_jointly.specs.declared.shape.Part.{Part}
use Rattle.pua_jointly.proofs.Gaining.{has_or}
use Rattle.pua_jointly.proofs.JointFlags.{flag_means}
use Rattle.pua_jointly.proofs.JointRounds.{whole_only, whole_all}

-- what follows by covers alone
no_bit : (bit : ℕ) → has_bit 0 bit → ⊥
no_bit bit held = false≢true (sym (ap (λ n. n == 1) (bit_at-zero bit)) ∙ held)

enters_once : (covers : ℕ) (meets other : Bool) (turns bit : ℕ) → has_bit (flag meets 18) bit →
    has_bit (bit_or covers (bit_or (flag (meets || other) 18) turns)) bit
enters_once covers false other turns bit held = absurd (no_bit bit held)
enters_once covers true other turns bit held =
    has_or covers (bit_or (flag true 18) turns) bit
    ∙ or_right (bit_at covers bit == 1) (bit_at (bit_or (flag true 18) turns) bit == 1)
    (has_or (flag true 18) turns bit ∙ or_left (bit_at (flag true 18) bit == 1) (bit_at turns bit == 1) held)

agent_of_once : (t : Tree) (c : Ground) (told : List ℕ) (at : ℕ) (about : Row) (o : Option Agent) (bit : ℕ) →
    has_bit (by_agent_at_once c told about o) bit → has_bit (by_agent_word t c told at about o) bit
agent_of_once t c told at about None bit held = held
agent_of_once t c told at (rows.Dir dir) (Some of) bit held = enters_once _ _ _ _ bit held
agent_of_once t c told at (rows.Made i) (Some of) bit held = absurd (no_bit bit held)
agent_of_once t c told at (rows.Landing i) (Some of) bit held = absurd (no_bit bit held)
agent_of_once t c told at (rows.Drops i) (Some of) bit held = absurd (no_bit bit held)
agent_of_once t c told at (rows.Name i) (Some of) bit held = absurd (no_bit bit held)

part_of_once : (t : Tree) (c : Ground) (told : List ℕ) (at : ℕ) (about : Row) (p : Part) (bit : ℕ) →
    has_bit (part_at_once c told about p) bit → has_bit (part_word t c told at about p) bit
part_of_once t c told at about (parts.Agent i) bit held = agent_of_once t c told at about (slice_get c.agents i) bit held
part_of_once t c told at about parts.Common bit held = absurd (no_bit bit held)
part_of_once t c told at about (parts.Watched i) bit held = absurd (no_bit bit held)

pub side_of_once : (t : Tree) (c : Crew) (told : List ℕ) (at : ℕ) (about : Row) (p : Part) (o : Option Side) (bit : ℕ) →
    has_bit (side_at_once c told about p o) bit → has_bit (side_word t c told at about p o) bit
side_of_once t c told at about p None bit held = held
side_of_once t c told at about p (Some side) bit held = part_of_once t (ground_of c side) told at about p bit held

-- a word of a name has one bit alone
name_bit : (t : Tree) (c : Ground) (told : List ℕ) (at i : ℕ) (p : Part) (bit : ℕ) → has_bit (part_word t c told at (rows.Name i) p) bit → bit ≡ 0
name_bit t c told at i (parts.Agent j) bit held = by (slice_get c.agents j) held
  where
    carried : (of : Agent) (o : Option Entry) → has_bit (row_word c told of o) bit → bit ≡ 0
    carried of None held = absurd (no_bit bit held)
    carried of (Some entry) held = (flag_means _ 0 bit held).1

    by : (o : Option Agent) → has_bit (by_agent_word t c told at (rows.Name i) o) bit → bit ≡ 0
    by None held = absurd (no_bit bit held)
    by (Some of) held = carried of (slice_get c.entries i) held
name_bit t c told at i parts.Common bit held = by (slice_get c.entries i) held
  where
    by : (o : Option Entry) → has_bit (taken_word c told o) bit → bit ≡ 0
    by None held = absurd (no_bit bit held)
    by (Some entry) held = (flag_means _ 0 bit held).1
name_bit t c told at i (parts.Watched j) bit held = by (slice_get c.watches j) held
  where
    by : (o : Option Watch) → has_bit (by_watch_word t c told at (rows.Name i) o) bit → bit ≡ 0
    by None held = absurd (no_bit bit held)
    by (Some watch) held = absurd (no_bit bit held)

-- so one that is full has what is said to follow
pub full_has : (t : Tree) (c : Crew) (told : List ℕ) (at : ℕ) (about : Row) (p : Part) (o : Option Side) (word bit : ℕ) → is_full about p word ≡ true →
    has_bit (side_word t c told at about p o) bit → has_bit word bit
full_has t c told at about p None word bit full held = absurd (no_bit bit held)
full_has t c told at (rows.Name i) p (Some side) word bit full held =
    subst (has_bit word) (sym (name_bit t (ground_of c side) told at i p bit held)) full
full_has t c told at (rows.Dir d) (parts.Agent i) (Some side) word bit full held = absurd (false≢true full)
full_has t c told at (rows.Dir d) parts.Common (Some side) word bit full held = absurd (no_bit bit held)
full_has t c told at (rows.Dir d) (parts.Watched i) (Some side) word bit full held = absurd (false≢true full)
full_has t c told at (rows.Made i) p (Some side) word bit full held = absurd (false≢true full)
full_has t c told at (rows.Landing i) p (Some side) word bit full held = absurd (false≢true full)
full_has t c told at (rows.Drops i) p (Some side) word bit full held = absurd (false≢true full)

module _ (t : Tree) (well : WellFormed t) (table : CallTable) (crew : List ProcessState) (devices : List ℕ) (watched : ℕ → Bool)
    (spots : List Spot) (guarded : List ℕ) (c : Crew) (is : IsCrew t table crew devices watched spots guarded c) (told : List ℕ) where
  abbrev dirs : ℕ
  dirs = dirs_of c

  abbrev many : ℕ
  many = length (columns crew guarded)

  abbrev hands : List Hand
  hands = hands_of crew devices

  -- with what it is said to hold in place of what it holds
  same : (side : Side) → ground_of c side ≡ record (ground_of c side) { columns = many; common = length crew }
  same side = λ z. record (ground_of c side) { columns = is.columns z; common = is.many z }

  module _ (place : ℕ) (about : Row) (p : Part)
      (in_rows : slice_get (entities hands dirs spots) (place / c.columns) ≡ entity_of hands spots about)
      (parts : slice_get (columns crew guarded) (place % c.columns) ≡ column_of crew guarded p) where
    rows_now : slice_get (entities hands dirs spots) (place / many) ≡ entity_of hands spots about
    rows_now = (λ z. slice_get (entities hands dirs spots) (place / sym is.columns z)) ∙ in_rows

    parts_now : slice_get (columns crew guarded) (place % many) ≡ column_of crew guarded p
    parts_now = (λ z. slice_get (columns crew guarded) (place % sym is.columns z)) ∙ parts

    abbrev Here : ℕ → Type 0
    Here bit = FollowsAt t table crew watched (table_says (entities hands dirs spots) (columns crew guarded)) told place bit

    abbrev found : Option Side → ℕ
    found o = side_word t c told (place / c.columns) about p o

    side_only : (e : Entity) → entity_of hands spots about ≡ Some e → HasSide t table crew hands dirs spots c about e → (bit : ℕ) →
        has_bit (found (side_of c about)) bit → Here bit
    side_only e is_about at bit held =
        whole_only t well table crew devices watched dirs spots guarded is.fits is.each_agent is.each_hand is.each_name is.each_watched told c
        at.side at.on at.is is.agents is.entries is.watches is.only_watched is.watch_columns is.low_nodes is.on_devices place about p e (rows_now ∙ is_about) is_about at.here
        parts_now bit
        (subst (λ n. has_bit (part_word t (record (ground_of c at.side) { columns = many; common = length crew }) told (place / n) about p) bit)
        is.columns (subst (λ (k : Ground). has_bit (part_word t k told (place / c.columns) about p) bit) (same at.side)
        (subst (λ o. has_bit (found o) bit) at.of held)))

    side_all : (e : Entity) → entity_of hands spots about ≡ Some e → HasSide t table crew hands dirs spots c about e → (bit : ℕ) →
        Here bit → has_bit (found (side_of c about)) bit
    side_all e is_about at bit new =
        subst (λ o. has_bit (found o) bit) (sym at.of)
        (subst (λ (k : Ground). has_bit (part_word t k told (place / c.columns) about p) bit) (sym (same at.side))
        (subst (λ n. has_bit (part_word t (record (ground_of c at.side) { columns = many; common = length crew }) told (place / n) about p) bit)
        (sym is.columns)
        (whole_all t well table crew devices watched dirs spots guarded is.fits is.each_agent is.each_hand is.each_name is.each_watched told c
        at.side at.on at.is is.agents is.entries is.watches is.only_watched is.watch_columns is.low_nodes is.on_devices place about p e (rows_now ∙ is_about) is_about at.here
        parts_now bit new)))

    pub step_only : (bit : ℕ) → has_bit (found (side_of c about)) bit → Here bit
    step_only bit held = by (entity_of hands spots about) refl
      where
        by : (o : Option Entity) → entity_of hands spots about ≡ o → Here bit
        by None none = absurd (no_bit bit (subst (λ o. has_bit (found o) bit) (is.only_rows about none) held))
        by (Some e) some = side_only e some (is.rows (place / c.columns) about e (in_rows ∙ some) some) bit held

    pub step_all : (bit : ℕ) → Here bit → has_bit (found (side_of c about)) bit
    step_all bit new = by (entity_of hands spots about) refl
      where
        by : (o : Option Entity) → entity_of hands spots about ≡ o → has_bit (found (side_of c about)) bit
        by None none = absurd (None≢Some new.fact ((λ z. bit_says (sym (rows_now ∙ none) z) (slice_get (columns crew guarded) (place % many)) bit) ∙ new.says))
        by (Some e) some = side_all e some (is.rows (place / c.columns) about e (in_rows ∙ some) some) bit new
