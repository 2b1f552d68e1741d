-- The covers that the table of a crew has for what stands or is made are those that can come over it.
use Rattle.pua_jointly.proofs.Common.{◌≡◌, ◌≢◌, ◌<◌, ◌⊎◌, ◌∙◌, ◌==◌, ℕ, Bool, true, false, List, length, refl, sym, ap, subst, inl, inr}
use Rattle.pua_jointly.proofs.Common.{arith, Option, Some, None, None≢Some, ProcessState, Spot, Cover, Tree, CallTable, Call}
use Rattle.pua_jointly.proofs.Common.{Object, Among, among_contained, contained, and_from, and_parts, eq-eqb, eqb-true, false≢true, list_any, empty_tree}
use Rattle.pua_jointly.proofs.Common.{covered_verdict, is_allowed, is_dir, look, row_says, sound_from, has_c, New, or_left, or_right, not}
use Rattle.pua_jointly.proofs.Common.{kind_at, row_of}
use Rattle.std.specs.Prelude.{slice_get, get_or, ◌+◌, ◌*◌, if◌then◌else◌, IsTrue}
use Rattle.std.specs.List.{Contains}
use Rattle.std.specs.Int.{bit_at}
use Rattle.std.specs.Int.Bits.{bit_or}
use Rattle.pua_jointly.specs.Closing.{has_bit, IsClosed}
use Rattle.pua_jointly.specs.JointCovers.{allows_under, cover_of, numbered}
use Rattle.pua_jointly.specs.JointFound.{born_in, born_on, carried_by, carried_covers, entry_word, made_in, made_on, made_words, new_covers, side_covers}
use Rattle.pua_tree.specs.Tree.{device}
use Rattle.pua_jointly.specs.Jointly.{Hand, seat_device, source_device, Seat, Old, Made, Source, Row, Maker, Can, DirCover, NameCover, StandsAt, Free, name_own, name_within, stays_at}
use Rattle.pua_jointly.specs.Jointly.{moved_at, born_at}
use Rattle.pua_jointly.specs.JointFacts.{Kept, Covers, Drops, Carries, Creates, Taken, IsOfCrew, Follows, IsOver, over_own, over_within, Puts, Lies, lies_now}
use Rattle.pua_jointly.specs.JointFacts.{lies_born, lies_moved, drops_within, drops_at, watches}
use Rattle.pua_jointly.specs.JointOld.{asked_word, over_word}
use Rattle.pua_jointly.specs.JointPlace.{cover_bit, new_bit}
use Rattle.pua_jointly.specs.JointRounds.{has_one, is_taken, stays_in}
use Rattle.pua_jointly.specs.JointSetup.{FollowsTold, IsCrew, IsEntry, IsSide, IsWorkedOut, count_told, crew_told, devices_told, dir_side, dirs_of}
use Rattle.pua_jointly.specs.JointSetup.{guarded_told, hands_told, layout_told, name_row}
use Rattle.pua_jointly.specs.JointSetup.{spots_told}
use Rattle.pua_jointly.specs.JointTable.{DirAt, HasBit, HasFacts, IsTold, columns}
use Rattle.pua_jointly.specs.JointWords.{IsAgent, IsMover, covers_in, word_at}
use Rattle.pua_jointly.specs.declared.agent.Agent.{Agent}
use Rattle.pua_jointly.specs.declared.crew.Crew.{Crew}
use Rattle.pua_jointly.specs.declared.crew.Entry.{Entry}
use Rattle.pua_jointly.specs.declared.crew.Side.{Side}
use Rattle.pua_jointly.specs.declared.mover.Mover.{Mover}
use Rattle.pua_jointly.specs.declared.shape.Row.TheVariants as rows
use Rattle.pua_jointly.proofs.Gaining.{has_or}
use Rattle.pua_jointly.proofs.JointDoing.{bit_back, cover_back}
use Rattle.pua_jointly.proofs.JointFlags.{covers_have, covers_mean}
use Rattle.pua_jointly.proofs.JointNames.{asked_same, over_means, over_has}
use Rattle.pua_jointly.proofs.JointPlaced.{InRange, among_got, among_numbers, follows_bit, got_among, hand_parts, in_range, numbers_among, over_small}
use Rattle.pua_jointly.proofs.JointRows.{dir_row}
use Rattle.pua_objects.proofs.ForCallers.{map_among}
use Rattle.pua_jointly.proofs.JointRead.{carries_new_said, carries_said, covers_said, creates_said, drops_said, is_told, made_at, old_at, says}
use Rattle.pua_jointly.proofs.JointRead.{taken_said, told_is}
use Rattle.pua_jointly.proofs.JointTabled.{table_closed}
use Rattle.pua_jointly.proofs.JointWatched.{watches_enough}
use Rattle.pua_jointly.proofs.JointWords.{either_true, has_some, if_both, if_has, small_of}
use Rattle.pua_ever.proofs.ForCallers.{any_among, any_found}

-- a call is allowed under some cover of a word
pub record IsUnder (table : CallTable) (a : ProcessState) (covers : ℕ) (judged : Object) (call : Call) : Type 0 where
  pub cover : Cover
  pub small : cover_bit cover < 18
  pub has : has_bit covers (cover_bit cover)
  pub allowed : is_allowed (covered_verdict empty_tree table a call cover judged) ≡ true

pub under_means : (table : CallTable) (a : ProcessState) (covers : ℕ) (judged : Object) (call : Call) →
    list_any (allows_under table a covers judged call) (numbered 18) ≡ true → IsUnder table a covers judged call
under_means table a covers judged call e =
    let b = any_found (allows_under table a covers judged call) (numbered 18) e in
    let both = and_parts (bit_at covers b.0 == 1) _ b.2 in
    record {
      cover = cover_of b.0;
      small = subst (λ n. n < 18) (sym (bit_back b.0)) (numbers_among 18 b.0 b.1);
      has = subst (has_bit covers) (sym (bit_back b.0)) both.0;
      allowed = both.1;
    }

pub under_has : (table : CallTable) (a : ProcessState) (covers : ℕ) (judged : Object) (call : Call) → IsUnder table a covers judged call →
    list_any (allows_under table a covers judged call) (numbered 18) ≡ true
under_has table a covers judged call is =
    any_among (allows_under table a covers judged call) (numbered 18) (cover_bit is.cover) (among_numbers 18 (cover_bit is.cover) is.small)
    (and_from (bit_at covers (cover_bit is.cover) == 1) _ is.has
    (ap (λ k. is_allowed (covered_verdict empty_tree table a call k judged)) (cover_back is.cover) ∙ is.allowed))

abbrev source_spot : Spot → Source → Spot
source_spot s (Row q) = q
source_spot s (Maker new m) = s

abbrev is_row : Source → Bool
is_row (Row q) = true
is_row (Maker new m) = false

abbrev source_maker : Hand → Source → Hand
source_maker m (Row q) = m
source_maker m (Maker new h) = h

abbrev source_new : New → Source → New
source_new new (Row q) = new
source_new new (Maker other h) = other

maker_not : (new : New) (m : Hand) (s : Spot) → Maker new m ≢ Row s
maker_not new m s e = false≢true (ap is_row e)

module _ (t : Tree) (table : CallTable) (c : Crew) (out : IsWorkedOut t table c) (told : List ℕ)
    (full : length told ≡ count_told c) (closed : IsClosed (FollowsTold t table c) told)
    (facts : HasFacts t table (crew_told c) (watches t (crew_told c)) (layout_told c) told) (i : ℕ) (a : ProcessState) (of : Agent)
    (got : slice_get c.agents.items i ≡ Some of) (process : of.process.now ≡ a) where
  abbrev crew : List ProcessState
  crew = crew_told c

  abbrev is : IsCrew t table crew (devices_told c) (watches t crew) (spots_told c) (guarded_told c) c
  is = out.1

  abbrev many : ℕ
  many = length (columns crew (guarded_told c))

  pub is_agent : IsAgent table crew i a of
  is_agent =
      let one = is.agents.only i of got in
      subst (λ b. IsAgent table crew i b of) (sym one.2.process ∙ process) one.2

  in_crew : slice_get crew i ≡ Some a
  in_crew = let one = is.agents.only i of got in one.1 ∙ ap Some (sym one.2.process ∙ process)

  pub among : Contains crew a
  among = contained crew a (got_among crew i a in_crew)

  word_same : (row : ℕ) → word_at told c.columns row of.place ≡ word_at told many row i
  word_same row = λ z. word_at told (is.columns z) row (is_agent.place z)

  -- over a directory of the beginning
  pub dir_means : (d : ℕ) → d < dirs_of c → (k : Cover) → cover_bit k < 18 →
      has_bit (covers_in (word_at told c.columns d of.place)) (cover_bit k) → Can t table crew (DirCover a (Old d) k)
  dir_means d low k small held =
      let word = (covers_mean (word_at told c.columns d of.place) (cover_bit k) held).1 in
      facts.only (Covers a (Old d) k)
      (is_told crew (hands_told c) (dirs_of c) (spots_told c) (guarded_told c) is.each_agent is.each_hand is.each_name is.each_watched told (d * many + i) (cover_bit k)
      (Covers a (Old d) k) (covers_said crew (hands_told c) (dirs_of c) (spots_told c) (guarded_told c) d i (Old d) a k (old_at low) in_crew small)
      (ap (λ w. bit_at w (cover_bit k) == 1) (sym (word_same d)) ∙ word))

  pub dir_has : (d : ℕ) (k : Cover) → Can t table crew (DirCover a (Old d) k) → (cover_bit k < 18)
      × has_bit (covers_in (word_at told c.columns d of.place)) (cover_bit k)
  dir_has d k can =
      let held = facts.all (DirCover a (Old d) k) can among in
      let range = in_range t table crew (devices_told c) (watches t crew) (dirs_of c) (spots_told c) (guarded_told c) is.fits told (Covers a (Old d) k) held in
      let small = small_of k range.2 in (
        small,
        covers_have (word_at told c.columns d of.place) (cover_bit k) small (ap (λ w. bit_at w (cover_bit k) == 1) (word_same d)
            ∙ told_is crew (hands_told c) (dirs_of c) (spots_told c) (guarded_told c) is.each_agent is.each_hand is.each_name is.each_watched told (d * many + i) (cover_bit k)
            (Covers a (Old d) k) (covers_said crew (hands_told c) (dirs_of c) (spots_told c) (guarded_told c) d i (Old d) a k (old_at range.1) in_crew small) held),
      )

  -- the parameters of what is known of words
  abbrev W : ℕ
  W = many

  abbrev T : Kept → Type 0
  T x = IsTold (layout_told c) told x

  follows_known : (x : Kept) → IsOfCrew crew x → Follows t table crew (watches t crew) T x → T x
  follows_known x of_crew new =
      table_closed t out.0 table crew (watches t crew) (watches_enough t out.0 table crew) (layout_told c) told closed
      (λ y of_y new_y. subst (λ n. HasBit (layout_told c) n y) (sym full)
      (follows_bit t table crew (devices_told c) (watches t crew) (dirs_of c) (spots_told c) (guarded_told c) is.fits told y of_y new_y)) x of_crew new

  known : (at bit : ℕ) (x : Kept) → says crew (hands_told c) (dirs_of c) (spots_told c) (guarded_told c) at bit x → has_bit (get_or told at 0) bit → T x
  known at bit x it held =
      is_told crew (hands_told c) (dirs_of c) (spots_told c) (guarded_told c) is.each_agent is.each_hand is.each_name is.each_watched told at bit x it held

  holds : (at bit : ℕ) (x : Kept) → says crew (hands_told c) (dirs_of c) (spots_told c) (guarded_told c) at bit x → T x → has_bit (get_or told at 0) bit
  holds at bit x it of =
      told_is crew (hands_told c) (dirs_of c) (spots_told c) (guarded_told c) is.each_agent is.each_hand is.each_name is.each_watched told at bit x it of

  range : (x : Kept) → T x → InRange t table crew (devices_told c) (watches t crew) (dirs_of c) (spots_told c) (guarded_told c) is.fits x
  range x of = in_range t table crew (devices_told c) (watches t crew) (dirs_of c) (spots_told c) (guarded_told c) is.fits told x of

  -- what can come over a name
  over_can : (d : Seat) (name : List ℕ) (k : Cover) → IsOver t table crew (watches t crew) T a d name k → Can t table crew (NameCover a d name k)
  over_can d name k (over_own stands own) = name_own stands own
  over_can d name k (over_within none cov) = name_within none (facts.only (Covers a d k) cov)

  -- where one puts what is no directory, a cover of this one is told
  drop_new : (b : Hand) (p : Seat) (other : List ℕ) (k j : Cover) → seat_device t p ≡ b.1 → Puts t table crew (watches t crew) T b.0 p other →
      IsOver t table crew (watches t crew) T b.0 p other j → IsTrue (has_c j) → IsOver t table crew (watches t crew) T a p other k →
      Follows t table crew (watches t crew) T (Drops b a k)
  drop_new b (Old dir) other k j near puts from_b held over = drops_at dir other near puts over
  drop_new b (Made m) other k j near puts (over_own stands own) held over = absurd (None≢Some _ own)
  drop_new b (Made m) other k j near puts (over_within none from_b) held (over_own stands own) = absurd (None≢Some _ own)
  drop_new b (Made m) other k j near puts (over_within none from_b) held (over_within other_none cov) =
      drops_within (Made m) j near from_b held cov

  dropped : (b : Hand) (p : Seat) (other : List ℕ) (k : Cover) → Contains crew b.0 → seat_device t p ≡ b.1 →
      Puts t table crew (watches t crew) T b.0 p other → IsOver t table crew (watches t crew) T a p other k → T (Drops b a k)
  dropped b p other k from near puts over =
      follows_known (Drops b a k) (from, among) (drop_new b p other k puts.cover near puts puts.over puts.has over)

  -- a device
  abbrev SideOn : ℕ → Side → Type 0
  SideOn on side = IsSide t table crew (hands_told c) (dirs_of c) (spots_told c) c.watches.items on side

  side_with : (m : Hand) → Among (hands_told c) m → (side : Side) × Among c.sides.items side × SideOn m.1 side
  side_with m in_hands =
      let found = map_among (λ (side : Side). side.device) c.sides.items m.1 (hand_parts crew (devices_told c) m in_hands).1 in
      (found.0, found.1, subst (λ v. SideOn v found.0) found.2 (is.each_side found.0 (contained c.sides.items found.0 found.1)))

  side_in : (side : Side) → Among c.sides.items side → SideOn side.device side
  side_in side in_sides = is.each_side side (contained c.sides.items side in_sides)

  dir_has_side : (d : ℕ) → d < dirs_of c → (side : Side) × (dir_side c d ≡ Some side) × SideOn (device t d) side
  dir_has_side d low =
      let at = is.rows d (rows.Dir d) (DirAt d) (dir_row (hands_told c) (dirs_of c) (spots_told c) d low) refl in
      (at.side, at.of, subst (λ v. SideOn v at.side) (sym at.here) at.is)

  -- the row of where a process puts what is no directory
  module _ (side : Side) (on : ℕ) (is_side : SideOn on side) (j : ℕ) (b : ProcessState) (by : Mover) (from : slice_get crew j ≡ Some b)
      (is_by : IsMover table (dirs_of c) (length (hands_told c)) side.first j b by) where
    abbrev drops_row : ℕ
    drops_row = dirs_of c + (length (hands_told c) + (length (hands_told c) + (side.first + j)))

    drop_word : word_at told c.columns by.drops of.place ≡ word_at told many drops_row i
    drop_word = λ z. word_at told (is.columns z) (is_by.drops z) (is_agent.place z)

    drop_means : (k : Cover) → cover_bit k < 18 → has_bit (covers_in (word_at told c.columns by.drops of.place)) (cover_bit k) → T (Drops (b, on) a k)
    drop_means k small held =
        let word = (covers_mean (word_at told c.columns by.drops of.place) (cover_bit k) held).1 in
        known (drops_row * many + i) (cover_bit k) (Drops (b, on) a k)
        (drops_said crew (hands_told c) (dirs_of c) (spots_told c) (guarded_told c) (side.first + j) i (b, on) a k (is_side.hand j b from) in_crew small)
        (ap (λ w. bit_at w (cover_bit k) == 1) (sym drop_word) ∙ word)

    drop_has : (k : Cover) → T (Drops (b, on) a k) → (cover_bit k < 18) × has_bit (covers_in (word_at told c.columns by.drops of.place)) (cover_bit k)
    drop_has k of_drops =
        let small = small_of k (range (Drops (b, on) a k) of_drops).2 in (
          small,
          covers_have (word_at told c.columns by.drops of.place) (cover_bit k) small (ap (λ w. bit_at w (cover_bit k) == 1) drop_word
              ∙ holds (drops_row * many + i) (cover_bit k) (Drops (b, on) a k)
              (drops_said crew (hands_told c) (dirs_of c) (spots_told c) (guarded_told c) (side.first + j) i (b, on) a k (is_side.hand j b from) in_crew small) of_drops),
        )

  -- something comes under a cover somewhere
  pub record Comes (r : Source) (k : Cover) : Type 0 where
    pub dir : Seat
    pub name : List ℕ
    pub stands : Can t table crew (StandsAt r dir name)
    pub over : Can t table crew (NameCover a dir name k)

  -- what others carry: a source whose bits stand in a row
  module _ (r : Source) (side : Side) (on : ℕ) (is_side : SideOn on side) (near_r : source_device t r ≡ on) (row bit : ℕ)
      (said : (j : ℕ) (b : ProcessState) → slice_get crew j ≡ Some b → says crew (hands_told c) (dirs_of c) (spots_told c) (guarded_told c) (row * many + j) bit (Carries r b)) where
    record Carried (k : Cover) : Type 0 where
      pub by : ProcessState
      pub among : Contains crew by
      pub carries : T (Carries r by)
      pub drops : T (Drops (by, on) a k)

    abbrev is_carried : Cover → Mover → Bool
    is_carried k by = has_one (carried_by c told of row bit by) (cover_bit k)

    carried_means : (k : Cover) → cover_bit k < 18 → has_bit (carried_covers c told of row bit side) (cover_bit k) → Carried k
    carried_means k small held =
        let found = any_found (is_carried k) side.movers.items (sym (has_some (carried_by c told of row bit) side.movers.items (cover_bit k)) ∙ held) in
        let g = among_got side.movers.items found.0 found.1 in
        let one = is_side.movers.only g.at found.0 g.is in
        let both = if_has (has_one (word_at told c.columns row found.0.place) bit) (covers_in (word_at told c.columns found.0.drops of.place))
        (cover_bit k) found.2 in
        record {
          by = one.0;
          among = contained crew one.0 (got_among crew g.at one.0 one.1);
          carries = known (row * many + g.at) bit (Carries r one.0) (said g.at one.0 one.1)
              ((λ z. bit_at (word_at told (sym is.columns z) row (sym one.2.place z)) bit == 1) ∙ both.0);
          drops = drop_means side on is_side g.at one.0 found.0 one.1 one.2 k small both.1;
        }

    carried_has : (k : Cover) → Carried k → (cover_bit k < 18) × has_bit (carried_covers c told of row bit side) (cover_bit k)
    carried_has k carried =
        let g = among_got crew carried.by (among_contained crew carried.by carried.among) in
        let one = is_side.movers.each g.at carried.by g.is in
        let drop = drop_has side on is_side g.at carried.by one.0 g.is one.2 k carried.drops in (
          drop.0,
          has_some (carried_by c told of row bit) side.movers.items (cover_bit k)
              ∙ any_among (is_carried k) side.movers.items one.0 (got_among side.movers.items g.at one.0 one.1)
              (if_both (has_one (word_at told c.columns row one.0.place) bit) (covers_in (word_at told c.columns one.0.drops of.place)) (cover_bit k)
              ((λ z. bit_at (word_at told (is.columns z) row (one.2.place z)) bit == 1)
              ∙ holds (row * many + g.at) bit (Carries r carried.by) (said g.at carried.by g.is) carried.carries) drop.1),
        )

    carried_comes : (k : Cover) → Carried k → Comes r k
    carried_comes k carried =
        let carry = facts.only (Carries r carried.by) carried.carries in
        let drop = facts.only (Drops (carried.by, on) a k) carried.drops in
        record {
          dir = drop.dir;
          name = drop.name;
          stands = moved_at carried.by carry.dir carry.name carry.cover carry.among carry.stands carry.over carry.can drop.writes (near_r ∙ sym drop.near);
          over = drop.over;
        }

  -- what stands at a name
  module _ (e_at : ℕ) (entry : Entry) (got_entry : slice_get c.entries.items e_at ≡ Some entry) (other : is_dir t entry.node ≡ false) where
    spot : Spot
    spot = (entry.dir, entry.name.now)

    is_entry : (s : Spot) × (slice_get (spots_told c) e_at ≡ Some s) × IsEntry t (dirs_of c) (length (hands_told c)) e_at s entry
    is_entry = is.entries.only e_at entry got_entry

    at_spot : slice_get (spots_told c) e_at ≡ Some (entry.dir, entry.name.now)
    at_spot = is_entry.1 ∙ ap Some (λ z. (sym is_entry.2.dir z, sym is_entry.2.name z))

    stands_here : look t entry.dir entry.name.now ≡ Some entry.node
    stands_here = (λ z. look t (is_entry.2.dir z) (is_entry.2.name z)) ∙ is_entry.2.at

    row_said : (j : ℕ) (b : ProcessState) → slice_get crew j ≡ Some b →
        says crew (hands_told c) (dirs_of c) (spots_told c) (guarded_told c) (entry.row * many + j) 0 (Carries (Row (entry.dir, entry.name.now)) b)
    row_said j b from =
        subst (λ r. says crew (hands_told c) (dirs_of c) (spots_told c) (guarded_told c) (r * many + j) 0 (Carries (Row (entry.dir, entry.name.now)) b))
        (sym is_entry.2.row) (carries_said crew (hands_told c) (dirs_of c) (spots_told c) (guarded_told c) e_at j (entry.dir, entry.name.now) b at_spot from)

    entry_low : entry.dir < dirs_of c
    entry_low = is.fits.above entry.dir entry.name.now entry.node stands_here

    entry_stands : is_dir t entry.dir ≡ true
    entry_stands = (row_says t (sound_from t out.0) (entry.dir, entry.name.now) entry.node stands_here).0

    abbrev own_word : ℕ
    own_word = asked_word of.named of.process.now told c.columns entry.dir entry.name.now of.place

    own_same : own_word ≡ over_word a told many entry.dir entry.name.now i
    own_same =
        (λ z. asked_word of.named (process z) told (is.columns z) entry.dir entry.name.now (is_agent.place z))
        ∙ asked_same a of.named is_agent.named told many entry.dir entry.name.now i

    entry_side : (side : Side) × (dir_side c entry.dir ≡ Some side) × SideOn (device t entry.dir) side
    entry_side = dir_has_side entry.dir entry_low

    abbrev others : ℕ
    others = carried_covers c told of entry.row 0 entry_side.0

    word_is : entry_word c told of entry ≡ bit_or own_word others
    word_is = ap (λ o. bit_or own_word (side_covers c told of entry.row 0 o)) entry_side.1

    pub entry_means : (k : Cover) → cover_bit k < 18 → has_bit (entry_word c told of entry) (cover_bit k) →
        Comes (Row (entry.dir, entry.name.now)) k
    entry_means k small held =
        elim (either_true (has_one own_word (cover_bit k)) _
        (sym (has_or own_word others (cover_bit k)) ∙ sym (ap (λ w. has_one w (cover_bit k)) word_is) ∙ held)) [
          | inl here ↦
              record {
                dir = Old entry.dir;
                name = entry.name.now;
                stands = stays_at entry.node stands_here other;
                over = over_can (Old entry.dir) entry.name.now k
                    (over_means t table crew (devices_told c) (watches t crew) (dirs_of c) (spots_told c) (guarded_told c) is.fits is.each_agent is.each_hand is.each_name
                    is.each_watched told entry.dir entry.name.now entry_low entry_stands i a among in_crew k small
                    (ap (λ w. has_one w (cover_bit k)) (sym own_same) ∙ here));
              }
          | inr on ↦
              carried_comes (Row (entry.dir, entry.name.now)) entry_side.0 (device t entry.dir) entry_side.2 refl entry.row 0 row_said k
              (carried_means (Row (entry.dir, entry.name.now)) entry_side.0 (device t entry.dir) entry_side.2 refl entry.row 0 row_said k small on)
        ]

    entry_by : (r : Source) → r ≡ Row (entry.dir, entry.name.now) → (p : Seat) (name : List ℕ) (k : Cover) →
        Lies t table crew (watches t crew) T r p name → IsOver t table crew (watches t crew) T a p name k →
        (cover_bit k < 18) × has_bit (entry_word c told of entry) (cover_bit k)
    entry_by r e p name k (lies_now {dir = dir} {name = own} x at is_other) over =
        let here : (dir, own) ≡ (entry.dir, entry.name.now) = ap (source_spot (dir, own)) e in
        let over_here = subst (λ (s : Spot). IsOver t table crew (watches t crew) T a (Old s.0) s.1 k) here over in
        let small = small_of k (over_small t table crew (devices_told c) (watches t crew) (dirs_of c) (spots_told c) (guarded_told c) is.fits told a
        (Old entry.dir) entry.name.now k among over_here) in (
          small,
          ap (λ w. has_one w (cover_bit k)) word_is ∙ has_or own_word others (cover_bit k)
              ∙ or_left (has_one own_word (cover_bit k)) _ (ap (λ w. has_one w (cover_bit k)) own_same
              ∙ over_has t table crew (devices_told c) (watches t crew) (dirs_of c) (spots_told c) (guarded_told c) is.fits is.each_agent is.each_hand is.each_name is.each_watched told
              entry.dir entry.name.now entry_low entry_stands i a among in_crew k small over_here),
        )
    entry_by r e p name k (lies_moved b from carries puts near) over =
        let carried = carried_has (Row (entry.dir, entry.name.now)) entry_side.0 (device t entry.dir) entry_side.2 refl entry.row 0 row_said k (record {
          by = b;
          among = from;
          carries = subst (λ q. T (Carries q b)) e carries;
          drops = dropped (b, device t entry.dir) p name k from (sym near ∙ ap (source_device t) e) puts over;
        }) in (
          carried.0,
          ap (λ w. has_one w (cover_bit k)) word_is ∙ has_or own_word others (cover_bit k)
              ∙ or_right (has_one own_word (cover_bit k)) _ carried.1,
        )
    entry_by r e p name k (lies_born from creates puts near) over = absurd (maker_not _ _ (entry.dir, entry.name.now) e)

    pub entry_has : (k : Cover) → Comes (Row (entry.dir, entry.name.now)) k →
        (cover_bit k < 18) × has_bit (entry_word c told of entry) (cover_bit k)
    entry_has k comes =
        entry_by (Row (entry.dir, entry.name.now)) refl comes.dir comes.name k
        (facts.all (StandsAt (Row (entry.dir, entry.name.now)) comes.dir comes.name) comes.stands)
        (facts.all (NameCover a comes.dir comes.name k) comes.over among)

  -- a directory that one makes
  abbrev is_made : Cover → Mover → Bool
  is_made k maker = has_one (made_in c told of maker) (cover_bit k)

  abbrev is_made_on : Cover → Side → Bool
  is_made_on k side = has_one (made_on c told of side) (cover_bit k)

  pub made_means : (k : Cover) → cover_bit k < 18 → has_bit (made_words c told of) (cover_bit k) →
      (m : Hand) × Can t table crew (DirCover a (Made m) k)
  made_means k small held =
      let at = any_found (is_made_on k) c.sides.items (sym (has_some (made_on c told of) c.sides.items (cover_bit k)) ∙ held) in
      let side : Side = at.0 in
      let is_side = side_in side at.1 in
      let found = any_found (is_made k) side.movers.items (sym (has_some (made_in c told of) side.movers.items (cover_bit k)) ∙ at.2) in
      let g = among_got side.movers.items found.0 found.1 in
      let one = is_side.movers.only g.at found.0 g.is in
      let word = (covers_mean (word_at told c.columns found.0.made of.place) (cover_bit k) found.2).1 in
      let row : ℕ = dirs_of c + (side.first + g.at) in
      let hand = is_side.hand g.at one.0 one.1 in (
        (one.0, side.device),
        facts.only (Covers a (Made (one.0, side.device)) k) (known (row * many + i) (cover_bit k) (Covers a (Made (one.0, side.device)) k)
            (covers_said crew (hands_told c) (dirs_of c) (spots_told c) (guarded_told c) row i (Made (one.0, side.device)) a k
            (made_at (side.first + g.at) hand) in_crew small)
            (ap (λ w. bit_at w (cover_bit k) == 1) (sym (word_same row) ∙ ap (λ s. word_at told c.columns s of.place) (sym one.2.made)) ∙ word)),
      )

  pub made_has : (m : Hand) (k : Cover) → Can t table crew (DirCover a (Made m) k) →
      (cover_bit k < 18) × has_bit (made_words c told of) (cover_bit k)
  made_has m k can =
      let held = facts.all (DirCover a (Made m) k) can among in
      let in_range_of = range (Covers a (Made m) k) held in
      let small = small_of k in_range_of.2 in
      let at = side_with m in_range_of.1 in
      let side : Side = at.0 in
      let g = among_got crew m.0 (hand_parts crew (devices_told c) m in_range_of.1).0 in
      let one = at.2.movers.each g.at m.0 g.is in
      let row : ℕ = dirs_of c + (side.first + g.at) in (
        small,
        has_some (made_on c told of) c.sides.items (cover_bit k)
            ∙ any_among (is_made_on k) c.sides.items side at.1
            (has_some (made_in c told of) side.movers.items (cover_bit k)
            ∙ any_among (is_made k) side.movers.items one.0 (got_among side.movers.items g.at one.0 one.1)
            (covers_have (word_at told c.columns one.0.made of.place) (cover_bit k) small
            (ap (λ w. bit_at w (cover_bit k) == 1) (ap (λ s. word_at told c.columns s of.place) one.2.made ∙ word_same row)
            ∙ holds (row * many + i) (cover_bit k) (Covers a (Made m) k)
            (covers_said crew (hands_told c) (dirs_of c) (spots_told c) (guarded_told c) row i (Made m) a k
            (made_at (side.first + g.at) (at.2.hand g.at m.0 g.is)) in_crew small) held))),
      )

  -- what one makes that is no directory
  module _ (new : New) where
    abbrev is_born : Cover → Side → Mover → Bool
    is_born k side by = has_one (born_in c told of new side by) (cover_bit k)

    abbrev is_born_on : Cover → Side → Bool
    is_born_on k side = has_one (born_on c told of new side) (cover_bit k)

    abbrev own_born : Mover → ℕ
    own_born by =
        if has_one (word_at told c.columns by.drops c.shape.agents) (new_bit new) then covers_in (word_at told c.columns by.drops of.place) else 0

    abbrev carried_on : Side → Mover → ℕ
    carried_on side by = carried_covers c told of by.made (19 + new_bit new) side

    -- of one process on a device
    module _ (side : Side) (on : ℕ) (is_side : SideOn on side) (j : ℕ) (m : ProcessState) (by : Mover) (from : slice_get crew j ≡ Some m)
        (is_by : IsMover table (dirs_of c) (length (hands_told c)) side.first j m by) where
      abbrev made_row : ℕ
      made_row = dirs_of c + (side.first + j)

      abbrev drop_row : ℕ
      drop_row = dirs_of c + (length (hands_told c) + (length (hands_told c) + (side.first + j)))

      maker_said : (k : ℕ) (b : ProcessState) → slice_get crew k ≡ Some b →
          says crew (hands_told c) (dirs_of c) (spots_told c) (guarded_told c) (by.made * many + k) (19 + new_bit new) (Carries (Maker new (m, on)) b)
      maker_said k b at =
          subst (λ row. says crew (hands_told c) (dirs_of c) (spots_told c) (guarded_told c) (row * many + k) (19 + new_bit new)
          (Carries (Maker new (m, on)) b)) (sym is_by.made)
          (carries_new_said crew (hands_told c) (dirs_of c) (spots_told c) (guarded_told c) (side.first + j) k (m, on) b new
          (is_side.hand j m from) at)

      creates_same : word_at told c.columns by.drops c.shape.agents ≡ word_at told many drop_row (length crew)
      creates_same = λ z. word_at told (is.columns z) (is_by.drops z) (is.many z)

      creates_bit : says crew (hands_told c) (dirs_of c) (spots_told c) (guarded_told c) (drop_row * many + length crew) (new_bit new)
          (Creates (m, on) new)
      creates_bit =
          creates_said crew (hands_told c) (dirs_of c) (spots_told c) (guarded_told c) (side.first + j) (m, on) new (is_side.hand j m from)

      born_means : (k : Cover) → cover_bit k < 18 → is_born k side by ≡ true → Comes (Maker new (m, on)) k
      born_means k small held =
          elim (either_true (has_one (own_born by) (cover_bit k)) _ (sym (has_or (own_born by) (carried_on side by) (cover_bit k)) ∙ held)) [
            | inl born ↦
                (let both = if_has (has_one (word_at told c.columns by.drops c.shape.agents) (new_bit new))
                (covers_in (word_at told c.columns by.drops of.place)) (cover_bit k) born in
                let makes = facts.only (Creates (m, on) new) (known (drop_row * many + length crew) (new_bit new) (Creates (m, on) new) creates_bit
                (ap (λ w. bit_at w (new_bit new) == 1) (sym creates_same) ∙ both.0)) in
                let drop = facts.only (Drops (m, on) a k) (drop_means side on is_side j m by from is_by k small both.1) in
                record {
                  dir = drop.dir;
                  name = drop.name;
                  stands = born_at (contained crew m (got_among crew j m from)) makes drop.writes drop.near;
                  over = drop.over;
                })
            | inr moved ↦
                carried_comes (Maker new (m, on)) side on is_side refl by.made (19 + new_bit new) maker_said k
                (carried_means (Maker new (m, on)) side on is_side refl by.made (19 + new_bit new) maker_said k small moved)
          ]

      born_has_own : (k : Cover) → T (Creates (m, on) new) → T (Drops (m, on) a k) → (cover_bit k < 18) × (is_born k side by ≡ true)
      born_has_own k creates drops =
          let drop = drop_has side on is_side j m by from is_by k drops in (
            drop.0,
            has_or (own_born by) (carried_on side by) (cover_bit k)
                ∙ or_left (has_one (own_born by) (cover_bit k)) _
                (if_both (has_one (word_at told c.columns by.drops c.shape.agents) (new_bit new)) (covers_in (word_at told c.columns by.drops of.place))
                (cover_bit k)
                (ap (λ w. bit_at w (new_bit new) == 1) creates_same ∙ holds (drop_row * many + length crew) (new_bit new) (Creates (m, on) new)
                creates_bit creates) drop.1),
          )

      born_has_moved : (k : Cover) (b : ProcessState) → Contains crew b → T (Carries (Maker new (m, on)) b) → T (Drops (b, on) a k) →
          (cover_bit k < 18) × (is_born k side by ≡ true)
      born_has_moved k b in_crew_b carries drops =
          let carried = carried_has (Maker new (m, on)) side on is_side refl by.made (19 + new_bit new) maker_said k
          (record { by = b; among = in_crew_b; carries = carries; drops = drops }) in (
            carried.0,
            has_or (own_born by) (carried_on side by) (cover_bit k) ∙ or_right (has_one (own_born by) (cover_bit k)) _ carried.1,
          )

    pub new_means : (k : Cover) → cover_bit k < 18 → has_bit (new_covers c told of new) (cover_bit k) → (m : Hand) × Comes (Maker new m) k
    new_means k small held =
        let at = any_found (is_born_on k) c.sides.items (sym (has_some (born_on c told of new) c.sides.items (cover_bit k)) ∙ held) in
        let side : Side = at.0 in
        let is_side = side_in side at.1 in
        let found = any_found (is_born k side) side.movers.items
        (sym (has_some (born_in c told of new side) side.movers.items (cover_bit k)) ∙ at.2) in
        let g = among_got side.movers.items found.0 found.1 in
        let one = is_side.movers.only g.at found.0 g.is in
        ((one.0, side.device), born_means side side.device is_side g.at one.0 found.0 one.1 one.2 k small found.2)

    -- the word has what one of them has
    found_born : (side : Side) → Among c.sides.items side → (by : Mover) → Among side.movers.items by → (k : Cover) →
        (cover_bit k < 18) × (is_born k side by ≡ true) → (cover_bit k < 18) × has_bit (new_covers c told of new) (cover_bit k)
    found_born side in_sides by in_movers k both = (
      both.0,
      has_some (born_on c told of new) c.sides.items (cover_bit k)
          ∙ any_among (is_born_on k) c.sides.items side in_sides
          (has_some (born_in c told of new side) side.movers.items (cover_bit k) ∙ any_among (is_born k side) side.movers.items by in_movers both.1),
    )

    new_by : (r : Source) (m : Hand) → r ≡ Maker new m → Among (hands_told c) m → (p : Seat) (name : List ℕ) (k : Cover) →
        Lies t table crew (watches t crew) T r p name → IsOver t table crew (watches t crew) T a p name k →
        (cover_bit k < 18) × has_bit (new_covers c told of new) (cover_bit k)
    new_by r m e in_hands p name k (lies_now x at is_other) over = absurd (maker_not new m _ (sym e))
    new_by r m e in_hands p name k (lies_born {by = b} {new = made} from creates puts near) over =
        let who : b ≡ m = ap (source_maker m) e in
        let what : made ≡ new = ap (source_new new) e in
        let at = side_with m in_hands in
        let g = among_got crew m.0 (hand_parts crew (devices_told c) m in_hands).0 in
        let one = at.2.movers.each g.at m.0 g.is in
        found_born at.0 at.1 one.0 (got_among at.0.movers.items g.at one.0 one.1) k
        (born_has_own at.0 m.1 at.2 g.at m.0 one.0 g.is one.2 k (subst (λ (h : Hand). T (Creates h new)) who (subst (λ n. T (Creates b n)) what creates))
        (subst (λ (h : Hand). T (Drops h a k)) who (dropped b p name k from near puts over)))
    new_by r m e in_hands p name k (lies_moved b from carries puts near) over =
        let at = side_with m in_hands in
        let g = among_got crew m.0 (hand_parts crew (devices_told c) m in_hands).0 in
        let one = at.2.movers.each g.at m.0 g.is in
        found_born at.0 at.1 one.0 (got_among at.0.movers.items g.at one.0 one.1) k
        (born_has_moved at.0 m.1 at.2 g.at m.0 one.0 g.is one.2 k b from (subst (λ q. T (Carries q b)) e carries)
        (dropped (b, m.1) p name k from (sym near ∙ ap (source_device t) e) puts over))

    -- a source of what is made is of one of the crew
    maker_in : (r : Source) (m : Hand) → r ≡ Maker new m → (p : Seat) (name : List ℕ) → Lies t table crew (watches t crew) T r p name →
        Among (hands_told c) m
    maker_in r m e p name (lies_now x at is_other) = absurd (maker_not new m _ (sym e))
    maker_in r m e p name (lies_born from creates puts near) = subst (Among (hands_told c)) (ap (source_maker m) e) (range _ creates)
    maker_in r m e p name (lies_moved b from carries puts near) =
        (range (Carries (Maker new m) b) (subst (λ q. T (Carries q b)) e carries)).1

    pub new_has : (m : Hand) (k : Cover) → Comes (Maker new m) k → (cover_bit k < 18) × has_bit (new_covers c told of new) (cover_bit k)
    new_has m k comes =
        let lies = facts.all (StandsAt (Maker new m) comes.dir comes.name) comes.stands in
        new_by (Maker new m) m refl (maker_in (Maker new m) m refl comes.dir comes.name lies) comes.dir comes.name k lies
        (facts.all (NameCover a comes.dir comes.name k) comes.over among)

  -- what stands at a name can be taken away
  module _ (e_at : ℕ) (entry : Entry) (got_entry : slice_get c.entries.items e_at ≡ Some entry) where
    named : (s : Spot) × (slice_get (spots_told c) e_at ≡ Some s) × IsEntry t (dirs_of c) (length (hands_told c)) e_at s entry
    named = is.entries.only e_at entry got_entry

    named_at : slice_get (spots_told c) e_at ≡ Some (entry.dir, entry.name.now)
    named_at = named.1 ∙ ap Some (λ z. (sym named.2.dir z, sym named.2.name z))

    pub stands_there : look t entry.dir entry.name.now ≡ Some entry.node
    stands_there = (λ z. look t (named.2.dir z) (named.2.name z)) ∙ named.2.at

    pub kind_there : kind_at t entry.node ≡ Some entry.kind
    kind_there = named.2.kind

    taken_same : is_taken c.columns c.shape.agents told entry.row ≡ has_one (word_at told many (name_row (dirs_of c) (length (hands_told c)) e_at) (length crew)) 0
    taken_same = λ z. has_one (word_at told (is.columns z) (named.2.row z) (is.many z)) 0

    taken_bit : says crew (hands_told c) (dirs_of c) (spots_told c) (guarded_told c) (name_row (dirs_of c) (length (hands_told c)) e_at * many + length crew) 0
        (Taken entry.dir entry.name.now)
    taken_bit = taken_said crew (hands_told c) (dirs_of c) (spots_told c) (guarded_told c) e_at (entry.dir, entry.name.now) named_at

    pub taken_means : is_taken c.columns c.shape.agents told entry.row ≡ true → Can t table crew (Free (Old entry.dir) entry.name.now)
    taken_means e =
        facts.only (Taken entry.dir entry.name.now)
        (known (name_row (dirs_of c) (length (hands_told c)) e_at * many + length crew) 0 (Taken entry.dir entry.name.now) taken_bit (sym taken_same ∙ e))

    pub taken_has : Can t table crew (Free (Old entry.dir) entry.name.now) → is_taken c.columns c.shape.agents told entry.row ≡ true
    taken_has can = by (facts.all (Free (Old entry.dir) entry.name.now) can)
      where
        by : (look t entry.dir entry.name.now ≡ None) ⊎ T (Taken entry.dir entry.name.now) → is_taken c.columns c.shape.agents told entry.row ≡ true
        by (inl none) = absurd (None≢Some entry.node (sym none ∙ stands_there))
        by (inr taken) =
            taken_same ∙ holds (name_row (dirs_of c) (length (hands_told c)) e_at * many + length crew) 0 (Taken entry.dir entry.name.now) taken_bit taken

  -- all that stands in a directory can be taken away
  pub entry_at : (d : ℕ) (name : List ℕ) (x : ℕ) → look t d name ≡ Some x → (e_at : ℕ) × (entry : Entry)
      × (slice_get c.entries.items e_at ≡ Some entry) × (entry.dir ≡ d) × (entry.name.now ≡ name)
  entry_at d name x at =
      let g = among_got (spots_told c) (d, name) (among_contained (spots_told c) (d, name) (is.fits.rows d name x at)) in
      let one = is.entries.each g.at (d, name) g.is in
      (g.at, one.0, one.1, one.2.dir, one.2.name)

  pub emptied_means : (d : ℕ) → not (list_any (stays_in c.columns c.shape.agents told d) c.entries.items) ≡ true → (name : List ℕ) (x : ℕ) → look t d name ≡ Some x →
      Can t table crew (Free (Old d) name)
  emptied_means d e name x at =
      let one = entry_at d name x at in
      subst (λ n. Can t table crew (Free (Old d) n)) one.4
      (subst (λ y. Can t table crew (Free (Old y) one.1.name.now)) one.3
      (taken_means one.0 one.1 one.2 (by one.1 (got_among c.entries.items one.0 one.1 one.2) one.3 (is_taken c.columns c.shape.agents told one.1.row) refl)))
    where
      by : (entry : Entry) → Among c.entries.items entry → entry.dir ≡ d → (b : Bool) → is_taken c.columns c.shape.agents told entry.row ≡ b → is_taken c.columns c.shape.agents told entry.row ≡ true
      by entry in_list here true is = is
      by entry in_list here false is =
          let stays = and_from (entry.dir == d) (not (is_taken c.columns c.shape.agents told entry.row)) (eq-eqb entry.dir d here) (ap not is) in
          absurd (false≢true (sym (ap not (any_among (stays_in c.columns c.shape.agents told d) c.entries.items entry in_list stays)) ∙ e))

  pub emptied_has : (d : ℕ) → ((name : List ℕ) (x : ℕ) → look t d name ≡ Some x → Can t table crew (Free (Old d) name)) →
      not (list_any (stays_in c.columns c.shape.agents told d) c.entries.items) ≡ true
  emptied_has d each = by (list_any (stays_in c.columns c.shape.agents told d) c.entries.items) refl
    where
      by : (b : Bool) → list_any (stays_in c.columns c.shape.agents told d) c.entries.items ≡ b → not (list_any (stays_in c.columns c.shape.agents told d) c.entries.items) ≡ true
      by false e = ap not e
      by true e =
          let found = any_found (stays_in c.columns c.shape.agents told d) c.entries.items e in
          let g = among_got c.entries.items found.0 found.1 in
          let both = and_parts (found.0.dir == d) _ found.2 in
          let here : found.0.dir ≡ d = eqb-true found.0.dir d both.0 in
          let can = subst (λ y. Can t table crew (Free (Old y) found.0.name.now)) (sym here)
          (each found.0.name.now found.0.node (subst (λ y. look t y found.0.name.now ≡ Some found.0.node) here (stands_there g.at found.0 g.is))) in
          absurd (false≢true (sym (ap not (taken_has g.at found.0 g.is can)) ∙ both.1))

  -- a directory of the tree has a number of the table
  pub dir_low : (d : ℕ) → is_dir t d ≡ true → d < dirs_of c
  dir_low d lives = by (d == 0) refl
    where
      by : (b : Bool) → (d == 0) ≡ b → d < dirs_of c
      by true e = let here = eqb-true d 0 e in omega (arith, here)
      by false e =
          let row = row_of t (sound_from t out.0) d lives (λ same. false≢true (sym e ∙ eq-eqb d 0 same)) in
          is.fits.below row.0.0 row.0.1 d row.1 lives

  -- the entry of a name, and of none
  pub no_entry : (dir : ℕ) (name : List ℕ) → ((entry : Entry) → Among c.entries.items entry → entry.dir ≡ dir → entry.name.now ≡ name → ⊥) →
      look t dir name ≡ None
  no_entry dir name never = by (look t dir name) refl
    where
      by : (o : Option ℕ) → look t dir name ≡ o → look t dir name ≡ None
      by None e = e
      by (Some x) e =
          let one = entry_at dir name x e in
          absurd (never one.1 (got_among c.entries.items one.0 one.1 one.2) one.3 one.4)
