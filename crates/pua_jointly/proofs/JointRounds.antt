-- The words that the code finds of a crew's table say what follows.
use Rattle.pua_jointly.proofs.Common.{◌≡◌, ◌≢◌, ◌<◌, ◌∙◌, ◌||◌, ◌&&◌, ◌==◌, ℕ, suc, Bool, true, false, List, length, refl, sym, ap, subst}
use Rattle.pua_jointly.proofs.Common.{inl, inr, arith, Option, Some, None, same_Some, None≢Some, ProcessState, Spot, Cover, Only, Tree, WellFormed}
use Rattle.pua_jointly.proofs.Common.{CallTable, if◌then◌else◌, not, false≢true, eqb-true, eq-eqb, and_from, and_parts, or_left, or_right}
use Rattle.pua_jointly.proofs.Common.{list_any, Among, among_contained, contained, is_dir, is_dir_kind, look, above, has_c, can_move}
use Rattle.pua_jointly.proofs.Common.{perms_kept, New, NewDir, NewOthers, NewFile, NewLink, NewSock, NewFifo, all_new, row_of, row_says, sound_from, Kind}
use Rattle.std.specs.Prelude.{slice_get, get_or, ◌+◌, ◌-◌, ◌*◌, ◌/◌, ◌%◌, ◌∷◌, [], map, option_map, zero, IsTrue, IsFalse}
use Rattle.std.specs.List.{Contains, fold}
use Rattle.std.specs.Int.{bit_at}
use Rattle.std.specs.Int.Bits.{bit_or}
use Rattle.std.proofs.lemmas.Bool.{not-true}
use Rattle.pua_tree.specs.Tree.{device, is_mount, parent}
use Rattle.pua_policy.specs.declared.place.Place.TheVariants as place
use Rattle.pua_jointly.specs.Closing.{has_bit}
use Rattle.pua_ever.specs.Ever.{new_kind, can_link}
use Rattle.pua_calls.specs.Calls.{file_by_rules}
use Rattle.pua_calls.specs.declared.rules.Rules.{Rules}
use Rattle.pua_calls.specs.declared.rules.Rules.TheVariants.{Standard, Openbsd}
use Rattle.pua_jointly.specs.Jointly.{Hand, seat_device, source_device, Seat, Source, Old, Made, Row, Maker, may_take, kind_of_source, own_veil}
use Rattle.pua_jointly.specs.JointFacts.{Kept, Covers, Enters, Lands, Clear, LandsClear, Turns, Taken, Creates, Drops, Carries, can_carry, Moves}
use Rattle.pua_jointly.specs.JointFacts.{makes_under, IsFreed, IsOver, over_own, over_within, Puts, IsPlain, Follows, enters_by_c, enters_by_name}
use Rattle.pua_jointly.specs.JointFacts.{enters_by_turn, enters_by_moved, turns_by, taken_dir, taken_other, creates_within, creates_at}
use Rattle.pua_jointly.specs.JointFacts.{drops_within, drops_at, carries_row, carries_born, carries_on, covers_own, covers_root, covers_within}
use Rattle.pua_jointly.specs.JointFacts.{covers_moved, covers_apart, covers_born, lands_in, clear_root, clear_within, clear_moved, clear_apart}
use Rattle.pua_jointly.specs.JointFacts.{clear_born, lands_clear}
use Rattle.pua_jointly.specs.JointTable.{IsTold, entities, columns, hands_of, table_says, TableFits, Entity, DirAt, MadeBy, LandingOf, DropsOf}
use Rattle.pua_jointly.specs.JointTable.{NameAt, Column, ByAgent, Common, Watching, word, bit_says, Layout, FollowsAt}
use Rattle.pua_jointly.specs.JointShape.{entity_of, column_of}
use Rattle.pua_jointly.specs.JointRounds.{flag}
use Rattle.pua_jointly.specs.declared.shape.Row.TheVariants as lines
use Rattle.pua_jointly.specs.declared.shape.Row as About
use Rattle.pua_jointly.specs.declared.shape.Part.{Part}
use Rattle.pua_jointly.specs.declared.shape.Part.TheVariants as columns_of
use Rattle.pua_jointly.proofs.JointFlags.{Behind, WordSays, none_says, one_says, covers_say, covers_and_say, news_say, news_word, news_mean, news_have}
use Rattle.pua_jointly.proofs.JointFlags.{flag_means, flag_has}
use Rattle.pua_jointly.proofs.JointPlaces.{row_at, new_is}
use Rattle.pua_jointly.proofs.Once.{mapped}
use Rattle.pua_jointly.specs.JointPlace.{Once, cover_bit, new_bit}
use Rattle.pua_jointly.specs.JointWords.{word_at, meets, moves_at, with_c, AreCovers, IsAgent, AreAgents, IsMover, AreMovers, making, carried_kind, carrying, some_meets}
use Rattle.pua_jointly.specs.JointWords.{dropped_word, landing_word, moved_word, apart_word, made_word, born_at, covers_in}
use Rattle.pua_jointly.specs.JointOld.{asked_word, over_word, above_word, old_word}
use Rattle.pua_jointly.specs.JointRounds as code
use Rattle.pua_jointly.specs.JointSetting.{AreColumns, AreDevices}
use Rattle.pua_jointly.specs.JointSides.{is_top}
use Rattle.pua_jointly.specs.JointGround.{Ground, ground_of}
use Rattle.pua_jointly.specs.JointSetup.{name_row, AreEntries, IsEntry, IsMark, IsRowOf, AreWatches, IsWatch, IsSeatOn, old_on, made_on, IsSide, IsOn}
use Rattle.pua_jointly.specs.declared.agent.Agent.{Agent}
use Rattle.pua_jointly.specs.declared.crew.Crew.{Crew}
use Rattle.pua_jointly.specs.declared.crew.Entry.{Entry}
use Rattle.pua_jointly.specs.declared.crew.Mark.{Mark}
use Rattle.pua_jointly.specs.declared.crew.Side.{Side}
use Rattle.pua_jointly.specs.declared.mover.Mover.{Mover}
use Rattle.pua_jointly.specs.declared.crew.Watch.{Watch}
use Rattle.pua_jointly.proofs.CoverBits.{c_covers}
use Rattle.pua_jointly.proofs.Devices.{below_plain, file_below, plain_below}
use Rattle.pua_jointly.proofs.Gaining.{has_or}
use Rattle.pua_jointly.proofs.JointPlaced.{got_among, among_got, entity_fits, hand_parts}
use Rattle.pua_jointly.proofs.JointRead.{SeatAt, old_at, made_at, says, turns_said, taken_said, clear_said, drops_said}
use Rattle.pua_jointly.proofs.JointRead.{carries_said, carries_new_said, creates_said, new_at}
use Rattle.pua_jointly.proofs.Jointly.{row_kind}
use Rattle.pua_jointly.proofs.JointWords as words
use Rattle.pua_jointly.proofs.JointWords.{Family, either_true, small_of}
use Rattle.pua_jointly.proofs.JointFound.{made_other, seat_number}
use Rattle.pua_jointly.proofs.JointOlds.{if_some, no_bit, Come, come_plain, come_apart, above_means, above_has, old_means, old_has}
use Rattle.pua_tree.proofs.ForCallers.{above_is}
use Rattle.pua_jointly.proofs.JointNames.{asked_same, some_over_means, some_over_has, over_means, over_has}
use Rattle.pua_ever.proofs.ForCallers.{any_among, any_found}

-- tests that fail
not_eq : (x y : ℕ) → not (x == y) ≡ true → x ≢ y
not_eq x y e same = false≢true (sym (ap not (eq-eqb x y same)) ∙ e)

eq_not : (x y : ℕ) → x ≢ y → not (x == y) ≡ true
eq_not x y apart = by (x == y) refl
  where
    by : (b : Bool) → (x == y) ≡ b → not (x == y) ≡ true
    by true e = absurd (apart (eqb-true x y e))
    by false e = ap not e

at_spot : (P : ℕ → List ℕ → Type 0) {a b : ℕ} {x y : List ℕ} → a ≡ b → x ≡ y → P a x → P b y
at_spot P {a = a} {y = y} same too v = subst (λ d. P d y) same (subst (P a) too v)

not_is : (b : Bool) → not b ≡ true → b ≡ false
not_is true e = absurd (false≢true e)
not_is false e = refl

none_of : {X : Type 0} (p : X → Bool) (xs : List X) → not (list_any p xs) ≡ true → (x : X) → Among xs x → p x ≡ false
none_of p xs e x among = by (p x) refl
  where
    by : (b : Bool) → p x ≡ b → p x ≡ false
    by true is = absurd (false≢true (sym (ap not (any_among p xs x among is)) ∙ e))
    by false is = is

none_by : {X : Type 0} (p : X → Bool) (xs : List X) → ((x : X) → Among xs x → p x ≡ true → ⊥) → not (list_any p xs) ≡ true
none_by p xs never = by (list_any p xs) refl
  where
    by : (b : Bool) → list_any p xs ≡ b → not (list_any p xs) ≡ true
    by true e = let found = any_found p xs e in absurd (never found.0 found.1 found.2)
    by false e = ap not e

abbrev spot_of : Spot → Source → Spot
spot_of s (Row q) = q
spot_of s (Maker new m) = s

abbrev is_row : Source → Bool
is_row (Row q) = true
is_row (Maker new m) = false

maker_is_not : (new : New) (m : Hand) (s : Spot) → Maker new m ≢ Row s
maker_is_not new m s e = false≢true (ap is_row e)

abbrev maker_of : Hand → Seat → Hand
maker_of m (Old d) = m
maker_of m (Made h) = h

-- what one list doesn't have, a list without other places doesn't have either
none_there : {X Y : Type 0} (xs : List X) (ys : List Y) (i : ℕ) →
    ((y : Y) → slice_get ys i ≡ Some y → (x : X) × (slice_get xs i ≡ Some x)) → slice_get xs i ≡ None → slice_get ys i ≡ None
none_there {Y = Y} xs ys i has none = by (slice_get ys i) refl
  where
    by : (o : Option Y) → slice_get ys i ≡ o → slice_get ys i ≡ None
    by None e = e
    by (Some y) e = let x = has y e in absurd (None≢Some x.0 (sym none ∙ x.1))

none_mapped : {X Y : Type 0} (f : X → Y) (o : Option X) → option_map f o ≡ None → o ≡ None
none_mapped f None e = refl
none_mapped f (Some x) e = absurd (None≢Some (f x) (sym e))

-- what is made is carried as a link or as no link is
carried_file : (agent : Agent) (whose : Rules) → carrying agent (file_by_rules whose) ≡ agent.carrying
carried_file agent Standard = refl
carried_file agent Openbsd = refl

same_carrying : (table : CallTable) (agent : Agent) (new : New) → carrying agent (new_kind table new) ≡ carrying agent (carried_kind new)
same_carrying table agent NewDir = refl
same_carrying table agent NewOthers = refl
same_carrying table agent NewFile = carried_file agent table.whose
same_carrying table agent NewLink = refl
same_carrying table agent NewSock = refl
same_carrying table agent NewFifo = refl

module _ (t : Tree) (well : WellFormed t) (table : CallTable) (crew : List ProcessState) (devices : List ℕ) (watched : ℕ → Bool) (dirs : ℕ)
    (spots : List Spot) (guarded : List ℕ) (fits : TableFits t crew devices watched dirs spots guarded) (each_agent : Once crew) (each_hand : Once (hands_of crew devices))
    (each_name : Once spots) (each_watched : Once guarded) (told : List ℕ) where
  abbrev pub hands : List Hand
  hands = hands_of crew devices

  abbrev pub h : ℕ
  h = length hands

  abbrev pub T : Kept → Type 0
  T x = IsTold (table_says (entities hands dirs spots) (columns crew guarded)) told x

  abbrev pub n : ℕ
  n = length crew

  abbrev pub many : ℕ
  many = length (columns crew guarded)

  abbrev pub Now : Kept → Type 0
  Now x = Follows t table crew watched T x

  abbrev pub Over : ProcessState → ℕ → List ℕ → Cover → Type 0
  Over a dir name k = IsOver t table crew watched T a (Old dir) name k

  abbrev pub Free : ℕ → List ℕ → Type 0
  Free dir name = IsFreed t table crew watched T (Old dir) name

  abbrev pub Moved : ProcessState → Seat → Type 0
  Moved b p = Moves t table crew watched T b p

  abbrev pub Seated : ℕ → Seat → Type 0
  Seated seat p = SeatAt crew hands dirs spots guarded seat p

  known : (at bit : ℕ) (x : Kept) → says crew hands dirs spots guarded at bit x → has_bit (get_or told at 0) bit → T x
  known at bit x it held = words.known t table crew devices watched dirs spots guarded fits each_agent each_hand each_name each_watched told at bit x it held

  has : (at bit : ℕ) (x : Kept) → says crew hands dirs spots guarded at bit x → T x → has_bit (get_or told at 0) bit
  has at bit x it is = words.has t table crew devices watched dirs spots guarded fits each_agent each_hand each_name each_watched told at bit x it is

  seat_is_old : (seat : ℕ) (p : Seat) → Seated seat p → seat < dirs → p ≡ Old seat
  seat_is_old seat p (old_at low) less = refl
  seat_is_old seat p (made_at i is) less = absurd (omega (arith, less))

  abbrev pub IsFamily : ℕ → ℕ → (Seat → Kept) → (Hand → Kept) → Type 0
  IsFamily j bit F L = Family t table crew devices watched dirs spots guarded fits each_agent each_hand each_name each_watched told j bit F L

  seat_is : (seat y : ℕ) (p : Seat) → Seated seat p → p ≡ Old y → seat ≡ y
  seat_is seat y p (old_at low) e = ap seat_number e
  seat_is seat y p (made_at i is) e = absurd (made_other _ y e)

  module _ (c₀ : Crew) (side : Side) (on : ℕ) (is_side : IsSide t table crew hands dirs spots c₀.watches.items on side)
      (are : AreAgents table crew c₀.agents.items) (entries : AreEntries t dirs h spots c₀.entries.items)
      (guards : AreWatches dirs (length crew) guarded c₀.watches.items)
      (only_watched : (y : ℕ) → Contains guarded y → IsTrue (watched y))
      (columns_are : AreColumns c₀.watches.items c₀.watch_columns.items)
      (low_nodes : (entry : Entry) → Contains c₀.entries.items entry → entry.node < dirs) (on_devices : AreDevices t dirs c₀.devices.items) where
    abbrev pub c : Ground
    c = record (ground_of c₀ side) { columns = many; common = n }

    abbrev first : ℕ
    first = side.first

    abbrev moving : AreMovers table crew dirs h first side.movers.items
    moving = is_side.movers

    -- the rows of the device's directories, and of what is made there
    seat_in : (seat : ℕ) → Among side.seats.items seat → (p : Seat) × Seated seat p × (seat_device t p ≡ on)
    seat_in seat among = by (is_side.only_seats seat (contained side.seats.items seat among))
      where
        by : {seat : ℕ} → IsSeatOn t hands dirs on seat → (p : Seat) × Seated seat p × (seat_device t p ≡ on)
        by (old_on {d = d} low near) = (Old d, old_at low, near)
        by (made_on i {by = m} is near) = (Made m, made_at i is, near)

    in_seats : (seat : ℕ) (p : Seat) → Seated seat p → seat_device t p ≡ on → Among side.seats.items seat
    in_seats seat p (old_at low) near = among_contained side.seats.items seat (is_side.seats seat (old_on low near))
    in_seats seat p (made_at i is) near = among_contained side.seats.items (dirs + i) (is_side.seats (dirs + i) (made_on i is near))

    -- names that can come to be free
    taken_means : (i : ℕ) (s : Spot) (row : ℕ) → slice_get spots i ≡ Some s → row ≡ name_row dirs h i → code.is_taken many n told row ≡ true →
        T (Taken s.0 s.1)
    taken_means i s row is here held =
        known (name_row dirs h i * many + n) 0 (Taken s.0 s.1) (taken_said crew hands dirs spots guarded i s is)
        ((λ z. bit_at (get_or told (sym here z * many + n) 0) 0 == 1) ∙ held)

    taken_has : (i : ℕ) (s : Spot) (row : ℕ) → slice_get spots i ≡ Some s → row ≡ name_row dirs h i → T (Taken s.0 s.1) →
        code.is_taken many n told row ≡ true
    taken_has i s row is here of =
        (λ z. bit_at (get_or told (here z * many + n) 0) 0 == 1)
        ∙ has (name_row dirs h i * many + n) 0 (Taken s.0 s.1) (taken_said crew hands dirs spots guarded i s is) of

    stands_at : (i : ℕ) (s : Spot) → slice_get spots i ≡ Some s → (x : ℕ) × (look t s.0 s.1 ≡ Some x)
    stands_at i s is = let e = entries.each i s is in (e.0.node, e.2.at)

    freed_means : (dir : ℕ) (name : List ℕ) (row : Option ℕ) → IsRowOf t dirs h spots (dir, name) row → code.is_freed c told row ≡ true →
        Free dir name
    freed_means dir name None none held = inl none
    freed_means dir name (Some row) r held = inr (taken_means r.0 (dir, name) row r.1 r.2 held)

    freed_has : (dir : ℕ) (name : List ℕ) (row : Option ℕ) → IsRowOf t dirs h spots (dir, name) row → Free dir name →
        code.is_freed c told row ≡ true
    freed_has dir name None none free = refl
    freed_has dir name (Some row) r (inl none) =
        let x = stands_at r.0 (dir, name) r.1 in absurd (None≢Some x.0 (sym none ∙ x.1))
    freed_has dir name (Some row) r (inr taken) = taken_has r.0 (dir, name) row r.1 r.2 taken

    -- a veil's name has a mark
    marked : (a : ProcessState) (dir : ℕ) (name : List ℕ) (perms : ℕ) → Contains crew a → perms_kept a (place.Slot dir name) ≡ Some perms →
        IsTrue (is_dir t dir) → device t dir ≡ on → (mark : Mark) × Among side.marks.items mark × (mark.dir ≡ dir) × (mark.name.now ≡ name)
    marked a dir name perms among own stands near =
        let m = is_side.marks.each a dir name perms among own stands near in (m.0, among_contained side.marks.items m.0 m.1, m.2, m.3)

    mark_fits : (mark : Mark) → Among side.marks.items mark → IsMark t dirs h spots on mark
    mark_fits mark among = is_side.marks.only mark (contained side.marks.items mark among)

    -- by a process, and what is asked of it
    module _ (i : ℕ) (a : ProcessState) (agent : Agent) (by : slice_get crew i ≡ Some a) (is : IsAgent table crew i a agent) where
      among : Contains crew a
      among = contained crew a (got_among crew i a by)

      over_same : (dir : ℕ) (name : List ℕ) →
          asked_word agent.named agent.process.now told many dir name agent.place ≡ over_word a told many dir name i
      over_same dir name =
          (λ z. asked_word agent.named (is.process z) told many dir name (is.place z))
          ∙ asked_same a agent.named is.named told many dir name i

      -- some cover of a name is one of which a test holds
      covered_means : (mask : ℕ) (test : Cover → Bool) → AreCovers mask test → (dir : ℕ) (name : List ℕ) → dir < dirs → IsTrue (is_dir t dir) →
          meets (asked_word agent.named agent.process.now told many dir name agent.place) mask ≡ true → (k : Cover) × Over a dir name k × IsTrue (test k)
      covered_means mask test covers dir name low stands e =
          some_over_means t table crew devices watched dirs spots guarded fits each_agent each_hand each_name each_watched told dir name low stands i a among by
          mask test covers (sym (ap (λ w. meets w mask) (over_same dir name)) ∙ e)

      covered_has : (mask : ℕ) (test : Cover → Bool) → AreCovers mask test → (dir : ℕ) (name : List ℕ) → dir < dirs → IsTrue (is_dir t dir) →
          (k : Cover) → Over a dir name k → IsTrue (test k) → meets (asked_word agent.named agent.process.now told many dir name agent.place) mask ≡ true
      covered_has mask test covers dir name low stands k over passes =
          ap (λ w. meets w mask) (over_same dir name)
          ∙ some_over_has t table crew devices watched dirs spots guarded fits each_agent each_hand each_name each_watched told dir name low stands i a among by
          mask test covers k over passes

      opens_means : (mask : ℕ) (test : Cover → Bool) → AreCovers mask test → (m : Mark) → IsMark t dirs h spots on m →
          code.opens c told agent mask m ≡ true → (k : Cover) × Over a m.dir m.name.now k × IsTrue (test k) × Free m.dir m.name.now
      opens_means mask test covers m mark e =
          let both = and_parts (code.is_freed c told m.row) _ e in
          let k = covered_means mask test covers m.dir m.name.now mark.low mark.stands both.1 in
          (k.0, k.1, k.2, freed_means m.dir m.name.now m.row mark.row both.0)

      opens_has : (mask : ℕ) (test : Cover → Bool) → AreCovers mask test → (m : Mark) → IsMark t dirs h spots on m → (k : Cover) →
          Over a m.dir m.name.now k → IsTrue (test k) → Free m.dir m.name.now → code.opens c told agent mask m ≡ true
      opens_has mask test covers m mark k over passes free =
          and_from (code.is_freed c told m.row) _ (freed_has m.dir m.name.now m.row mark.row free)
          (covered_has mask test covers m.dir m.name.now mark.low mark.stands k over passes)

      -- at a name with a veil of its own
      opens_own : (mask : ℕ) (test : Cover → Bool) → AreCovers mask test → (dir : ℕ) (name : List ℕ) (perms : ℕ) → IsTrue (is_dir t dir) →
          perms_kept a (place.Slot dir name) ≡ Some perms → IsTrue (test (Only perms)) → Free dir name → device t dir ≡ on →
          (m : Mark) × Among side.marks.items m × (m.dir ≡ dir) × (m.name.now ≡ name) × (code.opens c told agent mask m ≡ true)
      opens_own mask test covers dir name perms stands own passes free near =
          let m = marked a dir name perms among own stands near in (
            m.0,
            m.1,
            m.2,
            m.3,
            opens_has mask test covers m.0 (mark_fits m.0 m.1) (Only perms)
                (at_spot (λ d x. Over a d x (Only perms)) (sym m.2) (sym m.3) (over_own stands own)) passes
                (at_spot Free (sym m.2) (sym m.3) free),
          )

      cover_means : (mask : ℕ) (test : Cover → Bool) → AreCovers mask test → (seat : ℕ) (p : Seat) → Seated seat p →
          meets (word_at told many seat agent.place) mask ≡ true → (k : Cover) × T (Covers a p k) × IsTrue (test k)
      cover_means mask test covers seat p at e =
          words.some_cover_means t table crew devices watched dirs spots guarded fits each_agent each_hand each_name each_watched told mask test covers seat i p a at by
          (ap (λ x. meets (word_at told many seat x) mask) (sym is.place) ∙ e)

      cover_has : (mask : ℕ) (test : Cover → Bool) → AreCovers mask test → (seat : ℕ) (p : Seat) → Seated seat p → (k : Cover) →
          T (Covers a p k) → IsTrue (test k) → meets (word_at told many seat agent.place) mask ≡ true
      cover_has mask test covers seat p at k of passes =
          ap (λ x. meets (word_at told many seat x) mask) is.place
          ∙ words.some_cover_has t table crew devices watched dirs spots guarded fits each_agent each_hand each_name each_watched told mask test covers seat i p a at by
          k of passes

      -- it can put a directory into another one
      open_in_means : (seat : ℕ) (p : Seat) → Seated seat p → (m : Mark) → Among side.marks.items m →
          code.opens_in c told agent seat m ≡ true → Now (Enters a p)
      open_in_means seat p at m in_marks e =
          let mark = mark_fits m in_marks in
          let both = and_parts (m.dir == seat) _ e in
          let here : m.dir ≡ seat = eqb-true m.dir seat both.0 in
          let old : p ≡ Old seat = seat_is_old seat p at (subst (λ d. d < dirs) here mark.low) in
          let o = opens_means with_c has_c c_covers m mark both.1 in
          subst (λ q. Now (Enters a q)) (sym (old ∙ ap Old (sym here)))
          (enters_by_name m.name.now (record { cover = o.0; over = o.1; has = o.2; free = o.3 }))

      turns_known : (d : ℕ) → d < dirs → code.has_one (word_at told many d agent.place) 19 ≡ true → T (Turns a d)
      turns_known d low e =
          known (d * many + i) 19 (Turns a d) (turns_said crew hands dirs spots guarded d i a low by)
          ((λ z. bit_at (get_or told (d * many + sym is.place z) 0) 19 == 1) ∙ e)

      turns_there : (d : ℕ) → d < dirs → T (Turns a d) → code.has_one (word_at told many d agent.place) 19 ≡ true
      turns_there d low of =
          (λ z. bit_at (get_or told (d * many + is.place z) 0) 19 == 1)
          ∙ has (d * many + i) 19 (Turns a d) (turns_said crew hands dirs spots guarded d i a low by) of

    -- a watched directory
    record Guard (w : Watch) : Type 0 where
      at : ℕ
      dir : ℕ
      got : slice_get guarded at ≡ Some dir
      is : IsWatch dirs n at dir w
      watched_so : IsTrue (watched dir)

    guard_of : (w : Watch) → Among c₀.watches.items w → Guard w
    guard_of w in_watches =
        let g = among_got c₀.watches.items w in_watches in
        let one = guards.only g.at w g.is in
        record {
          at = g.at;
          dir = one.0;
          got = one.1;
          is = one.2;
          watched_so = only_watched one.0 (contained guarded one.0 (got_among guarded g.at one.0 one.1));
        }

    in_here : (w : Watch) → Among side.watches.items w → Among c₀.watches.items w × (device t w.dir ≡ on)
    in_here w among =
        let w_is = is_side.only_watches w (contained side.watches.items w among) in (among_contained c₀.watches.items w w_is.0, w_is.1)

    here_in : (w : Watch) → Among c₀.watches.items w → device t w.dir ≡ on → Among side.watches.items w
    here_in w among near = among_contained side.watches.items w (is_side.watches w (contained c₀.watches.items w among) near)

    record Guarded (y : ℕ) : Type 0 where
      watch : Watch
      in_watches : Among c₀.watches.items watch
      guard : Guard watch
      here : guard.dir ≡ y

    guarded_at : (y : ℕ) → Among guarded y → Guarded y
    guarded_at y among =
        let g = among_got guarded y among in
        let one = guards.each g.at y g.is in
        record {
          watch = one.0;
          in_watches = got_among c₀.watches.items g.at one.0 one.1;
          guard = record { at = g.at; dir = y; got = g.is; is = one.2; watched_so = only_watched y (contained guarded y among) };
          here = refl;
        }

    clear_known : (seat : ℕ) (p : Seat) → Seated seat p → (w : Watch) (g : Guard w) → code.is_clear c told seat w ≡ true → T (Clear g.dir p)
    clear_known seat p at w g e =
        known (seat * many + (n + suc g.at)) 0 (Clear g.dir p) (clear_said crew hands dirs spots guarded seat g.at g.dir p at g.got)
        ((λ z. bit_at (get_or told (seat * many + sym g.is.column z) 0) 0 == 1) ∙ e)

    clear_there : (seat : ℕ) (p : Seat) → Seated seat p → (w : Watch) (g : Guard w) → T (Clear g.dir p) → code.is_clear c told seat w ≡ true
    clear_there seat p at w g of =
        (λ z. bit_at (get_or told (seat * many + g.is.column z) 0) 0 == 1)
        ∙ has (seat * many + (n + suc g.at)) 0 (Clear g.dir p) (clear_said crew hands dirs spots guarded seat g.at g.dir p at g.got) of

    -- some process brings a directory into another one
    record Bringing (d : ℕ) (p : Seat) : Type 0 where
      by : ProcessState
      moves : Moved by (Old d)
      enters : T (Enters by p)

    brought_means : (d seat : ℕ) (p : Seat) → d < dirs → Seated seat p → list_any (code.brings c told d seat) side.movers.items ≡ true → Bringing d p
    brought_means d seat p low at e =
        let found = any_found (code.brings c told d seat) side.movers.items e in
        let g = among_got side.movers.items found.0 found.1 in
        let one = moving.only g.at found.0 g.is in
        let both = and_parts (moves_at told many d found.0) _ found.2 in
        record {
          by = one.0;
          moves = words.moves_means t table crew devices watched dirs spots guarded fits each_agent each_hand each_name each_watched told first d g.at (Old d) one.0 found.0
              (old_at low) one.1 one.2 both.0;
          enters = words.entered_means t table crew devices watched dirs spots guarded fits each_agent each_hand each_name each_watched told seat g.at p one.0 at one.1
              ((λ z. bit_at (get_or told (seat * many + sym one.2.place z) 0) 18 == 1) ∙ both.1);
        }

    brought_has : (d seat : ℕ) (p : Seat) → d < dirs → Seated seat p → (b : ProcessState) → Moved b (Old d) → T (Enters b p) →
        list_any (code.brings c told d seat) side.movers.items ≡ true
    brought_has d seat p low at b m enters =
        let g = among_got crew b (among_contained crew b m.among) in
        let one = moving.each g.at b g.is in
        any_among (code.brings c told d seat) side.movers.items one.0 (got_among side.movers.items g.at one.0 one.1)
        (and_from (moves_at told many d one.0) _
        (words.moves_has t table crew devices watched dirs spots guarded fits each_agent each_hand each_name each_watched told first d g.at (Old d) b one.0 (old_at low)
        g.is one.2 m)
        ((λ z. bit_at (get_or told (seat * many + one.2.place z) 0) 18 == 1)
        ∙ words.entered_has t table crew devices watched dirs spots guarded fits each_agent each_hand each_name each_watched told seat g.at p b at g.is enters))

    -- a directory stands in another one
    record Standing (d e : ℕ) : Type 0 where
      name : List ℕ
      at : look t e name ≡ Some d
      lives : is_dir t d ≡ true

    stands_means : (d seat : ℕ) → code.stands_in t d seat ≡ true → Standing d seat
    stands_means d seat e =
        let both = and_parts (not (d == 0)) _ e in by (parent t d) refl (not_eq d 0 both.0) both.1
      where
        by : (p : Option ℕ) → parent t d ≡ p → d ≢ 0 → code.is_parent p seat ≡ true → Standing d seat
        by None is other e = absurd (false≢true e)
        by (Some p) is other e =
            let lives = if_some (is_dir t d) (above t d) p is in
            let row = row_of t (sound_from t well) d lives.0 other in
            let here : row.0.0 ≡ seat = sym row.2 ∙ lives.1 ∙ eqb-true p seat e in
            record { name = row.0.1; at = subst (λ x. look t x row.0.1 ≡ Some d) here row.1; lives = lives.0 }

    stands_has : (d seat : ℕ) (name : List ℕ) → look t seat name ≡ Some d → is_dir t d ≡ true → code.stands_in t d seat ≡ true
    stands_has d seat name at lives =
        let other : d ≢ 0 = (row_says t (sound_from t well) (seat, name) d at).3 in
        let over : above t d ≡ seat = above_is t d (seat, name) other ((sound_from t well).once d lives other) at in
        let is : parent t d ≡ Some seat = ap (λ b. if b then Some (above t d) else None) lives ∙ ap Some over in
        and_from (not (d == 0)) _ (eq_not d 0 other) (ap (λ p. code.is_parent p seat) is ∙ eq-eqb seat seat refl)

    module _ (i : ℕ) (a : ProcessState) (agent : Agent) (by : slice_get crew i ≡ Some a) (is : IsAgent table crew i a agent) where
      turned_means : (seat : ℕ) (p : Seat) → Seated seat p → seat_device t p ≡ on → (w : Watch) → Among side.watches.items w →
          code.is_turned t c told agent seat w ≡ true → Now (Enters a p)
      turned_means seat p at near w in_watches e =
          let g = guard_of w (in_here w in_watches).0 in
          let beside : seat_device t p ≡ device t g.dir = near ∙ sym (in_here w in_watches).1 ∙ ap (device t) g.is.dir in
          let here : w.dir ≡ g.dir = g.is.dir in
          let both = and_parts (code.has_one (word_at told many w.dir agent.place) 19) _ e in
          let turns = turns_known i a agent by is g.dir g.is.low ((λ z. code.has_one (word_at told many (sym here z) agent.place) 19) ∙ both.0) in
          elim (either_true (code.stands_in t w.dir seat) (code.comes_in c told seat w) both.1) [
            | inl stands ↦
                (let s = stands_means g.dir seat ((λ z. code.stands_in t (sym here z) seat) ∙ stands) in
                let old : p ≡ Old seat = seat_is_old seat p at (fits.above seat s.name g.dir s.at) in
                subst (λ q. Now (Enters a q)) (sym old) (enters_by_turn s.name g.watched_so turns s.at s.lives (sym (ap (seat_device t) old) ∙ beside)))
            | inr comes ↦
                (let two = and_parts (code.is_clear c told seat w) _ comes in
                let b = brought_means g.dir seat p g.is.low at
                ((λ z. list_any (code.brings c told (sym here z) seat) side.movers.items) ∙ two.1) in
                enters_by_moved b.by g.watched_so turns b.moves b.enters (clear_known seat p at w g two.0) beside)
          ]

      enter_means : (seat : ℕ) (p : Seat) → Seated seat p → seat_device t p ≡ on → code.can_enter t c told agent seat ≡ true → Now (Enters a p)
      enter_means seat p at near e =
          elim (either_true (meets (word_at told many seat agent.place) with_c) _ e) [
            | inl over ↦ (let k = cover_means i a agent by is with_c has_c c_covers seat p at over in enters_by_c k.0 k.1 k.2)
            | inr rest ↦
                elim (either_true (list_any (code.opens_in c told agent seat) side.marks.items) _ rest) [
                  | inl name ↦
                      (let m = any_found (code.opens_in c told agent seat) side.marks.items name in
                      open_in_means i a agent by is seat p at m.0 m.1 m.2)
                  | inr turn ↦
                      (let w = any_found (code.is_turned t c told agent seat) side.watches.items turn in turned_means seat p at near w.0 w.1 w.2)
                ]
          ]

      abbrev by_cover : ℕ → Bool
      by_cover seat = meets (word_at told many seat agent.place) with_c

      abbrev by_name : ℕ → Bool
      by_name seat = list_any (code.opens_in c told agent seat) side.marks.items

      abbrev by_turn : ℕ → Bool
      by_turn seat = list_any (code.is_turned t c told agent seat) side.watches.items

      turned_has : (seat y : ℕ) → T (Turns a y) → IsTrue (watched y) → device t y ≡ on →
          ((w : Watch) (g : Guard w) → g.dir ≡ y → (code.stands_in t g.dir seat || code.comes_in c told seat w) ≡ true) →
          code.can_enter t c told agent seat ≡ true
      turned_has seat y turns is_watched near each =
          let g = guarded_at y (among_contained guarded y (fits.watches y is_watched)) in
          let d : ℕ = g.guard.dir in
          let here : g.watch.dir ≡ d = g.guard.is.dir in
          let one = turns_there i a agent by is d g.guard.is.low (subst (λ x. T (Turns a x)) (sym g.here) turns) in
          or_right (by_cover seat) (by_name seat || by_turn seat) (or_right (by_name seat) (by_turn seat)
          (any_among (code.is_turned t c told agent seat) side.watches.items g.watch
          (here_in g.watch g.in_watches (ap (device t) (here ∙ g.here) ∙ near))
          (and_from (code.has_one (word_at told many g.watch.dir agent.place) 19) _
          ((λ z. code.has_one (word_at told many (here z) agent.place) 19) ∙ one)
          ((λ z. code.stands_in t (here z) seat || code.comes_in c told seat g.watch) ∙ each g.watch g.guard g.here))))

      enter_has : (seat : ℕ) (p : Seat) → Seated seat p → seat_device t p ≡ on → Now (Enters a p) → code.can_enter t c told agent seat ≡ true
      enter_has seat p at near (enters_by_c k cov held) =
          or_left (by_cover seat) (by_name seat || by_turn seat) (cover_has i a agent by is with_c has_c c_covers seat p at k cov held)
      enter_has seat p at near (enters_by_name {dir = dir} name puts) = by_over puts.cover puts.over puts.has
        where
          by_over : (k : Cover) → Over a dir name k → IsTrue (has_c k) → code.can_enter t c told agent seat ≡ true
          by_over k (over_within none cov) held =
              or_left (by_cover seat) (by_name seat || by_turn seat) (cover_has i a agent by is with_c has_c c_covers seat (Old dir) at k cov held)
          by_over k (over_own stands own) held =
              let m = opens_own i a agent by is with_c has_c c_covers dir name _ stands own held puts.free near in
              or_right (by_cover seat) (by_name seat || by_turn seat) (or_left (by_name seat) (by_turn seat)
              (any_among (code.opens_in c told agent seat) side.marks.items m.0 m.1
              (and_from (m.0.dir == seat) _ (eq-eqb m.0.dir seat (m.2 ∙ sym (seat_is seat dir (Old dir) at refl))) m.4)))
      enter_has seat p at near (enters_by_turn {y = y} {dir = dir} name is_watched turns look_at lives beside) =
          turned_has seat y turns is_watched (sym beside ∙ near) (λ w g here.
          or_left (code.stands_in t g.dir seat) (code.comes_in c told seat w)
          ((λ z. code.stands_in t (here z) (seat_is seat dir (Old dir) at refl z)) ∙ stands_has y dir name look_at lives))
      enter_has seat p at near (enters_by_moved {y = y} b is_watched turns m enters clear beside) =
          turned_has seat y turns is_watched (sym beside ∙ near) (λ w g here.
          or_right (code.stands_in t g.dir seat) (code.comes_in c told seat w)
          (and_from (code.is_clear c told seat w) _ (clear_there seat p at w g (subst (λ x. T (Clear x p)) (sym here) clear))
          ((λ z. list_any (code.brings c told (g.is.dir z) seat) side.movers.items)
          ∙ brought_has g.dir seat p g.is.low at b (subst (λ x. Moved b (Old x)) (sym here) m) enters)))

    -- all that stands in a directory can be taken away
    emptied_means : (d : ℕ) → not (list_any (code.stays_in many n told d) c₀.entries.items) ≡ true → (name : List ℕ) (x : ℕ) →
        look t d name ≡ Some x → Free d name
    emptied_means d e name x at =
        let g = among_got spots (d, name) (among_contained spots (d, name) (fits.rows d name x at)) in
        let one = entries.each g.at (d, name) g.is in
        let none = none_of (code.stays_in many n told d) c₀.entries.items e one.0 (got_among c₀.entries.items g.at one.0 one.1) in
        let here : (one.0.dir == d) ≡ true = eq-eqb one.0.dir d one.2.dir in
        inr (taken_means g.at (d, name) one.0.row g.is one.2.row
        (by (code.is_taken many n told one.0.row) refl (ap (λ b. b && not (code.is_taken many n told one.0.row)) (sym here) ∙ none)))
      where
        by : {taken : Bool} (b : Bool) → taken ≡ b → not taken ≡ false → taken ≡ true
        by true is e = is
        by false is e = absurd (false≢true (sym e ∙ ap not is))

    emptied_has : (d : ℕ) → ((name : List ℕ) (x : ℕ) → look t d name ≡ Some x → Free d name) →
        not (list_any (code.stays_in many n told d) c₀.entries.items) ≡ true
    emptied_has d each = none_by (code.stays_in many n told d) c₀.entries.items (λ entry in_entries e.
        let g = among_got c₀.entries.items entry in_entries in
        let one = entries.only g.at entry g.is in
        let both = and_parts (entry.dir == d) _ e in
        let here : one.0.0 ≡ d = sym one.2.dir ∙ eqb-true entry.dir d both.0 in
        let free = freed_has one.0.0 one.0.1 (Some entry.row) (g.at, one.1, one.2.row)
        (subst (λ x. Free x one.0.1) (sym here) (each one.0.1 entry.node (subst (λ x. look t x one.0.1 ≡ Some entry.node) here one.2.at))) in
        false≢true (sym (ap not free) ∙ both.1))

    own_c : (own : Option ℕ) → code.gives_c own ≡ true → (perms : ℕ) × (own ≡ Some perms) × IsTrue (has_c (Only perms))
    own_c None e = absurd (false≢true e)
    own_c (Some perms) e = (perms, refl, e)

    module _ (i : ℕ) (a : ProcessState) (agent : Agent) (by : slice_get crew i ≡ Some a) (is : IsAgent table crew i a agent) where
      turn_means : (d : ℕ) → device t d ≡ on → code.can_turn c told agent d ≡ true → Now (Turns a d)
      turn_means d near e =
          let one = and_parts (code.gives_c (perms_kept agent.process.now (place.Dir d))) _ e in
          let two = and_parts (not (list_any (code.stays_in many n told d) c₀.entries.items)) _ one.1 in
          let own = own_c (perms_kept a (place.Dir d)) ((λ z. code.gives_c (perms_kept (sym is.process z) (place.Dir d))) ∙ one.0) in
          let w = any_found (code.turns_at c told agent d) side.watches.items two.1 in
          let g = guard_of w.0 (in_here w.0 w.1).0 in
          let both = and_parts (w.0.dir == d) _ w.2 in
          let here : g.dir ≡ d = sym g.is.dir ∙ eqb-true w.0.dir d both.0 in
          let s = any_found (code.replaces c told agent w.0) side.seats.items both.1 in
          let p = seat_in s.0 s.1 in
          let three = and_parts (not (s.0 == w.0.dir)) _ s.2 in
          let four = and_parts (meets (word_at told many s.0 agent.place) agent.moving) _ three.1 in
          let k = cover_means i a agent by is agent.moving (can_move table a) is.moving s.0 p.0 p.1 four.0 in
          turns_by own.0 p.0 k.0 own.1 own.2 (emptied_means d two.0) k.1 k.2
          (λ same. not_eq s.0 w.0.dir three.0 (seat_is s.0 d p.0 p.1 same ∙ sym (g.is.dir ∙ here)))
          (subst (λ x. T (Clear x p.0)) here (clear_known s.0 p.0 p.1 w.0 g four.1)) (p.2 ∙ sym near)

      turn_has : (d : ℕ) → device t d ≡ on → Now (Turns a d) → code.can_turn c told agent d ≡ true
      turn_has d near (turns_by perms other k own held empty cov can apart clear beside) =
          let r = words.range t table crew devices watched dirs spots guarded fits each_agent each_hand each_name each_watched told (Clear d other) clear in
          let g = guarded_at d r.1 in
          let s = words.seated t table crew devices watched dirs spots guarded fits other r.0 in
          let here : g.watch.dir ≡ d = g.guard.is.dir ∙ g.here in
          and_from (code.gives_c (perms_kept agent.process.now (place.Dir d))) _
          ((λ z. code.gives_c (perms_kept (is.process z) (place.Dir d))) ∙ ap code.gives_c own ∙ held)
          (and_from (not (list_any (code.stays_in many n told d) c₀.entries.items)) _ (emptied_has d empty)
          (any_among (code.turns_at c told agent d) side.watches.items g.watch (here_in g.watch g.in_watches (ap (device t) here ∙ near))
          (and_from (g.watch.dir == d) _ (eq-eqb g.watch.dir d here)
          (any_among (code.replaces c told agent g.watch) side.seats.items s.seat (in_seats s.seat other s.is (beside ∙ near))
          (and_from (not (s.seat == g.watch.dir)) _
          (eq_not s.seat g.watch.dir (λ same. apart (seat_is_old s.seat other s.is (subst (λ x. x < dirs) (sym (same ∙ g.guard.is.dir)) g.guard.is.low) ∙ ap Old (same ∙ here))))
          (and_from (meets (word_at told many s.seat agent.place) agent.moving) _
          (cover_has i a agent by is agent.moving (can_move table a) is.moving s.seat other s.is k cov can)
          (clear_there s.seat other s.is g.watch g.guard (subst (λ x. T (Clear x other)) (sym g.here) clear))))))))

      -- what it makes
      abbrev made_by : New → Cover → Bool
      made_by new k = makes_under table a new k

      create_means : (new : New) → code.can_create c told agent new ≡ true → Now (Creates (a, on) new)
      create_means new e =
          elim (either_true (some_meets told many agent.place (making agent new) side.seats.items) _ e) [
            | inl within ↦
                words.created_means t table crew devices watched dirs spots guarded fits each_agent each_hand each_name each_watched told on first is_side.hand side.seats.items in_seats seat_in (making agent new) a new
                (is.makes new) i by
                ((λ z. some_meets told many (sym is.place z) (making agent new) side.seats.items) ∙ within)
            | inr name ↦
                (let m = any_found (code.opens c told agent (making agent new)) side.marks.items name in
                let o = opens_means i a agent by is (making agent new) (made_by new) (is.makes new) m.0 (mark_fits m.0 m.1) m.2 in
                creates_at m.0.dir m.0.name.now o.0 (mark_fits m.0 m.1).near o.1 o.3 o.2)
          ]

      abbrev by_seat : New → Bool
      by_seat new = some_meets told many agent.place (making agent new) side.seats.items

      created_within : (new : New) (p : Seat) (k : Cover) → seat_device t p ≡ on → T (Covers a p k) → IsTrue (makes_under table a new k) → by_seat new ≡ true
      created_within new p k near cov made =
          (λ z. some_meets told many (is.place z) (making agent new) side.seats.items)
          ∙ words.created_has t table crew devices watched dirs spots guarded fits each_agent each_hand each_name each_watched told on first is_side.hand side.seats.items in_seats seat_in (making agent new) a new
          (is.makes new) i by p k near cov made

      create_has : (new : New) → Now (Creates (a, on) new) → code.can_create c told agent new ≡ true
      create_has new (creates_within p k near cov made) =
          or_left (by_seat new) (list_any (code.opens c told agent (making agent new)) side.marks.items) (created_within new p k near cov made)
      create_has new (creates_at dir name k near (over_within none cov) free made) =
          or_left (by_seat new) (list_any (code.opens c told agent (making agent new)) side.marks.items) (created_within new (Old dir) k near cov made)
      create_has new (creates_at dir name k near (over_own stands own) free made) =
          let m = opens_own i a agent by is (making agent new) (made_by new) (is.makes new) dir name _ stands own made free near in
          or_right (by_seat new) (list_any (code.opens c told agent (making agent new)) side.marks.items)
          (any_among (code.opens c told agent (making agent new)) side.marks.items m.0 m.1 m.4)

      -- what it carries on
      carry_covers : (r : Source) (kind : Kind) → kind_of_source t table r ≡ Some kind → AreCovers (carrying agent kind) (can_carry t table r a)
      carry_covers r kind e =
          subst (λ (o : Option Kind). AreCovers (carrying agent kind) (λ k. can_move table a k || can_link table a o k)) (sym e) (is.carries kind)

      module _ (j : ℕ) (b : ProcessState) (other : Mover) (from : slice_get crew j ≡ Some b) (is_b : IsMover table dirs h first j b other) where
        finds_same : (kind : Kind) → code.finds c told agent kind other
            ≡ meets (word_at told many (dirs + (h + (h + (first + j)))) i) (carrying agent kind)
        finds_same kind = λ z. meets (word_at told many (is_b.drops z) (is.place z)) (carrying agent kind)

        finds_means : (r : Source) (kind : Kind) → AreCovers (carrying agent kind) (can_carry t table r a) → code.finds c told agent kind other ≡ true →
            (k : Cover) × T (Drops (b, on) a k) × IsTrue (can_carry t table r a k)
        finds_means r kind covers e =
            let word : ℕ = word_at told many (dirs + (h + (h + (first + j)))) i in
            let found = words.meets_some word (carrying agent kind) covers.small (sym (finds_same kind) ∙ e) in
            let k = words.cover_of found.0 (covers.only found.0 found.2) in
            let small : cover_bit k.0 < 18 = subst (λ bit. bit < 18) (sym k.1) (covers.only found.0 found.2) in (
              k.0,
              known ((dirs + (h + (h + (first + j)))) * many + i) (cover_bit k.0) (Drops (b, on) a k.0)
                  (drops_said crew hands dirs spots guarded (first + j) i (b, on) a k.0 (is_side.hand j b from) by small) (ap (λ bit. bit_at word bit == 1) k.1 ∙ found.1),
              sym (covers.all k.0 small) ∙ (ap (λ bit. bit_at (carrying agent kind) bit == 1) k.1 ∙ found.2),
            )

        finds_has : (r : Source) (kind : Kind) → AreCovers (carrying agent kind) (can_carry t table r a) → (k : Cover) → T (Drops (b, on) a k) →
            IsTrue (can_carry t table r a k) → code.finds c told agent kind other ≡ true
        finds_has r kind covers k drops can =
            let small = small_of k
            (words.range t table crew devices watched dirs spots guarded fits each_agent each_hand each_name each_watched told (Drops (b, on) a k) drops).2 in
            finds_same kind
            ∙ words.meets_by (word_at told many (dirs + (h + (h + (first + j)))) i) (carrying agent kind) (cover_bit k)
            (has ((dirs + (h + (h + (first + j)))) * many + i) (cover_bit k) (Drops (b, on) a k) (drops_said crew hands dirs spots guarded (first + j) i (b, on) a k (is_side.hand j b from) by small) drops)
            (covers.all k small ∙ can)

      -- a bit by which others carry it, of any of the processes
      module _ (r : Source) (kind : Kind) (covers : AreCovers (carrying agent kind) (can_carry t table r a)) (near_r : source_device t r ≡ on) (row bit : ℕ)
          (said : (j : ℕ) (b : ProcessState) → slice_get crew j ≡ Some b → says crew hands dirs spots guarded (row * many + j) bit (Carries r b)) where
        on_means : list_any (code.carries_on c told row bit agent kind) side.movers.items ≡ true → Now (Carries r a)
        on_means e =
            let found = any_found (code.carries_on c told row bit agent kind) side.movers.items e in
            let g = among_got side.movers.items found.0 found.1 in
            let one = moving.only g.at found.0 g.is in
            let both = and_parts (code.has_one (word_at told many row found.0.place) bit) _ found.2 in
            let k = finds_means g.at one.0 found.0 one.1 one.2 r kind covers both.1 in
            carries_on one.0 k.0 (among i a agent by is) (contained crew one.0 (got_among crew g.at one.0 one.1))
            (known (row * many + g.at) bit (Carries r one.0) (said g.at one.0 one.1)
            ((λ z. bit_at (get_or told (row * many + sym one.2.place z) 0) bit == 1) ∙ both.0))
            (subst (λ v. T (Drops (one.0, v) a k.0)) (sym near_r) k.1) k.2

        on_has : (b : ProcessState) (k : Cover) → Contains crew b → T (Carries r b) → T (Drops (b, source_device t r) a k) → IsTrue (can_carry t table r a k) →
            list_any (code.carries_on c told row bit agent kind) side.movers.items ≡ true
        on_has b k from carries drops can =
            let g = among_got crew b (among_contained crew b from) in
            let one = moving.each g.at b g.is in
            any_among (code.carries_on c told row bit agent kind) side.movers.items one.0 (got_among side.movers.items g.at one.0 one.1)
            (and_from (code.has_one (word_at told many row one.0.place) bit) _
            ((λ z. bit_at (get_or told (row * many + one.2.place z) 0) bit == 1) ∙ has (row * many + g.at) bit (Carries r b) (said g.at b g.is) carries)
            (finds_has g.at b one.0 g.is one.2 r kind covers k (subst (λ v. T (Drops (b, v) a k)) near_r drops) can))

      -- of a name
      module _ (e_at : ℕ) (s : Spot) (entry : Entry) (got : slice_get spots e_at ≡ Some s) (is_entry : IsEntry t dirs h e_at s entry)
          (near : device t s.0 ≡ on) where
        row_said : (j : ℕ) (b : ProcessState) → slice_get crew j ≡ Some b → says crew hands dirs spots guarded (entry.row * many + j) 0 (Carries (Row s) b)
        row_said j b from =
            subst (λ r. says crew hands dirs spots guarded (r * many + j) 0 (Carries (Row s) b)) (sym is_entry.row)
            (carries_said crew hands dirs spots guarded e_at j s b got from)

        carry_row : AreCovers (carrying agent entry.kind) (can_carry t table (Row s) a)
        carry_row = carry_covers (Row s) entry.kind (sym (row_kind t table s entry.node is_entry.at) ∙ is_entry.kind)

        stands_low : (s.0 < dirs) × IsTrue (is_dir t s.0)
        stands_low = (fits.above s.0 s.1 entry.node is_entry.at, (row_says t (sound_from t well) s entry.node is_entry.at).0)

        word_same : asked_word agent.named agent.process.now told many entry.dir entry.name.now agent.place
            ≡ asked_word agent.named agent.process.now told many s.0 s.1 agent.place
        word_same = λ z. asked_word agent.named agent.process.now told many (is_entry.dir z) (is_entry.name z) agent.place

        is_kind : is_dir_kind (Some entry.kind) ≡ is_dir t entry.node
        is_kind = ap is_dir_kind (sym is_entry.kind)

        row_means : code.can_carry_row c told agent entry ≡ true → Now (Carries (Row s) a)
        row_means e = elim (either_true (code.carries_at c told agent entry) _ e) [
          | inl here ↦
              (let both = and_parts (not (is_dir_kind (Some entry.kind))) _ here in
              let k = covered_means i a agent by is (carrying agent entry.kind) (can_carry t table (Row s) a) carry_row
              s.0 s.1 stands_low.0 stands_low.1 (sym (ap (λ w. meets w (carrying agent entry.kind)) word_same) ∙ both.1) in
              carries_row entry.node k.0 (among i a agent by is) is_entry.at (sym is_kind ∙ not_is _ both.0) k.1 k.2)
          | inr on ↦ on_means (Row s) entry.kind carry_row near entry.row 0 row_said on
        ]

        row_rule : (r : Source) → r ≡ Row s → Now (Carries r a) → code.can_carry_row c told agent entry ≡ true
        row_rule r e (carries_row {dir = dir} {name = name} x k _ at is_other over can) =
            let here : (dir, name) ≡ s = ap (spot_of s) e in
            let same : x ≡ entry.node = same_Some x entry.node (sym at ∙ (λ z. look t (here z).0 (here z).1) ∙ is_entry.at) in
            or_left (code.carries_at c told agent entry) _
            (and_from (not (is_dir_kind (Some entry.kind))) _ (ap not (is_kind ∙ ap (is_dir t) (sym same) ∙ is_other))
            (ap (λ w. meets w (carrying agent entry.kind)) word_same
            ∙ covered_has i a agent by is (carrying agent entry.kind) (can_carry t table (Row s) a) carry_row
            s.0 s.1 stands_low.0 stands_low.1 k (subst (λ (q : Spot). Over a q.0 q.1 k) here over)
            (subst (λ (q : Spot). IsTrue (can_carry t table (Row q) a k)) here can)))
        row_rule r e (carries_on b k _ from carries drops can) =
            or_right (code.carries_at c told agent entry) _
            (on_has (Row s) entry.kind carry_row near entry.row 0 row_said b k from (subst (λ q. T (Carries q b)) e carries)
            (subst (λ q. T (Drops (b, source_device t q) a k)) e drops)
            (subst (λ q. IsTrue (can_carry t table q a k)) e can))
        row_rule r e (carries_born k _ from makes drops can) = absurd (maker_is_not _ _ s e)

        row_has : Now (Carries (Row s) a) → code.can_carry_row c told agent entry ≡ true
        row_has now = row_rule (Row s) refl now

      -- of what a process makes
      module _ (j : ℕ) (m : ProcessState) (maker : Mover) (from : slice_get crew j ≡ Some m) (is_m : IsMover table dirs h first j m maker)
          (new : New) where
        -- it is asked only whether what is made is a link
        carry_new : AreCovers (carrying agent (carried_kind new)) (can_carry t table (Maker new (m, on)) a)
        carry_new = subst (λ covers. AreCovers covers (can_carry t table (Maker new (m, on)) a)) (same_carrying table agent new)
            (carry_covers (Maker new (m, on)) (new_kind table new) refl)

        new_said : (k : ℕ) (b : ProcessState) → slice_get crew k ≡ Some b →
            says crew hands dirs spots guarded ((dirs + (first + j)) * many + k) (19 + new_bit new) (Carries (Maker new (m, on)) b)
        new_said k b at = carries_new_said crew hands dirs spots guarded (first + j) k (m, on) b new (is_side.hand j m from) at

        abbrev drops_row : ℕ
        drops_row = dirs + (h + (h + (first + j)))

        creates_same : code.has_one (word_at told many maker.drops n) (new_bit new) ≡ code.has_one (word_at told many drops_row n) (new_bit new)
        creates_same = λ z. code.has_one (word_at told many (is_m.drops z) n) (new_bit new)

        new_means : code.can_carry_new c told (dirs + (first + j)) maker new agent ≡ true → Now (Carries (Maker new (m, on)) a)
        new_means e = elim (either_true (code.carries_born c told maker new agent) _ e) [
          | inl born ↦
              (let both = and_parts (code.has_one (word_at told many maker.drops n) (new_bit new)) _ born in
              let k = finds_means j m maker from is_m (Maker new (m, on)) (carried_kind new) carry_new both.1 in
              carries_born k.0 (among i a agent by is) (contained crew m (got_among crew j m from))
              (known (drops_row * many + n) (new_bit new) (Creates (m, on) new)
              (creates_said crew hands dirs spots guarded (first + j) (m, on) new (is_side.hand j m from))
              (sym creates_same ∙ both.0)) k.1 k.2)
          | inr more ↦ on_means (Maker new (m, on)) (carried_kind new) carry_new refl (dirs + (first + j)) (19 + new_bit new) new_said more
        ]

        new_has : Now (Carries (Maker new (m, on)) a) → code.can_carry_new c told (dirs + (first + j)) maker new agent ≡ true
        new_has (carries_born k _ _ makes drops can) =
            or_left (code.carries_born c told maker new agent) _
            (and_from (code.has_one (word_at told many maker.drops n) (new_bit new)) _
            (creates_same
            ∙ has (drops_row * many + n) (new_bit new) (Creates (m, on) new)
            (creates_said crew hands dirs spots guarded (first + j) (m, on) new (is_side.hand j m from)) makes)
            (finds_has j m maker from is_m (Maker new (m, on)) (carried_kind new) carry_new k drops can))
        new_has (carries_on b k _ carrier carries drops can) =
            or_right (code.carries_born c told maker new agent) _
            (on_has (Maker new (m, on)) (carried_kind new) carry_new refl (dirs + (first + j)) (19 + new_bit new) new_said b k carrier carries drops can)

      -- where another one puts what is no directory
      module _ (j : ℕ) (b : ProcessState) (other : Agent) (from : slice_get crew j ≡ Some b) (is_b : IsAgent table crew j b other)
          (k : Cover) (small : cover_bit k < 18) where
        abbrev k_bit : ℕ
        k_bit = cover_bit k

        dropped_same : dropped_word told many other.place agent.place side.seats.items ≡ dropped_word told many j i side.seats.items
        dropped_same = λ z. dropped_word told many (is_b.place z) (is.place z) side.seats.items

        abbrev by_marks : ℕ
        by_marks = fold (λ word mark. bit_or word (code.put_at c told other agent mark)) 0 side.marks.items

        abbrev by_seats : ℕ
        by_seats = dropped_word told many other.place agent.place side.seats.items

        abbrev is_put : Mark → Bool
        is_put mark = code.has_one (code.put_at c told other agent mark) k_bit

        drop_means : has_bit (code.drops_word c told other agent) k_bit → Now (Drops (b, on) a k)
        drop_means held = elim (either_true (code.has_one by_seats k_bit) _ (sym (has_or by_seats by_marks k_bit) ∙ held)) [
          | inl within ↦
              words.dropped_means t table crew devices watched dirs spots guarded fits each_agent each_hand each_name each_watched told on first is_side.hand side.seats.items in_seats seat_in j i b a k from by small
              (ap (λ w. code.has_one w k_bit) (sym dropped_same) ∙ within)
          | inr named ↦
              (let m = any_found is_put side.marks.items (sym (words.has_some (code.put_at c told other agent) side.marks.items k_bit) ∙ named) in
              let mark = mark_fits m.0 m.1 in
              let both = words.if_has (code.opens c told other with_c m.0) (code.mark_word c told agent m.0) k_bit m.2 in
              let o = opens_means j b other from is_b with_c has_c c_covers m.0 mark both.0 in
              drops_at m.0.dir m.0.name.now mark.near (record { cover = o.0; over = o.1; has = o.2; free = o.3 })
              (over_means t table crew devices watched dirs spots guarded fits each_agent each_hand each_name each_watched told m.0.dir m.0.name.now mark.low mark.stands
              i a (among i a agent by is) by k small
              (ap (λ w. code.has_one w k_bit) (sym (over_same i a agent by is m.0.dir m.0.name.now)) ∙ both.1)))
        ]

        put_has : (dir : ℕ) (name : List ℕ) → Puts t table crew watched T b (Old dir) name → Over a dir name k →
            (m : Mark) × Among side.marks.items m × (m.dir ≡ dir) × (m.name.now ≡ name) → has_bit (code.drops_word c told other agent) k_bit
        put_has dir name puts over m =
            let mark = mark_fits m.0 m.1 in
            has_or by_seats by_marks k_bit ∙ or_right (code.has_one by_seats k_bit) _
            (words.has_some (code.put_at c told other agent) side.marks.items k_bit
            ∙ any_among is_put side.marks.items m.0 m.1
            (words.if_both (code.opens c told other with_c m.0) (code.mark_word c told agent m.0) k_bit
            (opens_has j b other from is_b with_c has_c c_covers m.0 mark puts.cover
            (at_spot (λ d x. Over b d x puts.cover) (sym m.2) (sym m.3) puts.over) puts.has (at_spot Free (sym m.2) (sym m.3) puts.free))
            (ap (λ w. code.has_one w k_bit) (over_same i a agent by is m.0.dir m.0.name.now)
            ∙ over_has t table crew devices watched dirs spots guarded fits each_agent each_hand each_name each_watched told m.0.dir m.0.name.now mark.low mark.stands
            i a (among i a agent by is) by k small (at_spot (λ d x. Over a d x k) (sym m.2) (sym m.3) over))))

        within_has : (p : Seat) (o : Cover) → seat_device t p ≡ on → T (Covers b p o) → IsTrue (has_c o) → T (Covers a p k) → has_bit (code.drops_word c told other agent) k_bit
        within_has p o near from_b held cov =
            has_or by_seats by_marks k_bit ∙ or_left (code.has_one by_seats k_bit) _
            (ap (λ w. code.has_one w k_bit) dropped_same
            ∙ words.dropped_has t table crew devices watched dirs spots guarded fits each_agent each_hand each_name each_watched told on first is_side.hand side.seats.items in_seats seat_in j i b a k from by small p o near from_b
            held cov)

        drop_has : Now (Drops (b, on) a k) → has_bit (code.drops_word c told other agent) k_bit
        drop_has (drops_within p o near from_b held cov) = within_has p o near from_b held cov
        drop_has (drops_at dir name near puts over) = by_over puts.cover puts.over puts.has puts k refl over
          where
            by_own : (o : Cover) → Over b dir name o → IsTrue (has_c o) → Puts t table crew watched T b (Old dir) name → T (Covers a (Old dir) k) →
                Over a dir name k → has_bit (code.drops_word c told other agent) k_bit
            by_own o (over_own stands own) held puts cov over =
                put_has dir name puts over (marked b dir name _ (among j b other from is_b) own stands near)
            by_own o (over_within none from_b) held puts cov over = within_has (Old dir) o near from_b held cov

            by_over : (o : Cover) → Over b dir name o → IsTrue (has_c o) → Puts t table crew watched T b (Old dir) name → (x : Cover) → x ≡ k →
                Over a dir name x → has_bit (code.drops_word c told other agent) k_bit
            by_over o from_b held puts x e (over_own stands own) =
                put_has dir name puts (subst (Over a dir name) e (over_own stands own)) (marked a dir name _ (among i a agent by is) own stands near)
            by_over o from_b held puts x e (over_within none cov) =
                let here = subst (λ y. T (Covers a (Old dir) y)) e cov in by_own o from_b held puts here (over_within none here)

    -- what dir_stands at a name can be taken away
    module _ (e_at : ℕ) (s : Spot) (entry : Entry) (got : slice_get spots e_at ≡ Some s) (is_entry : IsEntry t dirs h e_at s entry) where
      dir_low : s.0 < dirs
      dir_low = fits.above s.0 s.1 entry.node is_entry.at

      dir_stands : IsTrue (is_dir t s.0)
      dir_stands = (row_says t (sound_from t well) s entry.node is_entry.at).0

      kind_is : is_dir_kind (Some entry.kind) ≡ is_dir t entry.node
      kind_is = ap is_dir_kind (sym is_entry.kind)

      abbrev covers_by : Agent → Bool → ℕ
      covers_by agent is_folder =
          if is_folder then word_at told many entry.node agent.place
          else asked_word agent.named agent.process.now told many entry.dir entry.name.now agent.place

      word_is : (agent : Agent) → asked_word agent.named agent.process.now told many entry.dir entry.name.now agent.place
          ≡ asked_word agent.named agent.process.now told many s.0 s.1 agent.place
      word_is agent = λ z. asked_word agent.named agent.process.now told many (is_entry.dir z) (is_entry.name z) agent.place

      take_means : (is_dir t entry.node ≡ true → is_mount t entry.node ≡ false) → (i : ℕ) (a : ProcessState) (agent : Agent) →
          slice_get crew i ≡ Some a → IsAgent table crew i a agent → agent.may_take ≡ true → (folder : Bool) → is_dir t entry.node ≡ folder → meets (covers_by agent folder) with_c ≡ true →
          Now (Taken s.0 s.1)
      take_means none i a agent by is may true lives e =
          let k = cover_means i a agent by is with_c has_c c_covers entry.node (Old entry.node)
          (old_at (fits.below s.0 s.1 entry.node is_entry.at lives)) e in
          taken_dir a entry.node k.0 (among i a agent by is) (sym is.takes ∙ may) is_entry.at lives (none lives) k.1 k.2
      take_means none i a agent by is may false other e =
          let k = covered_means i a agent by is with_c has_c c_covers s.0 s.1 dir_low dir_stands (sym (ap (λ w. meets w with_c) (word_is agent)) ∙ e) in
          taken_other a entry.node k.0 (among i a agent by is) (sym is.takes ∙ may) is_entry.at other k.1 k.2

      takes_means : (is_dir t entry.node ≡ true → is_mount t entry.node ≡ false) →
          list_any (code.takes_at c told entry) c₀.agents.items ≡ true → Now (Taken s.0 s.1)
      takes_means none e =
          let found = any_found (code.takes_at c told entry) c₀.agents.items e in
          let g = among_got c₀.agents.items found.0 found.1 in
          let one = are.only g.at found.0 g.is in
          let both = and_parts found.0.may_take _ found.2 in
          take_means none g.at one.0 found.0 one.1 one.2 both.0 (is_dir_kind (Some entry.kind)) (sym kind_is) both.1

      take_has : (b : ProcessState) → Contains crew b → IsTrue (may_take table b) →
          ((i : ℕ) (agent : Agent) → slice_get crew i ≡ Some b → IsAgent table crew i b agent →
          meets (covers_by agent (is_dir_kind (Some entry.kind))) with_c ≡ true) → list_any (code.takes_at c told entry) c₀.agents.items ≡ true
      take_has b from may each =
          let g = among_got crew b (among_contained crew b from) in
          let one = are.each g.at b g.is in
          any_among (code.takes_at c told entry) c₀.agents.items one.0 (got_among c₀.agents.items g.at one.0 one.1)
          (and_from one.0.may_take _ (one.2.takes ∙ may) (each g.at one.0 g.is one.2))

      takes_has : Now (Taken s.0 s.1) → list_any (code.takes_at c told entry) c₀.agents.items ≡ true
      takes_has (taken_dir b d k from may at lives none cov held) =
          let same : d ≡ entry.node = same_Some d entry.node (sym at ∙ is_entry.at) in
          let folder : is_dir t entry.node ≡ true = ap (is_dir t) (sym same) ∙ lives in
          take_has b from may (λ i agent by is. ap (λ f. meets (covers_by agent f) with_c) (kind_is ∙ folder)
          ∙ cover_has i b agent by is with_c has_c c_covers entry.node (Old entry.node)
          (old_at (fits.below s.0 s.1 entry.node is_entry.at folder)) k (subst (λ x. T (Covers b (Old x) k)) same cov) held)
      takes_has (taken_other b x k from may at other over held) =
          let same : x ≡ entry.node = same_Some x entry.node (sym at ∙ is_entry.at) in
          take_has b from may (λ i agent by is. ap (λ f. meets (covers_by agent f) with_c) (kind_is ∙ ap (is_dir t) (sym same) ∙ other)
          ∙ ap (λ w. meets w with_c) (word_is agent) ∙ covered_has i b agent by is with_c has_c c_covers s.0 s.1 dir_low dir_stands k over held)

      -- where no file system is mounted on it
      module _ (low : entry.node < dirs) where
        not_root : entry.node ≢ 0
        not_root = (row_says t (sound_from t well) s entry.node is_entry.at).3

        away_means : code.is_taken_away c told entry ≡ true → Now (Taken s.0 s.1)
        away_means e =
            let both = and_parts (not (is_top c₀.devices.items entry.node)) _ e in
            takes_means (λ lives. (below_plain t well dirs c₀.devices.items on_devices entry.node low lives (not-true _ both.0)).1) both.1

        below_top : Now (Taken s.0 s.1) → is_top c₀.devices.items entry.node ≡ false
        below_top (taken_dir b d k from may at lives none cov held) =
            plain_below t well dirs c₀.devices.items on_devices entry.node low not_root
            (ap (is_mount t) (same_Some entry.node d (sym is_entry.at ∙ at)) ∙ none)
        below_top (taken_other b x k from may at other over held) =
            file_below t well dirs c₀.devices.items on_devices entry.node low not_root
            (ap (is_dir t) (same_Some entry.node x (sym is_entry.at ∙ at)) ∙ other)

        away_has : Now (Taken s.0 s.1) → code.is_taken_away c told entry ≡ true
        away_has taken = and_from (not (is_top c₀.devices.items entry.node)) _ (ap not (below_top taken)) (takes_has taken)

    -- how a directory comes elsewhere
    module _ (j bit : ℕ) (F : Seat → Kept) (L : Hand → Kept) (fam : IsFamily j bit F L) (d : ℕ) (low : d < dirs)
        (near : device t d ≡ on) where
      abbrev Comes : Type 0
      Comes = Come t well table crew devices watched dirs spots guarded fits each_agent each_hand each_name each_watched told j bit F L fam d

      abbrev own_column : Option ℕ
      own_column = get_or c₀.watch_columns.items d None

      abbrev moved_from : ℕ
      moved_from = moved_word told many side.movers.items d j

      abbrev apart_from : ℕ → ℕ
      apart_from column = apart_word told many side.movers.items side.seats.items d column j

      apart_same : (w : Watch) (g : Guard w) → apart_from w.column
          ≡ apart_word told many side.movers.items side.seats.items d (n + suc g.at) j
      apart_same w g = λ z. apart_word told many side.movers.items side.seats.items d (g.is.column z) j

      record Column_of (column : ℕ) : Type 0 where
        watch : Watch
        guard : Guard watch
        here : guard.dir ≡ d
        same : watch.column ≡ column

      column_of_one : (column : ℕ) → own_column ≡ Some column → Column_of column
      column_of_one column e =
          let w = columns_are.each d column e in
          let g = guard_of w.0 (among_contained c₀.watches.items w.0 w.1) in
          record { watch = w.0; guard = g; here = sym g.is.dir ∙ w.2; same = w.3 }

      column_there : (g : Guarded d) → own_column ≡ Some g.watch.column
      column_there g =
          ap (λ x. get_or c₀.watch_columns.items x None) (sym (g.guard.is.dir ∙ g.here))
          ∙ columns_are.all g.watch (contained c₀.watches.items g.watch g.in_watches)

      apart_means : (column : ℕ) → own_column ≡ Some column → has_bit (apart_from column) bit → Comes
      apart_means column e held =
          let w = column_of_one column e in
          let m = words.apart_means t table crew devices watched dirs spots guarded fits each_agent each_hand each_name each_watched told on first is_side.hand side.seats.items in_seats seat_in j bit F L fam
          side.movers.items moving d w.guard.at low (w.guard.got ∙ ap Some w.here)
          (ap (λ x. code.has_one x bit) (sym (apart_same w.watch w.guard)) ∙ ap (λ x. code.has_one (apart_from x) bit) w.same ∙ held) in
          come_apart (subst (λ x. IsTrue (watched x)) w.here w.guard.watched_so) m.0 m.2 m.1 m.4 m.5 m.6 (m.3 ∙ sym near)

      moved_means : IsFalse (watched d) → has_bit moved_from bit → Comes
      moved_means plain held =
          let m = words.moved_means t table crew devices watched dirs spots guarded fits each_agent each_hand each_name each_watched told on first is_side.hand side.seats.items in_seats seat_in j bit F L fam
          side.movers.items moving d (Old d) (old_at low) held in
          come_plain plain m.0 m.1 (subst (λ v. T (L (m.0, v))) (sym near) m.2)

      plain_by : own_column ≡ None → IsFalse (watched d)
      plain_by none = by (watched d) refl
        where
          by : (b : Bool) → watched d ≡ b → watched d ≡ false
          by false e = e
          by true e =
              let g = guarded_at d (among_contained guarded d (fits.watches d e)) in
              absurd (None≢Some g.watch.column (sym none ∙ column_there g))

      none_by_plain : IsFalse (watched d) → own_column ≡ None
      none_by_plain plain = by own_column refl
        where
          by : (o : Option ℕ) → own_column ≡ o → own_column ≡ None
          by None e = e
          by (Some column) e =
              let w = column_of_one column e in
              absurd (false≢true (sym plain ∙ subst (λ x. IsTrue (watched x)) w.here w.guard.watched_so))

      come_means : has_bit (code.come_word c told d j) bit → Comes
      come_means held = by own_column refl held
        where
          by : (o : Option ℕ) → own_column ≡ o → has_bit (code.come_by c told d j o) bit → Comes
          by (Some column) e held = apart_means column e held
          by None e held = moved_means (plain_by e) held

      come_has : Comes → has_bit (code.come_word c told d j) bit
      come_has (come_plain plain b m lands) =
          ap (λ o. code.has_one (code.come_by c told d j o) bit) (none_by_plain plain)
          ∙ words.moved_has t table crew devices watched dirs spots guarded fits each_agent each_hand each_name each_watched told on first is_side.hand side.seats.items in_seats seat_in j bit F L fam
          side.movers.items moving d (Old d) (old_at low) b m (subst (λ v. T (L (b, v))) near lands)
      come_has (come_apart is b p m enters clear of beside) =
          let g = guarded_at d (among_contained guarded d (fits.watches d is)) in
          ap (λ o. code.has_one (code.come_by c told d j o) bit) (column_there g)
          ∙ ap (λ x. code.has_one x bit) (apart_same g.watch g.guard)
          ∙ words.apart_has t table crew devices watched dirs spots guarded fits each_agent each_hand each_name each_watched told on first is_side.hand side.seats.items in_seats seat_in j bit F L fam
          side.movers.items moving d g.guard.at low (g.guard.got ∙ ap Some g.here) b m p (beside ∙ near) enters clear of

    -- the one bit of a watched directory's column
    module _ (w : Watch) (g : Guard w) where
      abbrev w_dir : ℕ
      w_dir = g.dir

      abbrev w_column : ℕ
      w_column = n + suc g.at

      abbrev fam : IsFamily (n + suc g.at) 0 (λ p. Clear g.dir p) (λ b. LandsClear b g.dir)
      fam = words.clear_family t table crew devices watched dirs spots guarded fits each_agent each_hand each_name each_watched told g.at g.dir g.got

      dir_come : (d : ℕ) → d ≢ w_dir →
          Come t well table crew devices watched dirs spots guarded fits each_agent each_hand each_name each_watched told w_column 0 (λ p. Clear w_dir p) (λ b. LandsClear b w_dir) fam d →
          Now (Clear w_dir (Old d))
      dir_come d other (come_plain plain b m lands) = clear_moved b g.watched_so (λ same. other (ap seat_number same)) plain m lands
      dir_come d other (come_apart is b p m enters clear from near) =
          clear_apart b p g.watched_so (λ same. other (ap seat_number same)) is m enters clear from near

      module _ (d : ℕ) (low : d < dirs) (near : device t d ≡ on) where
        abbrev up : ℕ
        up = above_word t told many d w_column

        abbrev come : ℕ
        come = code.come_word c told d w_column

        -- asked at once, or by the whole word
        clear_same : (o : Option ℕ) → code.comes_clear_by c told d w_column o ≡ code.has_one (code.come_by c told d w_column o) 0
        clear_same None = refl
        clear_same (Some column) = words.apart_clear told many side.seats.items d column w_column side.movers.items

        column_same : (code.has_one (above_word t told many d w.column) 0 || code.comes_clear c told d w.column)
            ≡ (code.has_one up 0 || code.has_one come 0)
        column_same =
            (λ z. code.has_one (above_word t told many d (g.is.column z)) 0 || code.comes_clear c told d (g.is.column z))
            ∙ ap (λ b. code.has_one up 0 || b) (clear_same (get_or c₀.watch_columns.items d None))

        clear_dir_means : code.clears_dir t c told d w ≡ true → Now (Clear w_dir (Old d))
        clear_dir_means e =
            let both = and_parts (not (d == w.dir)) _ e in
            let other : d ≢ w_dir = λ same. not_eq d w.dir both.0 (same ∙ sym g.is.dir) in
            elim (either_true (d == 0) _ both.1) [
              | inl root ↦
                  (let here : d ≡ 0 = eqb-true d 0 root in
                  subst (λ x. Now (Clear w_dir (Old x))) (sym here) (clear_root g.watched_so (λ same. other (here ∙ sym same))))
              | inr over ↦
                  elim (either_true (code.has_one up 0) (code.has_one come 0) (sym column_same ∙ over)) [
                    | inl above ↦
                        (let a = above_means t well table crew devices watched dirs spots guarded fits each_agent each_hand each_name each_watched told w_column 0
                        (λ p. Clear w_dir p) (λ b. LandsClear b w_dir) fam d above in
                        clear_within a.name g.watched_so (λ same. other (ap seat_number same)) a.at a.lives a.has)
                    | inr comes ↦ dir_come d other (come_means w_column 0 (λ p. Clear w_dir p) (λ b. LandsClear b w_dir) fam d low near comes)
                  ]
            ]

        clears : d ≢ w_dir → ((d == 0) || (code.has_one up 0 || code.has_one come 0)) ≡ true → code.clears_dir t c told d w ≡ true
        clears other e =
            and_from (not (d == w.dir)) _ (eq_not d w.dir (λ same. other (same ∙ g.is.dir)))
            (ap (λ b. (d == 0) || b) column_same ∙ e)

        come_clears : d ≢ w_dir →
            Come t well table crew devices watched dirs spots guarded fits each_agent each_hand each_name each_watched told w_column 0 (λ p. Clear w_dir p)
            (λ b. LandsClear b w_dir) fam d → code.clears_dir t c told d w ≡ true
        come_clears other comes =
            clears other (or_right (d == 0) _
            (or_right (code.has_one up 0) (code.has_one come 0) (come_has w_column 0 (λ p. Clear w_dir p) (λ b. LandsClear b w_dir) fam d low near comes)))

        clear_rule : (s : Seat) → s ≡ Old d → Now (Clear w_dir s) → code.clears_dir t c told d w ≡ true
        clear_rule s e (clear_root is other) =
            let here : 0 ≡ d = ap seat_number e in
            clears (λ same. other (sym same ∙ sym here)) (or_left (d == 0) _ (eq-eqb d 0 (sym here)))
        clear_rule s e (clear_within {dir = dir} name is other at lives clear) =
            let here = ap seat_number e in
            clears (λ same. other (e ∙ ap Old same)) (or_right (d == 0) _
            (or_left (code.has_one up 0) (code.has_one come 0)
            (above_has t well table crew devices watched dirs spots guarded fits each_agent each_hand each_name each_watched told w_column 0 (λ p. Clear w_dir p)
            (λ b. LandsClear b w_dir) fam d
            (record { dir = dir; name = name; at = at ∙ ap Some here; lives = ap (is_dir t) (sym here) ∙ lives; has = clear }))))
        clear_rule s e (clear_moved b is other plain m lands) =
            come_clears (λ same. other (e ∙ ap Old same))
            (come_plain (subst (IsPlain t table crew watched T) e plain) b (subst (Moved b) e m)
            (subst (λ q. T (LandsClear (b, seat_device t q) w_dir)) e lands))
        clear_rule s e (clear_apart {d = x} b p is other guard m enters clear from beside) =
            let here : x ≡ d = ap seat_number e in
            come_clears (λ same. other (e ∙ ap Old same))
            (come_apart (subst (λ v. IsTrue (watched v)) here guard) b p (subst (Moved b) e m) enters (subst (λ v. T (Clear v p)) here clear) from
            (beside ∙ ap (device t) here))
        clear_rule s e (clear_born is from makes lands) = absurd (made_other _ d e)

        clear_dir_has : Now (Clear w_dir (Old d)) → code.clears_dir t c told d w ≡ true
        clear_dir_has now = clear_rule (Old d) refl now

      -- of what a process makes, and of where one puts directories
      module _ (i : ℕ) (m : ProcessState) (maker : Mover) (by : slice_get crew i ≡ Some m) (is : IsMover table dirs h first i m maker) where
        abbrev made_row : ℕ
        made_row = dirs + (first + i)

        abbrev seat_made : Seated (dirs + (first + i)) (Made (m, on))
        seat_made = made_at (first + i) (is_side.hand i m by)

        abbrev moves_in : ℕ
        moves_in = moved_word told many side.movers.items (dirs + (first + i)) w_column

        abbrev born_in : ℕ
        born_in = born_at told many n maker w_column

        made_same : code.clears_new c told (dirs + (first + i)) maker w ≡ code.has_one (bit_or moves_in born_in) 0
        made_same = λ z. code.has_one (made_word told many side.movers.items n (dirs + (first + i)) maker (g.is.column z)) 0

        clear_new_means : code.clears_new c told (dirs + (first + i)) maker w ≡ true → Now (Clear w_dir (Made (m, on)))
        clear_new_means e = elim (either_true (code.has_one moves_in 0) (code.has_one born_in 0) (sym (has_or moves_in born_in 0) ∙ sym made_same ∙ e)) [
          | inl moves ↦
              (let b = words.moved_means t table crew devices watched dirs spots guarded fits each_agent each_hand each_name each_watched told on first is_side.hand side.seats.items in_seats seat_in w_column 0
              (λ p. Clear w_dir p) (λ b. LandsClear b w_dir) fam side.movers.items moving (dirs + (first + i)) (Made (m, on)) seat_made moves in
              clear_moved b.0 g.watched_so (made_other (m, on) w_dir) tt b.1 b.2)
          | inr born ↦
              (let both = words.born_means t table crew devices watched dirs spots guarded fits each_agent each_hand each_name each_watched told on first is_side.hand side.seats.items in_seats seat_in w_column 0
              (λ p. Clear w_dir p) (λ b. LandsClear b w_dir) fam i m by maker is born in
              clear_born g.watched_so (contained crew m (got_among crew i m by)) both.0 both.1)
        ]

        made_clears : (code.has_one moves_in 0 || code.has_one born_in 0) ≡ true → code.clears_new c told (dirs + (first + i)) maker w ≡ true
        made_clears e = made_same ∙ has_or moves_in born_in 0 ∙ e

        made_rule : (s : Seat) → s ≡ Made (m, on) → Now (Clear w_dir s) → code.clears_new c told (dirs + (first + i)) maker w ≡ true
        made_rule s e (clear_root is other) = absurd (made_other (m, on) 0 (sym e))
        made_rule s e (clear_within name is other at lives clear) = absurd (made_other (m, on) _ (sym e))
        made_rule s e (clear_moved b is other plain moves lands) =
            made_clears (or_left (code.has_one moves_in 0) (code.has_one born_in 0)
            (words.moved_has t table crew devices watched dirs spots guarded fits each_agent each_hand each_name each_watched told on first is_side.hand side.seats.items in_seats seat_in w_column 0
            (λ p. Clear w_dir p) (λ b. LandsClear b w_dir) fam side.movers.items moving (dirs + (first + i)) (Made (m, on)) seat_made b (subst (Moved b) e moves)
            (subst (λ q. T (LandsClear (b, seat_device t q) w_dir)) e lands)))
        made_rule s e (clear_apart b p is other guard moves enters clear from near) = absurd (made_other (m, on) _ (sym e))
        made_rule s e (clear_born {by = b} guard_so from makes lands) =
            let same : b ≡ (m, on) = ap (maker_of (m, on)) e in
            made_clears (or_right (code.has_one moves_in 0) (code.has_one born_in 0)
            (words.born_has t table crew devices watched dirs spots guarded fits each_agent each_hand each_name each_watched told on first is_side.hand side.seats.items in_seats seat_in w_column 0
            (λ p. Clear w_dir p) (λ b. LandsClear b w_dir) fam i m by maker is (subst (λ h. T (Creates h NewDir)) same makes)
            (subst (λ h. T (LandsClear h w_dir)) same lands)))

        clear_new_has : Now (Clear w_dir (Made (m, on))) → code.clears_new c told (dirs + (first + i)) maker w ≡ true
        clear_new_has now = made_rule (Made (m, on)) refl now

        landing_same : code.clears_landing c told maker w ≡ code.has_one (landing_word told many i w_column side.seats.items) 0
        landing_same = λ z. code.has_one (landing_word told many (is.place z) (g.is.column z) side.seats.items) 0

        clear_landing_means : code.clears_landing c told maker w ≡ true → Now (LandsClear (m, on) w_dir)
        clear_landing_means e =
            let p = words.landing_means t table crew devices watched dirs spots guarded fits each_agent each_hand each_name each_watched told on first is_side.hand side.seats.items in_seats seat_in w_column 0
            (λ p. Clear w_dir p) (λ b. LandsClear b w_dir) fam i m by (sym landing_same ∙ e) in
            lands_clear p.0 g.watched_so p.1 p.2 p.3

        clear_landing_has : Now (LandsClear (m, on) w_dir) → code.clears_landing c told maker w ≡ true
        clear_landing_has (lands_clear p guard near enters clear) =
            landing_same ∙ words.landing_has t table crew devices watched dirs spots guarded fits each_agent each_hand each_name each_watched told on first is_side.hand side.seats.items in_seats seat_in w_column 0
            (λ p. Clear w_dir p) (λ b. LandsClear b w_dir) fam i m by p near enters clear

    -- the covers of a process
    module _ (i : ℕ) (a : ProcessState) (agent : Agent) (by : slice_get crew i ≡ Some a) (is : IsAgent table crew i a agent)
        (k : Cover) (small : cover_bit k < 18) where
      abbrev cover_fam : IsFamily i (cover_bit k) (λ p. Covers a p k) (λ b. Lands b a k)
      cover_fam = words.cover_family t table crew devices watched dirs spots guarded fits each_agent each_hand each_name each_watched told i a k by small

      module _ (d : ℕ) (low : d < dirs) (near : device t d ≡ on) where
        old_same : code.has_one (old_word t agent.process.now told many d agent.place (code.come_word c told d agent.place)) (cover_bit k)
            ≡ code.has_one (old_word t a told many d i (code.come_word c told d i)) (cover_bit k)
        old_same = λ z. code.has_one (old_word t (is.process z) told many d (is.place z) (code.come_word c told d (is.place z))) (cover_bit k)

        dir_cover_means : has_bit (old_word t agent.process.now told many d agent.place (code.come_word c told d agent.place)) (cover_bit k) →
            Now (Covers a (Old d) k)
        dir_cover_means held =
            old_means t well table crew devices watched dirs spots guarded fits each_agent each_hand each_name each_watched told d i a k by small
            (code.come_word c told d i) (come_means i (cover_bit k) (λ p. Covers a p k) (λ b. Lands b a k) cover_fam d low near)
            (come_has i (cover_bit k) (λ p. Covers a p k) (λ b. Lands b a k) cover_fam d low near) (sym old_same ∙ held)

        dir_cover_has : Now (Covers a (Old d) k) →
            has_bit (old_word t agent.process.now told many d agent.place (code.come_word c told d agent.place)) (cover_bit k)
        dir_cover_has now =
            old_same ∙ old_has t well table crew devices watched dirs spots guarded fits each_agent each_hand each_name each_watched told d i a k by small
            (code.come_word c told d i) (come_means i (cover_bit k) (λ p. Covers a p k) (λ b. Lands b a k) cover_fam d low near)
            (come_has i (cover_bit k) (λ p. Covers a p k) (λ b. Lands b a k) cover_fam d low near) now

      module _ (j : ℕ) (m : ProcessState) (maker : Mover) (from : slice_get crew j ≡ Some m) (is_m : IsMover table dirs h first j m maker) where
        abbrev seat_new : Seated (dirs + (first + j)) (Made (m, on))
        seat_new = made_at (first + j) (is_side.hand j m from)

        abbrev new_moved : ℕ
        new_moved = moved_word told many side.movers.items (dirs + (first + j)) i

        abbrev new_born : ℕ
        new_born = born_at told many n maker i

        abbrev new_covers : ℕ
        new_covers = made_word told many side.movers.items n (dirs + (first + j)) maker agent.place

        new_same : code.has_one new_covers (cover_bit k) ≡ code.has_one (bit_or new_moved new_born) (cover_bit k)
        new_same =
            λ z. code.has_one (made_word told many side.movers.items n (dirs + (first + j)) maker (is.place z)) (cover_bit k)

        new_cover_means : has_bit new_covers (cover_bit k) → Now (Covers a (Made (m, on)) k)
        new_cover_means held = elim (either_true (code.has_one new_moved (cover_bit k)) (code.has_one new_born (cover_bit k))
            (sym (has_or new_moved new_born (cover_bit k)) ∙ sym new_same ∙ held)) [
              | inl moves ↦
                  (let b = words.moved_means t table crew devices watched dirs spots guarded fits each_agent each_hand each_name each_watched told on first is_side.hand side.seats.items in_seats seat_in i (cover_bit k)
                  (λ p. Covers a p k) (λ b. Lands b a k) cover_fam side.movers.items moving (dirs + (first + j)) (Made (m, on)) seat_new moves in
                  covers_moved b.0 (among i a agent by is) refl tt b.1 b.2)
              | inr born ↦
                  (let both = words.born_means t table crew devices watched dirs spots guarded fits each_agent each_hand each_name each_watched told on first is_side.hand side.seats.items in_seats seat_in i (cover_bit k)
                  (λ p. Covers a p k) (λ b. Lands b a k) cover_fam j m from maker is_m born in
                  covers_born (contained crew m (got_among crew j m from)) both.0 both.1)
            ]

        new_covers_by : (code.has_one new_moved (cover_bit k) || code.has_one new_born (cover_bit k)) ≡ true → has_bit new_covers (cover_bit k)
        new_covers_by e = new_same ∙ has_or new_moved new_born (cover_bit k) ∙ e

        new_rule : (x : Cover) → x ≡ k → (s : Seat) → s ≡ Made (m, on) → Now (Covers a s x) → has_bit new_covers (cover_bit k)
        new_rule x is_k s e (covers_own stands own) = absurd (None≢Some _ (sym (ap (own_veil a) e) ∙ own))
        new_rule x is_k s e (covers_root none) = absurd (made_other (m, on) 0 (sym e))
        new_rule x is_k s e (covers_within name none at is_in cov) = absurd (made_other (m, on) _ (sym e))
        new_rule x is_k s e (covers_moved b _ none plain moves lands) =
            new_covers_by (or_left (code.has_one new_moved (cover_bit k)) (code.has_one new_born (cover_bit k))
            (words.moved_has t table crew devices watched dirs spots guarded fits each_agent each_hand each_name each_watched told on first is_side.hand side.seats.items in_seats seat_in i (cover_bit k)
            (λ p. Covers a p k) (λ b. Lands b a k) cover_fam side.movers.items moving (dirs + (first + j)) (Made (m, on)) seat_new b (subst (Moved b) e moves)
            (subst (λ q. T (Lands (b, seat_device t q) a k)) e (subst (λ v. T (Lands (b, seat_device t s) a v)) is_k lands))))
        new_rule x is_k s e (covers_apart b p none is_in moves enters clear cov beside) = absurd (made_other (m, on) _ (sym e))
        new_rule x is_k s e (covers_born {by = b} _ creates lands) =
            let same : b ≡ (m, on) = ap (maker_of (m, on)) e in
            new_covers_by (or_right (code.has_one new_moved (cover_bit k)) (code.has_one new_born (cover_bit k))
            (words.born_has t table crew devices watched dirs spots guarded fits each_agent each_hand each_name each_watched told on first is_side.hand side.seats.items in_seats seat_in i (cover_bit k)
            (λ p. Covers a p k) (λ b. Lands b a k) cover_fam j m from maker is_m (subst (λ h. T (Creates h NewDir)) same creates)
            (subst (λ h. T (Lands h a k)) same (subst (λ v. T (Lands b a v)) is_k lands))))

        new_cover_has : Now (Covers a (Made (m, on)) k) → has_bit new_covers (cover_bit k)
        new_cover_has now = new_rule k refl (Made (m, on)) refl now

        -- where the other one puts directories
        lands_same : code.has_one (landing_word told many maker.place agent.place side.seats.items) (cover_bit k)
            ≡ code.has_one (landing_word told many j i side.seats.items) (cover_bit k)
        lands_same = λ z. code.has_one (landing_word told many (is_m.place z) (is.place z) side.seats.items) (cover_bit k)

        landing_cover_means : has_bit (landing_word told many maker.place agent.place side.seats.items) (cover_bit k) → Now (Lands (m, on) a k)
        landing_cover_means held =
            let p = words.landing_means t table crew devices watched dirs spots guarded fits each_agent each_hand each_name each_watched told on first is_side.hand side.seats.items in_seats seat_in i (cover_bit k)
            (λ p. Covers a p k) (λ b. Lands b a k) cover_fam j m from (sym lands_same ∙ held) in
            lands_in p.0 p.1 p.2 p.3

        landing_cover_has : Now (Lands (m, on) a k) → has_bit (landing_word told many maker.place agent.place side.seats.items) (cover_bit k)
        landing_cover_has (lands_in p near enters cov) =
            lands_same ∙ words.landing_has t table crew devices watched dirs spots guarded fits each_agent each_hand each_name each_watched told on first is_side.hand side.seats.items in_seats seat_in i (cover_bit k)
            (λ p. Covers a p k) (λ b. Lands b a k) cover_fam j m from p near enters cov

    -- whole words
    abbrev Says : Entity → Column → ℕ → Type 0
    Says e col w = WordSays (word e col) Now w

    module _ (i : ℕ) (a : ProcessState) (agent : Agent) (by : slice_get crew i ≡ Some a) (is : IsAgent table crew i a agent) where
      abbrev way_flags : ℕ → ℕ
      way_flags d = bit_or (flag (code.can_enter t c told agent d) 18) (flag (code.can_turn c told agent d) 19)

      ways_mean : (d : ℕ) → d < dirs → device t d ≡ on → (bit : ℕ) → has_bit (way_flags d) bit →
          Behind (Enters a (Old d) ∷ Turns a d ∷ []) Now bit
      ways_mean d low near bit held =
          elim (either_true (code.has_one (flag (code.can_enter t c told agent d) 18) bit) _
          (sym (has_or (flag (code.can_enter t c told agent d) 18) (flag (code.can_turn c told agent d) 19) bit) ∙ held)) [
            | inl e ↦
                (let f = flag_means (code.can_enter t c told agent d) 18 bit e in
                record { at = 0; place = f.1; fact = Enters a (Old d); is = refl; now = enter_means i a agent by is d (Old d) (old_at low) near f.0 })
            | inr e ↦
                (let f = flag_means (code.can_turn c told agent d) 19 bit e in
                record { at = 1; place = f.1; fact = Turns a d; is = refl; now = turn_means i a agent by is d near f.0 })
          ]

      ways_have : (d : ℕ) → d < dirs → device t d ≡ on → (j : ℕ) (x : Kept) → slice_get (Enters a (Old d) ∷ Turns a d ∷ []) j ≡ Some x → Now x →
          has_bit (way_flags d) (18 + j)
      ways_have d low near zero x e now =
          has_or (flag (code.can_enter t c told agent d) 18) (flag (code.can_turn c told agent d) 19) 18
          ∙ or_left (code.has_one (flag (code.can_enter t c told agent d) 18) 18) _
          (flag_has (code.can_enter t c told agent d) 18
          (enter_has i a agent by is d (Old d) (old_at low) near (subst Now (sym (same_Some (Enters a (Old d)) x e)) now)))
      ways_have d low near (suc zero) x e now =
          has_or (flag (code.can_enter t c told agent d) 18) (flag (code.can_turn c told agent d) 19) 19
          ∙ or_right (code.has_one (flag (code.can_enter t c told agent d) 18) 19) _
          (flag_has (code.can_turn c told agent d) 19 (turn_has i a agent by is d near (subst Now (sym (same_Some (Turns a d) x e)) now)))
      ways_have d low near (suc (suc j)) x e now = absurd (None≢Some x e)

      dir_says : (d : ℕ) → d < dirs → device t d ≡ on → Says (DirAt d) (ByAgent a) (code.dir_word t c told agent d)
      dir_says d low near =
          covers_and_say (Covers a (Old d)) Now (old_word t agent.process.now told many d agent.place (code.come_word c told d agent.place))
          (λ k small. dir_cover_means i a agent by is k small d low near) (λ k small. dir_cover_has i a agent by is k small d low near)
          (Enters a (Old d) ∷ Turns a d ∷ []) (way_flags d) (ways_mean d low near) (ways_have d low near)

      makers_say : Says (DropsOf (a, on)) Common (code.makers_word c told agent)
      makers_say = news_say (Creates (a, on)) Now (code.can_create c told agent) (create_means i a agent by is) (create_has i a agent by is)

      name_says : (e_at : ℕ) (s : Spot) (entry : Entry) → slice_get spots e_at ≡ Some s → IsEntry t dirs h e_at s entry →
          device t s.0 ≡ on → Says (NameAt s) (ByAgent a) (flag (code.can_carry_row c told agent entry) 0)
      name_says e_at s entry got is_entry near =
          one_says (Carries (Row s) a) Now (code.can_carry_row c told agent entry) (row_means i a agent by is e_at s entry got is_entry near)
          (row_has i a agent by is e_at s entry got is_entry near)

      module _ (j : ℕ) (m : ProcessState) (maker : Mover) (from : slice_get crew j ≡ Some m) (is_m : IsMover table dirs h first j m maker) where
        abbrev seat_by : Seated (dirs + (first + j)) (Made (m, on))
        seat_by = made_at (first + j) (is_side.hand j m from)

        abbrev entered : Bool
        entered = code.can_enter t c told agent (dirs + (first + j))

        abbrev carried : New → Bool
        carried new = code.can_carry_new c told (dirs + (first + j)) maker new agent

        abbrev new_facts : List Kept
        new_facts = Enters a (Made (m, on)) ∷ map (λ new. Carries (Maker new (m, on)) a) all_new

        abbrev new_flags : ℕ
        new_flags = bit_or (flag entered 18) (news_word carried 19)

        news_so : (bit : ℕ) → has_bit new_flags bit → Behind new_facts Now bit
        news_so bit held =
            elim (either_true (code.has_one (flag entered 18) bit) _ (sym (has_or (flag entered 18) (news_word carried 19) bit) ∙ held)) [
              | inl e ↦
                  (let f = flag_means entered 18 bit e in
                  record {
                    at = 0;
                    place = f.1;
                    fact = Enters a (Made (m, on));
                    is = refl;
                    now = enter_means i a agent by is (dirs + (first + j)) (Made (m, on)) seat_by refl f.0;
                  })
              | inr e ↦
                  (let f = news_mean carried 19 bit e in
                  let here = f.2 in
                  record {
                    at = suc (new_bit f.0);
                    place = omega (arith, here);
                    fact = Carries (Maker f.0 (m, on)) a;
                    is = new_at (λ new. Carries (Maker new (m, on)) a) f.0;
                    now = new_means i a agent by is j m maker from is_m f.0 f.1;
                  })
            ]

        news_has : (k : ℕ) (x : Kept) → slice_get new_facts k ≡ Some x → Now x → has_bit new_flags (18 + k)
        news_has zero x e now =
            has_or (flag entered 18) (news_word carried 19) 18
            ∙ or_left (code.has_one (flag entered 18) 18) _ (flag_has entered 18
            (enter_has i a agent by is (dirs + (first + j)) (Made (m, on)) seat_by refl (subst Now (sym (same_Some (Enters a (Made (m, on))) x e)) now)))
        news_has (suc k) x e now =
            let q = mapped (λ new. Carries (Maker new (m, on)) a) all_new k x e in
            let here : k ≡ new_bit q.at = new_is k q.at q.is in
            let same : 18 + suc k ≡ 19 + new_bit q.at = omega (arith, here) in
            subst (has_bit new_flags) (sym same)
            (has_or (flag entered 18) (news_word carried 19) (19 + new_bit q.at)
            ∙ or_right (code.has_one (flag entered 18) (19 + new_bit q.at)) _
            (news_have carried 19 q.at (new_has i a agent by is j m maker from is_m q.at (subst Now (sym q.gives) now))))

        new_says : Says (MadeBy (m, on)) (ByAgent a) (code.new_word t c told (dirs + (first + j)) maker agent)
        new_says =
            covers_and_say (Covers a (Made (m, on))) Now
            (made_word told many side.movers.items n (dirs + (first + j)) maker agent.place)
            (λ k small. new_cover_means i a agent by is k small j m maker from is_m) (λ k small. new_cover_has i a agent by is k small j m maker from is_m)
            new_facts new_flags news_so news_has

        landing_says : Says (LandingOf (m, on)) (ByAgent a) (covers_in (landing_word told many maker.place agent.place side.seats.items))
        landing_says =
            covers_say (Lands (m, on) a) Now (landing_word told many maker.place agent.place side.seats.items)
            (λ k small. landing_cover_means i a agent by is k small j m maker from is_m)
            (λ k small. landing_cover_has i a agent by is k small j m maker from is_m)

      module _ (j : ℕ) (m : ProcessState) (maker : Agent) (from : slice_get crew j ≡ Some m) (is_m : IsAgent table crew j m maker) where
        drops_say : Says (DropsOf (m, on)) (ByAgent a) (covers_in (code.drops_word c told maker agent))
        drops_say =
            covers_say (Drops (m, on) a) Now (code.drops_word c told maker agent) (λ k small. drop_means i a agent by is j m maker from is_m k small)
            (λ k small. drop_has i a agent by is j m maker from is_m k small)

    -- by what the row and the column are about
    abbrev InRows : ℕ → Entity → Type 0
    InRows at e = slice_get (entities hands dirs spots) at ≡ Some e

    row_low : (at d : ℕ) → InRows at (DirAt d) → d < dirs
    row_low at d in_rows =
        entity_fits t table crew devices watched dirs spots guarded fits (DirAt d) (got_among (entities hands dirs spots) at (DirAt d) in_rows)

    row_made : (at i : ℕ) (m : Hand) → InRows at (MadeBy m) → slice_get hands i ≡ Some m → at ≡ dirs + i
    row_made at i m in_rows is =
        let r = row_at hands dirs spots at (MadeBy m) in_rows in r.1 ∙ ap (λ p. dirs + p) (each_hand r.0 i m r.2 is)

    -- a hand on the device, by its place among those there
    record OnSide (k : ℕ) (m : Hand) : Type 0 where
      at : ℕ
      got : slice_get crew at ≡ Some m.0
      place : k ≡ first + at
      same : m ≡ (m.0, on)

    on_side : (k : ℕ) (m : Hand) → slice_get hands k ≡ Some m → m.1 ≡ on → OnSide k m
    on_side k m is near =
        let g = among_got crew m.0 (hand_parts crew devices m (got_among hands k m is)).0 in
        let same : m ≡ (m.0, on) = λ z. (m.0, near z) in
        record {
          at = g.at;
          got = g.is;
          place = each_hand k (first + g.at) m is (is_side.hand g.at m.0 g.is ∙ ap Some (sym same));
          same = same;
        }

    place_back : (k i : ℕ) → k ≡ first + i → k - first ≡ i
    place_back k i e = omega (arith, e)

    module _ (i : ℕ) (a : ProcessState) (agent : Agent) (by : slice_get crew i ≡ Some a) (is : IsAgent table crew i a agent)
        (at : ℕ) (e : Entity) (in_rows : InRows at e) (near : IsOn t on e) where
      made_says : (k : ℕ) (m : Hand) → slice_get hands k ≡ Some m → MadeBy m ≡ e →
          Says e (ByAgent a) (code.made_by_word t c told at agent (slice_get side.movers.items (k - first)))
      made_says k m got same =
          let o = on_side k m got (subst (IsOn t on) (sym same) near) in
          let one = moving.each o.at m.0 o.got in
          let here : MadeBy (m.0, on) ≡ e = ap MadeBy (sym o.same) ∙ same in
          subst (λ x. Says x (ByAgent a) (code.made_by_word t c told at agent (slice_get side.movers.items (k - first)))) here
          (subst (λ (o : Option Mover). Says (MadeBy (m.0, on)) (ByAgent a) (code.made_by_word t c told at agent o))
          (sym (ap (slice_get side.movers.items) (place_back k o.at o.place) ∙ one.1))
          (subst (λ x. Says (MadeBy (m.0, on)) (ByAgent a) (code.new_word t c told x one.0 agent))
          (sym (row_made at (first + o.at) (m.0, on) (subst (InRows at) (sym here) in_rows) (is_side.hand o.at m.0 o.got)))
          (new_says i a agent by is o.at m.0 one.0 o.got one.2)))

      by_made : (k : ℕ) (o : Option Hand) → slice_get hands k ≡ o → option_map MadeBy o ≡ Some e →
          Says e (ByAgent a) (code.made_by_word t c told at agent (slice_get side.movers.items (k - first)))
      by_made k None got same = absurd (None≢Some e same)
      by_made k (Some m) got same = made_says k m got (same_Some (MadeBy m) e same)

      landings_say : (k : ℕ) (m : Hand) → slice_get hands k ≡ Some m → LandingOf m ≡ e →
          Says e (ByAgent a) (code.landed_word c told agent (slice_get side.movers.items (k - first)))
      landings_say k m got same =
          let o = on_side k m got (subst (IsOn t on) (sym same) near) in
          let one = moving.each o.at m.0 o.got in
          subst (λ x. Says x (ByAgent a) (code.landed_word c told agent (slice_get side.movers.items (k - first)))) (ap LandingOf (sym o.same) ∙ same)
          (subst (λ (o : Option Mover). Says (LandingOf (m.0, on)) (ByAgent a) (code.landed_word c told agent o))
          (sym (ap (slice_get side.movers.items) (place_back k o.at o.place) ∙ one.1))
          (landing_says i a agent by is o.at m.0 one.0 o.got one.2))

      by_landing : (k : ℕ) (o : Option Hand) → slice_get hands k ≡ o → option_map LandingOf o ≡ Some e →
          Says e (ByAgent a) (code.landed_word c told agent (slice_get side.movers.items (k - first)))
      by_landing k None got same = absurd (None≢Some e same)
      by_landing k (Some m) got same = landings_say k m got (same_Some (LandingOf m) e same)

      drops_all_say : (k : ℕ) (m : Hand) → slice_get hands k ≡ Some m → DropsOf m ≡ e →
          Says e (ByAgent a) (code.dropped_by_word c told agent (slice_get c₀.agents.items (k - first)))
      drops_all_say k m got same =
          let o = on_side k m got (subst (IsOn t on) (sym same) near) in
          let one = are.each o.at m.0 o.got in
          subst (λ x. Says x (ByAgent a) (code.dropped_by_word c told agent (slice_get c₀.agents.items (k - first)))) (ap DropsOf (sym o.same) ∙ same)
          (subst (λ (o : Option Agent). Says (DropsOf (m.0, on)) (ByAgent a) (code.dropped_by_word c told agent o))
          (sym (ap (slice_get c₀.agents.items) (place_back k o.at o.place) ∙ one.1))
          (drops_say i a agent by is o.at m.0 one.0 o.got one.2))

      by_drops : (k : ℕ) (o : Option Hand) → slice_get hands k ≡ o → option_map DropsOf o ≡ Some e →
          Says e (ByAgent a) (code.dropped_by_word c told agent (slice_get c₀.agents.items (k - first)))
      by_drops k None got same = absurd (None≢Some e same)
      by_drops k (Some m) got same = drops_all_say k m got (same_Some (DropsOf m) e same)

      by_name_row : (j : ℕ) (o : Option Spot) → slice_get spots j ≡ o → option_map NameAt o ≡ Some e →
          Says e (ByAgent a) (code.row_word c told agent (slice_get c₀.entries.items j))
      by_name_row j None got same = absurd (None≢Some e same)
      by_name_row j (Some s) got same =
          let one = entries.each j s got in
          let here : NameAt s ≡ e = same_Some (NameAt s) e same in
          subst (λ x. Says x (ByAgent a) (code.row_word c told agent (slice_get c₀.entries.items j))) here
          (subst (λ (o : Option Entry). Says (NameAt s) (ByAgent a) (code.row_word c told agent o)) (sym one.1)
          (name_says i a agent by is j s one.0 got one.2 (subst (IsOn t on) (sym here) near)))

      by_row : (about : About.Row) → entity_of hands spots about ≡ Some e → Says e (ByAgent a) (code.agent_word t c told at about agent)
      by_row (lines.Dir d) same =
          let here : DirAt d ≡ e = same_Some (DirAt d) e same in
          subst (λ x. Says x (ByAgent a) (code.dir_word t c told agent d)) here
          (dir_says i a agent by is d (row_low at d (subst (InRows at) (sym here) in_rows)) (subst (IsOn t on) (sym here) near))
      by_row (lines.Made j) same = by_made j (slice_get hands j) refl same
      by_row (lines.Landing j) same = by_landing j (slice_get hands j) refl same
      by_row (lines.Drops j) same = by_drops j (slice_get hands j) refl same
      by_row (lines.Name j) same = by_name_row j (slice_get spots j) refl same

    module _ (at : ℕ) (e : Entity) (in_rows : InRows at e) (near : IsOn t on e) where
      by_taken : (j : ℕ) (o : Option Spot) → slice_get spots j ≡ o → option_map NameAt o ≡ Some e →
          Says e Common (code.taken_word c told (slice_get c₀.entries.items j))
      by_taken j None got same = absurd (None≢Some e same)
      by_taken j (Some s) got same =
          let one = entries.each j s got in
          let low = low_nodes one.0 (contained c₀.entries.items one.0 (got_among c₀.entries.items j one.0 one.1)) in
          subst (λ x. Says x Common (code.taken_word c told (slice_get c₀.entries.items j))) (same_Some (NameAt s) e same)
          (subst (λ (o : Option Entry). Says (NameAt s) Common (code.taken_word c told o)) (sym one.1)
          (one_says (Taken s.0 s.1) Now (code.is_taken_away c told one.0) (away_means j s one.0 got one.2 low)
          (away_has j s one.0 got one.2 low)))

      makers_all_say : (k : ℕ) (m : Hand) → slice_get hands k ≡ Some m → DropsOf m ≡ e →
          Says e Common (code.made_by c told (slice_get c₀.agents.items (k - first)))
      makers_all_say k m got same =
          let o = on_side k m got (subst (IsOn t on) (sym same) near) in
          let one = are.each o.at m.0 o.got in
          subst (λ x. Says x Common (code.made_by c told (slice_get c₀.agents.items (k - first)))) (ap DropsOf (sym o.same) ∙ same)
          (subst (λ (o : Option Agent). Says (DropsOf (m.0, on)) Common (code.made_by c told o))
          (sym (ap (slice_get c₀.agents.items) (place_back k o.at o.place) ∙ one.1)) (makers_say o.at m.0 one.0 o.got one.2))

      by_makers : (k : ℕ) (o : Option Hand) → slice_get hands k ≡ o → option_map DropsOf o ≡ Some e →
          Says e Common (code.made_by c told (slice_get c₀.agents.items (k - first)))
      by_makers k None got same = absurd (None≢Some e same)
      by_makers k (Some m) got same = makers_all_say k m got (same_Some (DropsOf m) e same)

      none_of_hand : (f : Hand → Entity) → ((m : Hand) → Says (f m) Common 0) → (o : Option Hand) →
          option_map f o ≡ Some e → Says e Common 0
      none_of_hand f each None same = absurd (None≢Some e same)
      none_of_hand f each (Some m) same = subst (λ x. Says x Common 0) (same_Some (f m) e same) (each m)

      common_says : (about : About.Row) → entity_of hands spots about ≡ Some e → Says e Common (code.common_word c told about)
      common_says (lines.Dir d) same = subst (λ x. Says x Common 0) (same_Some (DirAt d) e same) (none_says Now)
      common_says (lines.Made j) same = none_of_hand MadeBy (λ m. none_says Now) (slice_get hands j) same
      common_says (lines.Landing j) same = none_of_hand LandingOf (λ m. none_says Now) (slice_get hands j) same
      common_says (lines.Drops j) same = by_makers j (slice_get hands j) refl same
      common_says (lines.Name j) same = by_taken j (slice_get spots j) refl same

      module _ (w : Watch) (g : Guard w) where
        new_clears : (k : ℕ) (m : Hand) → slice_get hands k ≡ Some m → MadeBy m ≡ e →
            Says e (Watching g.dir) (code.clear_new_word c told at w (slice_get side.movers.items (k - first)))
        new_clears k m got same =
            let o = on_side k m got (subst (IsOn t on) (sym same) near) in
            let one = moving.each o.at m.0 o.got in
            let here : MadeBy (m.0, on) ≡ e = ap MadeBy (sym o.same) ∙ same in
            subst (λ x. Says x (Watching g.dir) (code.clear_new_word c told at w (slice_get side.movers.items (k - first)))) here
            (subst (λ (o : Option Mover). Says (MadeBy (m.0, on)) (Watching g.dir) (code.clear_new_word c told at w o))
            (sym (ap (slice_get side.movers.items) (place_back k o.at o.place) ∙ one.1))
            (subst (λ x. Says (MadeBy (m.0, on)) (Watching g.dir) (flag (code.clears_new c told x one.0 w) 0))
            (sym (row_made at (first + o.at) (m.0, on) (subst (InRows at) (sym here) in_rows) (is_side.hand o.at m.0 o.got)))
            (one_says (Clear g.dir (Made (m.0, on))) Now (code.clears_new c told (dirs + (first + o.at)) one.0 w)
            (clear_new_means w g o.at m.0 one.0 o.got one.2) (clear_new_has w g o.at m.0 one.0 o.got one.2))))

        clear_of_new : (k : ℕ) (o : Option Hand) → slice_get hands k ≡ o → option_map MadeBy o ≡ Some e →
            Says e (Watching g.dir) (code.clear_new_word c told at w (slice_get side.movers.items (k - first)))
        clear_of_new k None got same = absurd (None≢Some e same)
        clear_of_new k (Some m) got same = new_clears k m got (same_Some (MadeBy m) e same)

        landing_clears : (k : ℕ) (m : Hand) → slice_get hands k ≡ Some m → LandingOf m ≡ e →
            Says e (Watching g.dir) (code.clear_landing_word c told w (slice_get side.movers.items (k - first)))
        landing_clears k m got same =
            let o = on_side k m got (subst (IsOn t on) (sym same) near) in
            let one = moving.each o.at m.0 o.got in
            subst (λ x. Says x (Watching g.dir) (code.clear_landing_word c told w (slice_get side.movers.items (k - first))))
            (ap LandingOf (sym o.same) ∙ same)
            (subst (λ (o : Option Mover). Says (LandingOf (m.0, on)) (Watching g.dir) (code.clear_landing_word c told w o))
            (sym (ap (slice_get side.movers.items) (place_back k o.at o.place) ∙ one.1))
            (one_says (LandsClear (m.0, on) g.dir) Now (code.clears_landing c told one.0 w) (clear_landing_means w g o.at m.0 one.0 o.got one.2)
            (clear_landing_has w g o.at m.0 one.0 o.got one.2)))

        clear_of_landing : (k : ℕ) (o : Option Hand) → slice_get hands k ≡ o → option_map LandingOf o ≡ Some e →
            Says e (Watching g.dir) (code.clear_landing_word c told w (slice_get side.movers.items (k - first)))
        clear_of_landing k None got same = absurd (None≢Some e same)
        clear_of_landing k (Some m) got same = landing_clears k m got (same_Some (LandingOf m) e same)

        no_hand : (f : Hand → Entity) → ((m : Hand) → Says (f m) (Watching g.dir) 0) → (o : Option Hand) →
            option_map f o ≡ Some e → Says e (Watching g.dir) 0
        no_hand f each None same = absurd (None≢Some e same)
        no_hand f each (Some m) same = subst (λ x. Says x (Watching g.dir) 0) (same_Some (f m) e same) (each m)

        no_spot : (o : Option Spot) → option_map NameAt o ≡ Some e → Says e (Watching g.dir) 0
        no_spot None same = absurd (None≢Some e same)
        no_spot (Some s) same = subst (λ x. Says x (Watching g.dir) 0) (same_Some (NameAt s) e same) (none_says Now)

        watched_says : (about : About.Row) → entity_of hands spots about ≡ Some e → Says e (Watching g.dir) (code.watched_word t c told at about w)
        watched_says (lines.Dir d) same =
            let here : DirAt d ≡ e = same_Some (DirAt d) e same in
            let low = row_low at d (subst (InRows at) (sym here) in_rows) in
            let on_it : device t d ≡ on = subst (IsOn t on) (sym here) near in
            subst (λ x. Says x (Watching g.dir) (flag (code.clears_dir t c told d w) 0)) here
            (one_says (Clear g.dir (Old d)) Now (code.clears_dir t c told d w) (clear_dir_means w g d low on_it) (clear_dir_has w g d low on_it))
        watched_says (lines.Made j) same = clear_of_new j (slice_get hands j) refl same
        watched_says (lines.Landing j) same = clear_of_landing j (slice_get hands j) refl same
        watched_says (lines.Drops j) same = no_hand DropsOf (λ m. none_says Now) (slice_get hands j) same
        watched_says (lines.Name j) same = no_spot (slice_get spots j) same

      by_agent : (j : ℕ) (o : Option ProcessState) (col : Column) → slice_get crew j ≡ o → option_map ByAgent o ≡ Some col → (about : About.Row) →
          entity_of hands spots about ≡ Some e → Says e col (code.by_agent_word t c told at about (slice_get c₀.agents.items j))
      by_agent j None col got same about of = absurd (None≢Some col same)
      by_agent j (Some a) col got same about of =
          let one = are.each j a got in
          subst (λ x. Says e x (code.by_agent_word t c told at about (slice_get c₀.agents.items j))) (same_Some (ByAgent a) col same)
          (subst (λ (o : Option Agent). Says e (ByAgent a) (code.by_agent_word t c told at about o)) (sym one.1)
          (by_row j a one.0 got one.2 at e in_rows near about of))

      by_watch : (j : ℕ) (o : Option ℕ) (col : Column) → slice_get guarded j ≡ o → option_map Watching o ≡ Some col → (about : About.Row) →
          entity_of hands spots about ≡ Some e → Says e col (code.by_watch_word t c told at about (slice_get c₀.watches.items j))
      by_watch j None col got same about of = absurd (None≢Some col same)
      by_watch j (Some y) col got same about of =
          let one = guards.each j y got in
          let g : Guard one.0 = record {
            at = j;
            dir = y;
            got = got;
            is = one.2;
            watched_so = only_watched y (contained guarded y (got_among guarded j y got));
          } in
          subst (λ x. Says e x (code.by_watch_word t c told at about (slice_get c₀.watches.items j))) (same_Some (Watching y) col same)
          (subst (λ (o : Option Watch). Says e (Watching y) (code.by_watch_word t c told at about o)) (sym one.1)
          (watched_says one.0 g about of))

      part_says : (about : About.Row) (p : Part) (col : Column) → entity_of hands spots about ≡ Some e → column_of crew guarded p ≡ Some col →
          Says e col (code.part_word t c told at about p)
      part_says about (columns_of.Agent j) col of same = by_agent j (slice_get crew j) col refl same about of
      part_says about columns_of.Common col of same =
          subst (λ x. Says e x (code.common_word c told about)) (same_Some Common col same) (common_says about of)
      part_says about (columns_of.Watched j) col of same = by_watch j (slice_get guarded j) col refl same about of

    -- a column that the table doesn't have has no facts
    no_agent_there : (j : ℕ) → slice_get crew j ≡ None → slice_get c₀.agents.items j ≡ None
    no_agent_there j = none_there crew c₀.agents.items j (λ agent e. let one = are.only j agent e in (one.0, one.1))

    no_watch_there : (j : ℕ) → slice_get guarded j ≡ None → slice_get c₀.watches.items j ≡ None
    no_watch_there j = none_there guarded c₀.watches.items j (λ watch e. let one = guards.only j watch e in (one.0, one.1))

    no_column : (at : ℕ) (about : About.Row) (p : Part) → column_of crew guarded p ≡ None → code.part_word t c told at about p ≡ 0
    no_column at about (columns_of.Agent j) none =
        ap (code.by_agent_word t c told at about) (no_agent_there j (none_mapped ByAgent (slice_get crew j) none))
    no_column at about columns_of.Common none = absurd (None≢Some Common (sym none))
    no_column at about (columns_of.Watched j) none =
        ap (code.by_watch_word t c told at about) (no_watch_there j (none_mapped Watching (slice_get guarded j) none))

    -- so a word of the table is what follows for its place
    module _ (index : ℕ) (about : About.Row) (p : Part) (e : Entity) (is_row : slice_get (entities hands dirs spots) (index / many) ≡ Some e)
        (is_about : entity_of hands spots about ≡ Some e) (near : IsOn t on e)
        (parts : slice_get (columns crew guarded) (index % many) ≡ column_of crew guarded p) where
      abbrev layout : Layout
      layout = table_says (entities hands dirs spots) (columns crew guarded)

      abbrev whole : ℕ
      whole = code.part_word t c told (index / many) about p

      word_of : (col : Column) → column_of crew guarded p ≡ Some col → Says e col whole
      word_of col col_is = part_says (index / many) e is_row near about p col is_about col_is

      pub whole_only : (bit : ℕ) → has_bit whole bit → FollowsAt t table crew watched layout told index bit
      whole_only bit held = by (column_of crew guarded p) refl
        where
          by : (col : Option Column) → column_of crew guarded p ≡ col → FollowsAt t table crew watched layout told index bit
          by None col_is = absurd (no_bit bit (subst (λ w. has_bit w bit) (no_column (index / many) about p col_is) held))
          by (Some col) col_is =
              let x = (word_of col col_is).only bit held in
              record { fact = x.0; says = (λ z. bit_says (is_row z) ((parts ∙ col_is) z) bit) ∙ x.1; follows = x.2 }

      pub whole_all : (bit : ℕ) → FollowsAt t table crew watched layout told index bit → has_bit whole bit
      whole_all bit new = by (column_of crew guarded p) refl ((λ z. bit_says (sym is_row z) (sym parts z) bit) ∙ new.says)
        where
          by : (col : Option Column) → column_of crew guarded p ≡ col → bit_says (Some e) (column_of crew guarded p) bit ≡ Some new.fact →
              has_bit whole bit
          by None col_is says = absurd (None≢Some new.fact ((λ z. bit_says (Some e) (sym col_is z) bit) ∙ says))
          by (Some col) col_is says =
              (word_of col col_is).all bit new.fact ((λ z. bit_says (Some e) (sym col_is z) bit) ∙ says) new.follows
