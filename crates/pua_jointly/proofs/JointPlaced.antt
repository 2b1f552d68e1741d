-- Each fact that follows from what the table of a crew has is one of its own bits.
use Rattle.pua_jointly.proofs.Common.{◌≡◌, ◌<◌, ◌≤◌, ◌⊎◌, ◌∙◌, ◌∷◌, ◌++◌, [], ℕ, zero, suc, Bool, true, false, List, length, map, refl, ap, subst, inl, inr, arith}
use Rattle.pua_jointly.proofs.Common.{Option, Some, None, same_Some, None≢Some, Tree, CallTable, ProcessState, Spot, All}
use Rattle.pua_jointly.proofs.Common.{Only, Cover, New, NewDir, NewOthers, NewFile, NewLink, NewSock, NewFifo, all_new, has_veil, if◌then◌else◌}
use Rattle.pua_jointly.proofs.Common.{Among, among_contained, among_left, among_map, among_right}
use Rattle.pua_objects.proofs.ForCallers.{among_either, among_flat, flat_among, map_among}
use Rattle.pua_tree.specs.Tree.{device}
use Rattle.std.specs.Prelude.{⊤, slice_get, ◌/◌, ◌%◌, ◌*◌, ◌+◌, IsTrue}
use Rattle.std.specs.List.{Contains}
use Rattle.std.proofs.lemmas.Bool.{cases_lt}
use Rattle.std.proofs.lemmas.Nat.{div-mul-add, mod-mul-add, mul-add-lt}
use Rattle.pua_policy.specs.declared.answer.Cover.TheVariants.{Nothing}
use Rattle.pua_policy.specs.declared.place.Place.TheVariants as place
use Rattle.pua_jointly.specs.Jointly.{Hand, seat_device, Seat, Old, Made, Row, Maker, own_veil}
use Rattle.pua_jointly.specs.JointFacts.{Kept, Covers, Enters, Lands, Clear, LandsClear, Turns, Taken, Creates, Drops, Carries}
use Rattle.pua_jointly.specs.JointFacts.{IsOfCrew, Moves, IsOver, over_own, over_within, Follows, covers_own, covers_root}
use Rattle.pua_jointly.specs.JointFacts.{covers_within, covers_moved, covers_apart, covers_born, lands_in, clear_root, clear_within, clear_moved}
use Rattle.pua_jointly.specs.JointFacts.{clear_apart, clear_born, lands_clear, enters_by_c, enters_by_name, enters_by_turn, enters_by_moved}
use Rattle.pua_jointly.specs.JointFacts.{turns_by, taken_dir, taken_other, creates_within, creates_at, drops_within, drops_at}
use Rattle.pua_jointly.specs.JointFacts.{carries_row, carries_born, carries_on}
use Rattle.pua_jointly.specs.JointTable.{IsTold, HasBit, Entity, DirAt, MadeBy, LandingOf, DropsOf, NameAt, Column, ByAgent, Common}
use Rattle.pua_jointly.specs.JointTable.{Watching, numbers, all_covers, entities, columns, hands_of, word, bit_says, table_says, TableFits}

pub got_among : {X : Type 0} (xs : List X) (i : ℕ) (x : X) → slice_get xs i ≡ Some x → Among xs x
got_among [] i x e = absurd (None≢Some x e)
got_among (y ∷ ys) zero x e = inl (same_Some y x e)
got_among (y ∷ ys) (suc i) x e = inr (got_among ys i x e)

pub record Got {X : Type 0} (xs : List X) (x : X) : Type 0 where
  pub at : ℕ
  pub low : at < length xs
  pub is : slice_get xs at ≡ Some x

pub among_got : {X : Type 0} (xs : List X) (x : X) → Among xs x → Got xs x
among_got [] x a = absurd a
among_got (y ∷ ys) x (inl e) = record { at = 0; low = omega arith; is = ap Some e }
among_got (y ∷ ys) x (inr a) =
    let more = among_got ys x a in
    let low = more.low in
    record { at = suc more.at; low = omega (arith, low); is = more.is }

pub among_numbers : (n d : ℕ) → d < n → Among (numbers n) d
among_numbers zero d low = absurd (omega (arith, low))
among_numbers (suc n) d low = by (cases_lt d n) (among_numbers n d)
  where
    by : (d < n) ⊎ (n ≤ d) → (d < n → Among (numbers n) d) → Among (numbers (suc n)) d
    by (inl less) rest = among_left (numbers n) (n ∷ []) d (rest less)
    by (inr more) rest = among_right (numbers n) (n ∷ []) d (inl (omega (arith, low, more)))

pub numbers_among : (n d : ℕ) → Among (numbers n) d → d < n
numbers_among zero d a = absurd a
numbers_among (suc n) d a = elim (among_either (numbers n) (n ∷ []) d a) [
  | inl b ↦ (let less = numbers_among n d b in omega (arith, less))
  | inr b ↦ last b
]
  where
    last : Among (n ∷ []) d → d < suc n
    last (inl e) = omega (arith, e)
    last (inr none) = absurd none

small_cover : (perms : ℕ) → perms < 16 → Among all_covers (Only perms)
small_cover perms low = inr (inr (among_map Only (numbers 16) perms (among_numbers 16 perms low)))

root_cover : (b : Bool) → Among all_covers (if b then Nothing else All)
root_cover b = by b
  where
    by : (b : Bool) → Among all_covers (if b then Nothing else All)
    by true = inr (inl refl)
    by false = inl refl

every_new : (new : New) → Among all_new new
every_new NewDir = inl refl
every_new NewOthers = inr (inl refl)
every_new NewFile = inr (inr (inl refl))
every_new NewLink = inr (inr (inr (inl refl)))
every_new NewSock = inr (inr (inr (inr (inl refl))))
every_new NewFifo = inr (inr (inr (inr (inr (inl refl)))))

-- what all things of a list give
of_map : {X Y : Type 0} (P : Y → Type 0) (f : X → Y) (xs : List X) → ((x : X) → Among xs x → P (f x)) → (y : Y) → Among (map f xs) y → P y
of_map P f xs all y a = let m = map_among f xs y a in subst P m.2 (all m.0 m.1)

-- each process on each device, once
pub hand_among : (crew : List ProcessState) (devices : List ℕ) (by : Hand) → Among crew by.0 → Among devices by.1 → Among (hands_of crew devices) by
hand_among crew devices by in_crew in_devices =
    among_flat (λ at. map (λ a. (a, at)) crew) devices by.1 by in_devices (among_map (λ a. (a, by.1)) crew by.0 in_crew)

pub hand_parts : (crew : List ProcessState) (devices : List ℕ) (by : Hand) → Among (hands_of crew devices) by → Among crew by.0 × Among devices by.1
hand_parts crew devices by among =
    let found = flat_among (λ at. map (λ a. (a, at)) crew) devices by among in
    let one = map_among (λ a. (a, found.0)) crew by found.2 in
    (subst (λ (h : Hand). Among crew h.0) one.2 one.1, subst (λ (h : Hand). Among devices h.1) one.2 found.1)

module _ (es : List Entity) (cs : List Column) where
  -- a fact of a word of the table has its bit
  placed : (e : Entity) (c : Column) (x : Kept) → Among es e → Among cs c → Among (word e c) x →
      HasBit (table_says es cs) (length cs * length es) x
  placed e c x in_es in_cs in_word =
      let i = among_got es e in_es in
      let j = among_got cs c in_cs in
      let k = among_got (word e c) x in_word in
      let row : (i.at * length cs + j.at) / length cs ≡ i.at = div-mul-add i.at (length cs) j.at j.low in
      let column : (i.at * length cs + j.at) % length cs ≡ j.at = mod-mul-add i.at (length cs) j.at j.low in
      record {
        at = i.at * length cs + j.at;
        bit = k.at;
        within = mul-add-lt i.at (length cs) j.at (length es) i.low j.low;
        says = (λ z. bit_says (slice_get es (row z)) (slice_get cs (column z)) k.at) ∙ (λ z. bit_says (i.is z) (j.is z) k.at) ∙ k.is;
      }

  record Placed (x : Kept) : Type 0 where
    entity : Entity
    column : Column
    in_rows : Among es entity
    in_columns : Among cs column
    in_word : Among (word entity column) x

  -- and each bit is of a word
  said_at : (i j bit : ℕ) (x : Kept) (e : Option Entity) (c : Option Column) → slice_get es i ≡ e → slice_get cs j ≡ c →
      bit_says e c bit ≡ Some x → Placed x
  said_at i j bit x None c at_e at_c says = absurd (None≢Some x says)
  said_at i j bit x (Some e) None at_e at_c says = absurd (None≢Some x says)
  said_at i j bit x (Some e) (Some c) at_e at_c says = record {
    entity = e;
    column = c;
    in_rows = got_among es i e at_e;
    in_columns = got_among cs j c at_c;
    in_word = got_among (word e c) bit x says;
  }

module _ (t : Tree) (table : CallTable) (crew : List ProcessState) (devices : List ℕ) (watched : ℕ → Bool) (dirs : ℕ) (spots : List Spot)
    (guarded : List ℕ) (fits : TableFits t crew devices watched dirs spots guarded) where
  abbrev pub es : List Entity
  es = entities (hands_of crew devices) dirs spots

  abbrev pub cs : List Column
  cs = columns crew guarded

  abbrev pub hands : List Hand
  hands = hands_of crew devices

  abbrev pub IsSeat : Seat → Type 0
  IsSeat (Old d) = d < dirs
  IsSeat (Made maker) = Among hands maker

  abbrev pub IsWatched : ℕ → Type 0
  IsWatched y = Among guarded y

  -- what a fact speaks of is of the table
  abbrev pub InRange : Kept → Type 0
  InRange (Covers a d k) = Among crew a × IsSeat d × Among all_covers k
  InRange (Enters a d) = Among crew a × IsSeat d
  InRange (Lands b a k) = Among hands b × Among crew a × Among all_covers k
  InRange (Clear y d) = IsSeat d × IsWatched y
  InRange (LandsClear b y) = Among hands b × IsWatched y
  InRange (Turns a y) = Among crew a × (y < dirs)
  InRange (Taken dir name) = Among spots (dir, name)
  InRange (Creates b new) = Among hands b
  InRange (Drops b a k) = Among hands b × Among crew a × Among all_covers k
  InRange (Carries (Row spot) a) = Among crew a × Among spots spot
  InRange (Carries (Maker new m) a) = Among crew a × Among hands m

  abbrev after_dirs : List Entity
  after_dirs = map MadeBy hands ++ (map LandingOf hands ++ (map DropsOf hands ++ map NameAt spots))

  abbrev after_made : List Entity
  after_made = map LandingOf hands ++ (map DropsOf hands ++ map NameAt spots)

  abbrev after_landings : List Entity
  after_landings = map DropsOf hands ++ map NameAt spots

  abbrev after_drops : List Entity
  after_drops = map NameAt spots

  dir_in : (d : ℕ) → d < dirs → Among es (DirAt d)
  dir_in d low = among_left (map DirAt (numbers dirs)) after_dirs (DirAt d) (among_map DirAt (numbers dirs) d (among_numbers dirs d low))

  made_in : (m : Hand) → Among hands m → Among es (MadeBy m)
  made_in m a = among_right (map DirAt (numbers dirs)) after_dirs _ (among_left (map MadeBy hands) after_made _ (among_map MadeBy hands m a))

  landing_in : (m : Hand) → Among hands m → Among es (LandingOf m)
  landing_in m a = among_right (map DirAt (numbers dirs)) after_dirs _ (among_right (map MadeBy hands) after_made _
      (among_left (map LandingOf hands) after_landings _ (among_map LandingOf hands m a)))

  last_in : (e : Entity) → Among after_landings e → Among es e
  last_in e a = among_right (map DirAt (numbers dirs)) after_dirs e (among_right (map MadeBy hands) after_made e
      (among_right (map LandingOf hands) after_landings e a))

  drops_in : (m : Hand) → Among hands m → Among es (DropsOf m)
  drops_in m a = last_in _ (among_left (map DropsOf hands) after_drops _ (among_map DropsOf hands m a))

  name_in : (s : Spot) → Among spots s → Among es (NameAt s)
  name_in s a = last_in _ (among_right (map DropsOf hands) after_drops _ (among_map NameAt spots s a))

  agent_in : (a : ProcessState) → Among crew a → Among cs (ByAgent a)
  agent_in a among = among_left (map ByAgent crew) (Common ∷ map Watching guarded) _ (among_map ByAgent crew a among)

  common_in : Among cs Common
  common_in = among_right (map ByAgent crew) (Common ∷ map Watching guarded) _ (inl refl)

  guarded_in : (y : ℕ) → Among guarded y → Among cs (Watching y)
  guarded_in y a = among_right (map ByAgent crew) (Common ∷ map Watching guarded) _ (inr (among_map Watching guarded y a))

  abbrev Bit : Kept → Type 0
  Bit x = HasBit (table_says es cs) (length cs * length es) x

  has_bit : (x : Kept) → InRange x → Bit x
  has_bit (Covers a (Old d) k) r = placed es cs (DirAt d) (ByAgent a) _ (dir_in d r.1) (agent_in a r.0)
      (among_left (map (Covers a (Old d)) all_covers) (Enters a (Old d) ∷ Turns a d ∷ []) _ (among_map (Covers a (Old d)) all_covers k r.2))
  has_bit (Covers a (Made m) k) r = placed es cs (MadeBy m) (ByAgent a) _ (made_in m r.1) (agent_in a r.0)
      (among_left (map (Covers a (Made m)) all_covers) (Enters a (Made m) ∷ map (λ new. Carries (Maker new m) a) all_new) _
      (among_map (Covers a (Made m)) all_covers k r.2))
  has_bit (Enters a (Old d)) r = placed es cs (DirAt d) (ByAgent a) _ (dir_in d r.1) (agent_in a r.0)
      (among_right (map (Covers a (Old d)) all_covers) (Enters a (Old d) ∷ Turns a d ∷ []) _ (inl refl))
  has_bit (Enters a (Made m)) r = placed es cs (MadeBy m) (ByAgent a) _ (made_in m r.1) (agent_in a r.0)
      (among_right (map (Covers a (Made m)) all_covers) (Enters a (Made m) ∷ map (λ new. Carries (Maker new m) a) all_new) _ (inl refl))
  has_bit (Lands b a k) r = placed es cs (LandingOf b) (ByAgent a) _ (landing_in b r.0) (agent_in a r.1) (among_map (Lands b a) all_covers k r.2)
  has_bit (Clear y (Old d)) r =
      placed es cs (DirAt d) (Watching y) _ (dir_in d r.0) (guarded_in y r.1) (inl refl)
  has_bit (Clear y (Made m)) r =
      placed es cs (MadeBy m) (Watching y) _ (made_in m r.0) (guarded_in y r.1) (inl refl)
  has_bit (LandsClear b y) r =
      placed es cs (LandingOf b) (Watching y) _ (landing_in b r.0) (guarded_in y r.1) (inl refl)
  has_bit (Turns a d) r = placed es cs (DirAt d) (ByAgent a) _ (dir_in d r.1) (agent_in a r.0)
      (among_right (map (Covers a (Old d)) all_covers) (Enters a (Old d) ∷ Turns a d ∷ []) _ (inr (inl refl)))
  has_bit (Taken dir name) r = placed es cs (NameAt (dir, name)) Common _ (name_in (dir, name) r) common_in (inl refl)
  has_bit (Creates b new) r = placed es cs (DropsOf b) Common _ (drops_in b r) common_in (among_map (Creates b) all_new new (every_new new))
  has_bit (Drops b a k) r = placed es cs (DropsOf b) (ByAgent a) _ (drops_in b r.0) (agent_in a r.1) (among_map (Drops b a) all_covers k r.2)
  has_bit (Carries (Row spot) a) r = placed es cs (NameAt spot) (ByAgent a) _ (name_in spot r.1) (agent_in a r.0) (inl refl)
  has_bit (Carries (Maker new m) a) r = placed es cs (MadeBy m) (ByAgent a) _ (made_in m r.1) (agent_in a r.0)
      (among_right (map (Covers a (Made m)) all_covers) (Enters a (Made m) ∷ map (λ n. Carries (Maker n m) a) all_new) _
      (inr (among_map (λ n. Carries (Maker n m) a) all_new new (every_new new))))

  -- and what a bit says is in range
  abbrev pub EntityFits : Entity → Type 0
  EntityFits (DirAt d) = d < dirs
  EntityFits (MadeBy m) = Among hands m
  EntityFits (LandingOf m) = Among hands m
  EntityFits (DropsOf m) = Among hands m
  EntityFits (NameAt s) = Among spots s

  abbrev pub ColumnFits : Column → Type 0
  ColumnFits (ByAgent a) = Among crew a
  ColumnFits Common = ⊤
  ColumnFits (Watching y) = Among guarded y

  pub entity_fits : (e : Entity) → Among es e → EntityFits e
  entity_fits e a = elim (among_either (map DirAt (numbers dirs)) after_dirs e a) [
    | inl b ↦ of_map EntityFits DirAt (numbers dirs) (numbers_among dirs) e b
    | inr b ↦ elim (among_either (map MadeBy hands) after_made e b) [
      | inl c ↦ of_map EntityFits MadeBy hands (λ m in_hands. in_hands) e c
      | inr c ↦ elim (among_either (map LandingOf hands) after_landings e c) [
        | inl d ↦ of_map EntityFits LandingOf hands (λ m in_hands. in_hands) e d
        | inr d ↦ elim (among_either (map DropsOf hands) after_drops e d) [
          | inl f ↦ of_map EntityFits DropsOf hands (λ m in_hands. in_hands) e f
          | inr f ↦ of_map EntityFits NameAt spots (λ s in_spots. in_spots) e f
        ]
      ]
    ]
  ]

  pub column_fits : (c : Column) → Among cs c → ColumnFits c
  column_fits c a = elim (among_either (map ByAgent crew) (Common ∷ map Watching guarded) c a) [
    | inl b ↦ of_map ColumnFits ByAgent crew (λ m in_crew. in_crew) c b
    | inr (inl b) ↦ subst ColumnFits b tt
    | inr (inr b) ↦ of_map ColumnFits Watching guarded (λ y in_guarded. in_guarded) c b
  ]

  word_fits : (e : Entity) (c : Column) → EntityFits e → ColumnFits c → (x : Kept) → Among (word e c) x → InRange x
  word_fits (DirAt d) (ByAgent a) e c x among =
      elim (among_either (map (Covers a (Old d)) all_covers) (Enters a (Old d) ∷ Turns a d ∷ []) x among) [
        | inl b ↦ of_map InRange (Covers a (Old d)) all_covers (λ k small. (c, e, small)) x b
        | inr (inl b) ↦ subst InRange b (c, e)
        | inr (inr (inl b)) ↦ subst InRange b (c, e)
        | inr (inr (inr b)) ↦ absurd b
      ]
  word_fits (DirAt d) Common e c x among = absurd among
  word_fits (DirAt d) (Watching y) e c x (inl is) = subst InRange is (e, c)
  word_fits (DirAt d) (Watching y) e c x (inr none) = absurd none
  word_fits (MadeBy m) (ByAgent a) e c x among =
      elim (among_either (map (Covers a (Made m)) all_covers) (Enters a (Made m) ∷ map (λ new. Carries (Maker new m) a) all_new) x among) [
        | inl b ↦ of_map InRange (Covers a (Made m)) all_covers (λ k small. (c, e, small)) x b
        | inr (inl b) ↦ subst InRange b (c, e)
        | inr (inr b) ↦ of_map InRange (λ new. Carries (Maker new m) a) all_new (λ new is. (c, e)) x b
      ]
  word_fits (MadeBy m) Common e c x among = absurd among
  word_fits (MadeBy m) (Watching y) e c x (inl is) = subst InRange is (e, c)
  word_fits (MadeBy m) (Watching y) e c x (inr none) = absurd none
  word_fits (LandingOf b) (ByAgent a) e c x among = of_map InRange (Lands b a) all_covers (λ k small. (e, c, small)) x among
  word_fits (LandingOf b) Common e c x among = absurd among
  word_fits (LandingOf b) (Watching y) e c x (inl is) = subst InRange is (e, c)
  word_fits (LandingOf b) (Watching y) e c x (inr none) = absurd none
  word_fits (DropsOf b) (ByAgent a) e c x among = of_map InRange (Drops b a) all_covers (λ k small. (e, c, small)) x among
  word_fits (DropsOf b) Common e c x among = of_map InRange (Creates b) all_new (λ new is. e) x among
  word_fits (DropsOf b) (Watching y) e c x among = absurd among
  word_fits (NameAt s) (ByAgent a) e c x (inl is) = subst InRange is (c, e)
  word_fits (NameAt s) (ByAgent a) e c x (inr none) = absurd none
  word_fits (NameAt s) Common e c x (inl is) = subst InRange is e
  word_fits (NameAt s) Common e c x (inr none) = absurd none
  word_fits (NameAt s) (Watching y) e c x among = absurd among

  module _ (told : List ℕ) where
    abbrev pub T : Kept → Type 0
    T x = IsTold (table_says es cs) told x

    pub in_range : (x : Kept) → T x → InRange x
    in_range x is =
        let p = said_at es cs (is.at / length cs) (is.at % length cs) is.bit x (slice_get es (is.at / length cs))
        (slice_get cs (is.at % length cs)) refl refl is.says in
        word_fits p.entity p.column (entity_fits p.entity p.in_rows) (column_fits p.column p.in_columns) x p.in_word

    watch : (y : ℕ) → IsTrue (watched y) → IsWatched y
    watch y is = among_contained guarded y (fits.watches y is)

    pub over_small : (a : ProcessState) (d : Seat) (name : List ℕ) (k : Cover) → Contains crew a → IsOver t table crew watched T a d name k →
        Among all_covers k
    over_small a (Old d) name k among (over_own stands own) = small_cover _ (fits.perms a (place.Slot d name) _ among own)
    over_small a (Made m) name k among (over_own stands own) = absurd (None≢Some _ own)
    over_small a d name k among (over_within none cov) = (in_range (Covers a d k) cov).2

    over_dir : (a : ProcessState) (dir : ℕ) (name : List ℕ) (k : Cover) → Contains crew a →
        IsOver t table crew watched T a (Old dir) name k → dir < dirs
    over_dir a dir name k among (over_own stands own) = fits.named a dir name _ among own
    over_dir a dir name k among (over_within none cov) = (in_range (Covers a (Old dir) k) cov).1

    own_range : (a : ProcessState) (d : Seat) (perms : ℕ) → Contains crew a → own_veil a d ≡ Some perms → InRange (Covers a d (Only perms))
    own_range a (Old d) perms among own =
        (among_contained crew a among, fits.veiled a d perms among own, small_cover perms (fits.perms a (place.Dir d) perms among own))
    own_range a (Made m) perms among own = absurd (None≢Some perms own)

    moves_seat : (b : ProcessState) (d : Seat) → Moves t table crew watched T b d → IsSeat d
    moves_seat b d m = (in_range (Covers b d m.cover) m.covers).1

    -- a process of the crew, on the device of a directory that has a row
    hand_in : (by : Hand) (d : Seat) → Among crew by.0 → IsSeat d → seat_device t d ≡ by.1 → Among hands by
    hand_in by d among here near =
        hand_among crew devices by among (subst (Among devices) near (on d here))
      where
        on : (d : Seat) → IsSeat d → Among devices (seat_device t d)
        on (Old d) low = among_contained devices (device t d) (fits.on_device d low)
        on (Made m) in_hands = (hand_parts crew devices m in_hands).1

    -- so what follows is in range, too
    follows_range : (x : Kept) → IsOfCrew crew x → Follows t table crew watched T x → InRange x
    follows_range (Covers a d k) among (covers_own stands own) = own_range a d _ among own
    follows_range (Covers a d k) among (covers_root none) = (among_contained crew a among, fits.root, root_cover (has_veil a.veils))
    follows_range (Covers a d k) among (covers_within name none at is cov) =
        (among_contained crew a among, fits.below _ name _ at is, (in_range _ cov).2)
    follows_range (Covers a d k) among (covers_moved b of none plain m lands) =
        (among_contained crew a among, moves_seat b d m, (in_range _ lands).2)
    follows_range (Covers a d k) among (covers_apart b p none is m enters clear cov near) =
        (among_contained crew a among, moves_seat b _ m, (in_range _ cov).2)
    follows_range (Covers a d k) among (covers_born from makes lands) =
        (among_contained crew a among, in_range _ makes, (in_range _ lands).2)
    follows_range (Lands by a k) both (lands_in p near enters cov) =
        (hand_in by p (among_contained crew by.0 both.0) (in_range _ enters).1 near, among_contained crew a both.1, (in_range _ cov).2)
    follows_range (Clear y d) of (clear_root is other) = (fits.root, watch y is)
    follows_range (Clear y d) of (clear_within name is other at lives clear) = (fits.below _ name _ at lives, watch y is)
    follows_range (Clear y d) of (clear_moved b is other plain m lands) = (moves_seat b d m, watch y is)
    follows_range (Clear y d) of (clear_apart b p is other watches m enters clear from near) = (moves_seat b _ m, watch y is)
    follows_range (Clear y d) of (clear_born is from makes lands) = (in_range _ makes, watch y is)
    follows_range (LandsClear by y) among (lands_clear p is near enters clear) =
        (hand_in by p (among_contained crew by.0 among) (in_range _ enters).1 near, watch y is)
    follows_range (Enters a d) among (enters_by_c k cov has) = (among_contained crew a among, (in_range _ cov).1)
    follows_range (Enters a d) among (enters_by_name {dir = dir} name puts) =
        (among_contained crew a among, over_dir a dir name puts.cover among puts.over)
    follows_range (Enters a d) among (enters_by_turn name watches turns at is near) = (among_contained crew a among, fits.above _ name _ at)
    follows_range (Enters a d) among (enters_by_moved b is turns m enters clear near) = (among_contained crew a among, (in_range _ enters).1)
    follows_range (Turns a y) among (turns_by perms other k own has empty cov can differs clear near) =
        (among_contained crew a among, fits.veiled a y perms among own)
    follows_range (Taken dir name) of (taken_dir a d k among may at is none cov has) = among_contained spots (dir, name) (fits.rows dir name d at)
    follows_range (Taken dir name) of (taken_other a x k among may at is covers has) =
        among_contained spots (dir, name) (fits.rows dir name x at)
    follows_range (Creates by new) among (creates_within d k near cov made) =
        hand_in by d (among_contained crew by.0 among) (in_range _ cov).1 near
    follows_range (Creates by new) among (creates_at dir name k near covers free made) =
        hand_in by (Old dir) (among_contained crew by.0 among) (over_dir by.0 dir name k among covers) near
    follows_range (Drops by a k) both (drops_within d j near from has cov) =
        (hand_in by d (among_contained crew by.0 both.0) (in_range _ from).1 near, among_contained crew a both.1, (in_range _ cov).2)
    follows_range (Drops by a k) both (drops_at dir name near puts covers) = (
      hand_in by (Old dir) (among_contained crew by.0 both.0) (over_dir a dir name k both.1 covers) near,
      among_contained crew a both.1,
      over_small a (Old dir) name k both.1 covers,
    )
    follows_range (Carries r a) among (carries_row x k of at is covers can) =
        (among_contained crew a among, among_contained spots _ (fits.rows _ _ x at))
    follows_range (Carries r a) among (carries_born k of from makes drops can) = (among_contained crew a among, in_range _ makes)
    follows_range (Carries (Row spot) a) among (carries_on b k of by carries drops can) =
        (among_contained crew a among, (in_range (Carries (Row spot) b) carries).1)
    follows_range (Carries (Maker new m) a) among (carries_on b k of by carries drops can) =
        (among_contained crew a among, (in_range (Carries (Maker new m) b) carries).1)

    pub follows_bit : (x : Kept) → IsOfCrew crew x → Follows t table crew watched T x →
        HasBit (table_says (entities (hands_of crew devices) dirs spots) (columns crew guarded)) (length (columns crew guarded) * length (entities (hands_of crew devices) dirs spots)) x
    follows_bit x of new = has_bit x (follows_range x of new)
