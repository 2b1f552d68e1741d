-- A fact is in the table of a crew where the word of its place has its bit.
use Rattle.pua_jointly.proofs.Common.{◌≡◌, ◌<◌, ◌∙◌, ◌∷◌, ◌++◌, [], ℕ, List, length, map, refl, sym, ap, arith}
use Rattle.pua_jointly.proofs.Common.{Some, option_map, ProcessState, Spot, Only, Cover, All, New, NewDir, NewOthers, NewFile, NewLink, NewSock, NewFifo, all_new, suc}
use Rattle.std.specs.Prelude.{slice_get, get_or, ◌+◌, ◌*◌, ◌/◌, ◌%◌, ◌==◌}
use Rattle.std.specs.Int.{bit_at}
use Rattle.std.proofs.lemmas.Nat.{div-mul-add, mod-mul-add}
use Rattle.std.proofs.lemmas.Option.{slice_get-map, slice_get_within}
use Rattle.pua_policy.specs.declared.answer.Cover.TheVariants.{Nothing}
use Rattle.pua_jointly.specs.Closing.{has_bit}
use Rattle.pua_jointly.specs.Jointly.{Hand, Seat, Old, Made, Row, Maker}
use Rattle.pua_jointly.specs.JointFacts.{Kept, Covers, Enters, Turns, Lands, Creates, Carries, Drops, Taken, Clear, LandsClear}
use Rattle.pua_jointly.specs.JointTable.{Entity, DirAt, MadeBy, LandingOf, DropsOf, NameAt, Column, ByAgent, Common, Watching}
use Rattle.pua_jointly.specs.JointTable.{IsTold, numbers, all_covers, entities, columns, word}
use Rattle.pua_jointly.specs.JointTable.{bit_says, table_says}
use Rattle.pua_jointly.specs.JointPlace.{Once, cover_bit, new_bit}
use Rattle.pua_jointly.proofs.JointRows.{left, number_at, dir_row, made_row, landing_row, drops_row, name_row}
use Rattle.pua_jointly.proofs.JointRows.{agent_column, common_column, guarded_column}
use Rattle.pua_jointly.proofs.JointPlaces.{one_place}

pub cover_at : (k : Cover) → cover_bit k < 18 → slice_get all_covers (cover_bit k) ≡ Some k
cover_at All low = refl
cover_at Nothing low = refl
cover_at (Only perms) low =
    slice_get-map Only (numbers 16) perms ∙ ap (option_map Only) (number_at 16 perms (omega (arith, low)))

-- the covers stand in front of a word
pub covers_front : (f : Cover → Kept) (ys : List Kept) (k : Cover) → cover_bit k < 18 → slice_get (map f all_covers ++ ys) (cover_bit k) ≡ Some (f k)
covers_front f ys k low =
    left (map f all_covers) ys (cover_bit k) low ∙ slice_get-map f all_covers (cover_bit k) ∙ ap (option_map f) (cover_at k low)

pub new_at : (f : New → Kept) (new : New) → slice_get (map f all_new) (new_bit new) ≡ Some (f new)
new_at f NewDir = refl
new_at f NewOthers = refl
new_at f NewFile = refl
new_at f NewLink = refl
new_at f NewSock = refl
new_at f NewFifo = refl

module _ (crew : List ProcessState) (hands : List Hand) (dirs : ℕ) (spots : List Spot) (guarded : List ℕ) where
  abbrev pub es : List Entity
  es = entities hands dirs spots

  abbrev pub cs : List Column
  cs = columns crew guarded

  abbrev pub says : ℕ → ℕ → Kept → Type 0
  says at bit x = table_says es cs at bit ≡ Some x

  -- what stands in a row and a column says what the bits of its word say
  at_word : (row column bit : ℕ) (e : Entity) (c : Column) (x : Kept) → slice_get es row ≡ Some e → slice_get cs column ≡ Some c →
      slice_get (word e c) bit ≡ Some x → says (row * length cs + column) bit x
  at_word row column bit e c x in_rows in_columns is =
      let low : column < length cs = slice_get_within cs column c in_columns in
      let r : (row * length cs + column) / length cs ≡ row = div-mul-add row (length cs) column low in
      let k : (row * length cs + column) % length cs ≡ column = mod-mul-add row (length cs) column low in
      (λ z. bit_says (slice_get es (r z)) (slice_get cs (k z)) bit) ∙ (λ z. bit_says (in_rows z) (in_columns z) bit) ∙ is

  -- a directory has a row, and so has what a process of the crew makes
  pub data SeatAt : ℕ → Seat → Type 0 where
    old_at : {d : ℕ} → d < dirs → SeatAt d (Old d)
    made_at : (i : ℕ) {m : Hand} → slice_get hands i ≡ Some m → SeatAt (dirs + i) (Made m)

  agent_at : (i : ℕ) (a : ProcessState) → slice_get crew i ≡ Some a → slice_get cs i ≡ Some (ByAgent a)
  agent_at i a is = agent_column crew guarded i (slice_get_within crew i a is) ∙ ap (option_map ByAgent) is

  made_by : (i : ℕ) (m : Hand) → slice_get hands i ≡ Some m → slice_get es (dirs + i) ≡ Some (MadeBy m)
  made_by i m is = made_row hands dirs spots i (slice_get_within hands i m is) ∙ ap (option_map MadeBy) is

  pub covers_said : (seat i : ℕ) (p : Seat) (a : ProcessState) (k : Cover) → SeatAt seat p → slice_get crew i ≡ Some a → cover_bit k < 18 →
      says (seat * length cs + i) (cover_bit k) (Covers a p k)
  covers_said seat i p a k (old_at low) is small =
      at_word seat i (cover_bit k) (DirAt seat) (ByAgent a) (Covers a p k) (dir_row hands dirs spots seat low) (agent_at i a is)
      (covers_front (Covers a p) (Enters a (Old seat) ∷ Turns a seat ∷ []) k small)
  covers_said seat i p a k (made_at j {m = m} made) is small =
      at_word seat i (cover_bit k) (MadeBy m) (ByAgent a) (Covers a p k) (made_by j m made) (agent_at i a is)
      (covers_front (Covers a p) (Enters a (Made m) ∷ map (λ new. Carries (Maker new m) a) all_new) k small)

  pub enters_said : (seat i : ℕ) (p : Seat) (a : ProcessState) → SeatAt seat p → slice_get crew i ≡ Some a →
      says (seat * length cs + i) 18 (Enters a p)
  enters_said seat i p a (old_at low) is =
      at_word seat i 18 (DirAt seat) (ByAgent a) (Enters a p) (dir_row hands dirs spots seat low) (agent_at i a is) refl
  enters_said seat i p a (made_at j {m = m} made) is =
      at_word seat i 18 (MadeBy m) (ByAgent a) (Enters a p) (made_by j m made) (agent_at i a is) refl

  pub lands_said : (i j : ℕ) (b : Hand) (a : ProcessState) (k : Cover) → slice_get hands i ≡ Some b → slice_get crew j ≡ Some a → cover_bit k < 18 →
      says ((dirs + (length hands + i)) * length cs + j) (cover_bit k) (Lands b a k)
  lands_said i j b a k by of small =
      at_word (dirs + (length hands + i)) j (cover_bit k) (LandingOf b) (ByAgent a) (Lands b a k)
      (landing_row hands dirs spots i (slice_get_within hands i b by) ∙ ap (option_map LandingOf) by) (agent_at j a of)
      (slice_get-map (Lands b a) all_covers (cover_bit k) ∙ ap (option_map (Lands b a)) (cover_at k small))

  abbrev pub name_at : ℕ → ℕ
  name_at i = dirs + (length hands + (length hands + (length hands + i)))

  common_at : slice_get cs (length crew) ≡ Some Common
  common_at = let here : length crew ≡ length crew + 0 = omega arith in ap (slice_get cs) here ∙ common_column crew guarded

  pub creates_said : (i : ℕ) (b : Hand) (new : New) → slice_get hands i ≡ Some b →
      says ((dirs + (length hands + (length hands + i))) * length cs + length crew) (new_bit new) (Creates b new)
  creates_said i b new by =
      at_word (dirs + (length hands + (length hands + i))) (length crew) (new_bit new) (DropsOf b) Common (Creates b new)
      (drops_row hands dirs spots i (slice_get_within hands i b by) ∙ ap (option_map DropsOf) by) common_at (new_at (Creates b) new)

  pub drops_said : (i j : ℕ) (b : Hand) (a : ProcessState) (k : Cover) → slice_get hands i ≡ Some b → slice_get crew j ≡ Some a → cover_bit k < 18 →
      says ((dirs + (length hands + (length hands + i))) * length cs + j) (cover_bit k) (Drops b a k)
  drops_said i j b a k by of small =
      at_word (dirs + (length hands + (length hands + i))) j (cover_bit k) (DropsOf b) (ByAgent a) (Drops b a k)
      (drops_row hands dirs spots i (slice_get_within hands i b by) ∙ ap (option_map DropsOf) by) (agent_at j a of)
      (slice_get-map (Drops b a) all_covers (cover_bit k) ∙ ap (option_map (Drops b a)) (cover_at k small))

  pub turns_said : (d i : ℕ) (a : ProcessState) → d < dirs → slice_get crew i ≡ Some a → says (d * length cs + i) 19 (Turns a d)
  turns_said d i a low is =
      at_word d i 19 (DirAt d) (ByAgent a) (Turns a d) (dir_row hands dirs spots d low) (agent_at i a is) refl

  name_of : (i : ℕ) (s : Spot) → slice_get spots i ≡ Some s → slice_get es (name_at i) ≡ Some (NameAt s)
  name_of i s is = name_row hands dirs spots i ∙ ap (option_map NameAt) is

  pub taken_said : (i : ℕ) (s : Spot) → slice_get spots i ≡ Some s → says (name_at i * length cs + length crew) 0 (Taken s.0 s.1)
  taken_said i s is =
      at_word (name_at i) (length crew) 0 (NameAt s) Common (Taken s.0 s.1) (name_of i s is) common_at refl

  pub carries_said : (i j : ℕ) (s : Spot) (a : ProcessState) → slice_get spots i ≡ Some s → slice_get crew j ≡ Some a →
      says (name_at i * length cs + j) 0 (Carries (Row s) a)
  carries_said i j s a is of = at_word (name_at i) j 0 (NameAt s) (ByAgent a) (Carries (Row s) a) (name_of i s is) (agent_at j a of) refl

  carried_at : (m : Hand) (a : ProcessState) (new : New) → slice_get (word (MadeBy m) (ByAgent a)) (19 + new_bit new) ≡ Some (Carries (Maker new m) a)
  carried_at m a NewDir = refl
  carried_at m a NewOthers = refl
  carried_at m a NewFile = refl
  carried_at m a NewLink = refl
  carried_at m a NewSock = refl
  carried_at m a NewFifo = refl

  pub carries_new_said : (i j : ℕ) (m : Hand) (a : ProcessState) (new : New) → slice_get hands i ≡ Some m → slice_get crew j ≡ Some a →
      says ((dirs + i) * length cs + j) (19 + new_bit new) (Carries (Maker new m) a)
  carries_new_said i j m a new by of =
      at_word (dirs + i) j (19 + new_bit new) (MadeBy m) (ByAgent a) (Carries (Maker new m) a) (made_by i m by) (agent_at j a of)
      (carried_at m a new)

  watch_at : (i y : ℕ) → slice_get guarded i ≡ Some y → slice_get cs (length crew + suc i) ≡ Some (Watching y)
  watch_at i y is = guarded_column crew guarded i ∙ ap (option_map Watching) is

  pub clear_said : (seat i y : ℕ) (p : Seat) → SeatAt seat p → slice_get guarded i ≡ Some y →
      says (seat * length cs + (length crew + suc i)) 0 (Clear y p)
  clear_said seat i y p (old_at low) is =
      at_word seat (length crew + suc i) 0 (DirAt seat) (Watching y) (Clear y p) (dir_row hands dirs spots seat low) (watch_at i y is) refl
  clear_said seat i y p (made_at j {m = m} made) is =
      at_word seat (length crew + suc i) 0 (MadeBy m) (Watching y) (Clear y p) (made_by j m made) (watch_at i y is) refl

  pub lands_clear_said : (i j y : ℕ) (b : Hand) → slice_get hands i ≡ Some b → slice_get guarded j ≡ Some y →
      says ((dirs + (length hands + i)) * length cs + (length crew + suc j)) 0 (LandsClear b y)
  lands_clear_said i j y b by is =
      at_word (dirs + (length hands + i)) (length crew + suc j) 0 (LandingOf b) (Watching y) (LandsClear b y)
      (landing_row hands dirs spots i (slice_get_within hands i b by) ∙ ap (option_map LandingOf) by) (watch_at j y is) refl

  module _ (each_agent : Once crew) (each_hand : Once hands) (each_name : Once spots) (each_watched : Once guarded) (told : List ℕ) where
    pub is_told : (at bit : ℕ) (x : Kept) → says at bit x → has_bit (get_or told at 0) bit → IsTold (table_says es cs) told x
    is_told at bit x it known = record { at = at; bit = bit; says = it; known = known }

    pub told_is : (at bit : ℕ) (x : Kept) → says at bit x → IsTold (table_says es cs) told x → has_bit (get_or told at 0) bit
    told_is at bit x it told_so =
        let same = one_place crew hands dirs spots guarded each_agent each_hand each_name each_watched told_so.at at told_so.bit bit x told_so.says it in
        sym (λ z. bit_at (get_or told (same.0 z) 0) (same.1 z) == 1) ∙ told_so.known
