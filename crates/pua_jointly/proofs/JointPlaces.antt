-- Each fact has one place in the table of a crew.
use Rattle.pua_jointly.proofs.Common.{◌≡◌, ◌<◌, ◌∙◌, ◌∷◌, ◌++◌, [], ℕ, zero, suc, List, length, map, refl, sym, ap, subst, inl, inr, arith}
use Rattle.pua_jointly.proofs.Common.{Option, Some, None, same_Some, None≢Some, ProcessState, Spot, Only, Cover, New, NewDir, NewOthers, NewFile}
use Rattle.pua_jointly.proofs.Common.{NewLink, NewSock, NewFifo, all_new, All}
use Rattle.std.specs.Prelude.{slice_get, ◌+◌, ◌*◌, ◌/◌, ◌%◌}
use Rattle.std.proofs.lemmas.Nat.{div-add-mod'}
use Rattle.std.proofs.lemmas.Option.{slice_get_within}
use Rattle.pua_policy.specs.declared.answer.Cover.TheVariants.{Nothing}
use Rattle.pua_jointly.specs.Jointly.{Hand, Seat, Old, Made, Row, Maker}
use Rattle.pua_jointly.specs.JointFacts.{Kept, Covers, Enters, Lands, Clear, LandsClear, Turns, Taken, Creates, Drops, Carries}
use Rattle.pua_jointly.specs.JointTable.{Entity, DirAt, MadeBy, LandingOf, DropsOf, NameAt, Column, ByAgent, Common, Watching}
use Rattle.pua_jointly.specs.JointTable.{numbers, all_covers, entities, columns, word, bit_says, table_says}
use Rattle.pua_jointly.specs.JointPlace.{Once, cover_bit, new_bit}
use Rattle.pua_jointly.proofs.JointRows.{number_at, length_numbers}
use Rattle.pua_jointly.proofs.Once.{mapped, mapped_or}

number_is : (n i v : ℕ) → slice_get (numbers n) i ≡ Some v → i ≡ v
number_is n i v e =
    same_Some i v (sym (number_at n i (subst (λ m. i < m) (length_numbers n) (slice_get_within (numbers n) i v e))) ∙ e)

pub cover_is : (i : ℕ) (k : Cover) → slice_get all_covers i ≡ Some k → i ≡ cover_bit k
cover_is zero k e = ap cover_bit (same_Some All k e)
cover_is (suc zero) k e = ap cover_bit (same_Some Nothing k e)
cover_is (suc (suc i)) k e =
    let m = mapped Only (numbers 16) i k e in ap (λ j. suc (suc j)) (number_is 16 i m.at m.is) ∙ ap cover_bit m.gives

pub new_is : (i : ℕ) (new : New) → slice_get all_new i ≡ Some new → i ≡ new_bit new
new_is zero new e = ap new_bit (same_Some NewDir new e)
new_is (suc zero) new e = ap new_bit (same_Some NewOthers new e)
new_is (suc (suc zero)) new e = ap new_bit (same_Some NewFile new e)
new_is (suc (suc (suc zero))) new e = ap new_bit (same_Some NewLink new e)
new_is (suc (suc (suc (suc zero)))) new e = ap new_bit (same_Some NewSock new e)
new_is (suc (suc (suc (suc (suc zero))))) new e = ap new_bit (same_Some NewFifo new e)
new_is (suc (suc (suc (suc (suc (suc i)))))) new e = absurd (None≢Some new e)

-- the row of a fact, and its word and bit there
abbrev pub seat_row : Seat → Entity
seat_row (Old d) = DirAt d
seat_row (Made m) = MadeBy m

abbrev pub row_of_fact : Kept → Entity
row_of_fact (Covers a d k) = seat_row d
row_of_fact (Enters a d) = seat_row d
row_of_fact (Lands b a k) = LandingOf b
row_of_fact (Clear y d) = seat_row d
row_of_fact (LandsClear b y) = LandingOf b
row_of_fact (Turns a y) = DirAt y
row_of_fact (Taken dir name) = NameAt (dir, name)
row_of_fact (Creates b new) = DropsOf b
row_of_fact (Drops b a k) = DropsOf b
row_of_fact (Carries (Row spot) a) = NameAt spot
row_of_fact (Carries (Maker new m) a) = MadeBy m

abbrev pub IsWatchedAt : ℕ → Column → ℕ → Type 0
IsWatchedAt y c bit = (c ≡ Watching y) × (bit ≡ 0)

abbrev pub IsIn : Kept → Column → ℕ → Type 0
IsIn (Covers a d k) c bit = (c ≡ ByAgent a) × (bit ≡ cover_bit k)
IsIn (Enters a d) c bit = (c ≡ ByAgent a) × (bit ≡ 18)
IsIn (Lands b a k) c bit = (c ≡ ByAgent a) × (bit ≡ cover_bit k)
IsIn (Clear y d) c bit = IsWatchedAt y c bit
IsIn (LandsClear b y) c bit = IsWatchedAt y c bit
IsIn (Turns a y) c bit = (c ≡ ByAgent a) × (bit ≡ 19)
IsIn (Taken dir name) c bit = (c ≡ Common) × (bit ≡ 0)
IsIn (Creates b new) c bit = (c ≡ Common) × (bit ≡ new_bit new)
IsIn (Drops b a k) c bit = (c ≡ ByAgent a) × (bit ≡ cover_bit k)
IsIn (Carries (Row spot) a) c bit = (c ≡ ByAgent a) × (bit ≡ 0)
IsIn (Carries (Maker new m) a) c bit = (c ≡ ByAgent a) × (bit ≡ 19 + new_bit new)

abbrev pub Says : Entity → Column → ℕ → Kept → Type 0
Says e c bit x = (row_of_fact x ≡ e) × IsIn x c bit

enters_or_turns : (d : ℕ) (a : ProcessState) (bit j : ℕ) (x : Kept) → bit ≡ 18 + j →
    slice_get (Enters a (Old d) ∷ Turns a d ∷ []) j ≡ Some x → Says (DirAt d) (ByAgent a) bit x
enters_or_turns d a bit zero x here e = subst (Says (DirAt d) (ByAgent a) bit) (same_Some (Enters a (Old d)) x e) (refl, (refl, here))
enters_or_turns d a bit (suc zero) x here e = subst (Says (DirAt d) (ByAgent a) bit) (same_Some (Turns a d) x e) (refl, (refl, here))
enters_or_turns d a bit (suc (suc j)) x here e = absurd (None≢Some x e)

enters_or_carries : (m : Hand) (a : ProcessState) (bit j : ℕ) (x : Kept) → bit ≡ 18 + j →
    slice_get (Enters a (Made m) ∷ map (λ new. Carries (Maker new m) a) all_new) j ≡ Some x → Says (MadeBy m) (ByAgent a) bit x
enters_or_carries m a bit zero x here e = subst (Says (MadeBy m) (ByAgent a) bit) (same_Some (Enters a (Made m)) x e) (refl, (refl, here))
enters_or_carries m a bit (suc j) x here e =
    let c = mapped (λ new. Carries (Maker new m) a) all_new j x e in
    let at = new_is j c.at c.is in
    subst (Says (MadeBy m) (ByAgent a) bit) c.gives (refl, (refl, omega (arith, here, at)))

one_bit : (e : Entity) (c : Column) (y x : Kept) (bit : ℕ) → Says e c 0 y → slice_get (y ∷ []) bit ≡ Some x → Says e c bit x
one_bit e c y x zero says is = subst (Says e c 0) (same_Some y x is) says
one_bit e c y x (suc bit) says is = absurd (None≢Some x is)

word_says : (e : Entity) (c : Column) (bit : ℕ) (x : Kept) → slice_get (word e c) bit ≡ Some x → Says e c bit x
word_says (DirAt d) (ByAgent a) bit x is =
    elim (mapped_or (Covers a (Old d)) all_covers (Enters a (Old d) ∷ Turns a d ∷ []) 18 bit x refl is) [
      | inl m ↦ subst (Says (DirAt d) (ByAgent a) bit) m.gives (refl, (refl, cover_is bit m.at m.is))
      | inr b ↦ enters_or_turns d a bit b.at x b.place b.is
    ]
word_says (DirAt d) Common bit x is = absurd (None≢Some x is)
word_says (DirAt d) (Watching y) bit x is = one_bit (DirAt d) (Watching y) (Clear y (Old d)) x bit (refl, (refl, refl)) is
word_says (MadeBy m) (ByAgent a) bit x is =
    elim (mapped_or (Covers a (Made m)) all_covers (Enters a (Made m) ∷ map (λ new. Carries (Maker new m) a) all_new) 18 bit x refl is) [
      | inl c ↦ subst (Says (MadeBy m) (ByAgent a) bit) c.gives (refl, (refl, cover_is bit c.at c.is))
      | inr b ↦ enters_or_carries m a bit b.at x b.place b.is
    ]
word_says (MadeBy m) Common bit x is = absurd (None≢Some x is)
word_says (MadeBy m) (Watching y) bit x is = one_bit (MadeBy m) (Watching y) (Clear y (Made m)) x bit (refl, (refl, refl)) is
word_says (LandingOf b) (ByAgent a) bit x is =
    let c = mapped (Lands b a) all_covers bit x is in
    subst (Says (LandingOf b) (ByAgent a) bit) c.gives (refl, (refl, cover_is bit c.at c.is))
word_says (LandingOf b) Common bit x is = absurd (None≢Some x is)
word_says (LandingOf b) (Watching y) bit x is = one_bit (LandingOf b) (Watching y) (LandsClear b y) x bit (refl, (refl, refl)) is
word_says (DropsOf b) (ByAgent a) bit x is =
    let c = mapped (Drops b a) all_covers bit x is in
    subst (Says (DropsOf b) (ByAgent a) bit) c.gives (refl, (refl, cover_is bit c.at c.is))
word_says (DropsOf b) Common bit x is =
    let c = mapped (Creates b) all_new bit x is in subst (Says (DropsOf b) Common bit) c.gives (refl, (refl, new_is bit c.at c.is))
word_says (DropsOf b) (Watching y) bit x is = absurd (None≢Some x is)
word_says (NameAt s) (ByAgent a) bit x is = one_bit (NameAt s) (ByAgent a) (Carries (Row s) a) x bit (refl, (refl, refl)) is
word_says (NameAt s) Common bit x is = one_bit (NameAt s) Common (Taken s.0 s.1) x bit (refl, (refl, refl)) is
word_says (NameAt s) (Watching y) bit x is = absurd (None≢Some x is)

module _ (hands : List Hand) (dirs : ℕ) (spots : List Spot) where
  abbrev n : ℕ
  n = length hands

  abbrev after_drops : List Entity
  after_drops = map NameAt spots

  abbrev after_landings : List Entity
  after_landings = map DropsOf hands ++ after_drops

  abbrev after_made : List Entity
  after_made = map LandingOf hands ++ after_landings

  abbrev after_dirs : List Entity
  after_dirs = map MadeBy hands ++ after_made

  abbrev RowAt : ℕ → Entity → Type 0
  RowAt i (DirAt d) = i ≡ d
  RowAt i (MadeBy m) = (p : ℕ) × (i ≡ dirs + p) × (slice_get hands p ≡ Some m)
  RowAt i (LandingOf m) = (p : ℕ) × (i ≡ dirs + (n + p)) × (slice_get hands p ≡ Some m)
  RowAt i (DropsOf m) = (p : ℕ) × (i ≡ dirs + (n + (n + p))) × (slice_get hands p ≡ Some m)
  RowAt i (NameAt s) = (p : ℕ) × (i ≡ dirs + (n + (n + (n + p)))) × (slice_get spots p ≡ Some s)

  in_names : (i j : ℕ) (e : Entity) → i ≡ dirs + (n + (n + (n + j))) → slice_get after_drops j ≡ Some e → RowAt i e
  in_names i j e here is = let m = mapped NameAt spots j e is in subst (RowAt i) m.gives (j, here, m.is)

  in_drops : (i j : ℕ) (e : Entity) → i ≡ dirs + (n + (n + j)) → slice_get after_landings j ≡ Some e → RowAt i e
  in_drops i j e here is = elim (mapped_or DropsOf hands after_drops n j e refl is) [
    | inl m ↦ subst (RowAt i) m.gives (j, here, m.is)
    | inr b ↦ in_names i b.at e (here ∙ ap (λ k. dirs + (n + (n + k))) b.place) b.is
  ]

  in_landings : (i j : ℕ) (e : Entity) → i ≡ dirs + (n + j) → slice_get after_made j ≡ Some e → RowAt i e
  in_landings i j e here is = elim (mapped_or LandingOf hands after_landings n j e refl is) [
    | inl m ↦ subst (RowAt i) m.gives (j, here, m.is)
    | inr b ↦ in_drops i b.at e (here ∙ ap (λ k. dirs + (n + k)) b.place) b.is
  ]

  in_made : (i j : ℕ) (e : Entity) → i ≡ dirs + j → slice_get after_dirs j ≡ Some e → RowAt i e
  in_made i j e here is = elim (mapped_or MadeBy hands after_made n j e refl is) [
    | inl m ↦ subst (RowAt i) m.gives (j, here, m.is)
    | inr b ↦ in_landings i b.at e (here ∙ ap (λ k. dirs + k) b.place) b.is
  ]

  pub row_at : (i : ℕ) (e : Entity) → slice_get (entities hands dirs spots) i ≡ Some e → RowAt i e
  row_at i e is = elim (mapped_or DirAt (numbers dirs) after_dirs dirs i e (sym (length_numbers dirs)) is) [
    | inl m ↦ subst (RowAt i) m.gives (number_is dirs i m.at m.is)
    | inr b ↦ in_made i b.at e b.place b.is
  ]

  module _ (each_hand : Once hands) (each_name : Once spots) where
    same_row : (i j : ℕ) (e : Entity) → RowAt i e → RowAt j e → i ≡ j
    same_row i j (DirAt d) a b = a ∙ sym b
    same_row i j (MadeBy m) a b = a.1 ∙ ap (λ p. dirs + p) (each_hand a.0 b.0 m a.2 b.2) ∙ sym b.1
    same_row i j (LandingOf m) a b = a.1 ∙ ap (λ p. dirs + (n + p)) (each_hand a.0 b.0 m a.2 b.2) ∙ sym b.1
    same_row i j (DropsOf m) a b = a.1 ∙ ap (λ p. dirs + (n + (n + p))) (each_hand a.0 b.0 m a.2 b.2) ∙ sym b.1
    same_row i j (NameAt s) a b = a.1 ∙ ap (λ p. dirs + (n + (n + (n + p)))) (each_name a.0 b.0 s a.2 b.2) ∙ sym b.1

module _ (crew : List ProcessState) (guarded : List ℕ) where
  abbrev ColumnAt : ℕ → Column → Type 0
  ColumnAt i (ByAgent a) = slice_get crew i ≡ Some a
  ColumnAt i Common = i ≡ length crew + 0
  ColumnAt i (Watching y) = (p : ℕ) × (i ≡ length crew + suc p) × (slice_get guarded p ≡ Some y)

  in_guarded : (i j : ℕ) (c : Column) → i ≡ length crew + j → slice_get (Common ∷ map Watching guarded) j ≡ Some c → ColumnAt i c
  in_guarded i zero c here is = subst (ColumnAt i) (same_Some Common c is) here
  in_guarded i (suc j) c here is = let m = mapped Watching guarded j c is in subst (ColumnAt i) m.gives (j, here, m.is)

  column_at : (i : ℕ) (c : Column) → slice_get (columns crew guarded) i ≡ Some c → ColumnAt i c
  column_at i c is = elim (mapped_or ByAgent crew (Common ∷ map Watching guarded) (length crew) i c refl is) [
    | inl m ↦ subst (ColumnAt i) m.gives m.is
    | inr b ↦ in_guarded i b.at c b.place b.is
  ]

  module _ (each_agent : Once crew) (each_watched : Once guarded) where
    by_agent : (a : ProcessState) (i j bit other k : ℕ) (c e : Column) → ColumnAt i c → ColumnAt j e → (c ≡ ByAgent a) × (bit ≡ k) →
        (e ≡ ByAgent a) × (other ≡ k) → (i ≡ j) × (bit ≡ other)
    by_agent a i j bit other k c e at_i at_j one two =
        (each_agent i j a (subst (ColumnAt i) one.0 at_i) (subst (ColumnAt j) two.0 at_j), one.1 ∙ sym two.1)

    by_watched : (y i j bit other : ℕ) (c e : Column) → ColumnAt i c → ColumnAt j e → IsWatchedAt y c bit → IsWatchedAt y e other →
        (i ≡ j) × (bit ≡ other)
    by_watched y i j bit other c e at_i at_j one two =
        let p = subst (ColumnAt i) one.0 at_i in
        let q = subst (ColumnAt j) two.0 at_j in
        (p.1 ∙ ap (λ k. length crew + suc k) (each_watched p.0 q.0 y p.2 q.2) ∙ sym q.1, one.1 ∙ sym two.1)

    same_word : (x : Kept) (i j bit other : ℕ) (c e : Column) → ColumnAt i c → ColumnAt j e → IsIn x c bit → IsIn x e other →
        (i ≡ j) × (bit ≡ other)
    same_word (Covers a d k) i j bit other c e at_i at_j one two = by_agent a i j bit other (cover_bit k) c e at_i at_j one two
    same_word (Enters a d) i j bit other c e at_i at_j one two = by_agent a i j bit other 18 c e at_i at_j one two
    same_word (Lands b a k) i j bit other c e at_i at_j one two = by_agent a i j bit other (cover_bit k) c e at_i at_j one two
    same_word (Clear y d) i j bit other c e at_i at_j one two = by_watched y i j bit other c e at_i at_j one two
    same_word (LandsClear b y) i j bit other c e at_i at_j one two = by_watched y i j bit other c e at_i at_j one two
    same_word (Turns a y) i j bit other c e at_i at_j one two = by_agent a i j bit other 19 c e at_i at_j one two
    same_word (Taken dir name) i j bit other c e at_i at_j one two =
        (subst (ColumnAt i) one.0 at_i ∙ sym (subst (ColumnAt j) two.0 at_j), one.1 ∙ sym two.1)
    same_word (Creates b new) i j bit other c e at_i at_j one two =
        (subst (ColumnAt i) one.0 at_i ∙ sym (subst (ColumnAt j) two.0 at_j), one.1 ∙ sym two.1)
    same_word (Drops b a k) i j bit other c e at_i at_j one two = by_agent a i j bit other (cover_bit k) c e at_i at_j one two
    same_word (Carries (Row spot) a) i j bit other c e at_i at_j one two = by_agent a i j bit other 0 c e at_i at_j one two
    same_word (Carries (Maker new m) a) i j bit other c e at_i at_j one two =
        by_agent a i j bit other (19 + new_bit new) c e at_i at_j one two

-- what a bit of the table says stands at a row and a column
pub record Said (es : List Entity) (cs : List Column) (at bit : ℕ) (x : Kept) : Type 0 where
  pub entity : Entity
  pub column : Column
  pub in_rows : slice_get es (at / length cs) ≡ Some entity
  pub in_columns : slice_get cs (at % length cs) ≡ Some column
  pub in_word : Says entity column bit x

pub said : (es : List Entity) (cs : List Column) (at bit : ℕ) (x : Kept) → table_says es cs at bit ≡ Some x → Said es cs at bit x
said es cs at bit x says = by (slice_get es (at / length cs)) (slice_get cs (at % length cs)) refl refl says
  where
    by : (e : Option Entity) (c : Option Column) → slice_get es (at / length cs) ≡ e → slice_get cs (at % length cs) ≡ c →
        bit_says e c bit ≡ Some x → Said es cs at bit x
    by None c at_e at_c is = absurd (None≢Some x is)
    by (Some e) None at_e at_c is = absurd (None≢Some x is)
    by (Some e) (Some c) at_e at_c is = record { entity = e; column = c; in_rows = at_e; in_columns = at_c; in_word = word_says e c bit x is }

pub one_place : (crew : List ProcessState) (hands : List Hand) (dirs : ℕ) (spots : List Spot) (guarded : List ℕ) → Once crew → Once hands → Once spots →
    Once guarded → let says = table_says (entities hands dirs spots) (columns crew guarded) in
    (at other bit more : ℕ) (x : Kept) → says at bit ≡ Some x → says other more ≡ Some x → (at ≡ other) × (bit ≡ more)
one_place crew hands dirs spots guarded each_agent each_hand each_name each_watched at other bit more x first second =
    let es : List Entity = entities hands dirs spots in
    let cs : List Column = columns crew guarded in
    let a = said es cs at bit x first in
    let b = said es cs other more x second in
    let row : at / length cs ≡ other / length cs = same_row hands dirs spots each_hand each_name (at / length cs) (other / length cs) a.entity
    (row_at hands dirs spots (at / length cs) a.entity a.in_rows)
    (subst (RowAt hands dirs spots (other / length cs)) (sym b.in_word.0 ∙ a.in_word.0)
    (row_at hands dirs spots (other / length cs) b.entity b.in_rows)) in
    let column : (at % length cs ≡ other % length cs) × (bit ≡ more) = same_word crew guarded each_agent each_watched x
    (at % length cs) (other % length cs) bit more a.column b.column (column_at crew guarded (at % length cs) a.column a.in_columns)
    (column_at crew guarded (other % length cs) b.column b.in_columns) a.in_word.1 b.in_word.1 in
    (sym (div-add-mod' at (length cs)) ∙ (λ z. row z * length cs + column.0 z) ∙ div-add-mod' other (length cs), column.1)
