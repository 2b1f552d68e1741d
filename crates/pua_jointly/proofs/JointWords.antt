-- What the words of a crew's table say of the facts that follow.
use Rattle.pua_jointly.proofs.Common.{◌≡◌, ◌<◌, ◌≤◌, ◌⊎◌, ◌∙◌, ◌∷◌, ◌||◌, ◌&&◌, ◌==◌, [], ℕ, zero, suc, Bool, true, false, List, length, refl, sym, ap}
use Rattle.pua_jointly.proofs.Common.{subst, inl, inr, arith, list_any, Among, among_contained, contained, Some, ProcessState, Spot, Cover}
use Rattle.pua_jointly.proofs.Common.{if◌then◌else◌, Tree, CallTable, false≢true, eqb-true, All, Only, not, ◌≢◌, NewDir, New}
use Rattle.pua_jointly.proofs.Common.{can_move, has_c, and_parts, and_from}
use Rattle.std.specs.Prelude.{slice_get, get_or, min, ◌+◌, ◌*◌, ◌^◌, IsTrue}
use Rattle.std.specs.Int.{bit_at, trailing_zeros}
use mir.Syntax.{w32}
use Rattle.std.specs.Int.Bits.{bit_and, bit_or}
use Rattle.std.specs.List.{fold}
use Rattle.std.proofs.lemmas.Nat.{and_le_r}
use Rattle.std.proofs.lemmas.Nat.Bits.{bit_at_and, bit_at_ones, bit_at-lt, bit_at-zero, bit_at-trailing_zeros}
use Rattle.pua_policy.specs.declared.answer.Cover.TheVariants.{Nothing}
use Rattle.pua_jointly.specs.Closing.{has_bit}
use Rattle.pua_jointly.specs.Jointly.{Hand, seat_device, Seat, Old, Made}
use Rattle.pua_jointly.specs.JointFacts.{Kept, Covers, Enters, Lands, Clear, LandsClear, Drops, Creates, Moves, Follows, drops_within}
use Rattle.pua_jointly.specs.JointFacts.{creates_within, makes_under}
use Rattle.pua_jointly.specs.JointTable.{IsTold, all_covers, entities, columns, hands_of, table_says, TableFits}
use Rattle.pua_jointly.specs.JointPlace.{Once, cover_bit}
use Rattle.pua_jointly.specs.JointWords.{word_at, landing_word, meets, moves_at, moved_at, moved_word, born_at, apart_at, apart_by, apart_word}
use Rattle.pua_jointly.specs.JointWords.{clear_at, clear_by, covers_in}
use Rattle.pua_jointly.specs.JointWords.{with_c, AreCovers, IsMover, AreMovers, dropped_word, some_meets}
use Rattle.pua_jointly.specs.declared.mover.Mover.{Mover}
use Rattle.pua_jointly.proofs.CoverBits.{c_covers}
use Rattle.pua_jointly.proofs.Gaining.{has_or}
use Rattle.pua_jointly.proofs.JointPlaced.{IsSeat, InRange, in_range, among_got, got_among}
use Rattle.pua_jointly.proofs.JointPlaces.{cover_is}
use Rattle.pua_jointly.proofs.JointRead.{SeatAt, old_at, made_at, says, covers_said, enters_said, lands_said, creates_said, clear_said}
use Rattle.pua_jointly.proofs.JointRead.{lands_clear_said, is_told, told_is}
use Rattle.pua_ever.proofs.ForCallers.{any_among, any_found}

or_false : (x : Bool) → (x || false) ≡ x
or_false true = refl
or_false false = refl

or_or : (x y z : Bool) → ((x || y) || z) ≡ (x || (y || z))
or_or true y z = refl
or_or false y z = refl

-- a bit of many words together is one of some word
has_ors : {X : Type 0} (f : X → ℕ) (xs : List X) (start bit : ℕ) →
    (bit_at (fold (λ word x. bit_or word (f x)) start xs) bit == 1) ≡ ((bit_at start bit == 1) || list_any (λ x. bit_at (f x) bit == 1) xs)
has_ors f [] start bit = sym (or_false (bit_at start bit == 1))
has_ors f (x ∷ xs) start bit =
    has_ors f xs (bit_or start (f x)) bit ∙ ap (λ b. b || list_any (λ y. bit_at (f y) bit == 1) xs) (has_or start (f x) bit)
    ∙ or_or (bit_at start bit == 1) (bit_at (f x) bit == 1) (list_any (λ y. bit_at (f y) bit == 1) xs)

pub has_some : {X : Type 0} (f : X → ℕ) (xs : List X) (bit : ℕ) →
    (bit_at (fold (λ word x. bit_or word (f x)) 0 xs) bit == 1) ≡ list_any (λ x. bit_at (f x) bit == 1) xs
has_some f xs bit =
    has_ors f xs 0 bit ∙ ap (λ n. (n == 1) || list_any (λ x. bit_at (f x) bit == 1) xs) (bit_at-zero bit)

one_below : (x : ℕ) → x < 2 → (min x 1 == 1) ≡ (x == 1)
one_below zero low = refl
one_below (suc zero) low = refl
one_below (suc (suc x)) low = absurd (omega (arith, low))

pub masked : (word bit : ℕ) → bit < 18 → (bit_at (bit_and word 262143) bit == 1) ≡ (bit_at word bit == 1)
masked word bit low =
    ap (λ n. n == 1) (bit_at_and word 262143 bit ∙ ap (min (bit_at word bit)) (bit_at_ones 18 bit low))
    ∙ one_below (bit_at word bit) (bit_at-lt word bit)

-- the one bit of a watched directory's column, asked for at once
with_if : (b : Bool) (word : ℕ) (x : Bool) → x ≡ (bit_at word 0 == 1) → (b && x) ≡ (bit_at (if b then word else 0) 0 == 1)
with_if true word x e = e
with_if false word x e = ap (λ n. n == 1) (sym (bit_at-zero 0))

and_and : (x y z : Bool) → (x && (y && z)) ≡ ((x && y) && z)
and_and true y z = refl
and_and false y z = refl

module _ (told : List ℕ) (columns : ℕ) (seats : List ℕ) (seat watch of : ℕ) where
  clear_in : (by into : ℕ) → clear_at told columns by watch of into ≡ (bit_at (apart_at told columns by watch of into) 0 == 1)
  clear_in by into =
      let enters : Bool = bit_at (word_at told columns into by) 18 == 1 in
      let clear : Bool = bit_at (word_at told columns into watch) 0 == 1 in
      let word : ℕ = word_at told columns into of in
      and_and enters clear (bit_at word 0 == 1)
      ∙ with_if (enters && clear) (covers_in word) (bit_at word 0 == 1) (sym (masked word 0 (omega arith)))

  clear_put : (mover : Mover) → clear_by told columns seats seat watch of mover
      ≡ (bit_at (apart_by told columns seats seat watch of mover) 0 == 1)
  clear_put mover =
      with_if (moves_at told columns seat mover) (fold (λ word into. bit_or word (apart_at told columns mover.place watch of into)) 0 seats)
      (list_any (clear_at told columns mover.place watch of) seats)
      ((λ z. list_any (λ into. clear_in mover.place into z) seats) ∙ sym (has_some (apart_at told columns mover.place watch of) seats 0))

  pub apart_clear : (movers : List Mover) → list_any (clear_by told columns seats seat watch of) movers
      ≡ (bit_at (apart_word told columns movers seats seat watch of) 0 == 1)
  apart_clear movers =
      (λ z. list_any (λ mover. clear_put mover z) movers) ∙ sym (has_some (apart_by told columns seats seat watch of) movers 0)

-- a bit of a word that counts under a condition
pub if_has : (b : Bool) (word bit : ℕ) → (bit_at (if b then word else 0) bit == 1) ≡ true → (b ≡ true) × ((bit_at word bit == 1) ≡ true)
if_has true word bit e = (refl, e)
if_has false word bit e = absurd (false≢true (sym (ap (λ n. n == 1) (bit_at-zero bit)) ∙ e))

pub if_both : (b : Bool) (word bit : ℕ) → b ≡ true → (bit_at word bit == 1) ≡ true → (bit_at (if b then word else 0) bit == 1) ≡ true
if_both b word bit is e = ap (λ c. bit_at (if c then word else 0) bit == 1) is ∙ e

-- some cover of a word is one of these
both_ones : (x y : ℕ) → x < 2 → y < 2 → min x y ≡ 1 → ((x == 1) ≡ true) × ((y == 1) ≡ true)
both_ones zero y low high e = absurd (omega (arith, e))
both_ones (suc zero) zero low high e = absurd (omega (arith, e))
both_ones (suc zero) (suc zero) low high e = (refl, refl)
both_ones (suc zero) (suc (suc y)) low high e = absurd (omega (arith, high))
both_ones (suc (suc x)) y low high e = absurd (omega (arith, low))

pub meets_some : (word covers : ℕ) → covers < 2 ^ 32 → meets word covers ≡ true → (bit : ℕ) × has_bit word bit × has_bit covers bit
meets_some word covers small e =
    let m : ℕ = bit_and word covers in
    let below : m ≤ covers = and_le_r word covers in
    let some : m ≢ 0 = λ none. false≢true (sym (ap (λ n. not (n == 0)) none) ∙ e) in
    let more : 0 < m = omega (arith, some) in
    let first = bit_at-trailing_zeros w32 m more (omega (arith, below, small)) in
    let bit : ℕ = trailing_zeros w32 m in
    let both : min (bit_at word bit) (bit_at covers bit) ≡ 1 = sym (bit_at_and word covers bit) ∙ first.1 in
    let parts = both_ones (bit_at word bit) (bit_at covers bit) (bit_at-lt word bit) (bit_at-lt covers bit) both in
    (bit, parts.0, parts.1)

pub meets_by : (word covers bit : ℕ) → has_bit word bit → has_bit covers bit → meets word covers ≡ true
meets_by word covers bit one two = by (bit_and word covers == 0) refl
  where
    by : (b : Bool) → (bit_and word covers == 0) ≡ b → meets word covers ≡ true
    by false e = ap not e
    by true e =
        let none : bit_and word covers ≡ 0 = eqb-true (bit_and word covers) 0 e in
        let zeros : min (bit_at word bit) (bit_at covers bit) ≡ 0 =
        sym (bit_at_and word covers bit) ∙ ap (λ n. bit_at n bit) none ∙ bit_at-zero bit in
        let a : bit_at word bit ≡ 1 = eqb-true (bit_at word bit) 1 one in
        let b : bit_at covers bit ≡ 1 = eqb-true (bit_at covers bit) 1 two in
        absurd (omega (arith, zeros, a, b))

pub cover_of : (bit : ℕ) → bit < 18 → (k : Cover) × (cover_bit k ≡ bit)
cover_of zero low = (All, refl)
cover_of (suc zero) low = (Nothing, refl)
cover_of (suc (suc perms)) low = (Only perms, refl)

pub small_of : (k : Cover) → Among all_covers k → cover_bit k < 18
small_of k a =
    let g = among_got all_covers k a in
    let here = cover_is g.at k g.is in
    let low : g.at < 18 = g.low in
    omega (arith, here, low)

pub either_true : (x y : Bool) → (x || y) ≡ true → (x ≡ true) ⊎ (y ≡ true)
either_true true y e = inl refl
either_true false y e = inr e

pub got_at : {X : Type 0} (xs : List X) (i : ℕ) → i < length xs → (x : X) × (slice_get xs i ≡ Some x)
got_at [] i low = absurd (omega (arith, low))
got_at (x ∷ xs) zero low = (x, refl)
got_at (x ∷ xs) (suc i) low = got_at xs i (omega (arith, low))

module _ (t : Tree) (table : CallTable) (crew : List ProcessState) (devices : List ℕ) (watched : ℕ → Bool) (dirs : ℕ) (spots : List Spot)
    (guarded : List ℕ) (fits : TableFits t crew devices watched dirs spots guarded) where
  abbrev pub hands : List Hand
  hands = hands_of crew devices

  -- each directory of a fact has a row
  pub record IsSeated (p : Seat) : Type 0 where
    pub seat : ℕ
    pub is : SeatAt crew hands dirs spots guarded seat p

  pub seated : (p : Seat) → IsSeat t table crew devices watched dirs spots guarded fits p → IsSeated p
  seated (Old d) low = record { seat = d; is = old_at low }
  seated (Made m) among = let g = among_got hands m among in record { seat = dirs + g.at; is = made_at g.at g.is }

  module _ (each_agent : Once crew) (each_hand : Once (hands_of crew devices)) (each_name : Once spots) (each_watched : Once guarded) (told : List ℕ) where
    abbrev pub T : Kept → Type 0
    T x = IsTold (table_says (entities hands dirs spots) (columns crew guarded)) told x

    abbrev pub many : ℕ
    many = length (columns crew guarded)

    abbrev pub Says : ℕ → ℕ → Kept → Type 0
    Says at bit x = says crew hands dirs spots guarded at bit x

    abbrev pub Seated : ℕ → Seat → Type 0
    Seated seat p = SeatAt crew hands dirs spots guarded seat p

    abbrev pub Moved : ProcessState → Seat → Type 0
    Moved b p = Moves t table crew watched T b p

    pub known : (at bit : ℕ) (x : Kept) → Says at bit x → has_bit (get_or told at 0) bit → T x
    known at bit x it held = is_told crew hands dirs spots guarded each_agent each_hand each_name each_watched told at bit x it held

    pub has : (at bit : ℕ) (x : Kept) → Says at bit x → T x → has_bit (get_or told at 0) bit
    has at bit x it is = told_is crew hands dirs spots guarded each_agent each_hand each_name each_watched told at bit x it is

    pub range : (x : Kept) → T x → InRange t table crew devices watched dirs spots guarded fits x
    range x is = in_range t table crew devices watched dirs spots guarded fits told x is

    -- a bit of a column that says this of each directory, and that of where each process puts directories
    pub record Family (j bit : ℕ) (F : Seat → Kept) (L : Hand → Kept) : Type 0 where
      pub small : bit < 18
      pub seat_said : (seat : ℕ) (p : Seat) → Seated seat p → Says (seat * many + j) bit (F p)
      pub landing_said : (i : ℕ) (b : Hand) → slice_get hands i ≡ Some b → Says ((dirs + (length hands + i)) * many + j) bit (L b)
      pub in_seat : (p : Seat) → T (F p) → IsSeat t table crew devices watched dirs spots guarded fits p

    pub cover_family : (j : ℕ) (a : ProcessState) (k : Cover) → slice_get crew j ≡ Some a → cover_bit k < 18 →
        Family j (cover_bit k) (λ p. Covers a p k) (λ b. Lands b a k)
    cover_family j a k of small = record {
      small = small;
      seat_said = λ seat p at. covers_said crew hands dirs spots guarded seat j p a k at of small;
      landing_said = λ i b by. lands_said crew hands dirs spots guarded i j b a k by of small;
      in_seat = λ p is. (range (Covers a p k) is).1;
    }

    pub clear_family : (j y : ℕ) → slice_get guarded j ≡ Some y → Family (length crew + suc j) 0 (λ p. Clear y p) (λ b. LandsClear b y)
    clear_family j y is = record {
      small = omega arith;
      seat_said = λ seat p at. clear_said crew hands dirs spots guarded seat j y p at is;
      landing_said = λ i b by. lands_clear_said crew hands dirs spots guarded i j y b by is;
      in_seat = λ p of. (range (Clear y p) of).0;
    }

    -- a process enters a directory
    pub entered_means : (seat i : ℕ) (p : Seat) (b : ProcessState) → Seated seat p → slice_get crew i ≡ Some b →
        has_bit (word_at told many seat i) 18 → T (Enters b p)
    entered_means seat i p b at by held = known (seat * many + i) 18 (Enters b p) (enters_said crew hands dirs spots guarded seat i p b at by) held

    pub entered_has : (seat i : ℕ) (p : Seat) (b : ProcessState) → Seated seat p → slice_get crew i ≡ Some b → T (Enters b p) →
        has_bit (word_at told many seat i) 18
    entered_has seat i p b at by is = has (seat * many + i) 18 (Enters b p) (enters_said crew hands dirs spots guarded seat i p b at by) is

    -- some cover of a directory's word is one of which a test holds
    module _ (mask : ℕ) (test : Cover → Bool) (covers : AreCovers mask test) (seat i : ℕ) (p : Seat) (b : ProcessState)
        (at : Seated seat p) (by : slice_get crew i ≡ Some b) where
      pub some_cover_means : meets (word_at told many seat i) mask ≡ true → (k : Cover) × T (Covers b p k) × IsTrue (test k)
      some_cover_means e =
          let found = meets_some (word_at told many seat i) mask covers.small e in
          let k = cover_of found.0 (covers.only found.0 found.2) in
          let small : cover_bit k.0 < 18 = subst (λ bit. bit < 18) (sym k.1) (covers.only found.0 found.2) in (
            k.0,
            known (seat * many + i) (cover_bit k.0) (Covers b p k.0) (covers_said crew hands dirs spots guarded seat i p b k.0 at by small)
                (ap (λ bit. bit_at (word_at told many seat i) bit == 1) k.1 ∙ found.1),
            sym (covers.all k.0 small) ∙ (ap (λ bit. bit_at mask bit == 1) k.1 ∙ found.2),
          )

      pub some_cover_has : (k : Cover) → T (Covers b p k) → IsTrue (test k) → meets (word_at told many seat i) mask ≡ true
      some_cover_has k is passes =
          let small = small_of k (range (Covers b p k) is).2 in
          meets_by (word_at told many seat i) mask (cover_bit k)
          (has (seat * many + i) (cover_bit k) (Covers b p k) (covers_said crew hands dirs spots guarded seat i p b k at by small) is)
          (covers.all k small ∙ passes)

    -- a process can move a directory where some cover of its word is one under which it can
    pub moves_means : (first seat i : ℕ) (p : Seat) (b : ProcessState) (mover : Mover) → Seated seat p → slice_get crew i ≡ Some b →
        IsMover table dirs (length hands) first i b mover → moves_at told many seat mover ≡ true → Moved b p
    moves_means first seat i p b mover at by is e =
        let c = some_cover_means mover.moving (can_move table b) is.moving seat i p b at by
        (ap (λ x. meets (word_at told many seat x) mover.moving) (sym is.place) ∙ e) in
        record { among = contained crew b (got_among crew i b by); cover = c.0; covers = c.1; can = c.2 }

    pub moves_has : (first seat i : ℕ) (p : Seat) (b : ProcessState) (mover : Mover) → Seated seat p → slice_get crew i ≡ Some b →
        IsMover table dirs (length hands) first i b mover → Moved b p → moves_at told many seat mover ≡ true
    moves_has first seat i p b mover at by is m =
        ap (λ x. meets (word_at told many seat x) mover.moving) is.place
        ∙ some_cover_has mover.moving (can_move table b) is.moving seat i p b at by m.cover m.covers m.can

    -- of a device: the hands of the crew on it, and the rows of its directories and of what is made there
    module _ (on first : ℕ) (at_hand : (i : ℕ) (a : ProcessState) → slice_get crew i ≡ Some a → slice_get hands (first + i) ≡ Some (a, on))
        (seats : List ℕ) (in_seats : (seat : ℕ) (p : Seat) → Seated seat p → seat_device t p ≡ on → Among seats seat)
        (seat_on : (seat : ℕ) → Among seats seat → (p : Seat) × Seated seat p × (seat_device t p ≡ on)) where
      -- so it makes something where a call that makes it is allowed
      module _ (mask : ℕ) (a : ProcessState) (new : New) (covers : AreCovers mask (makes_under table a new)) (i : ℕ)
          (by : slice_get crew i ≡ Some a) where
        abbrev pub makes_at : ℕ → Bool
        makes_at seat = meets (word_at told many seat i) mask

        pub created_means : some_meets told many i mask seats ≡ true → Follows t table crew watched T (Creates (a, on) new)
        created_means e =
            let found = any_found makes_at seats e in
            let p = seat_on found.0 found.1 in
            let k = some_cover_means mask (makes_under table a new) covers found.0 i p.0 a p.1 by found.2 in
            creates_within p.0 k.0 p.2 k.1 k.2

        pub created_has : (p : Seat) (k : Cover) → seat_device t p ≡ on → T (Covers a p k) → IsTrue (makes_under table a new k) → some_meets told many i mask seats ≡ true
        created_has p k near is made =
            let s = seated p (range (Covers a p k) is).1 in
            any_among makes_at seats s.seat (in_seats s.seat p s.is near)
            (some_cover_has mask (makes_under table a new) covers s.seat i p a s.is by k is made)

      module _ (j bit : ℕ) (F : Seat → Kept) (L : Hand → Kept) (fam : Family j bit F L) where
        -- the bit of the directories that count
        module _ (counts : ℕ → Bool) (C : Seat → Type 0) where
          abbrev pub counted_at : ℕ → ℕ
          counted_at seat = if counts seat then bit_and (word_at told many seat j) 262143 else 0

          abbrev pub is_counted_at : ℕ → Bool
          is_counted_at seat = bit_at (counted_at seat) bit == 1

          pub seats_mean : ((seat : ℕ) (p : Seat) → Seated seat p → counts seat ≡ true → C p) →
              has_bit (fold (λ word seat. bit_or word (counted_at seat)) 0 seats) bit → (p : Seat) × (seat_device t p ≡ on) × C p × T (F p)
          seats_mean each held =
              let found = any_found is_counted_at seats (sym (has_some counted_at seats bit) ∙ held) in
              let p = seat_on found.0 found.1 in
              let both = if_has (counts found.0) (bit_and (word_at told many found.0 j) 262143) bit found.2 in (
                p.0,
                p.2,
                each found.0 p.0 p.1 both.0,
                known (found.0 * many + j) bit (F p.0) (fam.seat_said found.0 p.0 p.1)
                    (sym (masked (word_at told many found.0 j) bit fam.small) ∙ both.1),
              )

          pub seats_have : ((seat : ℕ) (p : Seat) → Seated seat p → C p → counts seat ≡ true) → (p : Seat) → seat_device t p ≡ on → C p → T (F p) →
              has_bit (fold (λ word seat. bit_or word (counted_at seat)) 0 seats) bit
          seats_have each p near is of =
              let s = seated p (fam.in_seat p of) in
              has_some counted_at seats bit
              ∙ any_among is_counted_at seats s.seat (in_seats s.seat p s.is near)
              (if_both (counts s.seat) (bit_and (word_at told many s.seat j) 262143) bit (each s.seat p s.is is)
              (masked (word_at told many s.seat j) bit fam.small ∙ has (s.seat * many + j) bit (F p) (fam.seat_said s.seat p s.is) of))

        -- where a process puts directories are those that it enters
        module _ (i : ℕ) (b : ProcessState) (by : slice_get crew i ≡ Some b) where
          abbrev pub is_entered_at : ℕ → Bool
          is_entered_at seat = bit_at (word_at told many seat i) 18 == 1

          pub landing_means : has_bit (landing_word told many i j seats) bit → (p : Seat) × (seat_device t p ≡ on) × T (Enters b p) × T (F p)
          landing_means held =
              seats_mean is_entered_at (λ p. T (Enters b p)) (λ seat p at e. entered_means seat i p b at by e) held

          pub landing_has : (p : Seat) → seat_device t p ≡ on → T (Enters b p) → T (F p) → has_bit (landing_word told many i j seats) bit
          landing_has p near enters of =
              seats_have is_entered_at (λ p. T (Enters b p)) (λ seat p at e. entered_has seat i p b at by e) p near enters of

          -- and in the row of that
          landed_means : (row : ℕ) → row ≡ dirs + (length hands + (first + i)) → has_bit (bit_and (word_at told many row j) 262143) bit → T (L (b, on))
          landed_means row here held =
              known ((dirs + (length hands + (first + i))) * many + j) bit (L (b, on)) (fam.landing_said (first + i) (b, on) (at_hand i b by))
              ((λ z. bit_at (get_or told (sym here z * many + j) 0) bit == 1) ∙ sym (masked (word_at told many row j) bit fam.small) ∙ held)

          landed_has : (row : ℕ) → row ≡ dirs + (length hands + (first + i)) → T (L (b, on)) → has_bit (bit_and (word_at told many row j) 262143) bit
          landed_has row here is =
              masked (word_at told many row j) bit fam.small
              ∙ ((λ z. bit_at (get_or told (here z * many + j) 0) bit == 1)
              ∙ has ((dirs + (length hands + (first + i))) * many + j) bit (L (b, on)) (fam.landing_said (first + i) (b, on) (at_hand i b by)) is)

          -- of what it makes: where it is made
          module _ (maker : Mover) (is : IsMover table dirs (length hands) first i b maker) where
            abbrev pub drops_row : ℕ
            drops_row = dirs + (length hands + (length hands + (first + i)))

            pub born_means : has_bit (born_at told many (length crew) maker j) bit → T (Creates (b, on) NewDir) × T (L (b, on))
            born_means held =
                let both = if_has (bit_at (word_at told many maker.drops (length crew)) 0 == 1) (bit_and (word_at told many maker.landing j) 262143)
                bit held in (
                  known (drops_row * many + length crew) 0 (Creates (b, on) NewDir)
                      (creates_said crew hands dirs spots guarded (first + i) (b, on) NewDir (at_hand i b by))
                      ((λ z. bit_at (get_or told (sym is.drops z * many + length crew) 0) 0 == 1) ∙ both.0),
                  landed_means maker.landing is.landing both.1,
                )

            pub born_has : T (Creates (b, on) NewDir) → T (L (b, on)) → has_bit (born_at told many (length crew) maker j) bit
            born_has creates lands =
                let one = has (drops_row * many + length crew) 0 (Creates (b, on) NewDir)
                (creates_said crew hands dirs spots guarded (first + i) (b, on) NewDir (at_hand i b by)) creates in
                if_both (bit_at (word_at told many maker.drops (length crew)) 0 == 1) (bit_and (word_at told many maker.landing j) 262143) bit
                ((λ z. bit_at (get_or told (is.drops z * many + length crew) 0) 0 == 1) ∙ one)
                (landed_has maker.landing is.landing lands)

        -- what is moved comes where a process that can move it puts it
        module _ (movers : List Mover) (are : AreMovers table crew dirs (length hands) first movers) (seat : ℕ) (p : Seat) (at : Seated seat p) where
          abbrev pub comes_by : Mover → Bool
          comes_by mover = bit_at (moved_at told many seat j mover) bit == 1

          pub moved_means : has_bit (moved_word told many movers seat j) bit → (b : ProcessState) × Moved b p × T (L (b, on))
          moved_means held =
              let found = any_found comes_by movers (sym (has_some (moved_at told many seat j) movers bit) ∙ held) in
              let g = among_got movers found.0 found.1 in
              let one = are.only g.at found.0 g.is in
              let both = if_has (moves_at told many seat found.0) (bit_and (word_at told many found.0.landing j) 262143) bit found.2 in (
                one.0,
                moves_means first seat g.at p one.0 found.0 at one.1 one.2 both.0,
                landed_means g.at one.0 one.1 found.0.landing one.2.landing both.1,
              )

          pub moved_has : (b : ProcessState) → Moved b p → T (L (b, on)) → has_bit (moved_word told many movers seat j) bit
          moved_has b m lands =
              let g = among_got crew b (among_contained crew b m.among) in
              let one = are.each g.at b g.is in
              has_some (moved_at told many seat j) movers bit
              ∙ any_among comes_by movers one.0 (got_among movers g.at one.0 one.1)
              (if_both (moves_at told many seat one.0) (bit_and (word_at told many one.0.landing j) 262143) bit
              (moves_has first seat g.at p b one.0 at g.is one.2 m) (landed_has g.at b g.is one.0.landing one.2.landing lands))

        -- a watched directory comes where a process that can move it puts it and it can come to stand
        module _ (movers : List Mover) (are : AreMovers table crew dirs (length hands) first movers) (d w : ℕ) (low : d < dirs)
            (is : slice_get guarded w ≡ Some d) where
          abbrev pub column : ℕ
          column = length crew + suc w

          module _ (i : ℕ) (b : ProcessState) (by : slice_get crew i ≡ Some b) where
            abbrev pub is_open_at : ℕ → Bool
            is_open_at seat = (bit_at (word_at told many seat i) 18 == 1) && (bit_at (word_at told many seat column) 0 == 1)

            abbrev pub IsOpen : Seat → Type 0
            IsOpen p = T (Enters b p) × T (Clear d p)

            pub open_means : has_bit (fold (λ word seat. bit_or word (apart_at told many i column j seat)) 0 seats) bit →
                (p : Seat) × (seat_device t p ≡ on) × IsOpen p × T (F p)
            open_means held = seats_mean is_open_at IsOpen (λ seat p at e.
                let both = and_parts _ _ e in (
                  entered_means seat i p b at by both.0,
                  known (seat * many + column) 0 (Clear d p) (clear_said crew hands dirs spots guarded seat w d p at is) both.1,
                )) held

            pub open_has : (p : Seat) → seat_device t p ≡ on → IsOpen p → T (F p) →
                has_bit (fold (λ word seat. bit_or word (apart_at told many i column j seat)) 0 seats) bit
            open_has p near both of = seats_have is_open_at IsOpen (λ seat p at e.
                and_from (bit_at (word_at told many seat i) 18 == 1) (bit_at (word_at told many seat column) 0 == 1)
                (entered_has seat i p b at by e.0)
                (has (seat * many + column) 0 (Clear d p) (clear_said crew hands dirs spots guarded seat w d p at is) e.1)) p near both of

          abbrev pub opened_by : Mover → Bool
          opened_by mover = bit_at (apart_by told many seats d column j mover) bit == 1

          -- by the process's place
          abbrev opened_from : ℕ → ℕ
          opened_from i = fold (λ word seat. bit_or word (apart_at told many i column j seat)) 0 seats

          pub apart_means : has_bit (apart_word told many movers seats d column j) bit →
              (b : ProcessState) × Moved b (Old d) × (p : Seat) × (seat_device t p ≡ on) × T (Enters b p) × T (Clear d p) × T (F p)
          apart_means held =
              let found = any_found opened_by movers (sym (has_some (apart_by told many seats d column j) movers bit) ∙ held) in
              let g = among_got movers found.0 found.1 in
              let one = are.only g.at found.0 g.is in
              let both = if_has (moves_at told many d found.0) (opened_from found.0.place) bit found.2 in
              let p = open_means g.at one.0 one.1 ((λ z. bit_at (opened_from (sym one.2.place z)) bit == 1) ∙ both.1) in (
                one.0,
                moves_means first d g.at (Old d) one.0 found.0 (old_at low) one.1 one.2 both.0,
                p.0,
                p.1,
                p.2.0,
                p.2.1,
                p.3,
              )

          pub apart_has : (b : ProcessState) → Moved b (Old d) → (p : Seat) → seat_device t p ≡ on → T (Enters b p) → T (Clear d p) → T (F p) →
              has_bit (apart_word told many movers seats d column j) bit
          apart_has b m p near enters clear of =
              let g = among_got crew b (among_contained crew b m.among) in
              let one = are.each g.at b g.is in
              has_some (apart_by told many seats d column j) movers bit
              ∙ any_among opened_by movers one.0 (got_among movers g.at one.0 one.1)
              (if_both (moves_at told many d one.0) (opened_from one.0.place) bit (moves_has first d g.at (Old d) b one.0 (old_at low) g.is one.2 m)
              ((λ z. bit_at (opened_from (one.2.place z)) bit == 1) ∙ open_has g.at b g.is p near (enters, clear) of))

      -- where a process can put what is no directory are names of the directories on which it has `c`
      module _ (i j : ℕ) (b a : ProcessState) (k : Cover) (by : slice_get crew i ≡ Some b) (of : slice_get crew j ≡ Some a)
          (small : cover_bit k < 18) where
        abbrev pub has_c_at : ℕ → Bool
        has_c_at seat = meets (word_at told many seat i) with_c

        abbrev pub HasC : Seat → Type 0
        HasC p = (c : Cover) × T (Covers b p c) × IsTrue (has_c c)

        pub dropped_means : has_bit (dropped_word told many i j seats) (cover_bit k) → Follows t table crew watched T (Drops (b, on) a k)
        dropped_means held =
            let p = seats_mean j (cover_bit k) (λ p. Covers a p k) (λ b. Lands b a k) (cover_family j a k of small) has_c_at HasC
            (λ seat p at e. some_cover_means with_c has_c c_covers seat i p b at by e) held in
            drops_within p.0 p.2.0 p.1 p.2.1 p.2.2 p.3

        pub dropped_has : (p : Seat) (c : Cover) → seat_device t p ≡ on → T (Covers b p c) → IsTrue (has_c c) → T (Covers a p k) →
            has_bit (dropped_word told many i j seats) (cover_bit k)
        dropped_has p c near one is covers =
            seats_have j (cover_bit k) (λ p. Covers a p k) (λ b. Lands b a k) (cover_family j a k of small) has_c_at HasC
            (λ seat q at two. some_cover_has with_c has_c c_covers seat i q b at by two.0 two.1 two.2) p near (c, one, is) covers
