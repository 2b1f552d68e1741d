-- Words that are put together of covers and single bits.
use Rattle.pua_jointly.proofs.Common.{◌≡◌, ◌≢◌, ◌<◌, ◌≤◌, ◌⊎◌, ◌∙◌, ◌==◌, ◌∷◌, ◌++◌, [], ℕ, zero, suc, Bool, true, false, List, map, refl, sym}
use Rattle.pua_jointly.proofs.Common.{ap, subst, inl, inr, arith, Some, option_map, None≢Some, same_Some, Cover, New, NewDir, NewOthers, NewFile, NewLink, NewSock, NewFifo, all_new}
use Rattle.pua_jointly.proofs.Common.{false≢true, eqb-true, eq-eqb, or_left, or_right}
use Rattle.std.specs.Prelude.{slice_get, min, ◌+◌}
use Rattle.std.specs.Int.{bit_at}
use Rattle.std.specs.Int.Bits.{bit_or}
use Rattle.std.proofs.lemmas.Bool.{cases_lt}
use Rattle.std.proofs.lemmas.Option.{slice_get-map, slice_get_within}
use Rattle.std.proofs.lemmas.Nat.Bits.{bit_at_and, bit_at_above, bit_at-pow_same, bit_at-pow_other}
use Rattle.pua_jointly.specs.Closing.{has_bit}
use Rattle.pua_jointly.specs.JointFacts.{Kept}
use Rattle.pua_jointly.specs.JointTable.{all_covers}
use Rattle.pua_jointly.specs.JointPlace.{cover_bit, new_bit}
use Rattle.pua_jointly.specs.JointWords.{covers_in}
use Rattle.pua_jointly.specs.JointRounds.{flag, has_one}
use Rattle.pua_jointly.proofs.Gaining.{has_or}
use Rattle.pua_jointly.proofs.JointOlds.{no_bit}
use Rattle.pua_jointly.proofs.JointPlaces.{cover_is, new_is}
use Rattle.pua_jointly.proofs.JointRead.{cover_at, covers_front, new_at}
use Rattle.pua_jointly.proofs.JointRows.{right}
use Rattle.pua_jointly.proofs.JointWords.{masked, either_true, cover_of}
use Rattle.pua_jointly.proofs.Once.{mapped, mapped_or}

pub flag_means : (set : Bool) (at bit : ℕ) → has_bit (flag set at) bit → (set ≡ true) × (bit ≡ at)
flag_means false at bit held = absurd (no_bit bit held)
flag_means true at bit held = by (bit == at) refl
  where
    by : (b : Bool) → (bit == at) ≡ b → (true ≡ true) × (bit ≡ at)
    by true same = (refl, eqb-true bit at same)
    by false other =
        let apart : bit ≢ at = λ same. false≢true (sym other ∙ eq-eqb bit at same) in
        absurd (false≢true (sym (ap (λ n. n == 1) (bit_at-pow_other at bit apart)) ∙ held))

pub flag_has : (set : Bool) (at : ℕ) → set ≡ true → has_bit (flag set at) at
flag_has false at e = absurd (false≢true e)
flag_has true at e = ap (λ n. n == 1) (bit_at-pow_same at)

-- the bits of covers
pub covers_mean : (word bit : ℕ) → has_bit (covers_in word) bit → (bit < 18) × has_bit word bit
covers_mean word bit held = by (cases_lt bit 18)
  where
    by : (bit < 18) ⊎ (18 ≤ bit) → (bit < 18) × has_bit word bit
    by (inl low) = (low, sym (masked word bit low) ∙ held)
    by (inr high) =
        let none : bit_at 262143 bit ≡ 0 = bit_at_above 262143 18 bit (omega arith) high in
        let both : bit_at (covers_in word) bit ≡ min (bit_at word bit) 0 = bit_at_and word 262143 bit ∙ ap (min (bit_at word bit)) none in
        let one : bit_at (covers_in word) bit ≡ 1 = eqb-true (bit_at (covers_in word) bit) 1 held in
        absurd (omega (arith, both, one))

pub covers_have : (word bit : ℕ) → bit < 18 → has_bit word bit → has_bit (covers_in word) bit
covers_have word bit low held = masked word bit low ∙ held

-- what a word says
pub record WordSays (xs : List Kept) (Now : Kept → Type 0) (word : ℕ) : Type 0 where
  pub only : (bit : ℕ) → has_bit word bit → (x : Kept) × (slice_get xs bit ≡ Some x) × Now x
  pub all : (bit : ℕ) (x : Kept) → slice_get xs bit ≡ Some x → Now x → has_bit word bit

pub none_says : (Now : Kept → Type 0) → WordSays [] Now 0
none_says Now = record { only = λ bit held. absurd (no_bit bit held); all = λ bit x is now. absurd (None≢Some x is) }

pub one_says : (y : Kept) (Now : Kept → Type 0) (set : Bool) → (set ≡ true → Now y) → (Now y → set ≡ true) → WordSays (y ∷ []) Now (flag set 0)
one_says y Now set means has = record {
  only = λ bit held. let f = flag_means set 0 bit held in (y, ap (slice_get (y ∷ [])) f.1, means f.0);
  all = by;
}
  where
    by : (bit : ℕ) (x : Kept) → slice_get (y ∷ []) bit ≡ Some x → Now x → has_bit (flag set 0) bit
    by zero x is now = flag_has set 0 (has (subst Now (sym (same_Some y x is)) now))
    by (suc bit) x is now = absurd (None≢Some x is)

-- a bit behind the covers says this
pub record Behind (ys : List Kept) (Now : Kept → Type 0) (bit : ℕ) : Type 0 where
  pub at : ℕ
  pub place : bit ≡ 18 + at
  pub fact : Kept
  pub is : slice_get ys at ≡ Some fact
  pub now : Now fact

module _ (f : Cover → Kept) (Now : Kept → Type 0) (word : ℕ)
    (means : (k : Cover) → cover_bit k < 18 → has_bit word (cover_bit k) → Now (f k))
    (has : (k : Cover) → cover_bit k < 18 → Now (f k) → has_bit word (cover_bit k)) where
  cover_means : (bit : ℕ) → has_bit (covers_in word) bit → (k : Cover) × (cover_bit k ≡ bit) × (bit < 18) × Now (f k)
  cover_means bit held =
      let both = covers_mean word bit held in
      let k = cover_of bit both.0 in
      (k.0, k.1, both.0, means k.0 (subst (λ b. b < 18) (sym k.1) both.0) (subst (has_bit word) (sym k.1) both.1))

  cover_has : (bit : ℕ) (k : Cover) → slice_get all_covers bit ≡ Some k → bit < 18 → Now (f k) → has_bit (covers_in word) bit
  cover_has bit k is low now =
      let here : bit ≡ cover_bit k = cover_is bit k is in
      covers_have word bit low (subst (has_bit word) (sym here) (has k (subst (λ b. b < 18) here low) now))

  pub covers_say : WordSays (map f all_covers) Now (covers_in word)
  covers_say = record {
    only = λ bit held.
        let k = cover_means bit held in (
          f k.0,
          slice_get-map f all_covers bit ∙ ap (λ b. option_map f (slice_get all_covers b)) (sym k.1)
              ∙ ap (option_map f) (cover_at k.0 (subst (λ b. b < 18) (sym k.1) k.2)),
          k.3,
        );
    all = λ bit x is now.
        let m = mapped f all_covers bit x is in
        cover_has bit m.at m.is (slice_get_within all_covers bit m.at m.is) (subst Now (sym m.gives) now);
  }

  -- and of other facts behind them
  module _ (ys : List Kept) (rest : ℕ) (rest_means : (bit : ℕ) → has_bit rest bit → Behind ys Now bit)
      (rest_has : (j : ℕ) (x : Kept) → slice_get ys j ≡ Some x → Now x → has_bit rest (18 + j)) where
    pub covers_and_say : WordSays (map f all_covers ++ ys) Now (bit_or (covers_in word) rest)
    covers_and_say = record {
      only = λ bit held. elim (either_true (has_one (covers_in word) bit) (has_one rest bit) (sym (has_or (covers_in word) rest bit) ∙ held)) [
        | inl a ↦
            (let k = cover_means bit a in
            (f k.0, ap (slice_get (map f all_covers ++ ys)) (sym k.1) ∙ covers_front f ys k.0 (subst (λ b. b < 18) (sym k.1) k.2), k.3))
        | inr b ↦
            (let r = rest_means bit b in
            (r.fact, ap (slice_get (map f all_covers ++ ys)) r.place ∙ right (map f all_covers) ys (18 + r.at) r.at refl ∙ r.is, r.now))
      ];
      all = λ bit x is now. elim (mapped_or f all_covers ys 18 bit x refl is) [
        | inl m ↦
            has_or (covers_in word) rest bit ∙ or_left (has_one (covers_in word) bit) (has_one rest bit)
            (cover_has bit m.at m.is (slice_get_within all_covers bit m.at m.is) (subst Now (sym m.gives) now))
        | inr b ↦
            has_or (covers_in word) rest bit ∙ or_right (has_one (covers_in word) bit) (has_one rest bit)
            (subst (has_bit rest) (sym b.place) (rest_has b.at x b.is now))
      ];
    }

-- six bits, of all that can be made
module _ (p : New → Bool) (base : ℕ) where
  abbrev pub new_flag : New → ℕ
  new_flag new = flag (p new) (base + new_bit new)

  abbrev pub dirs_word : ℕ
  dirs_word = bit_or (new_flag NewDir) (new_flag NewOthers)

  abbrev pub others_word : ℕ
  others_word = bit_or (new_flag NewFile) (new_flag NewLink)

  abbrev pub typed_word : ℕ
  typed_word = bit_or (new_flag NewSock) (new_flag NewFifo)

  abbrev pub plain_word : ℕ
  plain_word = bit_or dirs_word others_word

  abbrev pub news_word : ℕ
  news_word = bit_or plain_word typed_word

  one_new : (bit : ℕ) (new : New) → has_bit (new_flag new) bit → (n : New) × (p n ≡ true) × (bit ≡ base + new_bit n)
  one_new bit new held = let f = flag_means (p new) (base + new_bit new) bit held in (new, f.0, f.1)

  -- one of two bits
  one_of_two : (bit : ℕ) (a b : New) → has_bit (bit_or (new_flag a) (new_flag b)) bit →
      (new : New) × (p new ≡ true) × (bit ≡ base + new_bit new)
  one_of_two bit a b held =
      elim (either_true (has_one (new_flag a) bit) _ (sym (has_or (new_flag a) (new_flag b) bit) ∙ held)) [
        | inl one ↦ one_new bit a one
        | inr two ↦ one_new bit b two
      ]

  pub news_mean : (bit : ℕ) → has_bit news_word bit → (new : New) × (p new ≡ true) × (bit ≡ base + new_bit new)
  news_mean bit held = elim (either_true (has_one plain_word bit) (has_one typed_word bit) (sym (has_or plain_word typed_word bit) ∙ held)) [
    | inl plain ↦ elim (either_true (has_one dirs_word bit) (has_one others_word bit) (sym (has_or dirs_word others_word bit) ∙ plain)) [
      | inl dirs ↦ one_of_two bit NewDir NewOthers dirs
      | inr others ↦ one_of_two bit NewFile NewLink others
    ]
    | inr typed ↦ one_of_two bit NewSock NewFifo typed
  ]

  first : (a b bit : ℕ) → has_bit a bit → has_bit (bit_or a b) bit
  first a b bit held = has_or a b bit ∙ or_left (has_one a bit) (has_one b bit) held

  second : (a b bit : ℕ) → has_bit b bit → has_bit (bit_or a b) bit
  second a b bit held = has_or a b bit ∙ or_right (has_one a bit) (has_one b bit) held

  in_dirs : (bit : ℕ) → has_bit dirs_word bit → has_bit news_word bit
  in_dirs bit held = first plain_word typed_word bit (first dirs_word others_word bit held)

  in_others : (bit : ℕ) → has_bit others_word bit → has_bit news_word bit
  in_others bit held = first plain_word typed_word bit (second dirs_word others_word bit held)

  in_typed : (bit : ℕ) → has_bit typed_word bit → has_bit news_word bit
  in_typed bit held = second plain_word typed_word bit held

  set_new : (new : New) → p new ≡ true → has_bit (new_flag new) (base + new_bit new)
  set_new new e = flag_has (p new) (base + new_bit new) e

  pub news_have : (new : New) → p new ≡ true → has_bit news_word (base + new_bit new)
  news_have NewDir e = in_dirs (base + 0) (first (new_flag NewDir) (new_flag NewOthers) (base + 0) (set_new NewDir e))
  news_have NewOthers e = in_dirs (base + 1) (second (new_flag NewDir) (new_flag NewOthers) (base + 1) (set_new NewOthers e))
  news_have NewFile e = in_others (base + 2) (first (new_flag NewFile) (new_flag NewLink) (base + 2) (set_new NewFile e))
  news_have NewLink e = in_others (base + 3) (second (new_flag NewFile) (new_flag NewLink) (base + 3) (set_new NewLink e))
  news_have NewSock e = in_typed (base + 4) (first (new_flag NewSock) (new_flag NewFifo) (base + 4) (set_new NewSock e))
  news_have NewFifo e = in_typed (base + 5) (second (new_flag NewSock) (new_flag NewFifo) (base + 5) (set_new NewFifo e))

-- alone
pub news_say : (f : New → Kept) (Now : Kept → Type 0) (p : New → Bool) → ((new : New) → p new ≡ true → Now (f new)) →
    ((new : New) → Now (f new) → p new ≡ true) → WordSays (map f all_new) Now (news_word p 0)
news_say f Now p means has = record {
  only = λ bit held.
      let n = news_mean p 0 bit held in
      let at = n.2 in
      let here : bit ≡ new_bit n.0 = omega (arith, at) in
      (f n.0, ap (slice_get (map f all_new)) here ∙ new_at f n.0, means n.0 n.1);
  all = λ bit x is now.
      let m = mapped f all_new bit x is in
      let at = new_is bit m.at m.is in
      let here : bit ≡ 0 + new_bit m.at = omega (arith, at) in
      subst (has_bit (news_word p 0)) (sym here) (news_have p 0 m.at (has m.at (subst Now (sym m.gives) now)));
}
