-- The covers of a directory of the beginning that the code finds are those that follow.
use Rattle.pua_jointly.proofs.Common.{◌≡◌, ◌≢◌, ◌<◌, ◌∙◌, ◌==◌, ℕ, Bool, true, false, List, length, refl, sym, ap, subst, inl, inr, arith}
use Rattle.pua_jointly.proofs.Common.{Option, Some, None, same_Some, None≢Some, ProcessState, Spot, Cover, All, Only, Tree, WellFormed, CallTable}
use Rattle.pua_jointly.proofs.Common.{if◌then◌else◌, false≢true, eqb-true, eq-eqb, or_left, or_right, is_dir, look, above, has_veil, perms_kept}
use Rattle.pua_jointly.proofs.Common.{row_of, row_says, sound_from, contained}
use Rattle.pua_jointly.proofs.JointPlaced.{got_among}
use Rattle.pua_tree.proofs.ForCallers.{above_is}
use Rattle.std.specs.Prelude.{slice_get, get_or, ◌+◌, ◌*◌, IsTrue, IsFalse}
use Rattle.std.specs.List.{Contains}
use Rattle.std.specs.Int.{bit_at}
use Rattle.std.specs.Int.Bits.{bit_or}
use Rattle.std.proofs.lemmas.Nat.Bits.{bit_at-zero, bit_at-pow_same, bit_at-pow_other}
use Rattle.pua_tree.specs.Tree.{device, parent}
use Rattle.pua_policy.specs.declared.answer.Cover.TheVariants.{Nothing}
use Rattle.pua_policy.specs.declared.place.Place.TheVariants as place
use Rattle.pua_jointly.specs.Closing.{has_bit}
use Rattle.pua_jointly.specs.Jointly.{Hand, seat_device, Seat, Old, is_standing, own_veil}
use Rattle.pua_jointly.specs.JointFacts.{Kept, Covers, Lands, Enters, Clear, Moves, IsPlain, Follows, covers_own, covers_root, covers_within}
use Rattle.pua_jointly.specs.JointFacts.{covers_moved, covers_apart, covers_born}
use Rattle.pua_jointly.specs.JointTable.{IsTold, entities, columns, hands_of, table_says, TableFits}
use Rattle.pua_jointly.specs.JointPlace.{Once, cover_bit}
use Rattle.pua_jointly.specs.JointWords.{word_at}
use Rattle.pua_jointly.specs.JointOld.{cover_word, root_word, parent_word, above_word, dir_word, old_word}
use Rattle.pua_jointly.proofs.Gaining.{has_or}
use Rattle.pua_jointly.proofs.JointFound.{made_other, seat_number}
use Rattle.pua_jointly.proofs.JointRead.{old_at, says, is_told, told_is}
use Rattle.pua_jointly.proofs.JointWords.{masked, if_has, if_both, either_true, Family, cover_family}

cover_same : (k l : Cover) → cover_bit k ≡ cover_bit l → k ≡ l
cover_same All All e = refl
cover_same All Nothing e = absurd (omega (arith, e))
cover_same All (Only p) e = absurd (omega (arith, e))
cover_same Nothing All e = absurd (omega (arith, e))
cover_same Nothing Nothing e = refl
cover_same Nothing (Only p) e = absurd (omega (arith, e))
cover_same (Only p) All e = absurd (omega (arith, e))
cover_same (Only p) Nothing e = absurd (omega (arith, e))
cover_same (Only p) (Only q) e = ap Only (omega (arith, e))

pub alone_is : (k l : Cover) → has_bit (cover_word k) (cover_bit l) → l ≡ k
alone_is k l known = by (cover_bit l == cover_bit k) refl
  where
    by : (b : Bool) → (cover_bit l == cover_bit k) ≡ b → l ≡ k
    by true same = cover_same l k (eqb-true (cover_bit l) (cover_bit k) same)
    by false other =
        let apart : cover_bit l ≢ cover_bit k = λ same. false≢true (sym other ∙ eq-eqb (cover_bit l) (cover_bit k) same) in
        absurd (false≢true (sym (ap (λ n. n == 1) (bit_at-pow_other (cover_bit k) (cover_bit l) apart)) ∙ known))

pub alone_has : (k : Cover) → has_bit (cover_word k) (cover_bit k)
alone_has k = ap (λ n. n == 1) (bit_at-pow_same (cover_bit k))

pub no_bit : (bit : ℕ) → has_bit 0 bit → ⊥
no_bit bit known = false≢true (sym (ap (λ n. n == 1) (bit_at-zero bit)) ∙ known)

pub unless_has : (b : Bool) (word bit : ℕ) → has_bit (if b then 0 else word) bit → (b ≡ false) × has_bit word bit
unless_has true word bit known = absurd (no_bit bit known)
unless_has false word bit known = (refl, known)

pub if_some : {X : Type 0} (b : Bool) (x y : X) → (if b then Some x else None) ≡ Some y → (b ≡ true) × (x ≡ y)
if_some true x y e = (refl, same_Some x y e)
if_some false x y e = absurd (None≢Some y e)

pub differs : (b : Bool) → (b ≡ true → ⊥) → b ≡ false
differs true never = absurd (never refl)
differs false never = refl

module _ (t : Tree) (well : WellFormed t) (table : CallTable) (crew : List ProcessState) (devices : List ℕ) (watched : ℕ → Bool) (dirs : ℕ)
    (spots : List Spot) (guarded : List ℕ) (fits : TableFits t crew devices watched dirs spots guarded) (each_agent : Once crew) (each_hand : Once (hands_of crew devices))
    (each_name : Once spots) (each_watched : Once guarded) (told : List ℕ) where
  abbrev pub T : Kept → Type 0
  T x = IsTold (table_says (entities (hands_of crew devices) dirs spots) (columns crew guarded)) told x

  abbrev pub many : ℕ
  many = length (columns crew guarded)

  abbrev pub New : Kept → Type 0
  New x = Follows t table crew watched T x

  abbrev pub IsFamily : ℕ → ℕ → (Seat → Kept) → (Hand → Kept) → Type 0
  IsFamily j bit F L = Family t table crew devices watched dirs spots guarded fits each_agent each_hand each_name each_watched told j bit F L

  pub known : (at bit : ℕ) (x : Kept) → says crew (hands_of crew devices) dirs spots guarded at bit x → has_bit (get_or told at 0) bit → T x
  known at bit x it held = is_told crew (hands_of crew devices) dirs spots guarded each_agent each_hand each_name each_watched told at bit x it held

  pub has : (at bit : ℕ) (x : Kept) → says crew (hands_of crew devices) dirs spots guarded at bit x → T x → has_bit (get_or told at 0) bit
  has at bit x it is = told_is crew (hands_of crew devices) dirs spots guarded each_agent each_hand each_name each_watched told at bit x it is

  -- a bit of the directory above
  module _ (j bit : ℕ) (F : Seat → Kept) (L : Hand → Kept) (fam : IsFamily j bit F L) (d : ℕ) where
    pub record Above : Type 0 where
      pub dir : ℕ
      pub name : List ℕ
      pub at : look t dir name ≡ Some d
      pub lives : is_dir t d ≡ true
      pub has : T (F (Old dir))

    parent_means : (p : Option ℕ) → parent t d ≡ p → d ≢ 0 → has_bit (parent_word told many p j) bit → Above
    parent_means None e other held = absurd (no_bit bit held)
    parent_means (Some p) e other held =
        let lives = if_some (is_dir t d) (above t d) p e in
        let row = row_of t (sound_from t well) d lives.0 other in
        let here : row.0.0 ≡ p = sym row.2 ∙ lives.1 in
        record {
          dir = row.0.0;
          name = row.0.1;
          at = row.1;
          lives = lives.0;
          has = known (row.0.0 * many + j) bit (F (Old row.0.0))
              (fam.seat_said row.0.0 (Old row.0.0) (old_at (fits.above row.0.0 row.0.1 d row.1)))
              ((λ z. bit_at (get_or told (here z * many + j) 0) bit == 1) ∙ sym (masked (word_at told many p j) bit fam.small) ∙ held);
        }

    pub above_means : has_bit (above_word t told many d j) bit → Above
    above_means held =
        let both = unless_has (d == 0) (parent_word told many (parent t d) j) bit held in
        parent_means (parent t d) refl (λ same. false≢true (sym both.0 ∙ eq-eqb d 0 same)) both.1

    pub above_has : Above → has_bit (above_word t told many d j) bit
    above_has up =
        let dir : ℕ = up.dir in
        let other : d ≢ 0 = (row_says t (sound_from t well) (dir, up.name) d up.at).3 in
        let over : above t d ≡ dir = above_is t d (dir, up.name) other ((sound_from t well).once d up.lives other) up.at in
        let is : parent t d ≡ Some dir = ap (λ b. if b then Some (above t d) else None) up.lives ∙ ap Some over in
        let one = has (dir * many + j) bit (F (Old dir)) (fam.seat_said dir (Old dir) (old_at (fits.above dir up.name d up.at))) up.has in
        let not_root : (d == 0) ≡ false = differs (d == 0) (λ same. other (eqb-true d 0 same)) in
        ap (λ b. bit_at (if b then 0 else parent_word told many (parent t d) j) bit == 1) not_root
        ∙ ap (λ p. bit_at (parent_word told many p j) bit == 1) is ∙ masked (word_at told many dir j) bit fam.small ∙ one

    -- how a directory comes elsewhere
    pub data Come : Type 0 where
      come_plain : IsFalse (watched d) → (b : ProcessState) → Moves t table crew watched T b (Old d) → T (L (b, device t d)) → Come
      come_apart : IsTrue (watched d) → (b : ProcessState) (p : Seat) → Moves t table crew watched T b (Old d) → T (Enters b p) →
          T (Clear d p) → T (F p) → seat_device t p ≡ device t d → Come

  module _ (d j : ℕ) (a : ProcessState) (k : Cover) (of : slice_get crew j ≡ Some a) (small : cover_bit k < 18) where
    abbrev pub fam : IsFamily j (cover_bit k) (λ p. Covers a p k) (λ b. Lands b a k)
    fam = cover_family t table crew devices watched dirs spots guarded fits each_agent each_hand each_name each_watched told j a k of small

    abbrev pub Comes : Type 0
    Comes = Come j (cover_bit k) (λ p. Covers a p k) (λ b. Lands b a k) fam d

    module _ (moved : ℕ) (moved_means : has_bit moved (cover_bit k) → Comes) (moved_has : Comes → has_bit moved (cover_bit k)) where
      abbrev pub root : ℕ
      root = root_word a d

      abbrev pub up : ℕ
      up = above_word t told many d j

      abbrev pub roots_own : Cover
      roots_own = if has_veil a.veils then Nothing else All

      among : Contains crew a
      among = contained crew a (got_among crew j a of)

      root_means : perms_kept a (place.Dir d) ≡ None → has_bit root (cover_bit k) → New (Covers a (Old d) k)
      root_means none held =
          let both = if_has (d == 0) (cover_word roots_own) (cover_bit k) held in
          let here : d ≡ 0 = eqb-true d 0 both.0 in
          let is : k ≡ roots_own = alone_is roots_own k both.1 in
          subst (λ e. New (Covers a (Old e) k)) (sym here) (subst (λ c. New (Covers a (Old 0) c)) (sym is)
          (covers_root (subst (λ e. perms_kept a (place.Dir e) ≡ None) here none)))

      comes_new : perms_kept a (place.Dir d) ≡ None → Comes → New (Covers a (Old d) k)
      comes_new none (come_plain plain b m lands) = covers_moved b among none plain m lands
      comes_new none (come_apart is b p m enters clear cov near) = covers_apart b p none is m enters clear cov near

      others_mean : perms_kept a (place.Dir d) ≡ None → has_bit (bit_or (bit_or root up) moved) (cover_bit k) → New (Covers a (Old d) k)
      others_mean none held =
          elim (either_true (bit_at (bit_or root up) (cover_bit k) == 1) (bit_at moved (cover_bit k) == 1)
          (sym (has_or (bit_or root up) moved (cover_bit k)) ∙ held)) [
            | inl front ↦
                elim (either_true (bit_at root (cover_bit k) == 1) (bit_at up (cover_bit k) == 1) (sym (has_or root up (cover_bit k)) ∙ front)) [
                  | inl on ↦ root_means none on
                  | inr over ↦
                      (let p = above_means j (cover_bit k) (λ p. Covers a p k) (λ b. Lands b a k) fam d over in
                      covers_within p.name none p.at p.lives p.has)
                ]
            | inr comes ↦ comes_new none (moved_means comes)
          ]

      own_means : (stands : Bool) → is_dir t d ≡ stands → (own : Option ℕ) → perms_kept a (place.Dir d) ≡ own →
          has_bit (dir_word stands own (bit_or (bit_or root up) moved)) (cover_bit k) → New (Covers a (Old d) k)
      own_means true lives (Some perms) e held =
          subst (λ c. New (Covers a (Old d) c)) (sym (alone_is (Only perms) k held)) (covers_own lives e)
      own_means false gone (Some perms) e held = absurd (no_bit (cover_bit k) held)
      own_means stands is None e held = others_mean e held

      -- what is found follows
      pub old_means : has_bit (old_word t a told many d j moved) (cover_bit k) → New (Covers a (Old d) k)
      old_means held = own_means (is_dir t d) refl (perms_kept a (place.Dir d)) refl held

      others_has : perms_kept a (place.Dir d) ≡ None → has_bit (bit_or (bit_or root up) moved) (cover_bit k) →
          has_bit (old_word t a told many d j moved) (cover_bit k)
      others_has none held = ap (λ own. bit_at (dir_word (is_dir t d) own (bit_or (bit_or root up) moved)) (cover_bit k) == 1) none ∙ held

      front_has : has_bit (bit_or root up) (cover_bit k) → has_bit (bit_or (bit_or root up) moved) (cover_bit k)
      front_has held =
          has_or (bit_or root up) moved (cover_bit k) ∙ or_left (bit_at (bit_or root up) (cover_bit k) == 1) (bit_at moved (cover_bit k) == 1) held

      come_has : perms_kept a (place.Dir d) ≡ None → Comes → has_bit (old_word t a told many d j moved) (cover_bit k)
      come_has none comes =
          others_has none (has_or (bit_or root up) moved (cover_bit k)
          ∙ or_right (bit_at (bit_or root up) (cover_bit k) == 1) (bit_at moved (cover_bit k) == 1) (moved_has comes))

      by_rule : (c : Cover) → c ≡ k → (s : Seat) → s ≡ Old d → New (Covers a s c) → has_bit (old_word t a told many d j moved) (cover_bit k)
      by_rule c is_k s e (covers_own stands own) =
          let here = sym (ap (own_veil a) e) ∙ own in
          let lives : is_dir t d ≡ true = sym (ap (is_standing t) e) ∙ stands in
          ap (λ o. bit_at (dir_word (is_dir t d) o (bit_or (bit_or root up) moved)) (cover_bit k) == 1) here
          ∙ ap (λ b. bit_at (if b then cover_word c else 0) (cover_bit k) == 1) lives
          ∙ subst (λ x. has_bit (cover_word c) (cover_bit x)) is_k (alone_has c)
      by_rule c is_k s e (covers_root none) =
          let here : 0 ≡ d = ap seat_number e in
          others_has (subst (λ x. perms_kept a (place.Dir x) ≡ None) here none)
          (front_has (has_or root up (cover_bit k) ∙ or_left (bit_at root (cover_bit k) == 1) (bit_at up (cover_bit k) == 1)
          (if_both (d == 0) (cover_word roots_own) (cover_bit k) (eq-eqb d 0 (sym here))
          (subst (λ x. has_bit (cover_word roots_own) (cover_bit x)) is_k (alone_has roots_own)))))
      by_rule c is_k s e (covers_within {dir = dir} name none at lives cov) =
          let here = ap seat_number e in
          others_has (sym (ap (own_veil a) e) ∙ none)
          (front_has (has_or root up (cover_bit k) ∙ or_right (bit_at root (cover_bit k) == 1) (bit_at up (cover_bit k) == 1)
          (above_has j (cover_bit k) (λ p. Covers a p k) (λ b. Lands b a k) fam d (record {
            dir = dir;
            name = name;
            at = at ∙ ap Some here;
            lives = sym (ap (is_dir t) here) ∙ lives;
            has = subst (λ x. T (Covers a (Old dir) x)) is_k cov;
          }))))
      by_rule c is_k s e (covers_moved b _ none is_plain m lands) =
          come_has (sym (ap (own_veil a) e) ∙ none)
          (come_plain (subst (IsPlain t table crew watched T) e is_plain) b (subst (Moves t table crew watched T b) e m)
          (subst (λ q. T (Lands (b, seat_device t q) a k)) e (subst (λ x. T (Lands (b, seat_device t s) a x)) is_k lands)))
      by_rule c is_k s e (covers_apart {d = x} b p none is m enters clear cov near) =
          let here : x ≡ d = ap seat_number e in
          come_has (sym (ap (own_veil a) e) ∙ none)
          (come_apart (subst (λ y. IsTrue (watched y)) here is) b p (subst (Moves t table crew watched T b) e m) enters
          (subst (λ y. T (Clear y p)) here clear) (subst (λ x. T (Covers a p x)) is_k cov) (near ∙ ap (device t) here))
      by_rule c is_k s e (covers_born _ creates lands) = absurd (made_other _ d e)

      -- and what follows is found
      pub old_has : New (Covers a (Old d) k) → has_bit (old_word t a told many d j moved) (cover_bit k)
      old_has new = by_rule k refl (Old d) refl new
