-- The covers of a name that the code finds are those that can come over it.
use Rattle.pua_jointly.proofs.Common.{◌≡◌, ◌<◌, ◌∙◌, ◌==◌, ℕ, Bool, true, false, false≢true, eq-eqb, list_any, List, length, refl, sym, ap, subst, veils, Place}
use Rattle.pua_jointly.proofs.Common.{Option, Some, None, ProcessState, Spot, Cover, Only, Tree, CallTable, is_dir, perms_kept}
use Rattle.std.specs.Prelude.{slice_get, ◌+◌, ◌*◌, IsTrue}
use Rattle.std.specs.List.{Contains}
use Rattle.std.specs.Int.{bit_at}
use Rattle.std.specs.Int.Bits.{bit_and}
use Rattle.pua_policy.specs.declared.place.Place.TheVariants as place
use Rattle.pua_jointly.specs.Closing.{has_bit}
use Rattle.pua_jointly.specs.Jointly.{Old}
use Rattle.pua_jointly.specs.JointFacts.{Kept, Covers, IsOver, over_own, over_within}
use Rattle.pua_jointly.specs.JointTable.{IsTold, entities, columns, hands_of, table_says, TableFits}
use Rattle.pua_jointly.specs.JointPlace.{Once, cover_bit}
use Rattle.pua_jointly.specs.JointSetting.{is_on}
use Rattle.pua_jointly.specs.JointWords.{word_at, covers_in, has_named, is_name, meets, AreCovers}
use Rattle.pua_jointly.specs.JointOld.{asked_word, over_word, own_or_word}
use Rattle.pua_ever.proofs.ForCallers.{any_among}
use Rattle.pua_jointly.proofs.JointOlds.{alone_is, alone_has}
use Rattle.pua_jointly.proofs.JointWatched.{kept_among}
use Rattle.pua_jointly.proofs.JointPlaced.{over_small}
use Rattle.pua_jointly.proofs.JointRead.{old_at, covers_said, is_told, told_is}
use Rattle.pua_jointly.proofs.JointWords.{masked, small_of, cover_of, meets_some, meets_by}

-- who has no veil at a place of some kind keeps none at this one
none_kept : (h : ProcessState) (test : Place → Bool) → list_any (λ (veil : Place × ℕ). test veil.0) (veils h) ≡ false → (at : Place) →
    test at ≡ true → perms_kept h at ≡ None
none_kept h test none at is = by (perms_kept h at) refl
  where
    by : (o : Option ℕ) → perms_kept h at ≡ o → perms_kept h at ≡ None
    by None e = e
    by (Some perms) e =
        absurd (false≢true (sym none ∙ any_among (λ (veil : Place × ℕ). test veil.0) (veils h) (at, perms) (kept_among (veils h) at perms e) is))

no_name : (h : ProcessState) → has_named h ≡ false → (dir : ℕ) (name : List ℕ) → perms_kept h (place.Slot dir name) ≡ None
no_name h none dir name = none_kept h is_name none (place.Slot dir name) refl

pub no_veil : (h : ProcessState) (dir : ℕ) → list_any (λ (veil : Place × ℕ). is_on dir veil.0) (veils h) ≡ false →
    perms_kept h (place.Dir dir) ≡ None
no_veil h dir none = none_kept h (is_on dir) none (place.Dir dir) (eq-eqb dir dir refl)

pub no_name_kept : (h : ProcessState) (named : Bool) → named ≡ has_named h → named ≡ false → (dir : ℕ) (name : List ℕ) →
    perms_kept h (place.Slot dir name) ≡ None
no_name_kept h named is none = no_name h (sym is ∙ none)

-- so it need not be asked
pub asked_same : (h : ProcessState) (named : Bool) → named ≡ has_named h → (told : List ℕ) (columns dir : ℕ) (name : List ℕ) (of : ℕ) →
    asked_word named h told columns dir name of ≡ over_word h told columns dir name of
asked_same h true is told columns dir name of = refl
asked_same h false is told columns dir name of =
    ap (λ o. own_or_word o (covers_in (word_at told columns dir of))) (sym (no_name h (sym is) dir name))

module _ (t : Tree) (table : CallTable) (crew : List ProcessState) (devices : List ℕ) (watched : ℕ → Bool) (dirs : ℕ) (spots : List Spot)
    (guarded : List ℕ) (fits : TableFits t crew devices watched dirs spots guarded) (each_agent : Once crew) (each_hand : Once (hands_of crew devices)) (each_name : Once spots)
    (each_watched : Once guarded) (told : List ℕ) where
  abbrev pub T : Kept → Type 0
  T x = IsTold (table_says (entities (hands_of crew devices) dirs spots) (columns crew guarded)) told x

  abbrev pub many : ℕ
  many = length (columns crew guarded)

  module _ (dir : ℕ) (name : List ℕ) (low : dir < dirs) (stands : IsTrue (is_dir t dir)) (j : ℕ) (a : ProcessState)
      (among : Contains crew a) (of : slice_get crew j ≡ Some a) where
    abbrev pub within : ℕ
    within = bit_and (word_at told many dir j) 262143

    abbrev pub Over : Cover → Type 0
    Over k = IsOver t table crew watched T a (Old dir) name k

    own_means : (k : Cover) → cover_bit k < 18 → (own : Option ℕ) → perms_kept a (place.Slot dir name) ≡ own →
        has_bit (own_or_word own within) (cover_bit k) → Over k
    own_means k small (Some perms) e known = subst Over (sym (alone_is (Only perms) k known)) (over_own stands e)
    own_means k small None e known =
        over_within e (is_told crew (hands_of crew devices) dirs spots guarded each_agent each_hand each_name each_watched told (dir * many + j) (cover_bit k) (Covers a (Old dir) k)
        (covers_said crew (hands_of crew devices) dirs spots guarded dir j (Old dir) a k (old_at low) of small)
        (sym (masked (word_at told many dir j) (cover_bit k) small) ∙ known))

    pub over_has : (k : Cover) → cover_bit k < 18 → Over k → has_bit (over_word a told many dir name j) (cover_bit k)
    over_has k small (over_own lives own) = ap (λ o. bit_at (own_or_word o within) (cover_bit k) == 1) own ∙ alone_has k
    over_has k small (over_within none cov) =
        ap (λ o. bit_at (own_or_word o within) (cover_bit k) == 1) none
        ∙ (masked (word_at told many dir j) (cover_bit k) small
        ∙ told_is crew (hands_of crew devices) dirs spots guarded each_agent each_hand each_name each_watched told (dir * many + j) (cover_bit k) (Covers a (Old dir) k)
        (covers_said crew (hands_of crew devices) dirs spots guarded dir j (Old dir) a k (old_at low) of small) cov)

    pub over_means : (k : Cover) → cover_bit k < 18 → has_bit (over_word a told many dir name j) (cover_bit k) → Over k
    over_means k small held = own_means k small (perms_kept a (place.Slot dir name)) refl held

    -- some cover of which a test holds can come over the name
    module _ (mask : ℕ) (test : Cover → Bool) (covers : AreCovers mask test) where
      pub some_over_means : meets (over_word a told many dir name j) mask ≡ true → (k : Cover) × Over k × IsTrue (test k)
      some_over_means e =
          let found = meets_some (over_word a told many dir name j) mask covers.small e in
          let k = cover_of found.0 (covers.only found.0 found.2) in
          let small : cover_bit k.0 < 18 = subst (λ bit. bit < 18) (sym k.1) (covers.only found.0 found.2) in (
            k.0,
            own_means k.0 small (perms_kept a (place.Slot dir name)) refl
                (ap (λ bit. bit_at (over_word a told many dir name j) bit == 1) k.1 ∙ found.1),
            sym (covers.all k.0 small) ∙ (ap (λ bit. bit_at mask bit == 1) k.1 ∙ found.2),
          )

      pub some_over_has : (k : Cover) → Over k → IsTrue (test k) → meets (over_word a told many dir name j) mask ≡ true
      some_over_has k is passes =
          let small = small_of k (over_small t table crew devices watched dirs spots guarded fits told a (Old dir) name k among is) in
          meets_by (over_word a told many dir name j) mask (cover_bit k) (over_has k small is) (covers.all k small ∙ passes)
