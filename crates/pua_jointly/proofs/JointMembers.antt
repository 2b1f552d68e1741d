-- Lists as they are gathered: each thing by its place, what is there once, and the greatest of numbers.
use Rattle.pua_jointly.proofs.Common.{◌≡◌, ◌<◌, ◌≤◌, ◌⊎◌, ◌∷◌, ◌++◌, [], ℕ, zero, suc, Bool, true, false, List, length, refl, sym, ap, subst, ◌∙◌, inl, inr}
use Rattle.pua_jointly.proofs.Common.{arith, Option, Some, None, same_Some, None≢Some, Among, if◌then◌else◌, take, map, flat_map, veils, ProcessState, Place}
use Rattle.pua_jointly.proofs.Common.{among_left, among_right, among_contained, contained, and_from, and_parts, eq-eqb, eqb-true, false≢true, option_eq}
use Rattle.pua_jointly.proofs.Common.{◌&&◌, ◌==◌}
use Rattle.std.specs.Prelude.{slice_get, slice_index_or, ◌+◌, nat_lt}
use Rattle.std.specs.Bool.{beq, Decides}
use Rattle.std.specs.Borrow.{Bor}
use Rattle.std.specs.List.{Contains, fold}
use Rattle.std.proofs.Common.{add-one}
use Rattle.std.proofs.Math.Nat.{add-zero}
use Rattle.std.proofs.Math.Seq.{take-suc}
use Rattle.std.proofs.lemmas.Bool.{ltb-true, ltb-false}
use Rattle.std.proofs.lemmas.Grind.{flat_map-append}
use Rattle.std.proofs.lemmas.List.{map-append}
use Rattle.pua_objects.proofs.ForCallers.{among_either}
use Rattle.pua_jointly.specs.JointMembers.{Each, SameMembers, has_same_state, states, veil_now}
use Rattle.pua_jointly.specs.JointPlace.{Once}
use Rattle.pua_jointly.specs.JointSetting.{greater}
use Rattle.pua_jointly.proofs.JointPlaced.{got_among}
use Rattle.pua_jointly.proofs.Once.{Behind, side}

-- the greater of two
pub greater_left : (a b : ℕ) → a ≤ greater a b
greater_left a b = by (nat_lt a b) refl
  where
    by : (c : Bool) → nat_lt a b ≡ c → a ≤ (if c then b else a)
    by true e = let less = ltb-true a b e in omega (arith, less)
    by false e = omega arith

pub greater_right : (a b : ℕ) → b ≤ greater a b
greater_right a b = by (nat_lt a b) refl
  where
    by : (c : Bool) → nat_lt a b ≡ c → b ≤ (if c then b else a)
    by true e = omega arith
    by false e = let more = ltb-false a b e in omega (arith, more)

-- one more thing of a list
pub each_more : {X : Type 0} (P : ℕ → X → Type 0) (xs : List X) (x : X) → Each P xs → P (length xs) x → Each P (xs ++ x ∷ [])
each_more P xs x all last i y e = elim (side xs (x ∷ []) i y e) [
  | inl a ↦ all i y a
  | inr b ↦ (let here = b.place in by b.at b.is (omega (arith, here)))
]
  where
    by : (at : ℕ) → slice_get (x ∷ []) at ≡ Some y → i ≡ length xs + at → P i y
    by zero is here = subst (λ n. P n y) (sym (here ∙ add-zero (length xs))) (subst (P (length xs)) (same_Some x y is) last)
    by (suc at) is here = absurd (None≢Some y is)

-- one thing more that is unlike all others
pub once_more : {X : Type 0} (xs : List X) (x : X) → Once xs → (Among xs x → ⊥) → Once (xs ++ x ∷ [])
once_more {X = X} xs x once other i j y at_i at_j = by (side xs (x ∷ []) i y at_i) (side xs (x ∷ []) j y at_j)
  where
    last : (at : ℕ) → slice_get (x ∷ []) at ≡ Some y → (at ≡ 0) × (x ≡ y)
    last zero is = (refl, same_Some x y is)
    last (suc at) is = absurd (None≢Some y is)

    by : (slice_get xs i ≡ Some y) ⊎ Behind (length xs) (x ∷ []) i y → (slice_get xs j ≡ Some y) ⊎ Behind (length xs) (x ∷ []) j y → i ≡ j
    by (inl a) (inl b) = once i j y a b
    by (inl a) (inr b) = absurd (other (subst (Among xs) (sym (last b.at b.is).1) (got_among xs i y a)))
    by (inr a) (inl b) = absurd (other (subst (Among xs) (sym (last a.at a.is).1) (got_among xs j y b)))
    by (inr a) (inr b) =
        let here = a.place in
        let there = b.place in
        let first = (last a.at a.is).0 in
        let second = (last b.at b.is).0 in
        omega (arith, here, there, first, second)

pub no_more : {X : Type 0} (xs : List X) → xs ++ [] ≡ xs
no_more [] = refl
no_more (x ∷ xs) = ap (λ ys. x ∷ ys) (no_more xs)

-- the greatest of numbers
module _ {X : Type 0} (f : X → ℕ) where
  abbrev pub greatest : ℕ → List X → ℕ
  greatest start xs = fold (λ last x. greater last (f x)) start xs

  pub at_least : (xs : List X) (start : ℕ) → start ≤ greatest start xs
  at_least [] start = omega arith
  at_least (x ∷ xs) start =
      let one = greater_left start (f x) in
      let rest = at_least xs (greater start (f x)) in
      omega (arith, one, rest)

  pub each_below : (xs : List X) (start : ℕ) (x : X) → Among xs x → f x ≤ greatest start xs
  each_below [] start x a = absurd a
  each_below (y ∷ xs) start x (inl e) =
      let one = greater_right start (f y) in
      let rest = at_least xs (greater start (f y)) in
      let here = ap f e in
      omega (arith, one, rest, here)
  each_below (y ∷ xs) start x (inr a) = each_below xs (greater start (f y)) x a

-- one thing more of a list that is gone through
pub taken_more : {X : Type 0} (xs : List X) (i : ℕ) (x : X) → i < length xs → x ≡ slice_index_or xs i x → take (i + 1) xs ≡ take i xs ++ x ∷ []
taken_more xs i x within is =
    ap (λ n. take n xs) (add-one i) ∙ take-suc xs i x within ∙ ap (λ y. take i xs ++ y ∷ []) (sym is)

pub states_more : (ps : List (Bor ProcessState)) (i : ℕ) (p : Bor ProcessState) → i < length ps → p ≡ slice_index_or ps i p →
    states (take (i + 1) ps) ≡ states (take i ps) ++ p.now ∷ []
states_more ps i p within is =
    ap states (taken_more ps i p within is) ∙ map-append (λ (q : Bor ProcessState). q.now) (take i ps) (p ∷ [])

-- the same members
pub in_more : (xs : List ProcessState) (a b : ProcessState) → Contains (xs ++ a ∷ []) b → Contains xs b ⊎ (a ≡ b)
in_more xs a b c = elim (among_either xs (a ∷ []) b (among_contained (xs ++ a ∷ []) b c)) [
  | inl one ↦ inl (contained xs b one)
  | inr two ↦ inr (last two)
]
  where
    last : Among (a ∷ []) b → a ≡ b
    last (inl e) = e
    last (inr none) = absurd none

pub still_in : (xs ys : List ProcessState) (b : ProcessState) → Contains xs b → Contains (xs ++ ys) b
still_in xs ys b c = contained (xs ++ ys) b (among_left xs ys b (among_contained xs b c))

pub last_in : (xs : List ProcessState) (a b : ProcessState) → a ≡ b → Contains (xs ++ a ∷ []) b
last_in xs a b e = contained (xs ++ a ∷ []) b (among_right xs (a ∷ []) b (inl e))

pub same_more : (xs ys : List ProcessState) (a : ProcessState) → SameMembers xs ys → SameMembers (xs ++ a ∷ []) (ys ++ a ∷ [])
same_more xs ys a same = record {
  there = λ b c. elim (in_more xs a b c) [ inl one ↦ still_in ys (a ∷ []) b (same.there b one) | inr two ↦ last_in ys a b two ];
  back = λ b c. elim (in_more ys a b c) [ inl one ↦ still_in xs (a ∷ []) b (same.back b one) | inr two ↦ last_in xs a b two ];
}

pub same_there : (xs ys : List ProcessState) (a : ProcessState) → SameMembers xs ys → Contains ys a → SameMembers (xs ++ a ∷ []) ys
same_there xs ys a same in_ys = record {
  there = λ b c. elim (in_more xs a b c) [ inl one ↦ same.there b one | inr two ↦ subst (Contains ys) two in_ys ];
  back = λ b c. still_in xs (a ∷ []) b (same.back b c);
}

pub same_none : SameMembers [] []
same_none = record { there = λ a c. c; back = λ a c. c }

-- whether two processes are equal
both_same : (p q r : Bool) → (p && (q && r)) ≡ true → (p ≡ true) × (q ≡ true) × (r ≡ true)
both_same true true true e = (refl, refl, refl)
both_same true true false e = absurd (false≢true e)
both_same true false r e = absurd (false≢true e)
both_same false q r e = absurd (false≢true e)

same_option : (x y : Option ℕ) → option_eq (λ a b. a == b) x y ≡ true → x ≡ y
same_option None None e = refl
same_option None (Some y) e = absurd (false≢true e)
same_option (Some x) None e = absurd (false≢true e)
same_option (Some x) (Some y) e = ap Some (eqb-true x y e)

option_same : (x : Option ℕ) → option_eq (λ a b. a == b) x x ≡ true
option_same None = refl
option_same (Some x) = eq-eqb x x refl

same_bool : (x y : Bool) → beq x y ≡ true → x ≡ y
same_bool true true e = refl
same_bool true false e = absurd (false≢true e)
same_bool false true e = absurd (false≢true e)
same_bool false false e = refl

bool_same : (x : Bool) → beq x x ≡ true
bool_same true = refl
bool_same false = refl

pub state_same : (a b : ProcessState) → has_same_state a b ≡ true → a.files ≡ b.files → a.veils ≡ b.veils → a ≡ b
state_same a b e files_too veils_too =
    let one = both_same _ _ _ e in
    let two = and_parts (beq a.locked b.locked) _ one.2 in
    let root_too = and_parts (a.start.root == b.start.root) _ two.1 in
    let three = and_parts (a.start.dir == b.start.dir) _ root_too.1 in
    let promises = same_option a.promises b.promises one.0 in
    let given = same_option a.execpromises b.execpromises one.1 in
    let locked = same_bool a.locked b.locked two.0 in
    let root = eqb-true a.start.root b.start.root root_too.0 in
    let dir = eqb-true a.start.dir b.start.dir three.0 in
    let ended = same_bool a.ended b.ended three.1 in
    λ z. record {
      promises = promises z;
      execpromises = given z;
      veils = veils_too z;
      locked = locked z;
      start = record { root = root z; dir = dir z };
      ended = ended z;
      files = files_too z;
    }

pub same_state : (a b : ProcessState) → a ≡ b → has_same_state a b ≡ true
same_state a b e =
    subst (λ x. has_same_state a x ≡ true) e
    (and_from (option_eq (λ x y. x == y) a.promises a.promises) _ (option_same a.promises)
    (and_from (option_eq (λ x y. x == y) a.execpromises a.execpromises) _ (option_same a.execpromises)
    (and_from (beq a.locked a.locked) _ (bool_same a.locked)
    (and_from (a.start.root == a.start.root) _ (eq-eqb a.start.root a.start.root refl)
    (and_from (a.start.dir == a.start.dir) _ (eq-eqb a.start.dir a.start.dir refl) (bool_same a.ended))))))

pub equal_by : (a b : ProcessState) (r : Bool) → has_same_state a b ≡ true → a.files ≡ b.files → Decides r (a.veils ≡ b.veils) → Decides r (a ≡ b)
equal_by a b r same files d = (λ e. state_same a b same files (d.0 e), λ e. d.1 (ap (λ (p : ProcessState). p.veils) e))

pub other_files : (a b : ProcessState) → Decides false (a.files ≡ b.files) → Decides false (a ≡ b)
other_files a b d = (λ e. absurd (false≢true e), λ e. d.1 (ap (λ (p : ProcessState). p.files) e))

pub unequal_by : (a b : ProcessState) → has_same_state a b ≡ false → Decides false (a ≡ b)
unequal_by a b other = (λ e. absurd (false≢true e), λ e. absurd (false≢true (sym other ∙ same_state a b e)))

-- all veils
pub veils_more : (before own : List (Bor Place × Bor ℕ)) (crew : List ProcessState) (a : ProcessState) → map veil_now before ≡ flat_map veils crew →
    map veil_now own ≡ a.veils → map veil_now (before ++ own) ≡ flat_map veils (crew ++ a ∷ [])
veils_more before own crew a so_far here =
    map-append veil_now before own ∙ (λ z. so_far z ++ here z)
    ∙ ap (λ xs. flat_map veils crew ++ xs) (sym (no_more a.veils))
    ∙ sym (flat_map-append veils crew (a ∷ []))
