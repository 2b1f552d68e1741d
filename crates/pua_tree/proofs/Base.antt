-- Lemmas of no one subject: tests, options, results, byte strings and lists.
use Rattle.pua_tree.proofs.Common.{◌≡◌, ◌≢◌, ◌<◌, Bool, true, false, cond, T, ℕ, List, [], ◌∷◌, ◌++◌, map, reverse, Option, Some, None}
use Rattle.pua_tree.proofs.Common.{Result, Ok, Err, option_map, unwrap_or, is_some, eqb, refl, sym, ap, subst, ◌∙◌, true≢false, IsTrue}
use Rattle.pua_tree.proofs.Common.{Equal-is, nat_cmp_total, tied_itself, Greater, eq_by_cmp, nat_cmp-IsAntisymmetric, same_from_decides}
use Rattle.pua_tree.proofs.Common.{map-append, reverse-append, bytes_decides, only_if, same_bytes}
use Rattle.std.proofs.Common.{find}
use Rattle.std.proofs.Common.{ok_or, is_ok, nat_cmp}
use Rattle.std.proofs.Common.{is_eq}
use Rattle.std.specs.Result.{result_ok, IsOk}
use Rattle.std.specs.Cmp.{nat_cmp_is}
use Rattle.std.proofs.lemmas.Bool.{eq-eqb, eqb-true}
use Rattle.pua_tree.specs.Steps.{◌>>=◌}

-- a fact as a test's answer; std's `passes` turns it round
pub holds : (b : Bool) → T b → b ≡ true
holds true h = refl
holds false h = absurd h

pub same_Some : {A : Type 0} (x y : A) → Some x ≡ Some y → x ≡ y
same_Some x y e = ap (λ o. unwrap_or o x) e

pub None≢Some : {A : Type 0} (x : A) → None ≢ Some x
None≢Some x e = true≢false (ap is_some (sym e))

pub Some≢None : {A : Type 0} (x : A) → Some x ≢ None
Some≢None x e = true≢false (ap is_some e)

pub none : {A : Type 0} (o : Option A) → is_some o ≡ false → o ≡ None
none None e = refl
none (Some x) e = absurd (true≢false e)

-- a value that stands where a test passed
pub guarded : {A : Type 0} (t : Bool) (w v : A) → cond t (Some w) None ≡ Some v → IsTrue t × (w ≡ v)
guarded true w v e = (refl, same_Some w v e)
guarded false w v e = absurd (None≢Some v e)

pub mapped : {A B : Type 0} (f : A → B) (o : Option A) (y : B) → option_map f o ≡ Some y → (x : A) × (o ≡ Some x) × (f x ≡ y)
mapped f None y e = absurd (None≢Some y e)
mapped f (Some x) y e = (x, refl, same_Some (f x) y e)

pub Err≢Ok : {A E : Type 0} (f : E) (x : A) → ◌≡◌ {A = Result A E} (Err f) (Ok x) → ⊥
Err≢Ok f x e = true≢false (ap is_ok (sym e))

pub ok_value : {A E : Type 0} (r : Result A E) → IsOk r → (x : A) × (r ≡ Ok x)
ok_value (Ok x) h = (x, refl)
ok_value (Err f) h = absurd (true≢false (sym h))

pub same_Ok : {A E : Type 0} (x y : A) → ◌≡◌ {A = Result A E} (Ok x) (Ok y) → x ≡ y
same_Ok {A} {E} x y e = ap (ok_part x) e
  where
    ok_part : A → Result A E → A
    ok_part d (Ok z) = z
    ok_part d (Err f) = d

-- a test that gives a fault failed, and the later answer is left
pub past : {A E : Type 0} (t : Bool) (f : E) (r : Result A E) (x : A) → cond t (Err f) r ≡ Ok x → (t ≡ false) × (r ≡ Ok x)
past true f r x e = absurd (Err≢Ok f x e)
past false f r x e = (refl, e)

pub passed : {A E : Type 0} (t : Bool) (f : E) (r : Result A E) (x : A) → cond t (Err f) r ≡ Ok x → r ≡ Ok x
passed t f r x e = (past t f r x e).1

pub tested : {A E : Type 0} (t : Bool) (f : E) (y x : A) → cond t (Ok y) (Err f) ≡ Ok x → IsTrue t × (y ≡ x)
tested true f y x e = (refl, same_Ok y x e)
tested false f y x e = absurd (Err≢Ok f x e)

pub ok_or_read : {A E : Type 0} (o : Option A) (x : E) (a : A) → ok_or o x ≡ Ok a → o ≡ Some a
ok_or_read (Some y) x a e = ap Some (same_Ok y a e)
ok_or_read None x a e = absurd (Err≢Ok x a e)

pub result_ok_read : {A E : Type 0} (r : Result A E) (a : A) → result_ok r ≡ Some a → r ≡ Ok a
result_ok_read (Ok y) a e = ap Ok (same_Some y a e)
result_ok_read (Err x) a e = absurd (None≢Some a e)

-- what a step was given, where all went well
pub step_read : {A B E : Type 0} (m : Result A E) (f : A → Result B E) (b : B) → (m >>= f) ≡ Ok b → (a : A) × (m ≡ Ok a) × (f a ≡ Ok b)
step_read (Ok a) f b e = (a, refl, e)
step_read (Err x) f b e = absurd (Err≢Ok x b e)

pub step_from : {A B E : Type 0} (m : Result A E) (f : A → Result B E) (a : A) (b : B) → m ≡ Ok a → f a ≡ Ok b → (m >>= f) ≡ Ok b
step_from m f a b e g = ap (λ r. r >>= f) e ∙ g

pub only_if_read : {A : Type 0} (test : A → Bool) (o : Option A) (a : A) → only_if test o ≡ Some a → (o ≡ Some a) × IsTrue (test a)
only_if_read test None a e = absurd (None≢Some a e)
only_if_read test (Some y) a e =
    let read = guarded (test y) y a e in
    (ap Some read.1, subst (λ z. IsTrue (test z)) read.1 read.0)

pub only_if_same : {A : Type 0} (p q : A → Bool) (o : Option A) → ((x : A) → p x ≡ q x) → only_if p o ≡ only_if q o
only_if_same p q None same = refl
only_if_same p q (Some x) same = ap (λ b. cond b (Some x) None) (same x)

-- the test of bytes decides whether they are the same
pub same_word : (word other : List ℕ) → IsTrue (same_bytes word other) → word ≡ other
same_word word other h = (bytes_decides word other).0 h

pub other_word : (word other : List ℕ) → word ≢ other → same_bytes word other ≡ false
other_word word other ne = elim (same_bytes word other) as (λ b. same_bytes word other ≡ b → b ≡ false) [
  | true ↦ λ t. absurd (ne (same_word word other t))
  | false ↦ λ f. refl
] refl

-- numbers tie where they are the same
pub nat_tie : (p n : ℕ) → eq_by_cmp nat_cmp p n ≡ eqb n p
nat_tie p n = same_from_decides {P = p ≡ n} _ _ (
  λ e. nat_cmp-IsAntisymmetric p n ((Equal-is _).0 e),
  λ e. subst (λ s. eq_by_cmp nat_cmp p s ≡ true) e (ap is_eq (tied_itself nat_cmp_total p)),
)
    (λ e. sym (eqb-true n p e), λ e. eq-eqb n p (sym e))

-- a number after a lower one
pub greater : (x y : ℕ) → y < x → nat_cmp x y ≡ Greater
greater x y lower = sym (nat_cmp_is x y Greater lower)

-- what is found passes
pub first_passes : {A : Type 0} (test : A → Bool) (xs : List A) (x : A) → find test xs ≡ Some x → test x ≡ true
first_passes test [] x e = absurd (None≢Some x e)
first_passes test (y ∷ ys) x e = by (test y) refl e (first_passes test ys x)
  where
    by : (b : Bool) → test y ≡ b → cond b (Some y) (find test ys) ≡ Some x → (find test ys ≡ Some x → test x ≡ true) → test x ≡ true
    by true t is later = subst (λ v. test v ≡ true) (same_Some y x is) t
    by false t is later = later is

-- finding after a map is a map after finding
pub find-map : {X Y : Type 0} (f : X → Y) (p : Y → Bool) (xs : List X) → find p (map f xs) ≡ option_map f (find (λ x. p (f x)) xs)
find-map f p [] = refl
find-map f p (x ∷ xs) =
    elim (p (f x)) as (λ b. cond b (Some (f x)) (find p (map f xs)) ≡ option_map f (cond b (Some x) (find (λ x. p (f x)) xs))) [
      | true ↦ refl
      | false ↦ find-map f p xs
    ]

-- a list turned round after a map
pub map-reverse : {A B : Type 0} (f : A → B) (xs : List A) → map f (reverse xs) ≡ reverse (map f xs)
map-reverse f [] = refl
map-reverse f (x ∷ xs) =
    ap (map f) (reverse-append (x ∷ []) xs) ∙ map-append f (reverse xs) (x ∷ []) ∙ ap (λ ys. ys ++ f x ∷ []) (map-reverse f xs) ∙
    sym (reverse-append (f x ∷ []) (map f xs))
