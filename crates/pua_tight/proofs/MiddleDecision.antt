-- Three decisions: where the outer two are granted, or refused alike, the middle one is what the last one is.
use Rattle.std.proofs.Common.{◌≡◌, refl, sym, ap, ◌∙◌, Bool, true, false, subst, inl, inr, ◌⊎◌}
use Rattle.std.proofs.lemmas.Bool.{true≢false, false≢true}
use Rattle.std.specs.Prelude.{Option, Some, None, Result, Ok, Err}
use Rattle.pua_path.specs.declared.errno.Errno.{Errno}
use Rattle.pua_path.specs.declared.errno.Errno.TheVariants.{EACCES}
use Rattle.pua_path.specs.declared.found.Found.{Found}
use Rattle.pua_policy.specs.Verdict.{or_fault}
use Rattle.pua_policy.specs.declared.answer.Refusal.{Refusal}
use Rattle.pua_policy.specs.declared.answer.Refusal.TheVariants.{Failed}
use Rattle.pua_script.specs.Decide.{Decision, refusals, unless_failed, on_named}

-- what it is refused with, if it is
abbrev pub refused : Decision → Option Refusal
refused (Ok c) = None
refused (Err r) = Some r

abbrev pub Agree : Decision → Decision → Decision → Type 0
Agree f m l = refused f ≡ refused l → m ≡ l

-- by equal decisions
pub agree_by : {f g m n l k : Decision} → f ≡ g → m ≡ n → l ≡ k → Agree g n k → Agree f m l
agree_by p q r rest e = q ∙ rest (ap refused (sym p) ∙ e ∙ ap refused r) ∙ sym r

abbrev pub Refused : Refusal → Decision
Refused r = Err r

pub some_is : {A : Type 0} (r s : A) → Some r ≡ Some s → r ≡ s
some_is {A = A} r s e = ap (λ o. or o) e
  where
    or : Option A → A
    or None = r
    or (Some x) = x

pub none_some : {A B : Type 0} (x : A) → Some x ≡ None → B
none_some {A = A} x e = absurd (true≢false (ap is e))
  where
    is : Option A → Bool
    is None = false
    is (Some y) = true

pub refused_is : (d : Decision) (r : Refusal) → refused d ≡ Some r → d ≡ Refused r
refused_is (Ok c) r e = none_some r (sym e)
refused_is (Err s) r e = ap Refused (some_is s r e)

-- a check that the middle one fails only where the last or the first one fails it alike
abbrev pub Misses : {E : Type 0} → Option E → Option E → Option E → Type 0
Misses {E} a b c = (v : E) → b ≡ Some v → (c ≡ Some v) ⊎ (a ≡ Some v)

-- by one test
pub back_by : (F : Bool → Option Errno) → F true ≡ None → (x y : Bool) → (x ≡ true → y ≡ true) → (s : Errno) → F y ≡ Some s → F x ≡ Some s
back_by F fine x true less s e = none_some s (sym e ∙ fine)
back_by F fine false false less s e = e
back_by F fine true false less s e = absurd (false≢true (less refl))

pub misses_by : (F : Bool → Option Errno) → F true ≡ None → (x y z : Bool) → (z ≡ true → x ≡ true → y ≡ true) → Misses (F x) (F y) (F z)
misses_by F fine x y false less v e = inl (back_by F fine false y (λ e. absurd (false≢true e)) v e)
misses_by F fine x y true less v e = inr (back_by F fine x y (less refl) v e)

abbrev pub check : Option Errno → Decision → Decision
check o d = unless_failed refusals.failed o d

missed : (F G : Option Errno → Decision) → ((v : Errno) → F (Some v) ≡ Refused (Failed v)) → ((v : Errno) → G (Some v) ≡ Refused (Failed v)) →
    (a b c : Option Errno) → Misses a b c → (b ≡ None → c ≡ None) → Agree (F a) (G b) (G c)
missed F G f g a None c misses passes e = ap G (sym (passes refl))
missed F G f g a (Some v) c misses passes e = by (misses v refl)
  where
    by : (c ≡ Some v) ⊎ (a ≡ Some v) → G (Some v) ≡ G c
    by (inl is) = ap G (sym is)
    by (inr is) = g v ∙ sym (refused_is (G c) (Failed v) (sym e ∙ ap (λ x. refused (F x)) is ∙ ap refused (f v)))

-- the last check
pub last_check : (a b c : Option Errno) → Misses a b c → (b ≡ None → c ≡ None) → (k n : Decision) → Agree (check a k) (check b n) (check c n)
last_check a b c misses passes k n = missed (λ x. check x k) (λ x. check x n) (λ v. refl) (λ v. refl) a b c misses passes

-- one cover, and what is the same behind it
pub misses_or : (a b c m : Option Errno) → Misses a b c → (b ≡ None → c ≡ None) → (n : Decision) →
    Agree (check (or_fault a m) n) (check (or_fault b m) n) (check (or_fault c m) n)
misses_or a b c m misses passes n =
    missed (λ x. check (or_fault x m) n) (λ x. check (or_fault x m) n) (λ v. refl) (λ v. refl) a b c misses passes

-- the same check in all three
pub same_check : (a b c : Option Errno) → a ≡ b → b ≡ c → (f m l : Decision) → Agree f m l → Agree (check a f) (check b m) (check c l)
same_check a b c p q f m l rest = subst (λ x. Agree (check a f) (check x m) (check c l)) p
    (subst (λ x. Agree (check a f) (check a m) (check x l)) (p ∙ q) (by a))
  where
    by : (o : Option Errno) → Agree (check o f) (check o m) (check o l)
    by None = rest
    by (Some v) = λ e. refl

pub named_check : (p q s : Result Found Errno) → p ≡ q → q ≡ s → (f m l : Found → Decision) → ((x : Found) → Agree (f x) (m x) (l x)) →
    Agree (on_named refusals.failed p f) (on_named refusals.failed q m) (on_named refusals.failed s l)
named_check p q s first second f m l rest =
    subst (λ x. Agree (on_named refusals.failed p f) (on_named refusals.failed x m) (on_named refusals.failed s l)) first
    (subst (λ x. Agree (on_named refusals.failed p f) (on_named refusals.failed p m) (on_named refusals.failed x l)) (first ∙ second) (by p))
  where
    by : (o : Result Found Errno) → Agree (on_named refusals.failed o f) (on_named refusals.failed o m) (on_named refusals.failed o l)
    by (Ok x) = rest x
    by (Err v) = λ e. refl

-- two covers
module _ (a1 b1 c1 a2 b2 c2 : Option Errno) (misses1 : Misses a1 b1 c1) (passes1 : b1 ≡ None → c1 ≡ None) (misses2 : Misses a2 b2 c2)
    (passes2 : b2 ≡ None → c2 ≡ None) (outer : (u : Errno) → a1 ≡ Some u → c1 ≡ None → u ≡ EACCES)
    (inner : (v : Errno) → b2 ≡ Some v → c2 ≡ None → v ≡ EACCES) (back : (z : Errno) → c2 ≡ Some z → b2 ≡ Some z) (n : Decision) where
  abbrev two : Option Errno → Option Errno → Decision
  two x y = check (or_fault x y) n

  at_first : (x y o : Option Errno) → x ≡ o → two x y ≡ two o y
  at_first x y o is = ap (λ z. two z y) is

  at_second : (y o : Option Errno) → y ≡ o → two None y ≡ two None o
  at_second y o is = ap (λ z. two None z) is

  pub two_covers : Agree (two a1 a2) (two b1 b2) (two c1 c2)
  two_covers e = by b1 refl
    where
      -- as the first one is refused the last one is
      last : (v : Errno) → two a1 a2 ≡ Refused (Failed v) → Refused (Failed v) ≡ two c1 c2
      last v is = sym (refused_is (two c1 c2) (Failed v) (sym e ∙ ap refused is))

      -- the middle one and the first one fail the second check, and the last one passes the first
      failed : (v : Errno) → b2 ≡ Some v → a2 ≡ Some v → c1 ≡ None → (o p : Option Errno) → a1 ≡ o → c2 ≡ p → Refused (Failed v) ≡ two c1 c2
      failed v at it passed o (Some z) is j =
          ap (λ z. Refused (Failed z)) (some_is v z (sym at ∙ back z j)) ∙ sym (at_first c1 c2 None passed ∙ at_second c2 (Some z) j)
      failed v at it passed None None is j = last v (at_first a1 a2 None is ∙ at_second a2 (Some v) it)
      failed v at it passed (Some u) None is j =
          ap (λ z. Refused (Failed z)) (inner v at j ∙ sym (outer u is passed)) ∙ last u (at_first a1 a2 (Some u) is)

      second : c1 ≡ None → (o : Option Errno) → b2 ≡ o → two None b2 ≡ two c1 c2
      second passed None at = at_second b2 None at ∙ sym (at_first c1 c2 None passed ∙ at_second c2 None (passes2 at))
      second passed (Some v) at = at_second b2 (Some v) at ∙ from (misses2 v at)
        where
          from : (c2 ≡ Some v) ⊎ (a2 ≡ Some v) → Refused (Failed v) ≡ two c1 c2
          from (inl same) = sym (at_first c1 c2 None passed ∙ at_second c2 (Some v) same)
          from (inr other) = failed v at other passed a1 c2 refl refl

      by : (o : Option Errno) → b1 ≡ o → two b1 b2 ≡ two c1 c2
      by None is = at_first b1 b2 None is ∙ second (passes1 is) b2 refl
      by (Some v) is = at_first b1 b2 (Some v) is ∙ from (misses1 v is)
        where
          from : (c1 ≡ Some v) ⊎ (a1 ≡ Some v) → Refused (Failed v) ≡ two c1 c2
          from (inl same) = sym (at_first c1 c2 (Some v) same)
          from (inr other) = last v (at_first a1 a2 (Some v) other)
