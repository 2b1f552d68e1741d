-- Whether a member of a list passes a test.
use Rattle.pua_audit.proofs.Common.{◌≡◌, List, [], ◌∷◌, Bool, true, false, ◌&&◌, ◌||◌, refl, ap, ◌∙◌, map, list_any}

-- whether there is a member
abbrev pub some : {A : Type 0} → List A → Bool
some xs = list_any (λ _. true) xs

pub any-same : {A : Type 0} (f g : A → Bool) → ((x : A) → f x ≡ g x) → (xs : List A) → list_any f xs ≡ list_any g xs
any-same f g same xs = λ i. list_any (λ x. same x i) xs

pub any-none : {A : Type 0} (xs : List A) → list_any (λ _. false) xs ≡ false
any-none [] = refl
any-none (x ∷ xs) = any-none xs

pub any-and : {A : Type 0} (b : Bool) (f : A → Bool) (xs : List A) → list_any (λ x. b && f x) xs ≡ (b && list_any f xs)
any-and true f xs = refl
any-and false f xs = any-none xs

pub any-or : {A : Type 0} (b : Bool) (f : A → Bool) (xs : List A) → list_any (λ x. b || f x) xs ≡ ((b && some xs) || list_any f xs)
any-or true f [] = refl
any-or true f (x ∷ xs) = refl
any-or false f xs = refl

any-either : {A : Type 0} (f g : A → Bool) (xs : List A) → list_any (λ x. f x || g x) xs ≡ (list_any f xs || list_any g xs)
any-either f g [] = refl
any-either f g (x ∷ xs) = ap (λ b. (f x || g x) || b) (any-either f g xs) ∙ shuffle (f x) (g x) (list_any f xs) (list_any g xs)
  where
    shuffle : (a b c d : Bool) → ((a || b) || (c || d)) ≡ ((a || c) || (b || d))
    shuffle true b c d = refl
    shuffle false true true d = refl
    shuffle false true false d = refl
    shuffle false false c d = refl

pub any-both : {A : Type 0} (b : Bool) (f g : A → Bool) (xs : List A) →
    list_any (λ x. (b && f x) || g x) xs ≡ ((b && list_any f xs) || list_any g xs)
any-both true f g xs = any-either f g xs
any-both false f g xs = refl

pub any_mapped : {A B : Type 0} (f : A → B) (p : B → Bool) (q : A → Bool) → ((x : A) → p (f x) ≡ q x) → (xs : List A) →
    list_any p (map f xs) ≡ list_any q xs
any_mapped f p q same [] = refl
any_mapped f p q same (x ∷ xs) = λ i. same x i || any_mapped f p q same xs i
