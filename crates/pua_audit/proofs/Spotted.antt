-- The letters that directories tell apart, gathered one after another.
use Rattle.pua_audit.proofs.Common.{◌≡◌, ◌≢◌, ◌<◌, ◌+◌, ℕ, List, [], ◌∷◌, ◌++◌, Some, None, true, false, cond, map, take, drop, length, ltb}
use Rattle.pua_audit.proofs.Common.{arith, get_or, add-one, inl, inr, Option, refl, sym, ap, subst, ◌∙◌, if◌then◌else◌, bytes_eq, IfSome}
use Rattle.pua_audit.proofs.Common.{AllByRecursion, eq_by_cmp, tied_itself, nat_list_cmp_total, nat_cmp-IsAntisymmetric, cases_lt}
use Rattle.pua_audit.proofs.Common.{map-append, Spot, name_cmp, veil_at, Place, Rises, AreApartFrom, IsNowhere, IsUnmarked, LetterSpot}
use Rattle.pua_audit.proofs.Common.{all_joined, all_pushed, list_any, ◌==◌, ◌||◌, false≢true, eq-eqb, IsApart}
use Rattle.std.proofs.Common.{ltb-true, slice_index_or}
use lib.Pointwise.{bytes_decides}
use Rattle.std.specs.FinMap.{find as find_key}
use Rattle.std.specs.Cmp.{Equal-is}
use Rattle.std.proofs.lemmas.List.{take-append-drop}
use Rattle.std.proofs.Math.Seq.{take-suc}
use Rattle.std.specs.List.{AllWithin}
use Rattle.pua_tree.specs.Tree.{spot_cmp}
use Rattle.pua_tree.proofs.ForCallers.{exact_spots}
use Rattle.pua_policy.specs.States.{same_place}
use Rattle.pua_policy.proofs.ForCallers.{same_place_is}
use Rattle.pua_audit.proofs.Lists.{all_before, all_after}
use Rattle.pua_audit.proofs.AfterPair.{letters_alike}
use Rattle.pua_steps.proofs.ForCallers.{all_weaker}

-- one element more of a list that is gone through

pub taken_more : {A : Type 0} (xs : List A) (x : A) (i : ℕ) → i < length xs → x ≡ slice_index_or xs i x →
    take (i + 1) xs ≡ take i xs ++ x ∷ []
taken_more xs x i within is = ap (λ n. take n xs) (add-one i) ∙ take-suc xs i x within ∙ ap (λ y. take i xs ++ y ∷ []) (sym is)

pub all_taken : {A B : Type 0} (P : B → Type 0) (f : A → B) (xs : List A) (x : A) (i : ℕ) → i < length xs → x ≡ slice_index_or xs i x
    → AllByRecursion P (map f (take i xs)) → P (f x) → AllByRecursion P (map f (take (i + 1) xs))
all_taken P f xs x i within is all here =
    subst (λ ys. AllByRecursion P (map f ys)) (sym (taken_more xs x i within is))
    (subst (AllByRecursion P) (sym (map-append f (take i xs) (x ∷ []))) (all_pushed P (map f (take i xs)) (f x) all here))

-- a number that is not found among others is none of them

pub apart_none : (n : ℕ) (others : List ℕ) → list_any (λ other. other == n) others ≡ false → IsApart n others
apart_none n [] none = tt
apart_none n (x ∷ xs) none =
    elim (x == n) as (λ b. (x == n) ≡ b → (b || list_any (λ other. other == n) xs) ≡ false → IsApart n (x ∷ xs)) [
      | true ↦ λ _ some. absurd (false≢true (sym some))
      | false ↦ λ away rest. (λ same. false≢true (sym away ∙ eq-eqb x n same), apart_none n xs rest)
    ] refl none

-- what has no row is not found

pub nowhere_found : (dir : ℕ) (name : List ℕ) (rows : List (Spot × ℕ)) → IsNowhere dir name rows → find_key spot_cmp (dir, name) rows ≡ None
nowhere_found dir name [] none = refl
nowhere_found dir name (row ∷ rows) none =
    elim (eq_by_cmp spot_cmp (dir, name) row.0) as (λ b. eq_by_cmp spot_cmp (dir, name) row.0 ≡ b →
    cond b (Some row.1) (find_key spot_cmp (dir, name) rows) ≡ None) [
      | true ↦ λ same. absurd (let one : (dir, name) ≡ row.0 =
          exact_spots (dir, name) row.0 ((Equal-is (spot_cmp (dir, name) row.0)).0 same) in
          none.0 (ap (λ (s : Spot). s.0) (sym one)) (ap (λ (s : Spot). s.1) (sym one)))
      | false ↦ λ _. nowhere_found dir name rows none.1
    ] refl

-- what has no veil keeps none

pub apart_kept : (place : Place) (vs : List (Place × ℕ)) → AreApartFrom place (map (λ veil. veil.0) vs) → veil_at vs place ≡ None
apart_kept place [] apart = refl
apart_kept place (veil ∷ vs) apart =
    elim (same_place place veil.0) as (λ b. same_place place veil.0 ≡ b → (if b then Some veil.1 else veil_at vs place) ≡ None) [
      | true ↦ λ same. absurd (apart.0 (sym (same_place_is place veil.0 same)))
      | false ↦ λ _. apart_kept place vs apart.1
    ] refl

-- a letter stands at one place

pub letters_once : (letters : List (List ℕ)) → Rises name_cmp letters → (i j : ℕ) → i < length letters → j < length letters →
    get_or letters i [] ≡ get_or letters j [] → i ≡ j
letters_once letters rises i j here there same =
    nat_cmp-IsAntisymmetric i j (sym (letters_alike letters rises i j here there) ∙ ap (λ n. name_cmp n (get_or letters j [])) same ∙
    tied_itself nat_list_cmp_total (get_or letters j []))

-- a letter is found at its place once it was put there, and so are those before it

pub placed_more : (letters : List (List ℕ)) → Rises name_cmp letters → (place letter : ℕ) → place < length letters → letter < place + 1 →
    (bytes : List ℕ) → bytes ≡ get_or letters place [] → (old : Option ℕ) → (letter < place → old ≡ Some letter)
    → cond (bytes_eq bytes (get_or letters letter [])) (Some place) old ≡ Some letter
placed_more letters rises place letter here low bytes is old before =
    elim (bytes_eq bytes (get_or letters letter [])) as (λ b. bytes_eq bytes (get_or letters letter []) ≡ b →
    cond b (Some place) old ≡ Some letter) [
      | true ↦ λ same. ap Some (letters_once letters rises place letter here (omega (arith, here, low)) (sym is ∙
          (bytes_decides bytes (get_or letters letter [])).0 same))
      | false ↦ λ other. before (elim (cases_lt letter place) [
        | inl less ↦ less
        | inr most ↦ absurd (let same : letter ≡ place = omega (arith, low, most) in let both = sym other ∙
            (bytes_decides bytes (get_or letters letter [])).1 (is ∙ ap (λ n. get_or letters n []) (sym same)) in cc)
      ])
    ] refl

pub placed_within : (count place : ℕ) → place < count → (bytes other : List ℕ) → (old : Option ℕ) → IfSome old (λ n. n < count) →
    IfSome (cond (bytes_eq bytes other) (Some place) old) (λ n. n < count)
placed_within count place here bytes other old low =
    elim (bytes_eq bytes other) as (λ b. IfSome (cond b (Some place) old) (λ n. n < count)) [
      | true ↦ here
      | false ↦ low
    ]

-- spots in the order of their directories: those before a directory, those after it, and those between, of which none is of a letter

pub unmarked_between : (dir letter first past : ℕ) (spots rest : List LetterSpot) → drop first spots ≡ rest →
    AllWithin (λ s. ltb s.dir dir ≡ true) spots 0 first → AllWithin (λ s. dir < s.dir) rest past (length rest)
    → AllByRecursion (λ s. s.letter ≢ letter) (take past rest) → IsUnmarked dir letter spots
unmarked_between dir letter first past spots rest is before after between =
    let unmarked = λ (s : LetterSpot). s.dir ≡ dir → s.letter ≢ letter in
    let front : AllByRecursion unmarked (take first spots) =
    all_before (λ s. ltb s.dir dir ≡ true) unmarked (λ s low same. absurd (omega (arith, same, ltb-true s.dir dir low))) first spots
    before in
    let here : AllByRecursion unmarked (take past rest) =
    all_weaker (λ s. s.letter ≢ letter) unmarked (λ s away _. away) (take past rest) between in
    let back : AllByRecursion unmarked (drop past rest) =
    all_after (λ s. dir < s.dir) unmarked (λ s high same. absurd (omega (arith, same, high))) past rest after in
    let behind : AllByRecursion unmarked (drop first spots) = subst (AllByRecursion unmarked) (take-append-drop past rest ∙
    sym is) (all_joined unmarked (take past rest) (drop past rest) here back) in
    subst (AllByRecursion unmarked) (take-append-drop first spots) (all_joined unmarked (take first spots) (drop first spots) front behind)
