-- Names in the order of the numbers that their first bytes write.
use Rattle.pua_tree.proofs.Common.{◌≡◌, ℕ, zero, suc, ◌+◌, ◌-◌, ◌*◌, ◌<◌, ◌≤◌, true, List, [], ◌∷◌, ◌++◌, length, get_or, replicate, refl}
use Rattle.pua_tree.proofs.Common.{sym, ap, subst, ◌∙◌, arith, nat_lt, nat_le, true≢false, IsTrue, Ordering, Less, Equal, Greater, nat_cmp}
use Rattle.pua_tree.proofs.Common.{ordering_then, nat_cmp_total, tied_itself, list_all, and_parts, ltb-true, is_name, padded_name}
use Rattle.std.specs.Ordering.{MatchOrdering, is_ne}
use Rattle.std.specs.Cmp.{ranks, nat_cmp_is}
use Rattle.std.specs.Cmp.Lexicographic.{slice_cmp}
use Rattle.std.specs.Int.{w64, from_be_bytes}
use Rattle.pua_tree.specs.Names.{is_name_byte, front}
use Rattle.pua_tree.proofs.Base.{greater}

-- eight bytes of a longer list as a number
pub front-eight : (bytes : List ℕ) → 8 ≤ length bytes
    → from_be_bytes w64 (get_or bytes 0 0 ∷ get_or bytes 1 0 ∷ get_or bytes 2 0 ∷ get_or bytes 3 0 ∷ get_or bytes 4 0 ∷ get_or bytes 5 0
    ∷ get_or bytes 6 0 ∷ get_or bytes 7 0 ∷ [])
    ≡ front 8 0 bytes
front-eight [] h = absurd (omega arith)
front-eight (a ∷ []) h = absurd (omega arith)
front-eight (a ∷ b ∷ []) h = absurd (omega arith)
front-eight (a ∷ b ∷ c ∷ []) h = absurd (omega arith)
front-eight (a ∷ b ∷ c ∷ d ∷ []) h = absurd (omega arith)
front-eight (a ∷ b ∷ c ∷ d ∷ e ∷ []) h = absurd (omega arith)
front-eight (a ∷ b ∷ c ∷ d ∷ e ∷ f ∷ []) h = absurd (omega arith)
front-eight (a ∷ b ∷ c ∷ d ∷ e ∷ f ∷ g ∷ []) h = absurd (omega arith)
front-eight (a ∷ b ∷ c ∷ d ∷ e ∷ f ∷ g ∷ i ∷ more) h = omega arith

-- zeros after the bytes count nothing
front-zeros : (n a : ℕ) (bytes : List ℕ) (k : ℕ) → front n a (bytes ++ replicate k 0) ≡ front n a bytes
front-zeros zero a bytes k = refl
front-zeros (suc n) a [] zero = refl
front-zeros (suc n) a [] (suc k) = let same : a * 256 + 0 ≡ a * 256 = omega arith in ap (λ b. front n b (replicate k 0)) same ∙
    front-zeros n (a * 256) [] k
front-zeros (suc n) a (b ∷ bytes) k = front-zeros n (a * 256 + b) bytes k

pub front-padded : (name : List ℕ) → front 8 0 (padded_name name) ≡ front 8 0 name
front-padded name = front-zeros 8 0 name (255 - length name)

is_byte : (b : ℕ) → is_name_byte b ≡ true → (0 < b) × (b < 256)
is_byte b e =
    let parts = and_parts (nat_lt 0 b) _ e in
    let more = and_parts (nat_lt b 256) _ parts.1 in
    (ltb-true 0 b parts.0, ltb-true b 256 more.0)

-- what begins with a smaller number is smaller, whatever bytes follow
rises : (n a b : ℕ) (xs ys : List ℕ) → list_all is_name_byte xs ≡ true → a < b → front n a xs < front n b ys
rises zero a b xs ys h l = l
rises (suc n) a b [] [] h l = rises n (a * 256) (b * 256) [] [] h (omega arith)
rises (suc n) a b [] (y ∷ ys) h l = rises n (a * 256) (b * 256 + y) [] ys h (omega arith)
rises (suc n) a b (x ∷ xs) [] h l =
    let parts = and_parts (is_name_byte x) _ h in
    let small = is_byte x parts.0 in
    rises n (a * 256 + x) (b * 256) xs [] parts.1 (omega (arith, small.1))
rises (suc n) a b (x ∷ xs) (y ∷ ys) h l =
    let parts = and_parts (is_name_byte x) _ h in
    let small = is_byte x parts.0 in
    rises n (a * 256 + x) (b * 256 + y) xs ys parts.1 (omega (arith, small.1))

below : (x y : ℕ) → x < y → nat_cmp x y ≡ Less
below x y l = sym (nat_cmp_is x y Less l)

-- the numbers of names decide their order where they are not equal
pub by_front : (n a : ℕ) (xs ys : List ℕ) → list_all is_name_byte xs ≡ true → list_all is_name_byte ys ≡ true
    → ordering_then (nat_cmp (front n a xs) (front n a ys)) (slice_cmp nat_cmp xs ys) ≡ slice_cmp nat_cmp xs ys
by_front zero a xs ys g h = ap (λ r. ordering_then r (slice_cmp nat_cmp xs ys)) (tied_itself nat_cmp_total a)
by_front (suc n) a [] [] g h = ap (λ r. ordering_then r Equal) (tied_itself nat_cmp_total (front n (a * 256) []))
by_front (suc n) a [] (y ∷ ys) g h =
    let parts = and_parts (is_name_byte y) _ h in
    let some = is_byte y parts.0 in
    ap (λ r. ordering_then r Less) (below _ _ (rises n (a * 256) (a * 256 + y) [] ys g (omega (arith, some.0))))
by_front (suc n) a (x ∷ xs) [] g h =
    let parts = and_parts (is_name_byte x) _ g in
    let some = is_byte x parts.0 in
    ap (λ r. ordering_then r Greater) (greater _ _ (rises n (a * 256) (a * 256 + x) [] xs h (omega (arith, some.0))))
by_front (suc n) a (x ∷ xs) (y ∷ ys) g h =
    by (nat_cmp x y) (ranks x y) (and_parts (is_name_byte x) _ g).1 (and_parts (is_name_byte y) _ h).1 (by_front n (a * 256 + x) xs ys)
  where
    by : (r : Ordering) → MatchOrdering r (x < y) (x ≡ y) (y < x) → list_all is_name_byte xs ≡ true → list_all is_name_byte ys ≡ true
        → (list_all is_name_byte xs ≡ true → list_all is_name_byte ys ≡ true →
        ordering_then (nat_cmp (front n (a * 256 + x) xs) (front n (a * 256 + x) ys)) (slice_cmp nat_cmp xs ys)
        ≡ slice_cmp nat_cmp xs ys)
        → ordering_then (nat_cmp (front n (a * 256 + x) xs) (front n (a * 256 + y) ys)) (ordering_then r (slice_cmp nat_cmp xs ys))
        ≡ ordering_then r (slice_cmp nat_cmp xs ys)
    by Less l p q alike = let under : x < y = l in
        ap (λ r. ordering_then r Less) (below _ _ (rises n (a * 256 + x) (a * 256 + y) xs ys p (omega arith)))
    by Greater l p q alike = let over : y < x = l in
        ap (λ r. ordering_then r Greater) (greater _ _ (rises n (a * 256 + y) (a * 256 + x) ys xs q (omega arith)))
    by Equal l p q alike = let level : x ≡ y = l in
        subst (λ z. ordering_then (nat_cmp (front n (a * 256 + x) xs) (front n (a * 256 + z) ys)) (slice_cmp nat_cmp xs ys)
        ≡ slice_cmp nat_cmp xs ys) level (alike p q)

-- the bytes of a name
pub name_bytes : (name : List ℕ) → IsTrue (is_name name) → list_all is_name_byte name ≡ true
name_bytes name h = (and_parts (list_all is_name_byte name) _
    (and_parts (nat_le (length name) 255) _ (and_parts (nat_lt 0 (length name)) _ h).1).1).0

-- the order of numbers that are not equal is that of the names
pub front_decides : (xs ys : List ℕ) (r : Ordering) (a b : ℕ) → IsTrue (is_name xs) → IsTrue (is_name ys) → a ≡ front 8 0 xs →
    b ≡ front 8 0 ys → r ≡ nat_cmp a b → is_ne r ≡ true → r ≡ slice_cmp nat_cmp xs ys
front_decides xs ys r a b g h p q e n = by r n (ap (λ o. ordering_then o (slice_cmp nat_cmp xs ys)) (e ∙ (λ i. nat_cmp (p i) (q i))) ∙
    by_front 8 0 xs ys (name_bytes xs g) (name_bytes ys h))
  where
    by : (o : Ordering) → is_ne o ≡ true → ordering_then o (slice_cmp nat_cmp xs ys) ≡ slice_cmp nat_cmp xs ys → o ≡ slice_cmp nat_cmp xs ys
    by Less t f = f
    by Equal t f = absurd (true≢false (sym t))
    by Greater t f = f
