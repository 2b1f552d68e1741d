-- The promises of sets together.
use Rattle.std.proofs.Common.{◌≡◌, ℕ, zero, List, [], ◌∷◌, ◌++◌, refl, sym, ap, ◌∙◌, suc, max, ◌<◌, ◌≤◌, ◌+◌, arith, take, get_or, length, append_assoc}
use Rattle.std.proofs.lemmas.List.{take_all}
use Rattle.std.proofs.lemmas.Nat.{or_comm}
use Rattle.std.proofs.lemmas.Nat.Bits.{bit_at_or, same_from_bits}
use Rattle.std.proofs.Math.Seq.{take-suc}
use Rattle.std.specs.Int.{bit_at}
use Rattle.std.specs.Int.Bits.{or_zero_l, or_zero_r}
use Rattle.std.specs.Prelude.{bit_or, flat_map}
use Rattle.pua_tight.specs.Tight.{union}

max_assoc : (a b c : ℕ) → max (max a b) c ≡ max a (max b c)
max_assoc a b c = omega arith

or_assoc : (a b c : ℕ) → bit_or (bit_or a b) c ≡ bit_or a (bit_or b c)
or_assoc a b c = same_from_bits _ _ (λ i.
    bit_at_or (bit_or a b) c i ∙ ap (λ x. max x (bit_at c i)) (bit_at_or a b i) ∙ max_assoc (bit_at a i) (bit_at b i) (bit_at c i)
    ∙ ap (max (bit_at a i)) (sym (bit_at_or b c i)) ∙ sym (bit_at_or a (bit_or b c) i))

-- of three the last two the other way round
turned : (a b c : ℕ) → bit_or (bit_or a b) c ≡ bit_or (bit_or a c) b
turned a b c = or_assoc a b c ∙ ap (bit_or a) (or_comm b c) ∙ sym (or_assoc a c b)

pub union_both : (xs ys : List ℕ) → union (xs ++ ys) ≡ bit_or (union xs) (union ys)
union_both [] ys = sym (or_zero_l (union ys))
union_both (x ∷ xs) ys = ap (bit_or x) (union_both xs ys) ∙ sym (or_assoc x (union xs) (union ys))

pub one_more : {X : Type 0} (xs : List X) (index : ℕ) (x : X) → index < length xs → x ≡ get_or xs index x → take (index + 1) xs ≡ take index xs ++ x ∷ []
one_more xs index x less is =
    let last : suc index ≡ index + 1 = omega arith in
    ap (λ n. take n xs) (sym last) ∙ take-suc xs index x less ∙ ap (λ y. take index xs ++ y ∷ []) (sym is)

-- some sets and others, and one set more
pub set_more : (sets : List ℕ) (index others asked set : ℕ) → index < length sets → set ≡ get_or sets index set →
    asked ≡ bit_or (union (take index sets)) others → bit_or asked set ≡ bit_or (union (take (index + 1) sets)) others
set_more sets index others asked set less at is =
    let before : ℕ = union (take index sets) in
    ap (λ x. bit_or x set) is ∙ turned before others set
    ∙ ap (λ x. bit_or x others) (sym (ap union (one_more sets index set less at) ∙ union_both (take index sets) (set ∷ [])
    ∙ ap (bit_or before) (or_zero_r set)))

pub sets_done : (sets : List ℕ) (index others asked : ℕ) → length sets ≤ index → asked ≡ bit_or (union (take index sets)) others →
    asked ≡ bit_or (union sets) others
sets_done sets index others asked past is = is ∙ ap (λ l. bit_or (union l) others) (take_all index sets past)

-- the sets of all that were gathered, and of one more
gathered : {X : Type 0} (f : X → List ℕ) (xs : List X) (x : X) → union (flat_map f (xs ++ x ∷ [])) ≡ bit_or (union (f x)) (union (flat_map f xs))
gathered f [] x = union_both (f x) []
gathered f (y ∷ xs) x =
    union_both (f y) (flat_map f (xs ++ x ∷ [])) ∙ ap (bit_or (union (f y))) (gathered f xs x ∙ or_comm (union (f x)) (union (flat_map f xs)))
    ∙ sym (or_assoc (union (f y)) (union (flat_map f xs)) (union (f x))) ∙ or_comm (bit_or (union (f y)) (union (flat_map f xs))) (union (f x))
    ∙ ap (bit_or (union (f x))) (sym (union_both (f y) (flat_map f xs)))

pub gathered_next : {X : Type 0} (f : X → List ℕ) (xs : List X) (index : ℕ) (x : X) (asked : ℕ) → index < length xs → x ≡ get_or xs index x →
    asked ≡ union (flat_map f (take index xs)) → bit_or (union (f x)) asked ≡ union (flat_map f (take (index + 1) xs))
gathered_next f xs index x asked less at is =
    ap (bit_or (union (f x))) is ∙ sym (gathered f (take index xs) x) ∙ ap (λ l. union (flat_map f l)) (sym (one_more xs index x less at))

pub again : {X : Type 0} (xs : List X) (index : ℕ) (d : X) → get_or xs index d ≡ get_or xs index (get_or xs index d)
again [] index d = refl
again (x ∷ xs) zero d = refl
again (x ∷ xs) (suc index) d = again xs index d

pub gathered_call : {X : Type 0} (f : X → List ℕ) (xs : List X) (index : ℕ) (d : X) (asked : ℕ) → index < length xs →
    asked ≡ union (flat_map f (take index xs)) → bit_or (union (f (get_or xs index d))) asked ≡ union (flat_map f (take (index + 1) xs))
gathered_call f xs index d asked less is = gathered_next f xs index (get_or xs index d) asked less (again xs index d) is

pub gathered_all : {X : Type 0} (f : X → List ℕ) (xs : List X) (index asked : ℕ) → length xs ≤ index →
    asked ≡ union (flat_map f (take index xs)) → asked ≡ union (flat_map f xs)
gathered_all f xs index asked past is = is ∙ ap (λ l. union (flat_map f l)) (take_all index xs past)

-- the sets of all calls, and four lists more
pub all_together : (a b c d e : List ℕ) (x y one two three four five : ℕ) → five ≡ union e → four ≡ bit_or (union d) five → three ≡ bit_or (union c) four →
    two ≡ bit_or (union b) three → one ≡ bit_or (union a) two → bit_or x (bit_or y one) ≡ union (x ∷ y ∷ a ++ b ++ c ++ d ++ e)
all_together a b c d e x y one two three four five p q r s t =
    let three_is : three ≡ union (c ++ (d ++ e)) = r ∙ ap (bit_or (union c)) (q ∙ ap (bit_or (union d)) p ∙ sym (union_both d e)) ∙ sym (union_both c (d ++ e)) in
    let one_is : one ≡ union (a ++ (b ++ (c ++ (d ++ e)))) =
    t ∙ ap (bit_or (union a)) (s ∙ ap (bit_or (union b)) three_is ∙ sym (union_both b (c ++ (d ++ e)))) ∙ sym (union_both a (b ++ (c ++ (d ++ e)))) in
    ap (λ n. bit_or x (bit_or y n)) (one_is
    ∙ ap union (sym (append_assoc (((a ++ b) ++ c)) d e ∙ append_assoc (a ++ b) c (d ++ e) ∙ append_assoc a b (c ++ (d ++ e)))))

pub added : {xs ys : List ℕ} (asked : ℕ) → xs ≡ ys → bit_or (union xs) asked ≡ bit_or (union ys) asked
added asked same = ap (λ l. bit_or (union l) asked) same
