-- The path of a walk's word, letter by letter.
use Rattle.pua_audit.proofs.Common.{ℕ, suc, ◌+◌, ◌*◌, ◌<◌, ◌≤◌, ◌≡◌, List, [], ◌∷◌, ◌++◌, refl, ap, arith, sym, ◌∙◌, length, get_or}
use Rattle.pua_audit.proofs.Common.{append_assoc, append-nil, AllByRecursion, Word, from_root, path_of, longest, word_of, lent_path, Base}
use Rattle.pua_audit.proofs.Common.{Root, Cwd, Terms}
use Rattle.std.proofs.Common.{mul-le-mul_right}
use Rattle.pua_audit.proofs.Along.{no_longer}
use Rattle.pua_audit.proofs.Moves.{all_at_index, length-word_of}
use Rattle.pua_audit.proofs.Paths.{length_from_root}

pub from_root-push : (word : Word) (a : List ℕ) → from_root (word ++ a ∷ []) ≡ from_root word ++ 47 ∷ a
from_root-push [] a = ap (λ bs. 47 ∷ bs) (append-nil a)
from_root-push (b ∷ word) a = ap (λ bs. 47 ∷ b ++ bs) (from_root-push word a) ∙
    ap (λ bs. 47 ∷ bs) (sym (append_assoc b (from_root word) (47 ∷ a)))

-- the path of a word is what is lent of its letters
pub lent_is : (base : Base) (word : Word) → lent_path base (from_root word) ≡ path_of base word
lent_is Root [] = refl
lent_is Root (a ∷ word) = refl
lent_is Cwd [] = refl
lent_is Cwd (a ∷ word) = refl

all_short : (a : Terms) (word : List ℕ) → AllByRecursion (λ i. i < length a.letters) word →
    AllByRecursion (λ b. length b ≤ longest a.letters) (word_of a.letters word)
unfolding word_of
all_short a [] all = tt
all_short a (i ∷ word) all = (
  all_at_index (λ b. length b ≤ longest a.letters) a.letters [] (no_longer 0 a.letters) i all.0,
  all_short a word all.1,
)

-- the places of a word are of the alphabet, and its path has each letter after a slash
pub record IsSpelled (a : Terms) (word bytes : List ℕ) : Type 0 where
  pub known : AllByRecursion (λ i. i < length a.letters) word
  pub path : bytes ≡ from_root (word_of a.letters word)

-- what is lent has no more bytes than any path may
pub lent_short : (base : Base) (a : Terms) (word path : List ℕ) → IsSpelled a word path → length word ≤ a.limit →
    a.limit * suc (longest a.letters) ≤ 1023 → length (lent_path base path) ≤ 1023
lent_short base a word path is within room =
    let most : ℕ = longest a.letters in
    let before : length (from_root (word_of a.letters word)) ≤ length (word_of a.letters word) * suc most =
    length_from_root most (word_of a.letters word) (all_short a word is.known) in
    let few : length word * suc most ≤ a.limit * suc most = mul-le-mul_right (suc most) within in
    let same : length (word_of a.letters word) * suc most ≡ length word * suc most =
    ap (λ n. n * suc most) (length-word_of a.letters word) in
    no_longer_lent base path (omega (arith, ap length is.path, before, few, same, room))
  where
    no_longer_lent : (base : Base) (path : List ℕ) → length path ≤ 1023 → length (lent_path base path) ≤ 1023
    no_longer_lent Root [] h = omega arith
    no_longer_lent Root (b ∷ bs) h = h
    no_longer_lent Cwd [] h = omega arith
    no_longer_lent Cwd (b ∷ bs) h = omega (arith, h)

-- one letter more fits the longest path
pub room_for : (a : Terms) (word path : List ℕ) (i capacity : ℕ) → IsSpelled a word path → i < length a.letters →
    length word < a.limit
    → a.limit * suc (longest a.letters) ≤ capacity → length path + suc (length (get_or a.letters i [])) ≤ capacity
room_for a word path i capacity is here more room =
    let most : ℕ = longest a.letters in
    let letter : length (get_or a.letters i []) ≤ most =
    all_at_index (λ b. length b ≤ longest a.letters) a.letters [] (no_longer 0 a.letters) i here in
    let before : length (from_root (word_of a.letters word)) ≤ length (word_of a.letters word) * suc most =
    length_from_root most (word_of a.letters word) (all_short a word is.known) in
    fits (length path) (length (word_of a.letters word)) (length (get_or a.letters i [])) most a.limit capacity (omega (
      arith,
      ap length is.path,
    )) letter (omega (arith, length-word_of a.letters word)) room
  where
    fits : (path word letter most limit capacity : ℕ) → path ≤ word * suc most → letter ≤ most → suc word ≤ limit →
        limit * suc most ≤ capacity → path + suc letter ≤ capacity
    fits path word letter most limit capacity p l w room =
        let more : suc word * suc most ≤ limit * suc most = mul-le-mul_right (suc most) w in
        let one : suc word * suc most ≡ suc most + word * suc most = omega arith in
        omega arith
