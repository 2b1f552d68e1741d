-- The letters that pieces of a printed path spell.
use Rattle.pua_audit.proofs.Common.{◌≡◌, ◌≢◌, ℕ, zero, suc, ◌+◌, ◌<◌, ◌≤◌, List, [], ◌∷◌, ◌++◌, Bool, true, false, cond, Option, Some, None}
use Rattle.pua_audit.proofs.Common.{length, get_or, drop, refl, sym, ap, subst, ◌∙◌, inl, inr, arith, append_assoc, codes, ltb, find}
use Rattle.pua_audit.proofs.Common.{IsTrue, list_all, result_ok, and_parts, lt-leb, le-leb, eq-eqb, false≢true, bytes_eq-Decides, is_name}
use Rattle.pua_audit.proofs.Common.{same_bytes, spelling, name_of, is_byte, other_word, Word, word_of_pieces, word_of_path, word_within}
use Rattle.pua_audit.proofs.Common.{is_letter, word_of, AreLetters, Root, all_pushed}
use Rattle.std.proofs.Common.{Result, Ok, Err, ◌⊎◌}
use Rattle.std.proofs.Common.{length-append, position, take_all}
use Rattle.std.specs.Prelude.{option_map, option_and_then}
use Rattle.std.specs.Bool.{one_answer}
use Rattle.std.specs.List.{position_or_len, before_first, after_first}
use Rattle.std.proofs.lemmas.Bool.{or_cases, ltb-false}
use Rattle.std.proofs.lemmas.List.{drop_all, drop_more}
use Rattle.pua_tree.specs.declared.fault.NameFault.{NameFault}
use Rattle.pua_tree.proofs.ForCallers.{name_is_bytes, spelling_tells, name_of-spelling, Err≢Ok}
use Rattle.pua_audit.specs.Alphabets.{IsPlaced}

-- a letter is a name or two dots

letter_is : (a : List ℕ) → IsTrue (is_letter a) → IsTrue (is_name a) ⊎ (a ≡ codes "..")
letter_is a h = elim (or_cases (is_name a) (same_bytes a (codes "..")) h) [
  | inl n ↦ inl n
  | inr d ↦ inr ((bytes_eq-Decides a (codes "..")).0 d)
]

pub letter_bytes : (a : List ℕ) → IsTrue (is_letter a) → IsTrue (list_all is_byte a)
letter_bytes a h = elim (letter_is a h) [ inl n ↦ name_is_bytes a n | inr d ↦ subst (λ l. IsTrue (list_all is_byte l)) (sym d) refl ]

-- where a letter was looked for by its bytes

pub found : (q : List ℕ) (ms : List (List ℕ)) (i : ℕ) → i < length ms → get_or ms i [] ≡ q → find (same_bytes q) ms ≡ Some q
found q [] i short e = absurd (omega (arith, short))
found q (m ∷ ms) i short e = by i (same_bytes q m) refl short e (found q ms)
  where
    by : (i : ℕ) (v : Bool) → same_bytes q m ≡ v → i < length (m ∷ ms) → get_or (m ∷ ms) i [] ≡ q →
        ((j : ℕ) → j < length ms → get_or ms j [] ≡ q → find (same_bytes q) ms ≡ Some q)
        → cond v (Some m) (find (same_bytes q) ms) ≡ Some q
    by i true is short e more = ap Some (sym ((bytes_eq-Decides q m).0 is))
    by zero false is short e more = absurd (false≢true (sym is ∙ (bytes_eq-Decides q m).1 (sym e)))
    by (suc i) false is short e more = more i (omega (arith, short)) e

found_placed : (q : List ℕ) (ms : List (List ℕ)) (r : Result ℕ ℕ) → IsPlaced ms q r →
    option_map (λ i. get_or ms i []) (result_ok r) ≡ find (same_bytes q) ms
found_placed q ms (Ok i) p = ap Some p.1 ∙ sym (found q ms i p.0 p.1)
found_placed q ms (Err i) p = sym p.2

pub same_find : (f g : List ℕ → Bool) (ms : List (List ℕ)) → IsTrue (list_all is_letter ms) →
    ((a : List ℕ) → IsTrue (is_letter a) → f a ≡ g a) → find f ms ≡ find g ms
same_find f g [] all same = refl
same_find f g (m ∷ ms) all same =
    let parts = and_parts (is_letter m) (list_all is_letter ms) all in
    ap (λ b. cond b (Some m) (find f ms)) (same m parts.0) ∙ ap (λ o. cond (g m) (Some m) o) (same_find f g ms parts.1 same)

find_none : (ms : List (List ℕ)) → find (λ _. false) ms ≡ None
find_none [] = refl
find_none (m ∷ ms) = find_none ms

-- bytes are a letter's where their spelling is
pub spelled_same : (q piece : List ℕ) → piece ≡ spelling q → IsTrue (list_all is_byte q) → (a : List ℕ) → IsTrue (is_letter a) →
    same_bytes q a ≡ same_bytes (spelling a) piece
spelled_same q piece is bytes a h =
    one_answer (same_bytes q a) (same_bytes (spelling a) piece) (bytes_eq-Decides q a) (
      λ e. spelling_tells q a bytes (letter_bytes a h) (sym is ∙ sym ((bytes_eq-Decides (spelling a) piece).0 e)),
      λ e. (bytes_eq-Decides (spelling a) piece).1 (ap spelling (sym e) ∙ sym is),
    )

module _ (ms : List (List ℕ)) (all : IsTrue (list_all is_letter ms)) where
  -- bytes that a text spells are found by the text
  pub spelled_placed : (q piece : List ℕ) (r : Result ℕ ℕ) → piece ≡ spelling q → IsTrue (list_all is_byte q) → IsPlaced ms q r
      → option_map (λ i. get_or ms i []) (result_ok r) ≡ find (λ a. same_bytes (spelling a) piece) ms
  spelled_placed q piece r is bytes p = found_placed q ms r p ∙
      same_find (same_bytes q) (λ a. same_bytes (spelling a) piece) ms all (spelled_same q piece is bytes)

  -- what spells no name and is not two dots spells no letter
  pub none_spelled : (piece : List ℕ) (fault : NameFault) → name_of piece ≡ Err fault → same_bytes piece (codes "..") ≡ false →
      find (λ a. same_bytes (spelling a) piece) ms ≡ None
  none_spelled piece fault refused other =
      same_find (λ a. same_bytes (spelling a) piece) (λ _. false) ms all (λ a h. other_word (spelling a) piece (apart a (letter_is a h))) ∙
      find_none ms
    where
      apart : (a : List ℕ) → IsTrue (is_name a) ⊎ (a ≡ codes "..") → spelling a ≢ piece
      apart a (inl n) e = Err≢Ok fault a (sym refused ∙ ap name_of (sym e) ∙ name_of-spelling a n)
      apart a (inr d) e = false≢true (sym other ∙ (bytes_eq-Decides piece (codes "..")).1 (sym e ∙ ap spelling d))

-- a word whose first letters were read, and what the further pieces spell
abbrev pub behind_word : Word → Option Word → Option Word
behind_word w o = option_map (λ v. w ++ v) o

module _ (letters pieces : List (List ℕ)) where
  abbrev first_of : Option (List ℕ) → List (List ℕ) → Option Word
  first_of o rest = option_and_then (λ a. option_map (λ v. a ∷ v) (word_of_pieces letters rest)) o

  next_piece : (w : Word) (n : ℕ) (piece : List ℕ) → (n < length pieces) × (piece ≡ get_or pieces n piece)
      → behind_word w (word_of_pieces letters (drop n pieces)) ≡ behind_word w (first_of (find (λ a. same_bytes (spelling a) piece) letters)
      (drop (n + 1) pieces))
  next_piece w n piece at =
      ap (λ rest. behind_word w (word_of_pieces letters rest)) (drop_more pieces n piece at.0)
      ∙ ap (λ p. behind_word w (first_of (find (λ a. same_bytes (spelling a) p) letters) (drop (n + 1) pieces))) (sym at.1)

  -- one letter more
  pub piece_read : (w : Word) (n : ℕ) (piece a : List ℕ) → (n < length pieces) × (piece ≡ get_or pieces n piece) →
      find (λ a. same_bytes (spelling a) piece) letters ≡ Some a
      → behind_word w (word_of_pieces letters (drop n pieces)) ≡ behind_word (w ++ a ∷ []) (word_of_pieces letters (drop (n + 1) pieces))
  piece_read w n piece a at is =
      next_piece w n piece at ∙ ap (λ o. behind_word w (first_of o (drop (n + 1) pieces))) is ∙
      by (word_of_pieces letters (drop (n + 1) pieces))
    where
      by : (o : Option Word) → behind_word w (option_map (λ v. a ∷ v) o) ≡ behind_word (w ++ a ∷ []) o
      by None = refl
      by (Some v) = ap Some (sym (append_assoc w (a ∷ []) v))

  -- a piece spells no letter
  pub piece_refused : (w : Word) (n : ℕ) (piece : List ℕ) → (n < length pieces) × (piece ≡ get_or pieces n piece) →
      find (λ a. same_bytes (spelling a) piece) letters ≡ None
      → behind_word w (word_of_pieces letters (drop n pieces)) ≡ None
  piece_refused w n piece at is = next_piece w n piece at ∙ ap (λ o. behind_word w (first_of o (drop (n + 1) pieces))) is

  -- one piece more than the limit allows
  pub piece_over : (limit : ℕ) (w : Word) (n : ℕ) (piece : List ℕ) → (n < length pieces) × (piece ≡ get_or pieces n piece) →
      limit ≤ length w
      → word_within limit (behind_word w (word_of_pieces letters (drop n pieces))) ≡ None
  piece_over limit w n piece at full =
      ap (word_within limit) (next_piece w n piece at) ∙
      by (find (λ a. same_bytes (spelling a) piece) letters) (word_of_pieces letters (drop (n + 1) pieces))
    where
      by : (o : Option (List ℕ)) (p : Option Word) → word_within limit (behind_word w (option_and_then (λ a. option_map (λ v. a ∷ v) p) o))
          ≡ None
      by None p = refl
      by (Some a) None = refl
      by (Some a) (Some v) =
          ap (λ b. cond b (Some (w ++ a ∷ v)) None) (lt-leb (length (w ++ a ∷ v)) limit (omega (arith, length-append w (a ∷ v), full)))

  -- all pieces were read
  pub pieces_read : (limit : ℕ) (w : Word) (n : ℕ) → length pieces ≤ n → length w ≤ limit →
      word_within limit (behind_word w (word_of_pieces letters (drop n pieces))) ≡ Some w
  pieces_read limit w n past short =
      ap (λ rest. word_within limit (behind_word w (word_of_pieces letters rest))) (drop_all n pieces past)
      ∙ ap (λ v. word_within limit (Some v)) (nothing w) ∙ ap (λ b. cond b (Some w) None) (le-leb (length w) limit short)
    where
      nothing : (w : Word) → w ++ [] ≡ w
      nothing [] = refl
      nothing (a ∷ w) = ap (λ v. a ∷ v) (nothing w)

-- a text at its first byte that passes

pub first_at : (p : ℕ → Bool) (text : List ℕ) (i : ℕ) → position p text ≡ Some i → i ≡ position_or_len p text
first_at p text i e = by (ltb (position_or_len p text) (length text)) e
  where
    by : (v : Bool) → cond v (Some (position_or_len p text)) None ≡ Some i → i ≡ position_or_len p text
    by true e = cc
    by false e = cc

pub first_nowhere : (p : ℕ → Bool) (text : List ℕ) → position p text ≡ None → (before_first p text ≡ text) × (after_first p text ≡ [])
first_nowhere p text e =
    let past : length text ≤ position_or_len p text = by (ltb (position_or_len p text) (length text)) refl e in
    (take_all (position_or_len p text) text past, drop_all (position_or_len p text + 1) text (omega (arith, past)))
  where
    by : (v : Bool) → ltb (position_or_len p text) (length text) ≡ v → cond v (Some (position_or_len p text)) None ≡ None →
        length text ≤ position_or_len p text
    by true is e = cc
    by false is e = ltb-false (position_or_len p text) (length text) is

-- two dots are spelled by themselves
pub two_dots : (piece : List ℕ) → piece ≡ codes ".." → piece ≡ spelling piece
two_dots piece e = e ∙ ap spelling (sym e)

pub two_dots_bytes : (piece : List ℕ) → piece ≡ codes ".." → IsTrue (list_all is_byte piece)
two_dots_bytes piece e = subst (λ l. IsTrue (list_all is_byte l)) (sym e) refl

-- nothing was read yet
pub nothing_read : (letters pieces : List (List ℕ)) (places : List ℕ) → places ≡ [] →
    word_of_pieces letters pieces ≡ behind_word (word_of letters places) (word_of_pieces letters (drop 0 pieces))
unfolding word_of
nothing_read letters pieces places e = by (word_of_pieces letters pieces) ∙
    ap (λ ps. behind_word (word_of letters ps) (word_of_pieces letters pieces)) (sym e)
  where
    by : (o : Option Word) → o ≡ behind_word [] o
    by None = refl
    by (Some w) = refl

-- the empty word is within every limit
pub empty_read : (letters : List (List ℕ)) (limit : ℕ) (places : List ℕ) → places ≡ [] →
    (word_within limit (Some []) ≡ Some (word_of letters places)) × AreLetters letters limit places
unfolding word_of
empty_read letters limit places e = (
  ap (λ b. cond b (Some []) None) (le-leb 0 limit (omega arith)) ∙ ap (λ ps. Some (word_of letters ps)) (sym e),
  subst (AreLetters letters limit) (sym e) (record { within = omega arith; there = tt }),
)

-- one place more
pub letter_more : (letters : List (List ℕ)) (limit : ℕ) (places : List ℕ) (i : ℕ) → AreLetters letters limit places →
    length places < limit → i < length letters → AreLetters letters limit (places ++ i ∷ [])
letter_more letters limit places i are short there =
    record {
      within = omega (arith, length-append places (i ∷ []), short);
      there = all_pushed (λ i. i < length letters) places i are.there there;
    }

-- a slash alone
pub slash_alone : (letters : List (List ℕ)) (path : List ℕ) → length path ≡ 1 → get_or path 0 0 ≡ 47 →
    word_of_path Root letters path ≡ Some []
slash_alone letters [] one e = absurd (omega (arith, one))
slash_alone letters (b ∷ []) one e = ap (λ v. cond v (Some []) None) (eq-eqb b 47 e)
slash_alone letters (b ∷ c ∷ more) one e = absurd (omega (arith, one))
