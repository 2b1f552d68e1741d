-- The path of a word: its parts are the word's letters, and it has no fault.
use Rattle.pua_audit.proofs.Common.{subst, ◌≡◌, ℕ, suc, Bool, true, false, not, ◌&&◌, ◌||◌, List, [], ◌∷◌, ◌++◌, length, map, refl, sym, ap}
use Rattle.pua_audit.proofs.Common.{◌∙◌, arith, ◌+◌, ◌*◌, ◌≤◌, append-nil, None, ◌==◌, codes, nat_lt, nat_le, false≢true, and_parts}
use Rattle.pua_audit.proofs.Common.{AllByRecursion, list_any, list_all, is_name, same_bytes, part_of, is_absolute, Ending, Word, from_root}
use Rattle.pua_audit.proofs.Common.{path_of, is_letter, Base, Root, Cwd}
use Rattle.std.proofs.Common.{lt-ltb, length-append}
use Rattle.std.proofs.lemmas.Bool.Decides.{nat_tests}
use Rattle.std.proofs.lemmas.List.Splits.{slice_split_none, slice_split_at}
use Rattle.std.proofs.lemmas.List.Folds.{list_any-append}
use Rattle.pua_tree.specs.Names.{is_name_byte, has_byte, components, has_short_components}
use Rattle.pua_path.specs.Paths.{ends_in_slash, ending_parts, parts_of, path_fault}
use Rattle.pua_path.specs.declared.text.Ending.TheVariants as ending
use Rattle.pua_tree.proofs.ForCallers.{same_word}
use Rattle.pua_path.proofs.ForCallers.{no_slash_all}

abbrev slash : ℕ → Bool
slash b = b == 47

-- 1 to 255 bytes without NUL and slash
pub record IsPiece (letter : List ℕ) : Type 0 where
  pub some : nat_lt 0 (length letter) ≡ true
  pub short : nat_le (length letter) 255 ≡ true
  pub no_slash : list_any slash letter ≡ false
  pub no_nul : has_byte 0 letter ≡ false

no_slash_in : (bs : List ℕ) → list_all is_name_byte bs ≡ true → list_any slash bs ≡ false
no_slash_in [] h = refl
no_slash_in (b ∷ bs) h =
    let here = and_parts (is_name_byte b) (list_all is_name_byte bs) h in
    by (b == 47) refl here.0 (no_slash_in bs here.1)
  where
    by : (v : Bool) → (b == 47) ≡ v → is_name_byte b ≡ true → list_any slash bs ≡ false → (v || list_any slash bs) ≡ false
    by true e n more = let bad : (nat_lt 0 b && (nat_lt b 256 && false)) ≡ true = ap (λ v. nat_lt 0 b && (nat_lt b 256 && not v)) (sym e) ∙
        n in absurd (none (nat_lt 0 b) (nat_lt b 256) bad)
      where
        none : (x y : Bool) → (x && (y && false)) ≡ true → ⊥
        none true true h = cc
        none true false h = cc
        none false y h = cc
    by false e n more = more

no_nul_in : (bs : List ℕ) → list_all is_name_byte bs ≡ true → has_byte 0 bs ≡ false
no_nul_in [] h = refl
no_nul_in (b ∷ bs) h =
    let here = and_parts (is_name_byte b) (list_all is_name_byte bs) h in
    let some : nat_lt 0 b ≡ true = (and_parts (nat_lt 0 b) _ here.0).0 in
    let other : (b == 0) ≡ false = grind (arith, nat_tests) in
    ap (λ v. v || has_byte 0 bs) other ∙ no_nul_in bs here.1

name_is_piece : (n : List ℕ) → is_name n ≡ true → IsPiece n
name_is_piece n h =
    let a = and_parts (nat_lt 0 (length n)) _ h in
    let b = and_parts (nat_le (length n) 255) _ a.1 in
    let c = and_parts (list_all is_name_byte n) _ b.1 in
    record { some = a.0; short = b.0; no_slash = no_slash_in n c.0; no_nul = no_nul_in n c.0 }

dots_are_piece : IsPiece (codes "..")
dots_are_piece = record { some = refl; short = refl; no_slash = refl; no_nul = refl }

pub letter_is_piece : (a : List ℕ) → is_letter a ≡ true → IsPiece a
letter_is_piece a h = by (is_name a) refl h
  where
    by : (v : Bool) → is_name a ≡ v → (v || same_bytes a (codes "..")) ≡ true → IsPiece a
    by true e h = name_is_piece a e
    by false e h = let P : List ℕ → Type 0 = λ n. IsPiece n in subst P (sym (same_word a (codes "..") h)) dots_are_piece

-- the parts of a path

-- letters behind one another, each behind a slash, are the components
pub components_of : (a : List ℕ) (word : Word) → IsPiece a → AllByRecursion IsPiece word → components (a ++ from_root word) ≡ a ∷ word
components_of a [] piece all = rw (append-nil a, slice_split_none slash a (no_slash_all a piece.no_slash), piece.some) refl
components_of a (b ∷ word) piece all =
    rw (
      slice_split_at slash a 47 (b ++ from_root word) (no_slash_all a piece.no_slash) refl,
      piece.some,
    ) (ap (λ ps. a ∷ ps) (components_of b word all.0 all.1))

pub components_from_root : (a : List ℕ) (word : Word) → IsPiece a → AllByRecursion IsPiece word →
    components (from_root (a ∷ word)) ≡ a ∷ word
components_from_root a word piece all = components_of a word piece all

end_cut : (b : ℕ) (a : List ℕ) (word : Word) → list_any slash (b ∷ a) ≡ false → AllByRecursion IsPiece word →
    ends_in_slash ((b ∷ a) ++ from_root word) ≡ false
end_cut b [] [] h all = by (b == 47) h
  where
    by : (v : Bool) → (v || false) ≡ false → v ≡ false
    by true h = cc
    by false h = refl
end_cut b [] ([] ∷ word) h all = absurd (false≢true all.0.some)
end_cut b [] ((c ∷ d) ∷ word) h all = end_cut c d word all.0.no_slash all.1
end_cut b (c ∷ a) word h all = end_cut c a word (by (b == 47) h) all
  where
    by : (v : Bool) → (v || list_any slash (c ∷ a)) ≡ false → list_any slash (c ∷ a) ≡ false
    by true h = cc
    by false h = h

pub end_of : (a : List ℕ) (word : Word) → IsPiece a → AllByRecursion IsPiece word → ends_in_slash (a ++ from_root word) ≡ false
end_of [] word piece all = absurd (false≢true piece.some)
end_of (b ∷ a) word piece all = end_cut b a word piece.no_slash all

pub end_of_root : (a : List ℕ) (word : Word) → IsPiece a → AllByRecursion IsPiece word → ends_in_slash (from_root (a ∷ word)) ≡ false
end_of_root [] word piece all = absurd (false≢true piece.some)
end_of_root (b ∷ a) word piece all = end_cut b a word piece.no_slash all

no_ending : (e : Ending) (pieces : List (List ℕ)) → ending_parts e pieces false ≡ []
no_ending ending.Dropped pieces = refl
no_ending ending.Dot [] = refl
no_ending ending.Dot (piece ∷ pieces) = refl

-- a text that no slash ends has its components as parts
pub parts_are : (e : Ending) (text : List ℕ) (word : Word) → components text ≡ word → ends_in_slash text ≡ false →
    parts_of e text ≡ map part_of word
parts_are e text word same at_end =
    ap (λ ps. map part_of ps ++ ending_parts e ps (ends_in_slash text)) same
    ∙ ap (λ s. map part_of word ++ ending_parts e word s) at_end
    ∙ ap (λ ps. map part_of word ++ ps) (no_ending e word) ∙ append-nil (map part_of word)

-- no fault

no_nul_from : (word : Word) → AllByRecursion IsPiece word → has_byte 0 (from_root word) ≡ false
no_nul_from [] all = refl
no_nul_from (a ∷ word) all = list_any-append (λ b. b == 0) a (from_root word) ∙ (λ i. all.0.no_nul i || no_nul_from word all.1 i)

all_short : (word : Word) → AllByRecursion IsPiece word → list_all (λ piece. nat_le (length piece) 255) word ≡ true
all_short [] all = refl
all_short (a ∷ word) all = (λ i. all.0.short i && all_short word all.1 i)

-- a word's path is no longer than its letters and their slashes
pub length_from_root : (most : ℕ) (word : Word) → AllByRecursion (λ a. length a ≤ most) word →
    length (from_root word) ≤ length word * suc most
length_from_root most [] all = omega arith
length_from_root most (a ∷ word) all = let one : suc (length word) * suc most ≡ suc most + length word * suc most = omega arith in
    omega (arith, length-append a (from_root word), all.0, length_from_root most word all.1, one)

faultless : (text : List ℕ) (word : Word) → nat_lt 0 (length text) ≡ true → length text ≤ 1023 → components text ≡ word →
    list_all (λ piece. nat_le (length piece) 255) word ≡ true → has_byte 0 text ≡ false → path_fault text ≡ None
faultless [] word some h same short nul = absurd (false≢true some)
faultless (b ∷ more) word some h same short nul =
    let fits : nat_lt 1023 (length (b ∷ more)) ≡ false = grind (arith, nat_tests) in
    let pieces : has_short_components (b ∷ more) ≡ true = ap (list_all (λ piece. nat_le (length piece) 255)) same ∙ short in
    rw (fits, pieces, nul) refl

some_before : (a rest : List ℕ) → nat_lt 0 (length a) ≡ true → nat_lt 0 (length (a ++ rest)) ≡ true
some_before [] rest h = absurd (false≢true h)
some_before (b ∷ a) rest h = lt-ltb 0 (length (b ∷ a ++ rest)) (omega arith)

-- what a resolution reads of the path of a word with a letter
pub record IsPath (base : Base) (text : List ℕ) (word : Word) : Type 0 where
  pub fault : path_fault text ≡ None
  pub parts : (e : Ending) → parts_of e text ≡ map part_of word
  pub absolute : is_absolute text ≡ (elim base [ Root ↦ true | Cwd ↦ false ])

relative : (a rest : List ℕ) → IsPiece a → is_absolute (a ++ rest) ≡ false
relative [] rest piece = absurd (false≢true piece.some)
relative (b ∷ a) rest piece = by (b == 47) piece.no_slash
  where
    by : (v : Bool) → (v || list_any slash a) ≡ false → v ≡ false
    by true h = cc
    by false h = refl

pub path_is : (base : Base) (a : List ℕ) (word : Word) → IsPiece a → AllByRecursion IsPiece word → length (from_root (a ∷ word)) ≤ 1023 →
    IsPath base (path_of base (a ∷ word)) (a ∷ word)
path_is Root a word piece all h =
    let pieces = components_from_root a word piece all in
    record {
      fault = faultless (from_root (a ∷ word)) (a ∷ word) (lt-ltb 0 (length (from_root (a ∷ word))) (omega arith)) h pieces
          (all_short (a ∷ word) (piece, all)) (no_nul_from (a ∷ word) (piece, all));
      parts = λ e. parts_are e (from_root (a ∷ word)) (a ∷ word) pieces (end_of_root a word piece all);
      absolute = refl;
    }
path_is Cwd a word piece all h =
    let pieces = components_of a word piece all in
    let nul : has_byte 0 (a ++ from_root word) ≡ false = list_any-append (λ b. b == 0) a (from_root word) ∙
    (λ i. piece.no_nul i || no_nul_from word all i) in
    let fits : length (a ++ from_root word) ≤ 1023 = omega arith in
    record {
      fault = faultless (a ++ from_root word) (a ∷ word) (some_before a (from_root word) piece.some) fits pieces
          (all_short (a ∷ word) (piece, all)) nul;
      parts = λ e. parts_are e (a ++ from_root word) (a ∷ word) pieces (end_of a word piece all);
      absolute = relative a (from_root word) piece;
    }
