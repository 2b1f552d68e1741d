-- A text names a pair exactly where it is the text of that pair.
use Rattle.pua_audit.proofs.Common.{◌≡◌, ◌≢◌, ℕ, ◌+◌, ◌<◌, List, [], ◌∷◌, ◌++◌, Bool, true, false, cond, not, Option, Some, None, length}
use Rattle.pua_audit.proofs.Common.{map, get_or, take, drop, refl, sym, ap, subst, ◌∙◌, inl, inr, arith, append-nil, codes, find, IsTrue}
use Rattle.pua_audit.proofs.Common.{AllByRecursion, list_all, list_any, slice_split, and_parts, or_right, cases_lt, false≢true}
use Rattle.pua_audit.proofs.Common.{flat_map-append, bytes_eq-Decides, same_bytes, is_plain, spelling, is_byte, same_Some, other_word}
use Rattle.pua_audit.proofs.Common.{calls, Call, Stat, Word, Pair, Scope, from_root, word_of_pieces, word_of_path, word_within}
use Rattle.pua_audit.proofs.Common.{is_letter, Base, Root, Cwd}
use Rattle.std.proofs.Common.{◌/◌, ◌%◌}
use Rattle.std.proofs.Common.{leb-true}
use Rattle.std.proofs.Common.{le-leb, one-add, ne_eqb, eqb-true}
use Rattle.std.specs.Prelude.{option_map, option_and_then, nat_le, ◌==◌, ◌||◌}
use Rattle.std.specs.List.{join_with_byte, position_or_len, before_first, after_first}
use Rattle.std.proofs.Math.Seq.{take-append_seam, drop-append-add}
use Rattle.std.proofs.lemmas.Bool.{or_parts}
use Rattle.std.proofs.lemmas.List.{drop_all}
use Rattle.std.proofs.lemmas.List.Folds.{list_any-append}
use Rattle.std.proofs.lemmas.List.Splits.{slice_split_none, slice_split_at, length-slice_split, join_with_byte-slice_split}
use Rattle.std.proofs.lemmas.List.Sums.{split_at_first, passes_at_first}
use Rattle.pua_tree.specs.Spelling.{byte_spelling}
use Rattle.pua_tree.specs.Listing.{only_if}
use Rattle.pua_tree.proofs.ForCallers.{spelling_tells, None≢Some, first_passes, only_if_read}
use Rattle.pua_calls.specs.Calls.{call_in, call_name, call_of_name, is_known}
use Rattle.pua_audit.specs.Reach.{printed_path}
use Rattle.pua_audit.specs.Begin.{word_of_pieces_between, resume_pair}
use Rattle.pua_audit.specs.PairTexts.{pair_text, is_in_alphabet, IsWord, ResumeTextsName}
use Rattle.pua_audit.proofs.Paths.{IsPiece, letter_is_piece}
use Rattle.pua_audit.proofs.ResumeTexts.{letter_bytes, same_find, spelled_same}
use Rattle.pua_path.proofs.ForCallers.{no_slash_all}

abbrev slash : ℕ → Bool
slash b = b == 47

abbrev colon : ℕ → Bool
colon b = b == 58

neither : (v w : Bool) → v ≡ false → w ≡ false → (v || w) ≡ false
neither v w e f = (λ i. e i || f i)

-- a spelling has no slash, if its bytes have none

digit : (d : ℕ) → (48 + d == 47) ≡ false
digit d = ne_eqb (48 + d) 47 (λ e. omega (arith, e))

no_slash_byte : (b : ℕ) → slash b ≡ false → list_any slash (byte_spelling b) ≡ false
no_slash_byte b e =
    elim (is_plain b) as (λ p. list_any slash (cond p (b ∷ []) (92 ∷ (48 + b / 64) ∷ (48 + b / 8 % 8) ∷ (48 + b % 8) ∷ [])) ≡ false) [
      | true ↦ neither (slash b) false e refl
      | false ↦ neither (slash (48 + b / 64)) _ (digit (b / 64)) (neither (slash (48 + b / 8 % 8)) _ (digit (b / 8 % 8))
          (neither (slash (48 + b % 8)) _ (digit (b % 8)) refl))
    ]

no_slash_spelled : (a : List ℕ) → list_any slash a ≡ false → list_any slash (spelling a) ≡ false
no_slash_spelled [] h = refl
no_slash_spelled (b ∷ a) h =
    let parts = or_parts (slash b) (list_any slash a) h in
    list_any-append slash (byte_spelling b) (spelling a) ∙
    neither (list_any slash (byte_spelling b)) _ (no_slash_byte b parts.0) (no_slash_spelled a parts.1)

-- the pieces of letters behind one another
pieces_of : (a : List ℕ) (word : Word) → IsPiece a → AllByRecursion IsPiece word →
    slice_split slash (spelling (a ++ from_root word)) ≡ map spelling (a ∷ word)
pieces_of a [] piece all = ap (λ xs. slice_split slash (spelling xs)) (append-nil a) ∙
    slice_split_none slash (spelling a) (no_slash_all (spelling a) (no_slash_spelled a piece.no_slash))
pieces_of a (c ∷ word) piece all =
    ap (slice_split slash) (flat_map-append byte_spelling a (47 ∷ c ++ from_root word))
    ∙ slice_split_at slash (spelling a) 47 (spelling (c ++ from_root word)) (no_slash_all (spelling a) (no_slash_spelled a piece.no_slash))
    refl
    ∙ ap (λ ps. spelling a ∷ ps) (pieces_of c word all.0 all.1)

joined : (a : List ℕ) (word : Word) → join_with_byte 47 (map spelling (a ∷ word)) ≡ spelling (a ++ from_root word)
joined a [] = ap spelling (sym (append-nil a))
joined a (c ∷ word) = ap (λ t. spelling a ++ 47 ∷ t) (joined c word) ∙ sym (flat_map-append byte_spelling a (47 ∷ c ++ from_root word))

-- what is found passes

found_among : (test : List ℕ → Bool) (ms : List (List ℕ)) (a : List ℕ) → find test ms ≡ Some a → is_in_alphabet ms a ≡ true
found_among test [] a e = absurd (None≢Some a e)
found_among test (m ∷ ms) a e = by (test m) e (found_among test ms a)
  where
    by : (v : Bool) → cond v (Some m) (find test ms) ≡ Some a → (find test ms ≡ Some a → is_in_alphabet ms a ≡ true) →
        (same_bytes a m || is_in_alphabet ms a) ≡ true
    by true e rest = ap (λ v. v || is_in_alphabet ms a) ((bytes_eq-Decides a m).1 (sym (same_Some m a e)))
    by false e rest = or_right (same_bytes a m) (is_in_alphabet ms a) (rest e)

among_found : (ms : List (List ℕ)) (a : List ℕ) → is_in_alphabet ms a ≡ true → find (same_bytes a) ms ≡ Some a
among_found [] a e = absurd (false≢true e)
among_found (m ∷ ms) a e = by (same_bytes a m) refl e (among_found ms a)
  where
    by : (v : Bool) → same_bytes a m ≡ v → (v || is_in_alphabet ms a) ≡ true →
        (is_in_alphabet ms a ≡ true → find (same_bytes a) ms ≡ Some a) → cond v (Some m) (find (same_bytes a) ms) ≡ Some a
    by true is e rest = ap Some (sym ((bytes_eq-Decides a m).0 is))
    by false is e rest = rest e

among_letter : (ms : List (List ℕ)) → IsTrue (list_all is_letter ms) → (a : List ℕ) → is_in_alphabet ms a ≡ true → IsTrue (is_letter a)
among_letter [] all a e = absurd (false≢true e)
among_letter (m ∷ ms) all a e =
    by (same_bytes a m) refl e (and_parts (is_letter m) (list_all is_letter ms) all) (λ rest. among_letter ms rest a)
  where
    by : (v : Bool) → same_bytes a m ≡ v → (v || is_in_alphabet ms a) ≡ true → IsTrue (is_letter m) × IsTrue (list_all is_letter ms) →
        (IsTrue (list_all is_letter ms) → is_in_alphabet ms a ≡ true → IsTrue (is_letter a)) → IsTrue (is_letter a)
    by true is e parts rest = subst (λ b. IsTrue (is_letter b)) (sym ((bytes_eq-Decides a m).0 is)) parts.0
    by false is e parts rest = rest parts.1 e

-- a letter is spelled as nothing else is
not_spelled : (a q : List ℕ) → IsTrue (is_letter a) → IsTrue (list_all is_byte q) → is_letter q ≡ false → spelling a ≢ spelling q
not_spelled a q h bytes none e = false≢true (sym none ∙ subst (λ b. IsTrue (is_letter b)) (spelling_tells a q (letter_bytes a h) bytes e) h)

module _ (alphabet : List (List ℕ)) (letters : IsTrue (list_all is_letter alphabet)) where
  abbrev AreAmong : Word → Type 0
  AreAmong word = AllByRecursion (λ a. IsTrue (is_in_alphabet alphabet a)) word

  pieces_all : (word : Word) → AreAmong word → AllByRecursion IsPiece word
  pieces_all [] all = tt
  pieces_all (a ∷ word) all = (letter_is_piece a (among_letter alphabet letters a all.0), pieces_all word all.1)

  letter_read : (a : List ℕ) → IsTrue (is_in_alphabet alphabet a) → find (λ l. same_bytes (spelling l) (spelling a)) alphabet ≡ Some a
  letter_read a among =
      let bytes = letter_bytes a (among_letter alphabet letters a among) in
      sym (same_find (same_bytes a) (λ l. same_bytes (spelling l) (spelling a)) alphabet letters (spelled_same a (spelling a) refl bytes)) ∙
      among_found alphabet a among

  word_read : (word : Word) → AreAmong word → word_of_pieces alphabet (map spelling word) ≡ Some word
  word_read [] all = refl
  word_read (a ∷ word) all =
      ap (λ o. option_and_then (λ l. option_map (λ w. l ∷ w) (word_of_pieces alphabet (map spelling word))) o) (letter_read a all.0)
      ∙ ap (option_map (λ w. a ∷ w)) (word_read word all.1)

  word_spelled : (pieces : List (List ℕ)) (word : Word) → word_of_pieces alphabet pieces ≡ Some word →
      (pieces ≡ map spelling word) × AreAmong word
  word_spelled [] word e = subst (λ w. ([] ≡ map spelling w) × AreAmong w) (same_Some [] word e) (refl, tt)
  word_spelled (p ∷ ps) word e = by (find (λ l. same_bytes (spelling l) p) alphabet) refl (word_of_pieces alphabet ps) (word_spelled ps) e
    where
      by : (o : Option (List ℕ)) → find (λ l. same_bytes (spelling l) p) alphabet ≡ o → (q : Option Word) →
          ((v : Word) → q ≡ Some v → (ps ≡ map spelling v) × AreAmong v)
          → option_and_then (λ l. option_map (λ w. l ∷ w) q) o ≡ Some word → (p ∷ ps ≡ map spelling word) × AreAmong word
      by None is q rest e = absurd (None≢Some word e)
      by (Some a) is None rest e = absurd (None≢Some word e)
      by (Some a) is (Some v) rest e =
          let first : p ≡ spelling a =
          sym ((bytes_eq-Decides (spelling a) p).0 (first_passes (λ l. same_bytes (spelling l) p) alphabet a is)) in
          let more = rest v refl in
          subst (λ w. (p ∷ ps ≡ map spelling w) × AreAmong w) (same_Some (a ∷ v) word e) (
            (λ i. first i ∷ more.0 i),
            (found_among (λ l. same_bytes (spelling l) p) alphabet a is, more.1),
          )

  -- pieces between slashes are the printed path of their word, which has a letter
  pieces_spelled : (text : List ℕ) (word : Word) → word_of_pieces_between alphabet text ≡ Some word →
      (text ≡ printed_path Cwd word) × AreAmong word × (0 < length word)
  pieces_spelled text word e = by word (word_spelled (slice_split slash text) word e)
    where
      by : (word : Word) → (slice_split slash text ≡ map spelling word) × AreAmong word →
          (text ≡ printed_path Cwd word) × AreAmong word × (0 < length word)
      by [] r = absurd (omega (arith, length-slice_split slash text, ap length r.0))
      by (a ∷ v) r = (sym (join_with_byte-slice_split 47 text) ∙ ap (join_with_byte 47) r.0 ∙ joined a v, r.1, omega arith)

  from_slash : (word : Word) (text : List ℕ) → 0 < length word → text ≡ printed_path Cwd word → 47 ∷ text ≡ printed_path Root word
  from_slash [] text some e = absurd (omega (arith, some))
  from_slash (a ∷ word) text some e = ap (λ t. 47 ∷ t) e

  path_spelled : (base : Base) (path : List ℕ) (word : Word) → word_of_path base alphabet path ≡ Some word →
      (path ≡ printed_path base word) × AreAmong word
  path_spelled Root [] word e = absurd (None≢Some word e)
  path_spelled Root (b ∷ []) word e = by (slash b) refl e
    where
      by : (v : Bool) → slash b ≡ v → cond v (Some []) None ≡ Some word → (b ∷ [] ≡ printed_path Root word) × AreAmong word
      by true is e = subst (λ w. (b ∷ [] ≡ printed_path Root w) × AreAmong w) (same_Some [] word e) (
        ap (λ x. x ∷ []) (eqb-true b 47 is),
        tt,
      )
      by false is e = absurd (None≢Some word e)
  path_spelled Root (b ∷ c ∷ more) word e = by (slash b) refl e
    where
      by : (v : Bool) → slash b ≡ v → cond v (word_of_pieces_between alphabet (c ∷ more)) None ≡ Some word →
          (b ∷ c ∷ more ≡ printed_path Root word) × AreAmong word
      by true is e = let r = pieces_spelled (c ∷ more) word e in
          (ap (λ x. x ∷ c ∷ more) (eqb-true b 47 is) ∙ from_slash word (c ∷ more) r.2 r.0, r.1)
      by false is e = absurd (None≢Some word e)
  path_spelled Cwd text word e = by (same_bytes text (codes ".")) refl e
    where
      by : (v : Bool) → same_bytes text (codes ".") ≡ v → cond v (Some []) (word_of_pieces_between alphabet text) ≡ Some word →
          (text ≡ printed_path Cwd word) × AreAmong word
      by true is e = subst (λ w. (text ≡ printed_path Cwd w) × AreAmong w) (same_Some [] word e) (
        (bytes_eq-Decides text (codes ".")).0 is,
        tt,
      )
      by false is e = let r = pieces_spelled text word e in (r.0, r.1)

  module _ (a : List ℕ) (word : Word) (all : AreAmong (a ∷ word)) where
    abbrev text : List ℕ
    text = spelling (a ++ from_root word)

    split : slice_split slash text ≡ map spelling (a ∷ word)
    split = let pieces = pieces_all (a ∷ word) all in pieces_of a word pieces.0 pieces.1

    -- it is no text of one piece that spells no letter
    not_text : (q : List ℕ) → IsTrue (list_all is_byte q) → is_letter q ≡ false → slice_split slash q ≡ q ∷ [] → spelling q ≡ q → text ≢ q
    not_text q bytes none whole plain e =
        let first : spelling a ≡ q = ap (λ l. get_or l 0 []) (sym split ∙ ap (slice_split slash) e ∙ whole) in
        not_spelled a q (among_letter alphabet letters a all.0) bytes none (first ∙ sym plain)

    between : word_of_pieces_between alphabet text ≡ Some (a ∷ word)
    between = ap (word_of_pieces alphabet) split ∙ word_read (a ∷ word) all

  behind_slash : (rest : List ℕ) → rest ≢ [] → word_of_path Root alphabet (47 ∷ rest) ≡ word_of_pieces_between alphabet rest
  behind_slash [] some = absurd (some refl)
  behind_slash (c ∷ more) some = refl

  path_read : (base : Base) (word : Word) → AreAmong word → word_of_path base alphabet (printed_path base word) ≡ Some word
  path_read Root [] all = refl
  path_read Root (a ∷ word) all = behind_slash (text a word all) (not_text a word all [] refl refl refl refl) ∙ between a word all
  path_read Cwd [] all = refl
  path_read Cwd (a ∷ word) all =
      ap (λ v. cond v (Some []) (word_of_pieces_between alphabet (text a word all)))
      (other_word (text a word all) (codes ".") (not_text a word all (codes ".") refl refl refl refl))
      ∙ between a word all

  printed_some : (base : Base) (word : Word) → AreAmong word → [] ≢ printed_path base word
  printed_some Root [] all e = cc
  printed_some Root (a ∷ word) all e = cc
  printed_some Cwd [] all e = cc
  printed_some Cwd (a ∷ word) all e = not_text a word all [] refl refl refl refl (sym e)

-- the call's name

call_read : (c : Call) → (list_any colon (call_name c) ≡ false) × (call_of_name (call_name c) ≡ Some c)
call_read Stat = (refl, refl)
call_read _ = (refl, refl)

-- a text cut at its first colon

first_colon : (x z : List ℕ) → list_any colon x ≡ false → position_or_len colon (x ++ 58 ∷ z) ≡ length x
first_colon [] z h = refl
first_colon (b ∷ x) z h =
    let parts = or_parts (colon b) (list_any colon x) h in
    ap (λ v. cond (not v) (1 + position_or_len colon (x ++ 58 ∷ z)) 0) parts.0 ∙ ap (λ n. 1 + n) (first_colon x z parts.1) ∙
    one-add (length x)

cut : (x z : List ℕ) → list_any colon x ≡ false → (before_first colon (x ++ 58 ∷ z) ≡ x) × (after_first colon (x ++ 58 ∷ z) ≡ z)
cut x z h = (
  ap (λ n. take n (x ++ 58 ∷ z)) (first_colon x z h) ∙ take-append_seam x (58 ∷ z),
  ap (λ n. drop (n + 1) (x ++ 58 ∷ z)) (first_colon x z h) ∙ drop-append-add x (58 ∷ z) 1,
)

module _ (s : Scope) (letters : IsTrue (list_all is_letter s.alphabet)) (text : List ℕ) (pair : Pair) where
  abbrev front : List ℕ
  front = before_first colon text

  abbrev back : List ℕ
  back = after_first colon text

  abbrev IsNamed : Pair → Type 0
  IsNamed p = IsWord s p.0 × IsTrue (is_known s.table p.1) × (text ≡ pair_text s.base p)

  -- a call that the table has, by its name
  had : (c : Call) → call_in s.table front ≡ Some c → (call_of_name front ≡ Some c) × IsTrue (is_known s.table c)
  had c is = only_if_read (is_known s.table) (call_of_name front) c is

  whole : (c : Call) (w : Word) → call_in s.table front ≡ Some c → word_of_path s.base s.alphabet back ≡ Some w → text ≡ pair_text s.base (w, c)
  whole c w is there =
      let path = path_spelled s.alphabet letters s.base back w there in
      let name : front ≡ call_name c =
      sym ((bytes_eq-Decides (call_name c) front).0 (first_passes (λ call. same_bytes (call_name call) front) calls c (had c is).0)) in
      elim (cases_lt (position_or_len colon text) (length text)) [
        | inl h ↦
            split_at_first colon text 0 h
            ∙ (λ i. name i ++ eqb-true (get_or text (position_or_len colon text) 0) 58 (passes_at_first colon text 0 h) i ∷ path.0 i)
        | inr past ↦
            let none : back ≡ [] = drop_all (position_or_len colon text + 1) text (omega (arith, past)) in
            absurd (printed_some s.alphabet letters s.base w path.1 (sym none ∙ path.0))
      ]

  within : (c : Call) (w : Word) (v : Bool) → nat_le (length w) s.limit ≡ v → call_in s.table front ≡ Some c →
      word_of_path s.base s.alphabet back ≡ Some w
      → option_map {U = Pair} (λ word. (word, c)) (cond v (Some w) None) ≡ Some pair → IsNamed pair
  within c w true short is there e =
      let path = path_spelled s.alphabet letters s.base back w there in
      subst IsNamed (same_Some (w, c) pair e) (record { within = leb-true (length w) s.limit short; letters = path.1 }, (had c is).1, whole c w is there)
  within c w false short is there e = absurd (None≢Some pair e)

  by_parts : (c : Option Call) → call_in s.table front ≡ c → (w : Option Word) → word_of_path s.base s.alphabet back ≡ w
      → option_and_then {U = Pair} (λ call. option_map (λ word. (word, call)) (word_within s.limit w)) c ≡ Some pair → IsNamed pair
  by_parts None is w there e = absurd (None≢Some pair e)
  by_parts (Some c) is None there e = absurd (None≢Some pair e)
  by_parts (Some c) is (Some w) there e = within c w (nat_le (length w) s.limit) refl is there e

  named : resume_pair s text ≡ Some pair → IsNamed pair
  named e = by_parts (call_in s.table front) refl (word_of_path s.base s.alphabet back) refl e

  read : IsNamed pair → resume_pair s text ≡ Some pair
  read h =
      let cutted = cut (call_name pair.1) (printed_path s.base pair.0) (call_read pair.1).0 in
      ap (resume_pair s) h.2
      ∙ (λ i. option_and_then
      (λ call. option_map (λ word. (word, call)) (word_within s.limit (word_of_path s.base s.alphabet (cutted.1 i))))
      (call_in s.table (cutted.0 i)))
      ∙ (λ i. option_and_then
      (λ call. option_map (λ word. (word, call)) (word_within s.limit (path_read s.alphabet letters s.base pair.0 h.0.letters i)))
      (only_if (is_known s.table) ((call_read pair.1).1 i)))
      ∙ ap (λ b. option_and_then (λ call. option_map (λ word. (word, call)) (word_within s.limit (Some pair.0)))
      (cond b (Some pair.1) None)) h.1
      ∙ ap (λ v. option_map (λ word. (word, pair.1)) (cond v (Some pair.0) None)) (le-leb (length pair.0) s.limit h.0.within)

pub resume_texts_name : ResumeTextsName
resume_texts_name s text pair letters = (named s letters text pair, read s letters text pair)
