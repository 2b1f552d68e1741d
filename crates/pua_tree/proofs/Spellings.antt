-- Each byte string has one spelling, each number one decimal, and fields are what stands between spaces.
use Rattle.pua_tree.proofs.Common.{◌≡◌, ℕ, zero, suc, ◌+◌, ◌-◌, ◌*◌, ◌^◌, ◌<◌, ◌≤◌, Bool, true, false, cond, not, ◌&&◌, ◌||◌, eqb, leb, ltb}
use Rattle.pua_tree.proofs.Common.{List, [], ◌∷◌, ◌++◌, length, drop, get_or, Option, Some, None, Ok, Err, refl, sym, ap, subst, ◌∙◌, arith}
use Rattle.pua_tree.proofs.Common.{true≢false, ◌⊎◌, inl, inr, rules, IsTrue, list_all, onto_first, lt-ltb, le-leb, leb-true, ltb-true}
use Rattle.pua_tree.proofs.Common.{le-ltb, eqb-false, ne_eqb, and_parts, and_from, not-true, or_cases, cond-true, cond-false, length-append}
use Rattle.pua_tree.proofs.Common.{is_name, same_bytes, has_byte, is_plain, with_front, bytes_spelled, name_of, name_of_bytes, fields}
use Rattle.pua_tree.proofs.Common.{is_field, decimal_value, number_within}
use Rattle.std.proofs.Common.{◌/◌, ◌%◌}
use Rattle.std.proofs.Common.{decimal, fold}
use Rattle.std.proofs.Common.{pos_of_ne-zero}
use Rattle.std.specs.List.{join_with_byte}
use Rattle.std.proofs.lemmas.Bool.{eq-eqb, eqb-true}
use Rattle.std.proofs.lemmas.Bool.{not_from_false, or_left, or_right, cases_eq}
use Rattle.std.proofs.lemmas.List.Folds.{list_all-append}
use Rattle.std.proofs.lemmas.List.Splits.{join_with_byte-slice_split}
use Rattle.std.proofs.lemmas.Str.Parse.{IsNumeralModel, numerals_by_fold}
use Rattle.std.proofs.lemmas.Fmt.{decimal_digit, digits_decimal, digits_value-decimal, decimal-digits_value, decimal_nonempty}
use Rattle.std.proofs.lemmas.Fmt.{first_decimal}
use Rattle.pua_tree.specs.Names.{is_name_byte}
use Rattle.pua_tree.specs.Spelling.{byte_spelling, spelling, is_octal, escaped_byte, front_byte, unspelled_from}
use Rattle.pua_tree.specs.Spelling.{is_digit, is_decimal}
use Rattle.pua_tree.specs.declared.fault.NameFault.TheVariants.{BadSpelling, Empty, TooLong, NotAName}
pub use Rattle.pua_tree.proofs.Base.{same_Some, None≢Some, guarded, Err≢Ok, same_Ok, passed, tested}

-- a byte is below 256
abbrev pub is_byte : ℕ → Bool
is_byte b = ltb b 256

-- a byte that a field may have
abbrev pub is_visible : ℕ → Bool
is_visible b = leb 33 b && leb b 126

no_backslash : (b : ℕ) → IsTrue (is_plain b) → eqb b 92 ≡ false
no_backslash b h = not-true _ (and_parts (leb b 126) _ (and_parts (leb 33 b) _ h).1).1

octal : (d : ℕ) → d < 8 → IsTrue (is_octal (48 + d))
octal d h = and_from _ _ (le-leb 48 (48 + d) (omega arith)) (le-leb (48 + d) 55 (omega (arith, h)))

-- the front of a spelling gives its byte
unspelled_plain : (b : ℕ) (more : List ℕ) → IsTrue (is_plain b) → bytes_spelled (b ∷ more) ≡ with_front (Some b) (bytes_spelled more)
unspelled_plain b more h =
    ap (λ t. with_front (cond t (escaped_byte more) (cond (is_plain b) (Some b) None)) (unspelled_from (cond t 3 0) more))
    (no_backslash b h)
    ∙ ap (λ t. with_front (cond t (Some b) None) (unspelled_from 0 more)) h

-- a text of plain bytes spells itself
pub unspelled_as_it_stands : (text : List ℕ) → IsTrue (list_all is_plain text) → bytes_spelled text ≡ Some text
unspelled_as_it_stands [] h = refl
unspelled_as_it_stands (b ∷ more) h =
    let parts = and_parts (is_plain b) (list_all is_plain more) h in
    unspelled_plain b more parts.0 ∙ ap (with_front (Some b)) (unspelled_as_it_stands more parts.1)

unspelled_escaped : (b : ℕ) (more : List ℕ) → b < 256 → is_plain b ≡ false →
    bytes_spelled ((92 ∷ (48 + b / 64) ∷ (48 + b / 8 % 8) ∷ (48 + b % 8) ∷ []) ++ more) ≡ with_front (Some b) (bytes_spelled more)
unspelled_escaped b more h p = ap (λ o. with_front o (bytes_spelled more)) (go _ value)
  where
    value : 64 * ((48 + b / 64) - 48) + 8 * ((48 + b / 8 % 8) - 48) + ((48 + b % 8) - 48) ≡ b
    value = omega arith

    go : (v : ℕ) → v ≡ b →
        cond (is_octal (48 + b / 64) && (is_octal (48 + b / 8 % 8) && (is_octal (48 + b % 8) && (leb v 255 && not (is_plain v))))) (Some v)
        None ≡ Some b
    go v e =
        ap (λ t. cond t (Some v) None)
        (and_from _ _ (octal (b / 64) (omega (arith, h)))
        (and_from _ _ (octal (b / 8 % 8) (omega arith)) (and_from _ _ (octal (b % 8) (omega arith))
        (and_from _ _ (le-leb v 255 (omega (arith, e, h))) (not_from_false _ (ap is_plain e ∙ p))))))
        ∙ ap Some e

unspelled_front : (b : ℕ) (more : List ℕ) → b < 256 → bytes_spelled (byte_spelling b ++ more) ≡ with_front (Some b) (bytes_spelled more)
unspelled_front b more h =
    elim (is_plain b) as (λ t. is_plain b ≡ t →
    bytes_spelled (cond t (b ∷ []) (92 ∷ (48 + b / 64) ∷ (48 + b / 8 % 8) ∷ (48 + b % 8) ∷ []) ++ more)
    ≡ with_front (Some b) (bytes_spelled more)) [
      | true ↦ λ p. unspelled_plain b more p
      | false ↦ λ p. unspelled_escaped b more h p
    ] refl

-- a spelling is read back
pub unspelled-spelling : (bs : List ℕ) → IsTrue (list_all is_byte bs) → bytes_spelled (spelling bs) ≡ Some bs
unspelled-spelling [] h = refl
unspelled-spelling (b ∷ bs) h =
    let parts = and_parts (is_byte b) (list_all is_byte bs) h in
    unspelled_front b (spelling bs) (ltb-true b 256 parts.0) ∙ ap (with_front (Some b)) (unspelled-spelling bs parts.1)

digit_of : (x : ℕ) → IsTrue (is_octal x) → (48 ≤ x) × (x ≤ 55)
digit_of x h = (leb-true 48 x (and_parts _ _ h).0, leb-true x 55 (and_parts (leb 48 x) (leb x 55) h).1)

three_digits : (x y z v : ℕ) → (48 ≤ x) × (x ≤ 55) → (48 ≤ y) × (y ≤ 55) → (48 ≤ z) × (z ≤ 55) →
    64 * (x - 48) + 8 * (y - 48) + (z - 48) ≡ v → (x ≡ 48 + v / 64) × (y ≡ 48 + v / 8 % 8) × (z ≡ 48 + v % 8)
three_digits x y z v a b c e = (omega arith, omega arith, omega arith)

-- an escape that was read as a byte is that byte's spelling
escape_read : (more : List ℕ) (v : ℕ) → escaped_byte more ≡ Some v → (v < 256) × (92 ∷ more ≡ byte_spelling v ++ drop 3 more)
escape_read [] v e = absurd (None≢Some v e)
escape_read (x ∷ []) v e = absurd (None≢Some v e)
escape_read (x ∷ y ∷ []) v e = absurd (None≢Some v e)
escape_read (x ∷ y ∷ z ∷ rest) v e =
    let w : ℕ = 64 * (x - 48) + 8 * (y - 48) + (z - 48) in
    let read : IsTrue (is_octal x && (is_octal y && (is_octal z && (leb w 255 && not (is_plain w))))) × (w ≡ v) =
    guarded (is_octal x && (is_octal y && (is_octal z && (leb w 255 && not (is_plain w))))) w v e in
    let first = and_parts (is_octal x) (is_octal y && (is_octal z && (leb w 255 && not (is_plain w)))) read.0 in
    let second = and_parts (is_octal y) (is_octal z && (leb w 255 && not (is_plain w))) first.1 in
    let third = and_parts (is_octal z) (leb w 255 && not (is_plain w)) second.1 in
    let last = and_parts (leb w 255) (not (is_plain w)) third.1 in
    let hidden : is_plain v ≡ false = ap is_plain (sym read.1) ∙ not-true _ last.1 in
    let same = three_digits x y z v (digit_of x first.0) (digit_of y second.0) (digit_of z third.0) read.1 in (
      omega (arith, leb-true w 255 last.0, read.1),
      (λ i. 92 ∷ same.0 i ∷ same.1 i ∷ same.2 i ∷ rest) ∙
          ap (λ t. cond t (v ∷ []) (92 ∷ (48 + v / 64) ∷ (48 + v / 8 % 8) ∷ (48 + v % 8) ∷ []) ++ rest) (sym hidden),
    )

front_read : (b v : ℕ) (more : List ℕ) → front_byte b more ≡ Some v →
    (v < 256) × (b ∷ more ≡ byte_spelling v ++ drop (cond (eqb b 92) 3 0) more)
front_read b v more e = go (eqb b 92) refl
  where
    go : (t : Bool) → eqb b 92 ≡ t → (v < 256) × (b ∷ more ≡ byte_spelling v ++ drop (cond (eqb b 92) 3 0) more)
    go true q =
        let read = escape_read more v (ap (λ t. cond t (escaped_byte more) (cond (is_plain b) (Some b) None)) (sym q) ∙ e) in
        (read.0, ap (λ x. x ∷ more) (eqb-true b 92 q) ∙ read.1 ∙ ap (λ t. byte_spelling v ++ drop (cond t 3 0) more) (sym q))
    go false q =
        let read = guarded (is_plain b) b v (ap (λ t. cond t (escaped_byte more) (cond (is_plain b) (Some b) None)) (sym q) ∙ e) in (
          omega (arith, read.1, leb-true b 126 (and_parts (leb b 126) _ (and_parts (leb 33 b) _ read.0).1).0),
          ap (λ x. x ∷ more) read.1 ∙
              ap (λ t. cond t (v ∷ []) (92 ∷ (48 + v / 64) ∷ (48 + v / 8 % 8) ∷ (48 + v % 8) ∷ []) ++ more) (sym (ap is_plain (sym read.1) ∙
              read.0)) ∙ ap (λ t. byte_spelling v ++ drop (cond t 3 0) more) (sym q),
        )

both_read : (front : Option ℕ) (rest : Option (List ℕ)) (bs : List ℕ) → with_front front rest ≡ Some bs →
    (v : ℕ) × (vs : List ℕ) × (front ≡ Some v) × (rest ≡ Some vs) × (bs ≡ v ∷ vs)
both_read None rest bs e = absurd (None≢Some bs e)
both_read (Some v) None bs e = absurd (None≢Some bs e)
both_read (Some v) (Some vs) bs e = (v, vs, refl, refl, same_Some bs (v ∷ vs) (sym e))

text_read : (skipped : ℕ) (text bs : List ℕ) → unspelled_from skipped text ≡ Some bs →
    (drop skipped text ≡ spelling bs) × IsTrue (list_all is_byte bs)
text_read zero [] bs e = subst (λ l. ([] ≡ spelling l) × IsTrue (list_all is_byte l)) (same_Some [] bs e) (refl, refl)
text_read (suc k) [] bs e = subst (λ l. ([] ≡ spelling l) × IsTrue (list_all is_byte l)) (same_Some [] bs e) (refl, refl)
text_read (suc k) (b ∷ more) bs e = text_read k more bs e
text_read zero (b ∷ more) bs e =
    let both = both_read (front_byte b more) (unspelled_from (cond (eqb b 92) 3 0) more) bs e in
    let front = front_read b both.0 more both.2 in
    let rest = text_read (cond (eqb b 92) 3 0) more both.1 both.3 in
    subst (λ l. (b ∷ more ≡ spelling l) × IsTrue (list_all is_byte l)) (sym both.4)
    (front.1 ∙ ap (λ l. byte_spelling both.0 ++ l) rest.0, and_from _ _ (lt-ltb both.0 256 front.0) rest.1)

-- what a text spells is spelled by that text alone, and is made of bytes
pub spelling-unspelled : (text bs : List ℕ) → bytes_spelled text ≡ Some bs → text ≡ spelling bs
spelling-unspelled text bs e = (text_read 0 text bs e).0

pub bytes_unspelled : (text bs : List ℕ) → bytes_spelled text ≡ Some bs → IsTrue (list_all is_byte bs)
bytes_unspelled text bs e = (text_read 0 text bs e).1

-- bytes that have one spelling are the same
pub spelling_tells : (bs cs : List ℕ) → IsTrue (list_all is_byte bs) → IsTrue (list_all is_byte cs) → spelling bs ≡ spelling cs → bs ≡ cs
spelling_tells bs cs h k e = same_Some bs cs (sym (unspelled-spelling bs h) ∙ ap bytes_spelled e ∙ unspelled-spelling cs k)

-- a name is made of bytes, and has neither a slash nor a NUL
name_bytes : (n : List ℕ) → IsTrue (list_all is_name_byte n) → IsTrue (list_all is_byte n) × (has_byte 47 n ≡ false)
name_bytes [] h = (refl, refl)
name_bytes (b ∷ n) h =
    let parts = and_parts (is_name_byte b) (list_all is_name_byte n) h in
    let first = and_parts (ltb b 256) (not (eqb b 47)) (and_parts (ltb 0 b) _ parts.0).1 in
    let rest = name_bytes n parts.1 in
    (and_from _ _ first.0 rest.0, λ i. not-true _ first.1 i || rest.1 i)

name_parts : (n : List ℕ) → IsTrue (is_name n) → (0 < length n) × (length n ≤ 255) × IsTrue (list_all is_name_byte n)
name_parts n h =
    let first = and_parts (ltb 0 (length n)) (leb (length n) 255
    && (list_all is_name_byte n && (not (same_bytes n (46 ∷ [])) && not (same_bytes n (46 ∷ 46 ∷ []))))) h in
    let second = and_parts (leb (length n) 255) (list_all is_name_byte n
    && (not (same_bytes n (46 ∷ [])) && not (same_bytes n (46 ∷ 46 ∷ [])))) first.1 in (
      ltb-true 0 (length n) first.0,
      leb-true (length n) 255 second.0,
      (and_parts (list_all is_name_byte n) (not (same_bytes n (46 ∷ [])) && not (same_bytes n (46 ∷ 46 ∷ []))) second.1).0,
    )

pub name_is_bytes : (n : List ℕ) → IsTrue (is_name n) → IsTrue (list_all is_byte n)
name_is_bytes n h = (name_bytes n (name_parts n h).2).0

-- a name's spelling is read back
pub name_of-spelling : (n : List ℕ) → IsTrue (is_name n) → name_of (spelling n) ≡ Ok n
name_of-spelling n h =
    let parts = name_parts n h in
    ap name_of_bytes (unspelled-spelling n (name_is_bytes n h))
    ∙ cond-false (has_byte 47 n) (Err BadSpelling) _ (name_bytes n parts.2).1
    ∙ cond-false (eqb (length n) 0) (Err Empty) _ (ne_eqb (length n) 0 (λ e. omega (arith, e, parts.0)))
    ∙ cond-false (ltb 255 (length n)) (Err TooLong) _ (le-ltb 255 (length n) parts.1)
    ∙ cond-true (is_name n) (Ok n) (Err NotAName) h

-- a text that is read as a name is its spelling
pub name_read : (text n : List ℕ) → name_of text ≡ Ok n → (text ≡ spelling n) × IsTrue (is_name n)
name_read text n e = go (bytes_spelled text) refl e
  where
    go : (o : Option (List ℕ)) → bytes_spelled text ≡ o → name_of_bytes o ≡ Ok n → (text ≡ spelling n) × IsTrue (is_name n)
    go None q e = absurd (Err≢Ok BadSpelling n e)
    go (Some m) q e =
        let named = tested (is_name m) NotAName m n
        (passed (ltb 255 (length m)) TooLong _ n (passed (eqb (length m) 0) Empty _ n (passed (has_byte 47 m) BadSpelling _ n e))) in
        (spelling-unspelled text m q ∙ ap spelling named.1, subst (λ l. IsTrue (is_name l)) named.1 named.0)

-- the number that a decimal writes
own : IsNumeralModel (λ ds. IsTrue (list_all is_digit ds)) decimal_value
own = numerals_by_fold (λ ds. IsTrue (list_all is_digit ds)) (search rules) (λ n ds. fold (λ m b. 10 * m + (b - 48)) n ds) (search rules)

pub is_decimal-decimal : (n : ℕ) → n < 2 ^ 64 → IsTrue (is_decimal (decimal n))
is_decimal-decimal n small = go (decimal n) (decimal_nonempty n small) (digits_decimal own n small) (lead (cases_eq n 0))
  where
    lead : (n ≡ 0) ⊎ (n ≡ 0 → ⊥) → (48 < get_or (decimal n) 0 0) ⊎ (length (decimal n) ≡ 1)
    lead (inl e) = inr (ap (λ m. length (decimal m)) e ∙ ap length (decimal_digit 0 (omega arith)))
    lead (inr e) = inl (first_decimal n (pos_of_ne-zero e) small)

    go : (ds : List ℕ) → 0 < length ds → IsTrue (list_all is_digit ds) → (48 < get_or ds 0 0) ⊎ (length ds ≡ 1) → IsTrue (is_decimal ds)
    go [] some d l = absurd (omega arith)
    go (b ∷ more) some d (inl l) =
        and_from (list_all is_digit (b ∷ more)) _ d (or_left _ _ (not_from_false _ (ne_eqb b 48 (λ e. omega (arith, e, l)))))
    go (b ∷ more) some d (inr l) =
        and_from (list_all is_digit (b ∷ more)) _ d (or_right (not (eqb b 48)) _ (eq-eqb (length more) 0 (omega (arith, l))))

pub decimal_within : (low high n : ℕ) → low ≤ n → n ≤ high → n < 2 ^ 64 → number_within low high (decimal n) ≡ Some n
decimal_within low high n a b small =
    let value : decimal_value (decimal n) ≡ n = digits_value-decimal own n small in
    cond-true (is_decimal (decimal n) && (leb low (decimal_value (decimal n)) && leb (decimal_value (decimal n)) high))
    (Some (decimal_value (decimal n))) None
    (and_from _ _ (is_decimal-decimal n small) (and_from _ _ (le-leb low _ (omega (arith, value, a)))
    (le-leb _ high (omega (arith, value, b)))))
    ∙ ap Some value

pub number_read : (low high : ℕ) (text : List ℕ) (n : ℕ) → high < 2 ^ 64 → number_within low high text ≡ Some n →
    (text ≡ decimal n) × (low ≤ n) × (n ≤ high)
number_read low high text n small e =
    let read = guarded (is_decimal text && (leb low (decimal_value text) && leb (decimal_value text) high)) (decimal_value text) n e in
    let parts = and_parts (is_decimal text) (leb low (decimal_value text) && leb (decimal_value text) high) read.0 in
    let bounds = and_parts (leb low (decimal_value text)) (leb (decimal_value text) high) parts.1 in
    let above = leb-true low (decimal_value text) bounds.0 in
    let below = leb-true (decimal_value text) high bounds.1 in (
      sym (written text parts.0 (omega (arith, below, small))) ∙ ap decimal read.1,
      omega (arith, above, read.1),
      omega (arith, below, read.1),
    )
  where
    written : (ds : List ℕ) → IsTrue (is_decimal ds) → decimal_value ds < 2 ^ 64 → decimal (decimal_value ds) ≡ ds
    written [] d l = absurd (true≢false (sym d))
    written (b ∷ more) d l =
        let parts = and_parts (list_all is_digit (b ∷ more)) (not (eqb b 48) || eqb (length more) 0) d in
        decimal-digits_value own (b ∷ more) parts.0 (omega arith) (λ z. alone b more z (or_cases _ _ parts.1)) l
      where
        alone : (b : ℕ) (more : List ℕ) → b ≡ 48 → IsTrue (not (eqb b 48)) ⊎ IsTrue (eqb (length more) 0) → suc (length more) ≡ 1
        alone b more z (inl p) = absurd (eqb-false b 48 (not-true _ p) z)
        alone b more z (inr p) = omega (arith, eqb-true (length more) 0 p)

-- a field stands between spaces
pub fields_cons : (a b : List ℕ) → IsTrue (list_all is_visible a) → fields (a ++ 32 ∷ b) ≡ a ∷ fields b
fields_cons [] b h = refl
fields_cons (x ∷ a) b h =
    let parts = and_parts (is_visible x) (list_all is_visible a) h in
    ap (λ t. cond t ([] ∷ fields (a ++ 32 ∷ b)) (onto_first x (fields (a ++ 32 ∷ b))))
    (ne_eqb x 32 (λ e. omega (arith, e, leb-true 33 x (and_parts (leb 33 x) (leb x 126) parts.0).0)))
    ∙ ap (onto_first x) (fields_cons a b parts.1)

pub fields_one : (a : List ℕ) → IsTrue (list_all is_visible a) → fields a ≡ a ∷ []
fields_one [] h = refl
fields_one (x ∷ a) h =
    let parts = and_parts (is_visible x) (list_all is_visible a) h in
    ap (λ t. cond t ([] ∷ fields a) (onto_first x (fields a)))
    (ne_eqb x 32 (λ e. omega (arith, e, leb-true 33 x (and_parts (leb 33 x) (leb x 126) parts.0).0)))
    ∙ ap (onto_first x) (fields_one a parts.1)

pub fields_joined : (line : List ℕ) → join_with_byte 32 (fields line) ≡ line
fields_joined line = join_with_byte-slice_split 32 line

visible_digits : (ds : List ℕ) → IsTrue (list_all is_digit ds) → IsTrue (list_all is_visible ds)
visible_digits [] h = refl
visible_digits (d ∷ ds) h =
    let parts = and_parts (is_digit d) (list_all is_digit ds) h in
    let bounds = and_parts (leb 48 d) (leb d 57) parts.0 in
    let low : 48 ≤ d = leb-true 48 d bounds.0 in
    let high : d ≤ 57 = leb-true d 57 bounds.1 in
    and_from _ _ (and_from _ _ (le-leb 33 d (omega arith)) (le-leb d 126 (omega arith))) (visible_digits ds parts.1)

pub visible_decimal : (n : ℕ) → n < 2 ^ 64 → IsTrue (list_all is_visible (decimal n))
visible_decimal n small = visible_digits (decimal n) (digits_decimal own n small)

visible_byte : (b : ℕ) → b < 256 → (0 < length (byte_spelling b)) × IsTrue (list_all is_visible (byte_spelling b))
visible_byte b h =
    elim (is_plain b) as (λ t. is_plain b ≡ t → (0 < length (cond t (b ∷ []) (92 ∷ (48 + b / 64) ∷ (48 + b / 8 % 8) ∷ (48 + b % 8) ∷ []))) ×
    IsTrue (list_all is_visible (cond t (b ∷ []) (92 ∷ (48 + b / 64) ∷ (48 + b / 8 % 8) ∷ (48 + b % 8) ∷ [])))) [
      | true ↦ λ p. let parts = and_parts (leb 33 b) (leb b 126 && not (eqb b 92)) p in
          (omega arith, and_from _ _ (and_from _ _ parts.0 (and_parts (leb b 126) _ parts.1).0) refl)
      | false ↦ λ p. (
        omega arith,
        and_from _ _ (shown (b / 64) (omega (arith, h)))
            (and_from _ _ (shown (b / 8 % 8) (omega arith)) (and_from _ _ (shown (b % 8) (omega arith)) refl)),
      )
    ] refl
  where
    shown : (d : ℕ) → d < 8 → IsTrue (is_visible (48 + d))
    shown d l = and_from _ _ (le-leb 33 (48 + d) (omega arith)) (le-leb (48 + d) 126 (omega (arith, l)))

pub visible_spelling : (bs : List ℕ) → IsTrue (list_all is_byte bs) → IsTrue (list_all is_visible (spelling bs))
visible_spelling [] h = refl
visible_spelling (b ∷ bs) h =
    let parts = and_parts (is_byte b) (list_all is_byte bs) h in
    list_all-append is_visible (byte_spelling b) (spelling bs) ∙
    and_from _ _ (visible_byte b (ltb-true b 256 parts.0)).1 (visible_spelling bs parts.1)

pub is_field-decimal : (n : ℕ) → n < 2 ^ 64 → IsTrue (is_field (decimal n))
is_field-decimal n small = and_from _ _ (lt-ltb 0 _ (decimal_nonempty n small)) (visible_decimal n small)

pub is_field-spelling : (bs : List ℕ) → 0 < length bs → IsTrue (list_all is_byte bs) → IsTrue (is_field (spelling bs))
is_field-spelling [] some h = absurd (omega arith)
is_field-spelling (b ∷ bs) some h =
    let first = visible_byte b (ltb-true b 256 (and_parts (is_byte b) (list_all is_byte bs) h).0) in
    and_from _ _ (lt-ltb 0 _ (omega (arith, first.0, length-append (byte_spelling b) (spelling bs)))) (visible_spelling (b ∷ bs) h)
