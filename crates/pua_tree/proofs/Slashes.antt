-- A slash stands for itself, so a spelling has one exactly where its bytes have one.
use Rattle.pua_tree.proofs.Common.{◌≡◌, ◌≢◌, ℕ, ◌+◌, ◌-◌, ◌*◌, Bool, true, false, ◌&&◌, ◌||◌, ◌==◌, List, [], ◌∷◌, Option, Some, None, refl}
use Rattle.pua_tree.proofs.Common.{sym, ap, ◌∙◌, arith, cond, inl, inr, subst, nat_le, not, ne_eqb, and_parts, has_byte, bytes_spelled}
use Rattle.pua_tree.proofs.Common.{with_front, is_plain}
use Rattle.std.proofs.lemmas.Bool.{cases_eq}
use Rattle.std.proofs.lemmas.Bool.Decides.{nat_tests}
use Rattle.pua_tree.specs.Spelling.{unspelled_from, escaped_byte, is_octal}
use Rattle.pua_tree.proofs.Base.{guarded}

-- a front and what is after it, where both are spelled
fronts : (front : Option ℕ) (behind : Option (List ℕ)) (bytes : List ℕ) → with_front front behind ≡ Some bytes
    → (b : ℕ) × (rest : List ℕ) × (front ≡ Some b) × (behind ≡ Some rest) × (b ∷ rest ≡ bytes)
fronts (Some b) (Some rest) bytes e = let same : b ∷ rest ≡ bytes = cc in (b, rest, refl, refl, same)
fronts (Some b) None bytes e = cc
fronts None behind bytes e = cc

-- a byte that stands for itself
slash-plain : (x : ℕ) (more bytes : List ℕ) → x ≢ 92 → ((rest : List ℕ) → bytes_spelled more ≡ Some rest →
    has_byte 47 rest ≡ has_byte 47 more)
    → bytes_spelled (x ∷ more) ≡ Some bytes → has_byte 47 bytes ≡ has_byte 47 (x ∷ more)
slash-plain x more bytes ne behind e =
    let no : (x == 92) ≡ false = ne_eqb x 92 ne in
    let at : with_front (cond (is_plain x) (Some x) None) (bytes_spelled more) ≡ Some bytes =
    sym (λ i. with_front (cond (no i) (escaped_byte more) (cond (is_plain x) (Some x) None)) (unspelled_from (cond (no i) 3 0) more)) ∙ e in
    let parts = fronts (cond (is_plain x) (Some x) None) (bytes_spelled more) bytes at in
    let same = guarded (is_plain x) x parts.0 parts.2 in
    let tail = behind parts.1 parts.3 in
    sym (ap (has_byte 47) parts.4) ∙ (λ i. (sym same.1 i == 47) || tail i)

-- a digit is no slash
octal-slash : (a : ℕ) → is_octal a ≡ true → (a == 47) ≡ false
octal-slash a e = grind (arith, nat_tests)

-- what is escaped is no slash
escaped-slash : (v : ℕ) → not (is_plain v) ≡ true → (v == 47) ≡ false
escaped-slash v e = ne_eqb v 47 (λ same. let plain : not (is_plain 47) ≡ true = rw same at e in cc)

slash-escaped : (a b c : ℕ) (more bytes : List ℕ) → ((rest : List ℕ) → bytes_spelled more ≡ Some rest → has_byte 47 rest ≡ has_byte 47 more)
    → bytes_spelled (92 ∷ a ∷ b ∷ c ∷ more) ≡ Some bytes → has_byte 47 bytes ≡ has_byte 47 (92 ∷ a ∷ b ∷ c ∷ more)
slash-escaped a b c more bytes behind e =
    let value : ℕ = 64 * (a - 48) + 8 * (b - 48) + (c - 48) in
    let test : Bool = is_octal a && (is_octal b && (is_octal c && (nat_le value 255 && not (is_plain value)))) in
    let parts = fronts (cond test (Some value) None) (bytes_spelled more) bytes e in
    let same = guarded test value parts.0 parts.2 in
    let first = and_parts (is_octal a) (is_octal b && (is_octal c && (nat_le value 255 && not (is_plain value)))) same.0 in
    let second = and_parts (is_octal b) (is_octal c && (nat_le value 255 && not (is_plain value))) first.1 in
    let third = and_parts (is_octal c) (nat_le value 255 && not (is_plain value)) second.1 in
    let fourth = and_parts (nat_le value 255) (not (is_plain value)) third.1 in
    let no_byte : (parts.0 == 47) ≡ false = ap (λ x. x == 47) (sym same.1) ∙ escaped-slash value fourth.1 in
    let tail = behind parts.1 parts.3 in
    sym (ap (has_byte 47) parts.4) ∙ (λ i. no_byte i || tail i)
    ∙ sym (λ i. octal-slash a first.0 i || (octal-slash b second.0 i || (octal-slash c third.0 i || has_byte 47 more)))

-- what a list of bytes spells has a slash exactly where the list has one
abbrev Agrees : List ℕ → Type 0
Agrees text = (bytes : List ℕ) → bytes_spelled text ≡ Some bytes → has_byte 47 bytes ≡ has_byte 47 text

front : (x : ℕ) (more : List ℕ) → Agrees more → Agrees (92 ∷ more) → Agrees (x ∷ more)
front x more behind escaped =
    elim (cases_eq x 92) [
      | inl same ↦ subst (λ y. Agrees (y ∷ more)) (sym same) escaped
      | inr ne ↦ λ bytes e. slash-plain x more bytes ne behind e
    ]

pub has_slash-unspelled : (text : List ℕ) → Agrees text
has_slash-unspelled [] bytes e = let none : [] ≡ bytes = cc in sym (ap (has_byte 47) none)
has_slash-unspelled (x ∷ []) bytes e = front x [] (has_slash-unspelled []) (λ bs h. cc) bytes e
has_slash-unspelled (x ∷ a ∷ []) bytes e = front x (a ∷ []) (has_slash-unspelled (a ∷ [])) (λ bs h. cc) bytes e
has_slash-unspelled (x ∷ a ∷ b ∷ []) bytes e = front x (a ∷ b ∷ []) (has_slash-unspelled (a ∷ b ∷ [])) (λ bs h. cc) bytes e
has_slash-unspelled (x ∷ a ∷ b ∷ c ∷ more) bytes e =
    front x (a ∷ b ∷ c ∷ more) (has_slash-unspelled (a ∷ b ∷ c ∷ more)) (λ bs h. slash-escaped a b c more bs (has_slash-unspelled more) h)
    bytes e
