-- A text of bytes that stand for themselves in a name is that name, where it is one.
use Rattle.pua_tree.proofs.Common.{◌≡◌, ◌≢◌, ◌==◌, ℕ, ◌<◌, ◌≤◌, ◌||◌, not, false, true, List, [], ◌∷◌, length, refl, sym, ap, ◌∙◌, arith}
use Rattle.pua_tree.proofs.Common.{nat_lt, Ok, Err, cond-true, cond-false, ne_eqb, lt-ltb, le-leb, le-ltb, leb, leb-true, has_byte, IsTrue, list_all}
use Rattle.pua_tree.proofs.Common.{and_parts, and_from, not-true, is_plain, is_name, same_bytes, name_of, name_of_bytes}
use Rattle.pua_tree.specs.Names.{is_name_byte}
use Rattle.pua_tree.specs.Spelling.{is_plain_in_name}
use Rattle.pua_tree.specs.declared.fault.NameFault.TheVariants.{TooLong}
use Rattle.pua_tree.proofs.Spellings.{unspelled_as_it_stands}
use Rattle.pua_tree.proofs.NameFields.{name_of-long}

-- such a byte may stand in a name
plain_byte : (b : ℕ) → IsTrue (is_plain_in_name b) → IsTrue (is_plain b) × IsTrue (is_name_byte b) × ((b == 47) ≡ false)
plain_byte b h =
    let parts = and_parts (is_plain b) (not (b == 47)) h in
    let low = leb-true 33 b (and_parts (leb 33 b) _ parts.0).0 in
    let high = leb-true b 126 (and_parts (leb b 126) _ (and_parts (leb 33 b) _ parts.0).1).0 in (
      parts.0,
      and_from _ _ (lt-ltb 0 b (omega (arith, low))) (and_from _ _ (lt-ltb b 256 (omega (arith, high))) parts.1),
      not-true _ parts.1,
    )

pub plain_bytes : (text : List ℕ) → IsTrue (list_all is_plain_in_name text) →
    IsTrue (list_all is_plain text) × IsTrue (list_all is_name_byte text) × (has_byte 47 text ≡ false)
plain_bytes [] h = (refl, refl, refl)
plain_bytes (b ∷ more) h =
    let parts = and_parts (is_plain_in_name b) (list_all is_plain_in_name more) h in
    let first = plain_byte b parts.0 in
    let rest = plain_bytes more parts.1 in
    (and_from _ _ first.0 rest.0, and_from _ _ first.1 rest.1, (λ i. first.2 i || rest.2 i))

-- it is a name, if it is not too short, too long, one dot or two
pub plain_name : (text : List ℕ) → IsTrue (list_all is_plain_in_name text) → 0 < length text → length text ≤ 255 →
    (same_bytes text (46 ∷ []) || same_bytes text (46 ∷ 46 ∷ [])) ≡ false → IsTrue (is_name text)
plain_name text h some short dots =
    let bytes = plain_bytes text h in
    let one : not (same_bytes text (46 ∷ [])) ≡ true = grind arith in
    let two : not (same_bytes text (46 ∷ 46 ∷ [])) ≡ true = grind arith in
    and_from _ _ (lt-ltb 0 (length text) some) (and_from _ _ (le-leb (length text) 255 short) (and_from _ _ bytes.1 (and_from _ _ one two)))

-- the text of a name spells it
pub name_of-plain : (text : List ℕ) → IsTrue (list_all is_plain_in_name text) → 0 < length text → length text ≤ 255 →
    IsTrue (is_name text) → name_of text ≡ Ok text
name_of-plain text h some short named =
    let bytes = plain_bytes text h in
    let filled : length text ≢ 0 = λ e. omega (arith, some, e) in
    ap name_of_bytes (unspelled_as_it_stands text bytes.0) ∙ cond-false (has_byte 47 text) _ _ bytes.2
    ∙ cond-false (length text == 0) _ _ (ne_eqb (length text) 0 filled) ∙ cond-false (nat_lt 255 (length text)) _ _ (le-ltb 255 (length text)
    short) ∙ cond-true (is_name text) _ _ named

-- a text that is too long
pub name_of-plain-long : (text : List ℕ) → IsTrue (list_all is_plain_in_name text) → 255 < length text → name_of text ≡ Err TooLong
name_of-plain-long text h long =
    let bytes = plain_bytes text h in
    sym (name_of-long text text (unspelled_as_it_stands text bytes.0) bytes.2 long)
