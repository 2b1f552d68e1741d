-- How a name is kept in an array.
use Rattle.pua_tree.proofs.Common.{◌≡◌, ◌≢◌, ◌==◌, ℕ, ◌-◌, ◌<◌, ◌≤◌, true, false, List, length, take, replicate, refl, sym, ap, ◌∙◌, arith}
use Rattle.pua_tree.proofs.Common.{nat_lt, Some, Err, cond-true, cond-false, ne_eqb, lt-ltb, take_at, has_byte, padded_name, name_of}
use Rattle.pua_tree.proofs.Common.{name_of_bytes, bytes_spelled, room_after}
use Rattle.pua_tree.specs.declared.fault.NameFault.TheVariants.{BadSpelling, TooLong}
use Rattle.pua_tree.proofs.Overwriting.{overwritten-zeros}
use Rattle.pua_tree.proofs.Slashes.{has_slash-unspelled}

-- the bytes of a name are the front of its array
pub take-padded : (name : List ℕ) → take (length name) (padded_name name) ≡ name
take-padded name = take_at name (replicate (255 - length name) 0) (length name) refl

-- a room of zeros in which a name was written begins with it
pub take-overwritten-zeros : (bytes : List ℕ) → length bytes ≤ 255 → take (length bytes) (room_after (replicate 255 0) 0 bytes) ≡ bytes
take-overwritten-zeros bytes short = ap (take (length bytes)) (overwritten-zeros bytes short) ∙ take-padded bytes

-- a text that spells bytes with a slash
pub name_of-slash : (text bytes : List ℕ) → bytes_spelled text ≡ Some bytes → has_byte 47 text ≡ true → Err BadSpelling ≡ name_of text
name_of-slash text bytes read slash =
    let also : has_byte 47 bytes ≡ true = has_slash-unspelled text bytes read ∙ slash in
    sym (ap name_of_bytes read ∙ cond-true (has_byte 47 bytes) _ _ also)

-- a text that spells too many bytes
pub name_of-long : (text bytes : List ℕ) → bytes_spelled text ≡ Some bytes → has_byte 47 text ≡ false → 255 < length bytes →
    Err TooLong ≡ name_of text
name_of-long text bytes read no_slash long =
    let none : has_byte 47 bytes ≡ false = has_slash-unspelled text bytes read ∙ no_slash in
    let some : length bytes ≢ 0 = λ e. omega (arith, long, e) in
    sym (ap name_of_bytes read ∙ cond-false (has_byte 47 bytes) _ _ none ∙ cond-false (length bytes == 0) _ _ (ne_eqb (length bytes) 0 some)
    ∙ cond-true (nat_lt 255 (length bytes)) _ _ (lt-ltb 255 (length bytes) long))

-- the bytes that were written over the front of a room of zeros
pub front_written : (bytes room : List ℕ) (len : ℕ) → len ≡ length bytes → length bytes ≤ 255 →
    room ≡ room_after (replicate 255 0) 0 bytes → take len room ≡ bytes
front_written bytes room len same short wrote = (λ i. take (same i) (wrote i)) ∙ take-overwritten-zeros bytes short
