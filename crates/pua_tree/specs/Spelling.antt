-- How bytes are spelled in the fields of listings, scripts and output, and how lines are split.
use Rattle.std.specs.Prelude.{ℕ, zero, suc, ◌+◌, ◌-◌, ◌*◌, ◌/◌, ◌%◌, Bool, false, not, ◌&&◌, ◌||◌, if◌then◌else◌, List, [], ◌∷◌, length}
use Rattle.std.specs.Prelude.{nat_lt, nat_le, ◌==◌, Option, Some, None, Result, Ok, Err, flat_map, fold}
use Rattle.std.specs.List.{list_all, slice_split}
use Rattle.pua_tree.specs.Limits.{most_name}
use Rattle.pua_tree.specs.Names.{has_byte, is_name}
use Rattle.pua_tree.specs.declared.fault.NameFault.{NameFault}
use Rattle.pua_tree.specs.declared.fault.NameFault.TheVariants.{BadSpelling, Empty, TooLong, NotAName}

-- a byte that stands for itself: visible, and no backslash
abbrev pub is_plain : ℕ → Bool
is_plain b = nat_le 33 b && (nat_le b 126 && not (b == 92))

-- and is no slash, so that it may stand for itself in a name
abbrev pub is_plain_in_name : ℕ → Bool
is_plain_in_name b = is_plain b && not (b == 47)

-- the byte itself, or a backslash and three octal digits
abbrev pub byte_spelling : ℕ → List ℕ
byte_spelling b = if is_plain b then b ∷ [] else 92 ∷ (48 + b / 64) ∷ (48 + b / 8 % 8) ∷ (48 + b % 8) ∷ []

-- the one spelling of bytes; a name is spelled as a path without a slash
abbrev pub spelling : List ℕ → List ℕ
spelling bytes = flat_map byte_spelling bytes

abbrev pub is_octal : ℕ → Bool
is_octal b = nat_le 48 b && nat_le b 55

-- the byte of three octal digits, where it is no byte that stands for itself
abbrev pub escaped_byte : List ℕ → Option ℕ
escaped_byte (a ∷ b ∷ c ∷ more) =
    let value : ℕ = 64 * (a - 48) + 8 * (b - 48) + (c - 48) in
    if is_octal a && (is_octal b && (is_octal c && (nat_le value 255 && not (is_plain value)))) then Some value else None
escaped_byte _ = None

-- the byte that the front of a spelling stands for
abbrev pub front_byte : ℕ → List ℕ → Option ℕ
front_byte b more = if b == 92 then escaped_byte more else (if is_plain b then Some b else None)

abbrev pub with_front : Option ℕ → Option (List ℕ) → Option (List ℕ)
with_front (Some b) (Some bytes) = Some (b ∷ bytes)
with_front (Some b) None = None
with_front None bytes = None

-- the bytes that a text spells, where it is a spelling; the first number counts digits that were read with their backslash
abbrev pub unspelled_from : ℕ → List ℕ → Option (List ℕ)
unspelled_from skipped [] = Some []
unspelled_from zero (b ∷ more) = with_front (front_byte b more) (unspelled_from (if b == 92 then 3 else 0) more)
unspelled_from (suc skipped) (b ∷ more) = unspelled_from skipped more

abbrev pub bytes_spelled : List ℕ → Option (List ℕ)
bytes_spelled text = unspelled_from 0 text

-- the name that a text spells, or the first fault
abbrev pub name_of_bytes : Option (List ℕ) → Result (List ℕ) NameFault
name_of_bytes None = Err BadSpelling
name_of_bytes (Some n) =
    if has_byte 47 n then Err BadSpelling
    else (if length n == 0 then Err Empty
    else (if nat_lt most_name (length n) then Err TooLong
    else (if is_name n then Ok n else Err NotAName)))

abbrev pub name_of : List ℕ → Result (List ℕ) NameFault
name_of text = name_of_bytes (bytes_spelled text)

-- the fields of a line: what stands between single spaces
abbrev pub fields : List ℕ → List (List ℕ)
fields line = slice_split (λ b. b == 32) line

-- a field has a byte, and visible bytes alone
abbrev pub is_field : List ℕ → Bool
is_field field = nat_lt 0 (length field) && list_all (λ b. nat_le 33 b && nat_le b 126) field

abbrev pub is_digit : ℕ → Bool
is_digit b = nat_le 48 b && nat_le b 57

-- digits without a leading zero
abbrev pub is_decimal : List ℕ → Bool
is_decimal [] = false
is_decimal (b ∷ more) = list_all is_digit (b ∷ more) && (not (b == 48) || length more == 0)

-- the number that digits write
abbrev pub decimal_value : List ℕ → ℕ
decimal_value digits = fold (λ n b. 10 * n + (b - 48)) 0 digits

-- the number of a decimal, if it lies within the bounds
abbrev pub number_within : ℕ → ℕ → List ℕ → Option ℕ
number_within low high text =
    if is_decimal text && (nat_le low (decimal_value text) && nat_le (decimal_value text) high) then Some (decimal_value text) else None
