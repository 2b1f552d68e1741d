use Rattle.pua_tree.proofs.Common.{◌≡◌, ℕ, List, length, Option, Some, None, sym, ap, ◌∙◌, arith, take_at, bytes_spelled, room_after}
use Rattle.std.proofs.Common.{MatchOption}
use Rattle.pua_tree.proofs.Overwriting.{overwritten_whole}
use Rattle.pua_tree.proofs.spelling.unspelled.Goals as goal

-- a room of the length that a first reading answered is left with just the bytes
whole : (text room left : List ℕ) (len : ℕ) (again : Option ℕ)
    → (bytes : List ℕ) × (bytes_spelled text ≡ Some bytes) × (len ≡ length bytes)
    → MatchOption again (bytes_spelled text ≡ None) (λ n. (bytes : List ℕ) × (bytes_spelled text ≡ Some bytes) × (n ≡ length bytes) ×
    (left ≡ room_after room 0 bytes))
    → length room ≡ len → bytes_spelled text ≡ Some left
whole text room left len None first second fits = cc
whole text room left len (Some n) first second fits =
    let same : first.0 ≡ second.0 = cc in
    second.1 ∙ ap Some (sym (second.3 ∙ overwritten_whole room second.0 (fits ∙ first.2 ∙ ap length same)))

pub returns : goal.returns
returns c =
    let first = c.in-Some.ensures in
    let room : List ℕ = c.as_mut_slice.result.now in
    let made = c.in_ok-bytes.ensures in
    let fits : length room ≡ c.in-Some.len = omega (arith, made.len, c.as_mut_slice.ensures.len) in
    let filled = whole c.args.text.now room c.unspell_into-2.new.room c.in-Some.len c.unspell_into-2.result (
      first.0,
      first.1,
      first.2,
    ) c.unspell_into-2.ensures fits in
    let full : length c.unspell_into-2.new.room ≡ c.in_ok-bytes.bytes.len =
    omega (arith, c.unspell_into-2.auto.room, c.as_mut_slice.ensures.len) in
    ap Some (take_at c.unspell_into-2.new.room _ c.in_ok-bytes.bytes.len full) ∙ sym filled
