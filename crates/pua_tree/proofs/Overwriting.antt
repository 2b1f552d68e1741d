-- What a write of bytes into a room of a fixed length leaves.
use Rattle.pua_tree.proofs.Common.{◌≡◌, ℕ, suc, ◌≤◌, List, [], ◌∷◌, ◌++◌, length, take, drop, replicate, refl, sym, ap, ◌∙◌, arith}
use Rattle.pua_tree.proofs.Common.{length-append, take_all, padded_name, room_after}
use Rattle.std.proofs.Common.{set}
use Rattle.std.proofs.lemmas.List.{set_past, set_at, append_assoc, append-nil, length_push, drop_all}
use Rattle.std.proofs.lemmas.List.{drop-replicate, length-replicate}

-- past the room nothing is written
overwritten-past : (room : List ℕ) (at : ℕ) (bytes : List ℕ) → length room ≤ at → room_after room at bytes ≡ room
overwritten-past room at [] h = refl
overwritten-past room at (b ∷ bytes) h =
    ap (λ r. room_after r (suc at) bytes) (set_past room at b h) ∙ overwritten-past room (suc at) bytes (omega arith)

-- the bytes stand after what was there before, as far as there is room
overwritten-append : (front tail bytes : List ℕ) →
    room_after (front ++ tail) (length front) bytes ≡ front ++ (take (length tail) bytes ++ drop (length bytes) tail)
overwritten-append front [] bytes =
    let none : List ℕ = [] in
    overwritten-past (front ++ []) (length front) bytes (omega (arith, length-append front none)) ∙
    ap (λ ys. front ++ ys) (sym (drop_all (length bytes) none (omega arith)))
overwritten-append front (y ∷ tail) [] = refl
overwritten-append front (y ∷ tail) (b ∷ bytes) =
    let write : set (front ++ y ∷ tail) (length front) b ≡ (front ++ b ∷ []) ++ tail = set_at front y tail b (length front) refl ∙
    sym (append_assoc front (b ∷ []) tail) in
    let place : suc (length front) ≡ length (front ++ b ∷ []) = omega (arith, length_push front b) in
    (λ i. room_after (write i) (place i) bytes) ∙ overwritten-append (front ++ b ∷ []) tail bytes ∙
    append_assoc front (b ∷ []) (take (length tail) bytes ++ drop (length bytes) tail)

-- a room that the bytes fill is the bytes
pub overwritten_whole : (room bytes : List ℕ) → length room ≡ length bytes → room_after room 0 bytes ≡ bytes
overwritten_whole room bytes same =
    overwritten-append [] room bytes ∙ ap (λ xs. xs ++ drop (length bytes) room) (take_all (length room) bytes (omega arith))
    ∙ ap (λ ys. bytes ++ ys) (drop_all (length bytes) room (omega arith)) ∙ append-nil bytes

-- zeros stay after the bytes of a name
pub overwritten-zeros : (bytes : List ℕ) → length bytes ≤ 255 → room_after (replicate 255 0) 0 bytes ≡ padded_name bytes
overwritten-zeros bytes short =
    let zeros : List ℕ = replicate 255 0 in
    let many : length zeros ≡ 255 = length-replicate {A = ℕ} 255 0 in
    overwritten-append [] zeros bytes ∙ ap (λ xs. xs ++ drop (length bytes) zeros) (take_all (length zeros) bytes (omega arith))
    ∙ ap (λ ys. bytes ++ ys) (drop-replicate (length bytes) 255 0)
