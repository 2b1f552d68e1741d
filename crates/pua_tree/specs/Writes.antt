-- What a write of bytes into a room of a fixed length leaves.
use Rattle.std.specs.Prelude.{ℕ, suc, List, [], ◌∷◌, slice_set}

-- the room with bytes written from a place on, as far as they fit
abbrev pub room_after : List ℕ → ℕ → List ℕ → List ℕ
room_after room at [] = room
room_after room at (b ∷ bytes) = room_after (slice_set room at b) (suc at) bytes
