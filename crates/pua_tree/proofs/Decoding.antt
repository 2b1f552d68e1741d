-- Decoding a spelling byte by byte into a room.
use Rattle.pua_tree.proofs.Common.{ℕ, ◌+◌, List, length, Option, Some, None, bytes_spelled, room_after}

-- how many bytes there are and the room with them, where some were written before
abbrev pub added : List ℕ → ℕ → Option (List ℕ) → Option (ℕ × List ℕ)
added room len None = None
added room len (Some bytes) = Some (len + length bytes, room_after room len bytes)

-- what becomes of a room in which some bytes were written, and the rest of the text is still to be read
abbrev pub continued : List ℕ → List ℕ → ℕ → Option (ℕ × List ℕ)
continued rest room len = added room len (bytes_spelled rest)
