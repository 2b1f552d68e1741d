-- How a line is written, piece by piece.
use Rattle.std.proofs.Common.{ℕ, ◌+◌, ◌<◌, ◌≡◌, List, Option, Result, drop, get_or, length, subst, sym}
use Rattle.std.proofs.lemmas.List.{drop_more}
use Rattle.pua_io.specs.Sinks.{Adds, Writes}
use Rattle.pua_io.specs.declared.sink.PutFault.{PutFault}
use Rattle.pua_io.proofs.ForCallers.{writes_then}
use Rattle.pua_tool.specs.Pieces.{line_of, piece_text}
use Rattle.pua_tool.specs.declared.line.Piece.{Piece}

-- whoever writes the rest of a text behind these bytes has written the whole
abbrev pub Leads : (rest whole : List ℕ) (a b : Option (List ℕ)) (before between : ℕ) → Type 0
Leads rest whole a b before between =
    (r : Result (Unit {0}) PutFault) (c : Option (List ℕ)) (after : ℕ) → Writes rest r b c between after → Writes whole r a c before after

-- so it is behind a further piece
pub leads_on : (pieces : List Piece) (i : ℕ) (d : Piece) (whole : List ℕ) (a b b' : Option (List ℕ)) (before between between' : ℕ)
    → i < length pieces → Leads (line_of (drop i pieces)) whole a b before between
    → Adds (piece_text (get_or pieces i d)) b b' → between' ≡ between
    → Leads (line_of (drop (i + 1) pieces)) whole a b' before between'
leads_on pieces i d whole a b b' before between between' within leads adds same r c after more =
    leads r c after (subst (λ (left : List Piece). Writes (line_of left) r b c between after) (sym (drop_more pieces i d within))
    (writes_then (piece_text (get_or pieces i d)) (line_of (drop (i + 1) pieces)) r b b' c between between' after adds same more))
