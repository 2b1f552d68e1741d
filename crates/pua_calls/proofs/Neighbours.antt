-- The rows of neighbours as they are kept, and those of the definition.
use Rattle.pua_calls.proofs.Common.{◌≡◌, ◌∙◌, ap, refl, sym, map, same_bytes, List, ℕ, Option, Some, None}
use Rattle.std.proofs.Common.{option_map}
use Rattle.std.specs.Prelude.{find}
use Rattle.pua_tree.proofs.ForCallers.{find-map}
use Rattle.pua_calls.specs.Calls.{neighbours}
use Rattle.pua_calls.specs.Neighbours.{neighbour_of}
use Rattle.pua_calls.specs.declared.call.Call.{Call}

-- what is found among rows that are seen as the definition's is the row that this has
pub neighbour_seen : {A : Type 0} (seen : A → List ℕ × Call) (rows : List A) (word : List ℕ) → map seen rows ≡ neighbours →
    neighbour_of word ≡ option_map (λ row. (seen row).1) (find (λ row. same_bytes (seen row).0 word) rows)
neighbour_seen {A = A} seen rows word is =
    ap (λ all. option_map (λ row. row.1) (find (λ row. same_bytes row.0 word) all)) (sym is)
    ∙ ap (option_map (λ row. row.1)) (find-map seen (λ row. same_bytes row.0 word) rows)
    ∙ twice (find (λ row. same_bytes (seen row).0 word) rows)
  where
    twice : (o : Option A) → option_map (λ row. row.1) (option_map seen o) ≡ option_map (λ row. (seen row).1) o
    twice None = refl
    twice (Some row) = refl
