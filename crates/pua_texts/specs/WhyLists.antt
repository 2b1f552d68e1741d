-- The columns of veils that the code has made, as the definitions see them.
use Rattle.std.specs.Prelude.{◌≡◌, ℕ, List, [], ◌∷◌, ◌++◌, map, codes, decimal, unwrap_or, Option}
use Rattle.pua_tree.specs.Tree.{Tree}
use Rattle.pua_policy.specs.declared.place.Place.{Place}
use Rattle.pua_policy.specs.declared.reason.Covering.{Covering}
use Rattle.pua_why.specs.Columns.{veil_columns}
use Rattle.pua_why.specs.Since.{since}
use Rattle.pua_why.specs.Texts.{has_veil_on, letters_text, place_text}
use Rattle.pua_texts.specs.EndingsState.{EndingsState}
use Rattle.pua_texts.specs.WhyLines.{ServedScript, world_left}

-- a blank, the columns of a veil that was put so and since this line, and LF
abbrev pub veil_behind : Tree → Place → ℕ → Option ℕ → List ℕ
veil_behind t place given line = 32 ∷ place_text t place ++ 32 ∷ letters_text given ++ 32 ∷ decimal (unwrap_or line 0) ++ 10 ∷ []

-- the columns of a veil that a process keeps at the end of a script
abbrev pub veil_kept : ServedScript → ℕ → (Place × ℕ) → List ℕ
veil_kept p process veil =
    veil_behind (world_left p).tree veil.0 veil.1 (since (has_veil_on veil.0 veil.1) p.table p.world 1 p.asks process)

abbrev pub veils_behind : ServedScript → ℕ → List (Place × ℕ) → List (List ℕ)
veils_behind p process vs = map (veil_kept p process) vs

-- the columns of what covers an object, and LF
abbrev pub covering_behind : ServedScript → ℕ → Covering → List ℕ
covering_behind p process over = 32 ∷ veil_columns p.table p.world p.asks process over ++ 10 ∷ []

-- columns are those of these veils of a process with this number
pub record AreColumnsOf (p : ServedScript) (process : ℕ) (vs : List (Place × ℕ)) (columns : EndingsState) : Type 0 where
  pub veils : columns.veils ≡ veils_behind p process vs
  pub unveiled : columns.unveiled ≡ codes " - - -" ++ 10 ∷ []
