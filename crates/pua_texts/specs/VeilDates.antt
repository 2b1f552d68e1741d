-- Since which lines the veils of a process have their letters.
use Rattle.std.specs.Prelude.{ℕ, List, map, Option}
use Rattle.pua_policy.specs.declared.place.Place.{Place}
use Rattle.pua_why.specs.Since.{since}
use Rattle.pua_why.specs.Texts.{has_veil_on}
use Rattle.pua_texts.specs.WhyLines.{ServedScript}

abbrev pub veil_dates : ServedScript → ℕ → List (Place × ℕ) → List (Option ℕ)
veil_dates p process vs = map (λ veil. since (has_veil_on veil.0 veil.1) p.table p.world 1 p.asks process) vs
