-- The live states, by the reach alone: where words lead from which words of the reach go on.
use Rattle.std.specs.Prelude.{◌≡◌, ℕ, ◌-◌, ◌==◌, ◌&&◌, Bool, List, [], ◌∷◌, map, length, Option, Some, option_map, flat_map, filter_map}
use Rattle.std.specs.Prelude.{Contains}
use Rattle.std.specs.Result.{result_ok}
use Rattle.std.specs.Set.{unique_keys}
use Rattle.pua_path.specs.Paths.{part_of}
use Rattle.pua_path.specs.Laws.{steps}
use Rattle.pua_audit.specs.Reach.{Word, Pair, Scope, reach}
use Rattle.pua_audit.specs.Judge.{base_dir, seen_by}

-- a directory, the links followed on the way to it, and how many letters may still come
pub record Stage : Type 0 where
  pub dir : ℕ
  pub links : ℕ
  pub left : ℕ

-- where a word leads from the base, one step after another, if each step leads to a directory
abbrev pub stage_after : Scope → Word → Option Stage
stage_after s word =
    option_map (λ (at : ℕ × ℕ). record { dir = at.0; links = at.1; left = s.limit - length word })
    (result_ok (steps (seen_by s.tree s.process) (map part_of word) (base_dir s.base s.process, 0)))

-- the words that a word properly extends
abbrev pub shorter : Word → List Word
shorter [] = []
shorter (letter ∷ word) = [] ∷ map (λ front. letter ∷ front) (shorter word)

-- a state is live if a word leads to it which the word of some pair of the reach properly extends
abbrev pub IsLive : Scope → Stage → Type 0
IsLive s stage = (pair : Pair) × (word : Word) × Contains (reach s) pair × Contains (shorter pair.0) word ×
    (stage_after s word ≡ Some stage)

-- the states on the way to the pairs of the reach, one for each pair and each word that its word properly extends
abbrev pub passed_states : Scope → List Stage
passed_states s = filter_map (stage_after s) (flat_map (λ (p : Pair). shorter p.0) (reach s))

-- the same directory, links and letters
abbrev pub same_stage : Stage → Stage → Bool
same_stage a b = (a.dir == b.dir) && ((a.links == b.links) && (a.left == b.left))

-- the live states, each once
abbrev pub live_states : Scope → List Stage
live_states s = unique_keys same_stage (passed_states s)
