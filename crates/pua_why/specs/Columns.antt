-- What stands beside a line of objects: the promises on which its calls rest, and the veil that covers what it is about.
use Rattle.std.specs.Prelude.{◌≡◌, ℕ, if◌then◌else◌, List, [], ◌∷◌, ◌++◌, map, bit_or, decimal, unwrap_or, codes}
use Rattle.pua_tree.specs.Tree.{Tree, climb}
use Rattle.pua_calls.specs.Calls.{CallTable, rule_of}
use Rattle.pua_policy.specs.States.{ProcessState, perms_kept}
use Rattle.pua_policy.specs.States.{has_veil}
use Rattle.pua_policy.specs.Verdict.{nearest}
use Rattle.pua_calls.specs.declared.call.Call.{Call}
use Rattle.pua_policy.specs.declared.place.Place.TheVariants.{Dir}
use Rattle.pua_policy.specs.declared.answer.Cover.TheVariants.{All}
use Rattle.pua_script.specs.Requests.{Asked}
use Rattle.pua_script.specs.Replay.{World, world_after}
use Rattle.pua_policy.specs.declared.reason.Covering.{Covering}
use Rattle.pua_policy.specs.declared.reason.Covering.TheVariants.{InView, By}
use Rattle.pua_policy.specs.Reasons.{Promising, Holds, promising, first_kept, cover_of}
use Rattle.pua_why.specs.Since.{since}
use Rattle.pua_why.specs.Texts.{promises_text, letters_text, place_text, has_veil_on}

-- the set that lets a call through
abbrev pub let_by : Promising → ℕ
let_by (Holds set) = set
let_by _ = 0

-- the promises on which calls rest: of each call the first set that is held
abbrev pub resting_on : CallTable → ProcessState → List Call → ℕ
resting_on table h [] = 0
resting_on table h (call ∷ calls) = bit_or (let_by (promising h (rule_of table call).alternatives)) (resting_on table h calls)

-- what covers the further names of a directory
abbrev pub covering_in : Tree → ProcessState → ℕ → Covering
covering_in t h dir = if has_veil h.veils then first_kept (perms_kept h) (map Dir (climb t dir)) else InView

-- place, letters and line of a veil; three dashes where none is kept
abbrev pub veil_columns : CallTable → World → List Asked → ℕ → Covering → List ℕ
veil_columns table w asks process (By place given) =
    place_text (world_after table w asks).tree place ++ 32 ∷ letters_text given ++ 32
    ∷ decimal (unwrap_or (since (has_veil_on place given) table w 1 asks process) 0)
veil_columns table w asks process _ = codes "- - -"

-- what stands behind a line with these calls on what is so covered
abbrev pub columns : CallTable → World → List Asked → ℕ → ProcessState → List Call → Covering → List ℕ
columns table w asks process h calls over = 32 ∷ promises_text (resting_on table h calls) ++ 32 ∷ veil_columns table w asks process over

-- the cover of further names is what covers them
abbrev pub CoveringsIn : Type 0
CoveringsIn = (t : Tree) (h : ProcessState) (dir : ℕ) →
    cover_of (covering_in t h dir) ≡ (if has_veil h.veils then nearest (map (λ over. perms_kept h (Dir over)) (climb t dir)) else All)
