use Rattle.pua_texts.proofs.Common.{◌≡◌, ◌∷◌, ◌++◌, [], if◌then◌else◌, string_bytes}
use Rattle.pua_texts.proofs.OpeningLines.{calls_left}
use Rattle.pua_texts.proofs.openings.push_calls.Given as goal

-- the names so far are added, and the others are still to come
abbrev pub invariant-loop-call : goal.invariant-loop-call
invariant-loop-call l = string_bytes l.text ++ calls_left (if l.is_first then [] else 44 ∷ []) l.calls l.call-index
    ≡ string_bytes l.fn.text ++ calls_left [] l.calls 0
